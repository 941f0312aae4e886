use Rattle.std.proofs.Common.{refl}
use Rattle.rusty_paseto_primitives.specs.Blake2.Block.{words}
use Rattle.rusty_paseto_primitives.proofs.blake2.rows.pairs_of.Goals as goal

pub returns : goal.returns
unfolding words
returns c =
    rw (
      c.pair_at.ensures,
      c.pair_at-2.ensures,
      c.pair_at-3.ensures,
      c.pair_at-4.ensures,
      c.pair_at-5.ensures,
      c.pair_at-6.ensures,
      c.pair_at-7.ensures,
      c.pair_at-8.ensures,
    ) refl
