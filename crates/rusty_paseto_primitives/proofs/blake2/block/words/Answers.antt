use Rattle.rusty_paseto_primitives.specs.Blake2.Block.{words}
use Rattle.rusty_paseto_primitives.proofs.blake2.block.words.Goals as goal

pub returns : goal.returns
unfolding words
returns c =
    rw (
      ← c.word_at.ensures,
      ← c.word_at-2.ensures,
      ← c.word_at-3.ensures,
      ← c.word_at-4.ensures,
      ← c.word_at-5.ensures,
      ← c.word_at-6.ensures,
      ← c.word_at-7.ensures,
      ← c.word_at-8.ensures,
      ← c.word_at-9.ensures,
      ← c.word_at-10.ensures,
      ← c.word_at-11.ensures,
      ← c.word_at-12.ensures,
      ← c.word_at-13.ensures,
      ← c.word_at-14.ensures,
      ← c.word_at-15.ensures,
      ← c.word_at-16.ensures,
    )
