use Rattle.std.proofs.Common.{List, ℕ, [], length}
use Rattle.rusty_paseto_primitives.specs.Hmac.{Holds}
use Rattle.rusty_paseto_primitives.specs.Pbkdf2.{block}
use Rattle.rusty_paseto_primitives.proofs.JoinedBlocks.{IsFilled}
use Rattle.rusty_paseto_primitives.proofs.pbkdf2.fill.Given as goal

abbrev pub invariant-fill : goal.invariant-fill
invariant-fill l = (password : List ℕ) → Holds l.keyed password []
    → IsFilled (block password l.salt l.iterations) (length l.fn.key) l.key l.i
