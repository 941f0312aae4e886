use Rattle.std.proofs.Common.{◌≡◌, ◌-◌, ℕ, List, []}
use Rattle.rusty_paseto_primitives.specs.Hmac.{Holds}
use Rattle.rusty_paseto_primitives.specs.Pbkdf2.{mixed, output}
use Rattle.rusty_paseto_primitives.proofs.pbkdf2.block.Given as goal

abbrev pub invariant-iterations : goal.invariant-iterations
invariant-iterations l = (password : List ℕ) → Holds l.keyed password []
    → (l.output ≡ output password l.salt l.number (l._done - 1)) × (l.key ≡ mixed password l.salt l.number (l._done - 1))
