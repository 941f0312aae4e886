use Rattle.std.proofs.Common.{◌≡◌, ◌-◌, ◌*◌, take}
use Rattle.paseto_argon2.specs.VariableHash.{fronts, linked}
use Rattle.paseto_argon2.proofs.variable_hash.long_output.Given as goal

abbrev pub invariant-fronts : goal.invariant-fronts
invariant-fronts l = (l.link ≡ linked l.fn.first (l.k - 1)) × (take (32 * l.k) l.output ≡ fronts l.fn.first l.k)
