use Rattle.std.proofs.Common.{◌≡◌, ◌*◌, take}
use Rattle.rusty_paseto_parts.specs.Section.{base64url}
use Rattle.rusty_paseto_parts.proofs.sixteen.read_sixteens.Given as goal

abbrev pub invariant-sixteens : goal.invariant-sixteens
invariant-sixteens l = base64url (take (12 * l.n) l.bytes) ≡ take (16 * l.n) l.text
