use Rattle.std.proofs.Common.{refl, arith}
use Rattle.paseto_wrapping.specs.Password.{payload}
use Rattle.paseto_wrapping.proofs.password.protect_drawn.Goals as goal

pub returns-clause-ok : goal.returns-clause-ok
unfolding payload
returns-clause-ok c = (
  omega arith,
  (rw c.of.ensures at c.is_allowed.ensures).0 c.if-not-is_allowed.false,
  rw (c.in_ok-write_text.ensures.ok, c.deref.ensures.value, c.in_ok-payload.ensures.ok, c.in_ok-password_key.ensures.ok, c.of-2.ensures) refl,
)
