use Rattle.rusty_paseto_core.specs.Local.BoxForgery.{IsFreshBox, box_case}
use Rattle.rusty_paseto_core.proofs.Issued.{AreFresh}
use Rattle.rusty_paseto_core.proofs.local.box_forgery.find_forgery.Given as goal

-- no token so far is this sealing with this data under this key
abbrev pub invariant-each : goal.invariant-each
invariant-each g l =
    AreFresh box_case l.issued (IsFreshBox g.B.SealedBox.sealing l.token.key.now l.found.encoding l.found.sealing.items) l.one-index
