use Rattle.rusty_paseto_core.specs.Local.Forgery.{IsFresh}
use Rattle.rusty_paseto_core.specs.Local.TagCollision.{case_of}
use Rattle.rusty_paseto_core.proofs.Issued.{AreFresh}
use Rattle.rusty_paseto_core.proofs.local.forgery.find_forgery.Given as goal

-- no token so far has a tag of this message under this key
abbrev pub invariant-each : goal.invariant-each
invariant-each g l = AreFresh case_of l.issued (IsFresh g.V.LocalSuite.design l.token.key.now l.found.message) l.one-index
