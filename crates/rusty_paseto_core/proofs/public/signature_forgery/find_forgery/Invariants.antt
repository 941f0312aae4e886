use Rattle.rusty_paseto_core.specs.Public.SignatureForgery.{IsFreshlySigned, signed_case}
use Rattle.rusty_paseto_core.proofs.Issued.{AreFresh}
use Rattle.rusty_paseto_core.proofs.public.signature_forgery.find_forgery.Given as goal

-- none of the tokens so far has this message and this signature
abbrev pub invariant-each : goal.invariant-each
invariant-each g l =
    AreFresh (signed_case g.V.PublicSuite.public_design l.key) l.issued
    (IsFreshlySigned g.V.Verifies.valid g.V.Verifies.refused g.V.PublicSuite.public_design l.own.message l.own.signature.items) l.one-index
