use Rattle.std.proofs.Common.{◌≡◌, ◌∙◌, ℕ, Vec, Global, ap}
use Rattle.std.proofs.lemmas.Str.{IsUtf8-string_bytes}
use Rattle.std.specs.String.{string_bytes}
use Rattle.rusty_paseto_core.specs.Context.{bound}
use Rattle.rusty_paseto_core.proofs.Verified.{holds_signed}
use Rattle.rusty_paseto_core.proofs.public.verifying.verify_payload.Goals as goal

pub returns-in-Ok-clause-holds : goal.returns-in-Ok-clause-holds
returns-in-Ok-clause-holds g c =
    let signed = rw c.deref.ensures.value at c.in_ok-check_signature.ensures.ok in
    let len = rw c.deref.ensures.value at c.deref.ensures.len in
    let text : string_bytes c.in-Ok.text ≡ c.truncate.new.self.items = ap (λ (v : Vec ℕ Global). v.items) c.in-Ok.ensures.ok in
    let kept = text ∙ rw (c.len.ensures, ← len) at c.truncate.ensures.items in
    holds_signed g.S.SignatureScheme.valid g.V.PublicSuite.public_design (bound c.args.public.now c.args.context.now) c.args.payload.items _ _ signed.0 signed.1 c.requires kept
    (IsUtf8-string_bytes c.in-Ok.text)
