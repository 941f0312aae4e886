use Rattle.std.proofs.Common.{◌≡◌, ap, ℕ, Vec, Global}
use Rattle.std.specs.String.{string_bytes}
use Rattle.std.proofs.lemmas.Str.{IsUtf8-string_bytes}
use Rattle.rusty_paseto_parts.proofs.untrusted_token.UntrustedToken.footer_str.Goals as goal

pub returns-in-Ok-clause-ok : goal.returns-in-Ok-clause-ok
returns-in-Ok-clause-ok c =
    let same : string_bytes c.in-Ok.text ≡ c.in-Some.bytes.items = ap (λ (v : Vec ℕ Global). v.items) c.in-Ok.ensures.ok in
    (rw same (rw c.in-Some.is at c.in_ok-bytes.ensures.ok), IsUtf8-string_bytes c.in-Ok.text)
