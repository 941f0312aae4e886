use Rattle.std.proofs.Common.{◌≡◌, ℕ, Vec, Global, ap, arith}
use Rattle.std.proofs.lemmas.Str.{IsUtf8-string_bytes}
use Rattle.std.specs.String.{string_bytes}
use Rattle.rusty_paseto_core.proofs.local.boxed.open_payload.Goals as goal

pub returns-in-Ok-clause-holds : goal.returns-in-Ok-clause-holds
returns-in-Ok-clause-holds g c =
    let text : string_bytes c.in-Ok.text ≡ c.in-Some.message.items = ap (λ (v : Vec ℕ Global). v.items) c.in-Ok.ensures.ok in
    record { room = omega arith; is_box = rw text (rw c.in-Some.is at c.in_ok-message.ensures.ok); utf8 = IsUtf8-string_bytes c.in-Ok.text }
