use Rattle.std.proofs.Common.{◌≡◌, ℕ, List, length, drop, arith, take, subst, sym, ◌∙◌}
use Rattle.std.proofs.lemmas.List.{take_at, take-append-drop}
use Rattle.base64.specs.GeneralPurpose.{IsBytes}
use Rattle.base64.proofs.EngineFacts.{front_bytes}
use Rattle.rusty_paseto_parts.proofs.section.read_base64url.Goals as goal

pub returns : goal.returns
returns c =
    let now : List ℕ = c.read_into.new.bytes in
    let len : length now ≡ c.in_ok-bytes.bytes.len = omega arith in
    let whole = take_at now (drop (length now) c.in_ok-bytes.bytes.items) c.in_ok-bytes.bytes.len len in
    let bytes : IsBytes (take c.in-Some.len now) = front_bytes (take c.in-Some.len now) (drop c.in-Some.len now) (subst IsBytes (sym (take-append-drop c.in-Some.len now)) c.read_into.ensures.bytes) in
    rw (c.truncate.ensures.items, whole) (sym c.as_bytes.ensures.value ∙ c.in-Some.ensures.spelled, bytes)
