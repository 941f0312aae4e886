use Rattle.std.proofs.Common.{refl, sym, ◌∙◌}
use Rattle.rusty_paseto_parts.specs.Section.{IsNoBase64url, base64url}
use Rattle.rusty_paseto_parts.proofs.SectionLemmas.{base64url-injective}
use Rattle.rusty_paseto_parts.proofs.section.from_section.Goals as goal

pub returns-in-Some-clause-read : goal.returns-in-Some-clause-read
returns-in-Some-clause-read c = λ bytes is same.
    let read = rw c.in-Some.is at c.in_ok-bytes.ensures in
    base64url-injective c.in-Some.bytes.items bytes read.1 is (sym read.0 ∙ same)

pub returns-in-Ok-clause-ok : goal.returns-in-Ok-clause-ok
unfolding base64url
returns-in-Ok-clause-ok c = sym c.as_bytes.ensures.value ∙ c.in-Ok.ensures.exact (refl, refl)

pub returns-in-Ok-clause-read : goal.returns-in-Ok-clause-read
returns-in-Ok-clause-read c = λ bytes is same.
    base64url-injective c.in-Ok.bytes.items bytes c.in-Ok.ensures.bytes is (sym (returns-in-Ok-clause-ok c) ∙ same)

pub returns-in-Ok-clause-none : goal.returns-in-Ok-clause-none
returns-in-Ok-clause-none c = λ none. absurd (none c.in-Ok.bytes.items c.in-Ok.ensures.bytes (returns-in-Ok-clause-ok c))

pub returns-in-Err-DecodeError-clause-err : goal.returns-in-Err-DecodeError-clause-err
unfolding base64url
returns-in-Err-DecodeError-clause-err c =
    let refused = rw c.in-Err-DecodeError.field-0-is at c.in-Err-DecodeError.ensures.err in
    let none : IsNoBase64url c.args.text.now = λ bytes is same.
    let decoded = (c.decode.ensures.strict (refl, refl) bytes is).1 (c.as_bytes.ensures.value ∙ same) in
    let both = sym decoded ∙ refused in
    cc both in
    (none, rw c.as_bytes.ensures.value at refused)

pub returns-in-Err-DecodeError-clause-read : goal.returns-in-Err-DecodeError-clause-read
returns-in-Err-DecodeError-clause-read c = (returns-in-Err-DecodeError-clause-err c).0
