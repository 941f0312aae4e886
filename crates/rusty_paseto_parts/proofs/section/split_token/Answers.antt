use Rattle.std.proofs.Common.{◌≡◌, ◌+◌, ◌<◌, length, arith}
use Rattle.rusty_paseto_parts.specs.Section.{sections}
use Rattle.rusty_paseto_parts.proofs.SectionLemmas.{more_sections, some_section}
use Rattle.rusty_paseto_parts.proofs.section.split_token.Goals as goal

pub returns-in-Some-rest-clause-found : goal.returns-in-Some-rest-clause-found
returns-in-Some-rest-clause-found c =
    let one : length (sections c.args.token.now) ≡ length (sections c.in_ok-rest.field-0.now) + 1 = more_sections _ _ _ _ c.first_section.ensures c.in_ok-rest.was in
    let two : length (sections c.in_ok-rest.field-0.now) ≡ length (sections c.in_ok-rest-2.field-0.now) + 1 = more_sections _ _ _ _ c.first_section-2.ensures c.in_ok-rest-2.was in
    let three : length (sections c.in_ok-rest-2.field-0.now) ≡ length (sections c.in-Some.rest.now) + 1 = more_sections _ _ _ _ c.first_section-3.ensures c.in-Some.is in
    let four : length (sections c.in-Some.rest.now) ≡ length (sections c.in-Some-rest.field-0.now) + 1 = more_sections _ _ _ _ c.first_section-4.ensures c.in-Some-rest.is in
    let five : 0 < length (sections c.in-Some-rest.field-0.now) = some_section c.in-Some-rest.field-0.now in
    (λ h. cc h, λ h. absurd (omega (arith, h.1)))
