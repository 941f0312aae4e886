use Rattle.std.proofs.Common.{rules, [], Bor, List, ℕ, inr}
use Rattle.rusty_paseto_core.proofs.Unframed.{if_err, split_fault, split_header, three_texts}
use Rattle.rusty_paseto_core.proofs.reading.unframe.Goals as goal

pub returns-then-not-is_header-clause-fault : goal.returns-then-not-is_header-clause-fault
returns-then-not-is_header-clause-fault g c =
    let parts = c.in-Some.parts in
    let nothing : Bor (List ℕ) = record { ref_ptr = (0, 0); now = [] } in
    let split = rw (three_texts parts.0 nothing c.in-Some.ensures.three) at c.in-Some.ensures.parts in
    inr (split_header _ _ c.args.footer.now c.args.token.now _ _ _ parts.1 split (c.is_expected.ensures.0 c.if-not-is_expected.false) c.is_header.result c.is_header.ensures c.if-not-is_header.true)

pub returns-clause-fault : goal.returns-clause-fault
returns-clause-fault g c =
    let parts = c.in-Some.parts in
    let nothing : Bor (List ℕ) = record { ref_ptr = (0, 0); now = [] } in
    let split = rw (three_texts parts.0 nothing c.in-Some.ensures.three) at c.in-Some.ensures.parts in
    let header = c.is_header.ensures.0 c.if-not-is_header.false in
    if_err c.from_section.result _ _
    (λ error fault. split_fault _ _ c.args.footer.now c.args.token.now _ _ _ parts.1 split (c.is_expected.ensures.0 c.if-not-is_expected.false) error header fault)
    c.from_section.ensures.err

pub returns-in_default-clause-fault : goal.returns-in_default-clause-fault
returns-in_default-clause-fault g c = search rules

pub returns-in_default-clause-count : goal.returns-in_default-clause-count
returns-in_default-clause-count g c = search rules
