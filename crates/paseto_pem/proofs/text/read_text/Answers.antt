use Rattle.std.proofs.Common.{ap, sym, subst, ◌∙◌, List, ℕ, Global, Ok, Vec}
use Rattle.std.specs.Prelude.{All}
use Rattle.paseto_pem.specs.declared.label.Label.{Label}
use Rattle.paseto_pem.specs.Key.{ReadsText}
use Rattle.paseto_pem.specs.Text.{FirstBlock, IsPassed, texts}
use Rattle.paseto_pem.proofs.BlockLaws.{no-text, other-body, other-label, other-text, read-text}
use Rattle.paseto_pem.proofs.text.read_text.Goals as goal

pub returns-in_default : goal.returns-in_default
returns-in_default c =
    let lines = ap texts c.deref.ensures.value ∙ c.in_ok-lines.ensures in
    no-text c.args.text.now (subst (All IsPassed) lines c.in_default.ensures)

pub returns-in_default-label_of : goal.returns-in_default-label_of
returns-in_default-label_of c =
    let lines = ap texts c.deref.ensures.value ∙ c.in_ok-lines.ensures in
    let first = c.in-Some.first.now in
    let behind = texts c.in-Some.behind.now in
    let f = subst (λ (l : List (List ℕ)). FirstBlock l first behind) lines c.in-Some.ensures in
    other-text c.args.text.now first behind f c.refusal.result
    (other-label c.args.text.now first behind f c.in_default-label_of.ensures) c.refusal.ensures

pub returns-in-Some-2 : goal.returns-in-Some-2
returns-in-Some-2 c =
    let lines = ap texts c.deref.ensures.value ∙ c.in_ok-lines.ensures in
    let first = c.in-Some.first.now in
    let behind = texts c.in-Some.behind.now in
    let f = subst (λ (l : List (List ℕ)). FirstBlock l first behind) lines c.in-Some.ensures in
    let reads = read-text c.args.text.now first behind f c.in-Some-label_of.label c.in-Some-label_of.ensures c.in-Some-2.contents
    c.labelled.ensures.bytes (rw c.in-Some-2.is at c.in_ok-contents.ensures) in
    subst (λ (found : Label × Vec ℕ Global). ReadsText c.args.text.now (Ok found)) (sym c.labelled.ensures.same) reads

pub returns : goal.returns
returns c =
    let lines = ap texts c.deref.ensures.value ∙ c.in_ok-lines.ensures in
    let first = c.in-Some.first.now in
    let behind = texts c.in-Some.behind.now in
    let f = subst (λ (l : List (List ℕ)). FirstBlock l first behind) lines c.in-Some.ensures in
    other-text c.args.text.now first behind f c.refusal-in-None.result
    (other-body c.args.text.now first behind f c.in-Some-label_of.label c.in-Some-label_of.ensures (rw c.in-None.is at c.in_ok-contents.ensures))
    c.refusal-in-None.ensures
