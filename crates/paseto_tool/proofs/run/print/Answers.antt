use Rattle.std.proofs.Common.{◌≡◌, ◌∙◌, refl, string_bytes, inl, inr, ap, sym, is_ok}
use Rattle.std.proofs.lemmas.Bool.{false≢true}
use Rattle.paseto_tool.proofs.Refusals.{Writes-made, PrintsNothing-made}
use Rattle.paseto_tool.proofs.run.print.Goals as goal

pub returns-clause-written : goal.returns-clause-written
returns-clause-written g c =
    let e : c.as_bytes.result.now ≡ string_bytes c.in_ok-made.made = c.as_bytes.ensures.value ∙ c.as_str.ensures.value in
    Writes-made c.write_whole.result _ _ _ _ (string_bytes c.in_ok-made.made)
    (rw e at c.write_whole.ensures.whole) (simp e at c.write_whole.ensures.beginning) c.in_ok-made.ensures.printed

pub returns-clause-refused : goal.returns-clause-refused
returns-clause-refused g c = PrintsNothing-made _ _ _ _ c.in_ok-made.ensures.printed

pub returns-clause-bad_key : goal.returns-clause-bad_key
returns-clause-bad_key g c = λ bad. absurd (false≢true (c.in_ok-made.ensures.bad_key bad))

pub returns-clause-unread : goal.returns-clause-unread
returns-clause-unread g c = λ bad. absurd (elim bad [
  | inl fault ↦ false≢true (ap is_ok (sym (c.in_ok-made.ensures.usage.1 fault)))
  | inr bad ↦ false≢true (c.in_ok-made.ensures.bad_key bad)
])

pub returns-in_err-made-clause-unread : goal.returns-in_err-made-clause-unread
returns-in_err-made-clause-unread g c = λ bad. (c.make.ensures.unread bad, refl)
