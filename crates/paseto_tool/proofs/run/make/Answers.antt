use Rattle.std.proofs.Common.{inl, inr, string_bytes}
use Rattle.paseto_tool.proofs.Refusals.{HasBadKey-seal, HasBadKey-open, IsReason-inspect, IsReason-seal, IsReason-open, Prints-lines, Prints-known}
use Rattle.paseto_tool.proofs.run.make.Goals as goal

pub returns-in-Some-Inspect-clause-reason : goal.returns-in-Some-Inspect-clause-reason
returns-in-Some-Inspect-clause-reason g c =
    IsReason-inspect c.lines.result _ _ _ (rw c.in-Some-Inspect.field-0-is at c.in-Some-Inspect.ensures.asked) c.lines.ensures.refused

pub returns-in-Some-Inspect-clause-printed : goal.returns-in-Some-Inspect-clause-printed
returns-in-Some-Inspect-clause-printed g c =
    Prints-lines c.lines.result _ _ string_bytes _ (rw c.in-Some-Inspect.field-0-is at c.in-Some-Inspect.ensures.asked) c.lines.ensures.printed

pub returns-in-Some-Seal-clause-printed : goal.returns-in-Some-Seal-clause-printed
returns-in-Some-Seal-clause-printed g c =
    let asks = rw c.in-Some-Seal.field-0-is at c.in-Some-Seal.ensures.asked in
    Prints-known c.line.result _ _ string_bytes _
    (λ bytes made seals. inr (inl (record { version = _; key = _; nonce = _; footer = _; assertion = _; asks = asks; seals = seals })))
    c.line.ensures.printed

pub returns-in-Some-Open-clause-printed : goal.returns-in-Some-Open-clause-printed
returns-in-Some-Open-clause-printed g c =
    let asks = rw c.in-Some-Open.field-0-is at c.in-Some-Open.ensures.asked in
    Prints-known c.text.result _ _ string_bytes _
    (λ bytes made opens. inr (inr (record { version = _; key = _; footer = _; assertion = _; asks = asks; opens = opens })))
    c.text.ensures.printed

pub returns-in-Some-Seal-clause-bad_key : goal.returns-in-Some-Seal-clause-bad_key
returns-in-Some-Seal-clause-bad_key g c = λ bad.
    (c.line.ensures.unread (HasBadKey-seal _ _ _ _ _ _ bad (rw c.in-Some-Seal.field-0-is at c.in-Some-Seal.ensures.asked))).0

pub returns-in-Some-Seal-clause-unread : goal.returns-in-Some-Seal-clause-unread
returns-in-Some-Seal-clause-unread g c =
    let asks = rw c.in-Some-Seal.field-0-is at c.in-Some-Seal.ensures.asked in
    λ bad. (c.line.ensures.unread (elim bad [ inl fault ↦ absurd (fault.no_seal _ _ _ _ _ asks) | inr bad ↦ HasBadKey-seal _ _ _ _ _ _ bad asks ])).1

pub returns-in-Some-Seal-clause-reason : goal.returns-in-Some-Seal-clause-reason
returns-in-Some-Seal-clause-reason g c =
    IsReason-seal c.line.result _ _ _ _ _ _ _ (rw c.in-Some-Seal.field-0-is at c.in-Some-Seal.ensures.asked) c.line.ensures.refused

pub returns-in-Some-Seal-clause-usage : goal.returns-in-Some-Seal-clause-usage
returns-in-Some-Seal-clause-usage g c =
    (λ e. absurd (c.line.ensures.asked e), λ fault. absurd (fault.no_seal _ _ _ _ _ (rw c.in-Some-Seal.field-0-is at c.in-Some-Seal.ensures.asked)))

pub returns-in-Some-Open-clause-reason : goal.returns-in-Some-Open-clause-reason
returns-in-Some-Open-clause-reason g c =
    IsReason-open c.text.result _ _ _ _ _ _ (rw c.in-Some-Open.field-0-is at c.in-Some-Open.ensures.asked) c.text.ensures.refused

pub returns-in-Some-Open-clause-usage : goal.returns-in-Some-Open-clause-usage
returns-in-Some-Open-clause-usage g c =
    (λ e. absurd (c.text.ensures.asked e), λ fault. absurd (fault.no_open _ _ _ _ (rw c.in-Some-Open.field-0-is at c.in-Some-Open.ensures.asked)))

pub returns-in-Some-Open-clause-bad_key : goal.returns-in-Some-Open-clause-bad_key
returns-in-Some-Open-clause-bad_key g c = λ bad.
    (c.text.ensures.unread (HasBadKey-open _ _ _ _ _ bad (rw c.in-Some-Open.field-0-is at c.in-Some-Open.ensures.asked))).0

pub returns-in-Some-Open-clause-unread : goal.returns-in-Some-Open-clause-unread
returns-in-Some-Open-clause-unread g c =
    let asks = rw c.in-Some-Open.field-0-is at c.in-Some-Open.ensures.asked in
    λ bad. (c.text.ensures.unread (elim bad [ inl fault ↦ absurd (fault.no_open _ _ _ _ asks) | inr bad ↦ HasBadKey-open _ _ _ _ _ bad asks ])).1
