-- Why C gets no text of a token, and what tells it.
use Rattle.std.specs.Prelude.{◌≡◌, ◌⊎◌, ℕ, List, Result, MatchResult, String, string_bytes}
use Rattle.std.specs.Global.{Global}
use Rattle.paseto_calls.specs.Answer.{IsCut, IsGiven}
use Rattle.paseto_calls.specs.ErrorText.{status_text}
use Rattle.paseto_calls.specs.Parse.{line_of}
use Rattle.paseto_calls.specs.Refusal.{parser_refusal, status_of}
use Rattle.paseto_calls.specs.declared.fault.Fault.{Fault}
use Rattle.paseto_calls.specs.declared.fault.Fault.TheVariants.{Refused, Unparsed}
use Rattle.paseto_calls.specs.declared.refusal.Refusal.{Refusal}
use Rattle.paseto_calls.specs.declared.refusal.Refusal.TheVariants.{Memory}

-- ---- for private clauses

abbrev pub refusal_of : Fault → Refusal
refusal_of (Refused refusal) = refusal
refusal_of (Unparsed error) = parser_refusal error

-- what tells it
abbrev pub fault_line : Fault → List ℕ
fault_line (Refused refusal) = status_text (status_of refusal)
fault_line (Unparsed error) = line_of error

-- the status and the line are those of the fault, or say that memory was refused
abbrev pub IsTold : Fault → ℕ → List ℕ → List ℕ → ℕ → Type 0
IsTold fault status before after told =
    ((status ≡ status_of (refusal_of fault)) × IsCut (fault_line fault) before after told)
    ⊎ ((status ≡ status_of Memory) × IsCut (status_text (status_of Memory)) before after told)

-- the answer for what was made
abbrev pub IsHandedTelling : Result (String Global) Fault → List ℕ → List ℕ → ℕ → ℕ → List ℕ → List ℕ → ℕ → Type 0
IsHandedTelling made before after written status line_before line_after told =
    MatchResult made (λ text. IsGiven (string_bytes text) before after written status × (line_after ≡ line_before) × (told ≡ 0))
    (λ fault. (after ≡ before) × (written ≡ 0) × IsTold fault status line_before line_after told)
