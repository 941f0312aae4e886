-- The line that is printed, and what a write that fails leaves of it.
use Rattle.std.specs.Prelude.{◌≡◌, ◌⊎◌, ℕ, List, [], ◌∷◌, ◌++◌, Result, IfErr, IfOk, IsOkAnd, string_bytes}
use Rattle.std.specs.declared.alloc.Global.{Global}
use Rattle.std.specs.declared.string.String.{String}
use Rattle.paseto_streams.specs.Output.{IsCutShort}
use Rattle.paseto_tasks.specs.declared.error.ProgramError.{ProgramError}

-- the line is that of a text
abbrev pub IsLineOf : List ℕ → List ℕ → Type 0
IsLineOf text line = line ≡ text ++ (10 ∷ [])

-- what is written of an output that is not written whole: nothing, or the output cut short
abbrev pub IsLeftOf : (List ℕ → Type 0) → List ℕ → Type 0
IsLeftOf IsOutput written = (written ≡ []) ⊎ ((output : List ℕ) × IsOutput output × IsCutShort output written)

-- the output is the text that was made
abbrev pub IsTextOf : {E : Type 0} → Result (String Global) E → List ℕ → Type 0
IsTextOf made output = IsOkAnd made (λ text. string_bytes text ≡ output)

-- what a command makes: an output that it prints; else an error with which it refuses, or one from outside
pub record Makes (Prints : List ℕ → Type 0) (Refuses Fault : ProgramError → Type 0) (made : Result (String Global) ProgramError) : Type 0 where
  pub printed : IfOk made (λ text. Prints (string_bytes text))
  pub refused : IfErr made (λ error. Refuses error ⊎ Fault error)
