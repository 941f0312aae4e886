-- How C is answered: by a status, a text in the room that it lends, and a number.
use Rattle.std.specs.Prelude.{◌≡◌, ◌≤◌, ◌<◌, ◌++◌, ◌⊎◌, ℕ, List, length, drop, take}
use Rattle.paseto_calls.specs.Refusal.{status_of}
use Rattle.paseto_calls.specs.declared.refusal.Refusal.{Refusal}

-- the text stands in the room, which is beyond it as it was: status 0
pub record Stands (text before after : List ℕ) (written status : ℕ) : Type 0 where
  pub fits : length text ≤ length before
  pub is_status : status ≡ 0
  pub room : after ≡ text ++ drop (length text) before
  pub size : written ≡ length text

-- the room is too short for the text, and as it was; `written` says how much is needed: status 1
pub record IsTooLong (text before after : List ℕ) (written status : ℕ) : Type 0 where
  pub exceeds : length before < length text
  pub is_status : status ≡ 1
  pub same : after ≡ before
  pub size : written ≡ length text

-- the answer for a text
abbrev pub IsGiven : List ℕ → List ℕ → List ℕ → ℕ → ℕ → Type 0
IsGiven text before after written status = Stands text before after written status ⊎ IsTooLong text before after written status

-- the answer for a refusal: its status, the room as it was, and 0 in `written`
pub record IsRefused (refusal : Refusal) (before after : List ℕ) (written status : ℕ) : Type 0 where
  pub is_status : status ≡ status_of refusal
  pub same : after ≡ before
  pub nothing : written ≡ 0

-- a line that tells a refusal stands in its room, cut to the length of that, which is beyond it as it was; `told` is the
-- length of the whole line
pub record IsCut (line before after : List ℕ) (told : ℕ) : Type 0 where
  pub room : ((length line ≤ length before) × (after ≡ line ++ drop (length line) before))
      ⊎ ((length before < length line) × (after ≡ take (length before) line))
  pub size : told ≡ length line

-- C gets a text, or learns that the room is too short or memory was refused
abbrev pub IsNotRefused : ℕ → Type 0
IsNotRefused status = (status ≡ 0) ⊎ ((status ≡ 1) ⊎ (status ≡ 2))
