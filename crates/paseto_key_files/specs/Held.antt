-- What a locked key holds: the line of the key that is unwrapped.
use Rattle.std.specs.Prelude.{◌≡◌, ⊤, ℕ, List, Result, IfOk, IfErr, MatchResult, string_bytes}
use Rattle.std.specs.declared.alloc.Global.{Global}
use Rattle.std.specs.declared.string.String.{String}
use Rattle.base64.specs.GeneralPurpose.{IsBytes}
use Rattle.paseto_wrapping.specs.Reading.{Faults, KeyFaults, Wraps}
use Rattle.paseto_key_files.specs.declared.error.KeyFileError.{KeyFileError}
use Rattle.paseto_key_files.specs.declared.error.KeyFileError.TheVariants.{Memory, Wrap}
use Rattle.paseto_key_files.specs.Error.{IsMemory}

-- the answer is the line that holds, exactly where one does
pub record GivesLine (Holds : List ℕ → Type 0) (IsFault : KeyFileError → Type 0) (answer : Result (String Global) KeyFileError) : Type 0 where
  pub found : IfOk answer (λ line. Holds (string_bytes line))
  pub read : (line : List ℕ) → Holds line → MatchResult answer (λ found. string_bytes found ≡ line) IsMemory
  pub refused : IfErr answer IsFault

-- the line is that of a key which the text wraps
pub record HoldsKey (IsKey : List ℕ → Type 0) (line_of : List ℕ → List ℕ) (IsWrapped : Wraps) (text line : List ℕ) : Type 0 where
  pub key : List ℕ
  pub bytes : IsBytes key
  pub form : IsKey key
  pub wrapped : IsWrapped text key
  pub line_is : line ≡ line_of key

-- why a text is not unwrapped as a key that is wanted
abbrev pub HoldsNoKey : (List ℕ → Type 0) → Wraps → Faults → List ℕ → KeyFileError → Type 0
HoldsNoKey IsWanted IsWrapped IsFault text (Wrap error) = KeyFaults IsWanted IsWrapped IsFault text error
HoldsNoKey IsWanted IsWrapped IsFault text (Memory _) = ⊤
HoldsNoKey IsWanted IsWrapped IsFault text _ = ⊥
