-- What the program prints for its words and its input, and when it refuses them.
use Rattle.std.specs.Prelude.{◌≡◌, ℕ, List, [], ◌⊎◌, Option, Bool, true, false, ⊤}
use Rattle.rusty_paseto_parts.specs.declared.error.PasetoError.{PasetoError}
use Rattle.paseto_tool.specs.declared.error.ToolError.{ToolError}
use Rattle.paseto_tool.specs.declared.error.ToolError.TheVariants.{Usage, Refused, InputOrOutput, Memory}
use Rattle.paseto_tool.specs.declared.version.Version.{Version}
use Rattle.paseto_tool.specs.Version.{design_of}
use Rattle.paseto_tool.specs.Arguments.{AsksToInspect, AsksToSeal, AsksToOpen, IsUsageFault}
use Rattle.paseto_tool.specs.Arguments.{IsDigits}
use Rattle.paseto_streams.specs.Output.{IsCutShort}
use Rattle.rusty_paseto_parts.specs.Section.{sections}
use Rattle.rusty_paseto_parts.specs.UntrustedToken.{IsTokenFooterFault}
use Rattle.paseto_tool.specs.Inspect.{Inspects}
use Rattle.paseto_tool.specs.Seal.{Seals, RefusesSealing}
use Rattle.paseto_tool.specs.Open.{OpensTo, RefusesOpening}

-- an inspection is asked for, and the output is its lines, whatever the input is
pub record PrintsLines (words : List (List ℕ)) (output : List ℕ) : Type 0 where
  pub token : List ℕ
  pub asks : AsksToInspect words token
  pub inspects : Inspects token output

-- a sealing of the input is asked for, and the output is its line
pub record PrintsToken (words : List (List ℕ)) (input output : List ℕ) : Type 0 where
  pub version : Version
  pub key : List ℕ
  pub nonce : List ℕ
  pub footer : Option (List ℕ)
  pub assertion : Option (List ℕ)
  pub asks : AsksToSeal words version key nonce footer assertion
  pub seals : Seals (design_of version) key nonce footer assertion input output

-- an opening of the input is asked for, and the output is its text
pub record PrintsText (words : List (List ℕ)) (input output : List ℕ) : Type 0 where
  pub version : Version
  pub key : List ℕ
  pub footer : Option (List ℕ)
  pub assertion : Option (List ℕ)
  pub asks : AsksToOpen words version key footer assertion
  pub opens : OpensTo (design_of version) key footer assertion input output

-- the words and the input have this output
abbrev pub Prints : List (List ℕ) → List ℕ → List ℕ → Type 0
Prints words input output = PrintsLines words output ⊎ PrintsToken words input output ⊎ PrintsText words input output

-- the words and the input have no output
abbrev pub PrintsNothing : List (List ℕ) → List ℕ → Type 0
PrintsNothing words input = (output : List ℕ) → ¬ Prints words input output

-- KEY or NONCE is no 64 hexadecimal digits
pub data HasBadKey (words : List (List ℕ)) : Type 0 where
  bad_key : (version : Version) (key nonce : List ℕ) (footer assertion : Option (List ℕ)) → AsksToSeal words version key nonce footer assertion → (¬ IsDigits key) → HasBadKey words
  bad_nonce : (version : Version) (key nonce : List ℕ) (footer assertion : Option (List ℕ)) → AsksToSeal words version key nonce footer assertion → (¬ IsDigits nonce) → HasBadKey words
  bad_opening_key : (version : Version) (key : List ℕ) (footer assertion : Option (List ℕ)) → AsksToOpen words version key footer assertion → (¬ IsDigits key) → HasBadKey words

-- the error refuses what the words ask for
pub data Refuses (words : List (List ℕ)) (input : List ℕ) (error : PasetoError) : Type 0 where
  inspection : (token : List ℕ) → AsksToInspect words token → IsTokenFooterFault (sections token) error → Refuses words input error
  sealing : (version : Version) (key nonce : List ℕ) (footer assertion : Option (List ℕ)) → AsksToSeal words version key nonce footer assertion
      → RefusesSealing key nonce input error → Refuses words input error
  opening : (version : Version) (key : List ℕ) (footer assertion : Option (List ℕ)) → AsksToOpen words version key footer assertion
      → RefusesOpening (design_of version) key footer assertion input error → Refuses words input error

-- why the program ends with another status than 0: its own fault of usage, or a refusal of the words
-- or the input. Memory, input and output may fail at any time.
abbrev pub IsReason : List (List ℕ) → List ℕ → ToolError → Type 0
IsReason words input Usage = IsUsageFault words
IsReason words input (Refused error) = Refuses words input error
IsReason words input InputOrOutput = ⊤
IsReason words input (Memory _) = ⊤

-- what the program has written when it ends: its output where it is done, else nothing, or the output
-- cut short
abbrev pub Writes : List (List ℕ) → List ℕ → Bool → List ℕ → Type 0
Writes words input true written = Prints words input written
Writes words input false written =
    (written ≡ []) ⊎ ((output : List ℕ) × Prints words input output × IsCutShort output written)
