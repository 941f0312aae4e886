-- The command `check --each`: a token on each line of an input.
use Rattle.std.specs.Prelude.{◌≡◌, ◌==◌, ◌<◌, ◌≤◌, ◌^◌, ◌⊎◌, ⊤, ℕ, Bool, true, false, ◌&&◌, ◌||◌, if◌then◌else◌, List, [], ◌∷◌, ◌++◌, length, Option, IfSome, IsUtf8, codes}
use Rattle.std.specs.Io.{StartsWith}
use Rattle.std.specs.Io.BufRead.{drop_through}
use Rattle.std.specs.Io.KnownBytes.{Appends}
use Rattle.serde_json.specs.Data.{Data, member, no_members, object, string}
use Rattle.paseto_streams.specs.Input.{IsInput}
use Rattle.paseto_streams.specs.Output.{IsCutShort}
use Rattle.jiff.specs.Types.{Timestamp}
use Rattle.rusty_paseto_parts.specs.declared.texts.implicit_assertion.ImplicitAssertion.{ImplicitAssertion}
use Rattle.rusty_paseto_paserk.specs.declared.error.PaserkError.TheVariants.{OtherType}
use Rattle.paseto_keys.specs.AnyKey.{parts_of, reads_tokens}
use Rattle.paseto_tasks.specs.Arguments.{Takes}
use Rattle.paseto_tasks.specs.Error.{Fails, IsOfWords, IsOutside, Lacks, line_of, message_of, nothing, status_of}
use Rattle.paseto_tasks.specs.declared.arguments.Options.{Options}
use Rattle.paseto_tasks.specs.declared.error.Names.{Names}
use Rattle.paseto_tasks.specs.Input.{IsNoText, reading, token_of_input}
use Rattle.paseto_tasks.specs.declared.error.ProgramError.{ProgramError}
use Rattle.paseto_tasks.specs.declared.error.ProgramError.TheVariants.{File, System, Token}
use Rattle.paseto_tasks.specs.declared.error.file.FileError.TheVariants.{Key, NoAssertion}
use Rattle.paseto_tasks.specs.declared.error.system.SystemError.TheVariants.{InputOrOutput}
use Rattle.paseto_tasks.specs.declared.error.token.TokenError.TheVariants.{TooLong}
use Rattle.paseto_words.specs.Action.{text, texts_of}
use Rattle.paseto_words.specs.declared.action.Check.{Check}
use Rattle.paseto.specs.Check.{AreDemands, Demanded}
use Rattle.paseto.specs.Checked.{Admits, IsJsonLine, RefusesDemands}
use Rattle.paseto.specs.Files.{input_name}
use Rattle.paseto.specs.Options.{check_options, option_texts}
use Rattle.paseto.specs.declared.commands.check.Keys.{Keys}
use Rattle.paseto.specs.declared.commands.check.Keys.TheVariants.{One, Ring}

-- ---- the lines of an input

-- the first line, which ends before its line feed, or where the input ends
abbrev pub first_line : List ℕ → List ℕ
first_line [] = []
first_line (byte ∷ rest) = if byte == 10 then [] else byte ∷ first_line rest

-- ---- the row of a line

-- the claims of a token that is admitted, and why one is refused
abbrev pub claims_row : Data → Data
claims_row claims = object (member (codes "claims") claims no_members)

abbrev pub error_row : List ℕ → Data
error_row message = object (member (codes "error") (string message) no_members)

-- the line holds the token of these claims, which are what is demanded
pub record AdmitsLine (keys : Keys) (demands : Demanded) (line : List ℕ) (claims : Data) : Type 0 where
  pub is_text : IsUtf8 line
  pub admits : Admits keys demands (token_of_input line) claims

-- why a line is refused: it is no text, or its token is not what is demanded
abbrev pub RefusesLine : Keys → Demanded → List ℕ → ProgramError → Type 0
RefusesLine keys demands line error = IsNoText line error ⊎ RefusesDemands keys demands (token_of_input line) error

-- the row of a line, and whether its token is admitted
pub data IsTokenRow (keys : Keys) (demands : Demanded) (line : List ℕ) : List ℕ → Bool → Type 0 where
  admits : (claims : Data) (row : List ℕ) → AdmitsLine keys demands line claims → IsJsonLine (claims_row claims) row
      → IsTokenRow keys demands line row true
  refuses : (error : ProgramError) (row : List ℕ) → RefusesLine keys demands line error → ¬ IsOutside error
      → IsJsonLine (error_row (message_of error)) row → IsTokenRow keys demands line row false

-- ---- the rows of an input

-- what a row is of a line, and of a token that is admitted or not
abbrev pub RowOf : Type 1
RowOf = List ℕ → List ℕ → Bool → Type 0

-- the rows of the lines, of which none is longer, and whether all are admitted
pub data AreRows (IsRow : RowOf) (longest : ℕ) : List ℕ → List ℕ → Bool → Type 0 where
  no_lines : AreRows IsRow longest [] [] true
  next_line : (input row rows : List ℕ) (admitted all : Bool) → 0 < length input → length (first_line input) ≤ longest
      → IsRow (first_line input) row admitted → AreRows IsRow longest (drop_through 10 input) rows all
      → AreRows IsRow longest input (row ++ rows) (admitted && all)

-- where the input is known, it begins with these bytes
abbrev pub Begins : Option (List ℕ) → List ℕ → Type 0
Begins known front = IfSome known (λ bytes. StartsWith bytes front)

-- in the input stand more bytes than that, behind these, none of which ends a line
pub record HasLongLine (known : Option (List ℕ)) (longest : ℕ) (front : List ℕ) : Type 0 where
  pub line : List ℕ
  pub begins : Begins known (front ++ line)
  pub is_line : first_line line ≡ line
  pub long : longest < length line

-- all lines of an input were checked, and their rows written
pub record ChecksAll (IsRow : RowOf) (longest : ℕ) (known before after : Option (List ℕ)) (all : Bool) : Type 0 where
  pub input : List ℕ
  pub rows : List ℕ
  pub is_input : IsInput known input
  pub are_rows : AreRows IsRow longest input rows all
  pub written : Appends before after rows

-- or those of lines that it begins with, until a read failed or memory was refused; a line, or the input, is too long; or a row was
-- not written
pub data Stops (IsRow : RowOf) (longest : ℕ) (known before after : Option (List ℕ)) : ProgramError → Type 0 where
  fails : (front rows : List ℕ) (all : Bool) (error : ProgramError) → Begins known front → AreRows IsRow longest front rows all
      → Appends before after rows → Fails reading error → Stops IsRow longest known before after error
  is_long : (front rows : List ℕ) (all : Bool) → HasLongLine known longest front → AreRows IsRow longest front rows all
      → Appends before after rows → Stops IsRow longest known before after (Token TooLong)
  is_endless : (front rest rows : List ℕ) (all : Bool) → Begins known (front ++ rest) → 2 ^ 64 ≤ length (front ++ rest)
      → AreRows IsRow longest front rows all → Appends before after rows → Stops IsRow longest known before after (Token TooLong)
  unwritten : (front rows written : List ℕ) (all : Bool) → Begins known front → AreRows IsRow longest front rows all
      → IsCutShort rows written → Appends before after written → Stops IsRow longest known before after (System InputOrOutput)

-- ---- the keys

-- the one key reads tokens, and its version has an assertion where one is demanded; those of a ring are found for each token
abbrev pub IsReady : Keys → Option ImplicitAssertion → Type 0
IsReady (One key) assertion = (reads_tokens (parts_of key).kind ≡ true) × Takes (parts_of key).version assertion
IsReady (Ring keys) assertion = ⊤

-- why the one key cannot be used for any token
abbrev pub IsUnready : Keys → Option ImplicitAssertion → ProgramError → Type 0
IsUnready (One key) assertion error =
    ((reads_tokens (parts_of key).kind ≡ false) × (error ≡ File (Key (OtherType (parts_of key).kind))))
    ⊎ ((¬ Takes (parts_of key).version assertion) × (error ≡ File NoAssertion))
IsUnready (Ring keys) assertion error = ⊥

-- ---- the words

-- the tokens of an input are checked, as the words demand at a moment
pub record ChecksAllFor (claims : List (List ℕ)) (options : Options) (now : Timestamp) (keys : Keys) (longest : ℕ) (known before after : Option (List ℕ))
    (all : Bool) : Type 0 where
  pub demands : Demanded
  pub are_demands : AreDemands claims options now demands
  pub ready : IsReady keys demands.assertion
  pub checks : ChecksAll (IsTokenRow keys demands) longest known before after all

-- or they are not, or not all: the words demand nothing, or the key cannot be used, and nothing is written
pub data StopsFor (claims : List (List ℕ)) (options : Options) (now : Timestamp) (keys : Keys) (longest : ℕ) (known before after : Option (List ℕ))
    (IsUnwritten : Type 0) (error : ProgramError) : Type 0 where
  lacks : Lacks (λ demands. AreDemands claims options now demands) error → IsOfWords error → IsUnwritten
      → StopsFor claims options now keys longest known before after IsUnwritten error
  unready : (demands : Demanded) → AreDemands claims options now demands → IsUnready keys demands.assertion error → IsUnwritten
      → StopsFor claims options now keys longest known before after IsUnwritten error
  stops : (demands : Demanded) → AreDemands claims options now demands → IsReady keys demands.assertion
      → Stops (IsTokenRow keys demands) longest known before after error → StopsFor claims options now keys longest known before after IsUnwritten error

-- how the command ends: with 0 where all were admitted and 1 where not, with no line on standard error; or with the status and the
-- line of the error
pub data EndsEach {E : Type 0} (All : Bool → Type 0) (StopsWith : ProgramError → Type 0) (errors : E → Option (List ℕ)) (names : Names) (status : ℕ)
    (said_before said_after : E) : Type 0 where
  ends : (all : Bool) → All all → status ≡ (if all then 0 else 1) → said_after ≡ said_before
      → EndsEach All StopsWith errors names status said_before said_after
  stopped : (error : ProgramError) (said : List ℕ) → StopsWith error → status ≡ status_of error → StartsWith (line_of names error) said
      → Appends (errors said_before) (errors said_after) said → EndsEach All StopsWith errors names status said_before said_after

-- the tokens of an input are checked with keys at a moment, as the words say, and what is said names the keys and the input
pub record ChecksEach {W E : Type 0} (words : Check) (name : List ℕ) (keys : Keys) (longest : ℕ) (now : Timestamp) (known : Option (List ℕ))
    (contents : W → Option (List ℕ)) (errors : E → Option (List ℕ)) (status : ℕ) (before after : W) (said_before said_after : E) : Type 0 where
  pub options : Options
  pub are_options : option_texts options ≡ check_options words
  pub names : Names
  pub key_is : names.key.now ≡ name
  pub input_is : names.input.now ≡ input_name (text words.input)
  pub ends : EndsEach (ChecksAllFor (texts_of words.claims.items) options now keys longest known (contents before) (contents after))
      (StopsFor (texts_of words.claims.items) options now keys longest known (contents before) (contents after) (after ≡ before))
      errors names status said_before said_after

-- ---- for private clauses

-- a line feed stands in the bytes
abbrev pub is_ended : List ℕ → Bool
is_ended [] = false
is_ended (byte ∷ rest) = (byte == 10) || is_ended rest

-- the rows of lines with which an input begins: those of what comes behind come behind them; nothing does where these are the last
abbrev pub IsFront : RowOf → ℕ → Bool → List ℕ → List ℕ → Bool → Type 0
IsFront IsRow longest are_last lines rows all = (rest more : List ℕ) (others : Bool) → (are_last ≡ true → rest ≡ [])
    → AreRows IsRow longest rest more others → AreRows IsRow longest (lines ++ rest) (rows ++ more) (all && others)

-- the rows of the lines in some bytes are written, and a line that has not ended is left, unless they are the last
pub record WritesRows (IsRow : RowOf) (longest : ℕ) (are_last : Bool) (bytes left : List ℕ) (before after : Option (List ℕ))
    (all : Bool) : Type 0 where
  pub lines : List ℕ
  pub rows : List ℕ
  pub split : bytes ≡ lines ++ left
  pub front : IsFront IsRow longest are_last lines rows all
  pub written : Appends before after rows
  pub none_left : are_last ≡ true → left ≡ []

-- the row of a line is written
pub record WritesRow (IsRow : RowOf) (longest : ℕ) (line : List ℕ) (before after : Option (List ℕ)) (admitted : Bool) : Type 0 where
  pub row : List ℕ
  pub short : length line ≤ longest
  pub is_row : IsRow line row admitted
  pub written : Appends before after row

-- or it is not: the system failed, the line is too long, or the row was not written whole
pub data StopsRow (IsRow : RowOf) (longest : ℕ) (line : List ℕ) (before after : Option (List ℕ)) : ProgramError → Type 0 where
  no_row : (error : ProgramError) → after ≡ before → Fails nothing error → StopsRow IsRow longest line before after error
  long_row : after ≡ before → longest < length line → StopsRow IsRow longest line before after (Token TooLong)
  cut_row : (row written : List ℕ) (admitted : Bool) → length line ≤ longest → IsRow line row admitted → IsCutShort row written
      → Appends before after written → StopsRow IsRow longest line before after (System InputOrOutput)
