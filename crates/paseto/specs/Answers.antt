-- What the program says of what builders, parsers and rings refuse, where that has a line of its own. No key is among what
-- these lines are made of: the claims and the footer of the token, the claims of the words, and a moment.
use Rattle.std.specs.Prelude.{◌≡◌, ℕ, ℤ, pos, ◌/◌, ◌-ℤ◌, ◌==◌, List, [], ◌++◌, if◌then◌else◌, nat_lt, ⊤, Result, Ok, Err, codes, map, string_bytes, encode_utf8_all, chars, decimal, int_div, unsigned_abs}
use Rattle.std.specs.Char.{is_control}
use Rattle.serde_json.specs.declared.value.Value.{Value}
use Rattle.rusty_paseto_core.specs.declared.PasetoError.TheVariants.{FooterInvalid}
use Rattle.rusty_paseto_generic.specs.declared.error.GenericBuilderError.{GenericBuilderError}
use Rattle.rusty_paseto_generic.specs.declared.error.GenericBuilderError.TheVariants.{DuplicateTopLevelPayloadClaim}
use Rattle.rusty_paseto_generic.specs.declared.error.GenericParserError.{GenericParserError}
use Rattle.rusty_paseto_generic.specs.declared.error.GenericParserError.TheVariants.{CipherError as NotRead, ClaimError, Memory as NoMemory, PayloadJsonError}
use Rattle.rusty_paseto.specs.declared.error.KeyRingError.TheVariants.{Memory as NoKeyRingMemory, UnknownKey}
use Rattle.paseto_keys.specs.declared.error.AdmitError.{AdmitError}
use Rattle.paseto_keys.specs.declared.error.AdmitError.TheVariants.{Key as OfKey, Parser as OfParser, Memory as NoAdmitMemory}
use Rattle.paseto_keys.specs.declared.ring_error.RingError.{RingError}
use Rattle.paseto_keys.specs.declared.ring_error.RingError.TheVariants.{Memory as NoRingMemory, Parser as ByParser, Ring as ByRing}
use Rattle.paseto_tasks.specs.declared.error.ProgramError.{ProgramError}
use Rattle.paseto_tasks.specs.declared.error.ProgramError.TheVariants.{System, Token}
use Rattle.paseto_tasks.specs.declared.error.system.SystemError.TheVariants.{Memory}
use Rattle.paseto_tasks.specs.declared.error.token.TokenError.TheVariants.{NotJson, OddNumber, OtherFooter, Unfit}
use Rattle.paseto_tasks.specs.Error.{IsFixed, IsMemory, Says, token_error_of, use_error_of}

-- the error is a line of its own, or that memory was refused
abbrev pub IsToldLine : ProgramError → Type 0
IsToldLine (Token (Unfit _)) = ⊤
IsToldLine error = IsMemory error

-- ---- lengths of time

-- a number and what it counts
abbrev pub count_text : ℕ → List ℕ → List ℕ
count_text count unit = decimal count ++ (codes " " ++ (unit ++ (if count == 1 then [] else codes "s")))

-- a length of so many seconds, rounded down: up to two minutes in seconds, up to two hours in minutes, up to two days in
-- hours, and else in days
abbrev pub length_text : ℕ → List ℕ
length_text seconds =
    if nat_lt seconds 120 then count_text seconds (codes "second")
    else if nat_lt seconds 7200 then count_text (seconds / 60) (codes "minute")
    else if nat_lt seconds 172800 then count_text (seconds / 3600) (codes "hour")
    else count_text (seconds / 86400) (codes "day")

-- the whole seconds of an instant, which is in nanoseconds
abbrev pub second_of : ℤ → ℤ
second_of instant = int_div instant (pos 1_000_000_000)

-- how long it is from one instant to another
abbrev pub between_text : ℤ → ℤ → List ℕ
between_text one other = length_text (unsigned_abs (second_of other -ℤ second_of one))

-- ---- lines

abbrev pub shown_letter : ℕ → ℕ
shown_letter letter = if is_control letter then 63 else letter

-- a text in which each control character is a question mark
abbrev pub one_line : List ℕ → List ℕ
one_line text = encode_utf8_all (map shown_letter (chars text))

-- a claim is set twice
abbrev pub repeated_text : List ℕ → List ℕ
repeated_text name = codes "The claim '" ++ (name ++ codes "' appears more than once in the top level payload json")

-- the footer names a key that is not in the ring
abbrev pub unknown_text : List ℕ → List ℕ
unknown_text id = codes "The key '" ++ (id ++ codes "' is not in the ring")

-- ---- errors in the words of the program

-- why a text is none of claims, or its claims are refused
abbrev pub text_error_of : GenericParserError → ProgramError
text_error_of (NoMemory source) = System (Memory source)
text_error_of (NotRead source) = token_error_of source
text_error_of (ClaimError _) = Token OddNumber
text_error_of (PayloadJsonError _) = Token NotJson

-- why a token is none of claims
abbrev pub parser_error_of : GenericParserError → ProgramError
parser_error_of (NotRead FooterInvalid) = Token OtherFooter
parser_error_of error = text_error_of error

-- why a key does not read one
abbrev pub admit_error_of : AdmitError → ProgramError
admit_error_of (OfKey source) = use_error_of source
admit_error_of (OfParser source) = parser_error_of source
admit_error_of (NoAdmitMemory source) = System (Memory source)

-- the answer of a key
abbrev pub admitted : Result Value AdmitError → Result Value ProgramError
admitted (Ok value) = Ok value
admitted (Err error) = Err (admit_error_of error)

-- ---- for private clauses

-- what a ring says is not that memory was refused
abbrev pub IsNoMemoryOfRing : RingError → Type 0
IsNoMemoryOfRing (NoRingMemory _) = ⊥
IsNoMemoryOfRing (ByRing (NoKeyRingMemory _)) = ⊥
IsNoMemoryOfRing (ByParser (NoMemory _)) = ⊥
IsNoMemoryOfRing _ = ⊤

abbrev pub SaysOfBuilder : GenericBuilderError → ProgramError → Type 0
SaysOfBuilder (DuplicateTopLevelPayloadClaim name) error = Says (λ line. line ≡ one_line (repeated_text (string_bytes name))) error
SaysOfBuilder _ error = IsFixed error

abbrev pub SaysOfRing : RingError → ProgramError → Type 0
SaysOfRing (ByRing (UnknownKey id)) error = Says (λ line. line ≡ one_line (unknown_text (string_bytes id))) error
SaysOfRing _ error = IsFixed error
