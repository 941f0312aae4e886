-- The line of an input.
use Rattle.std.specs.Prelude.{◌≡◌, ◌==◌, ℕ, ◌<◌, ◌≤◌, ◌⊎◌, Bool, true, false, List, [], ◌∷◌, if◌then◌else◌, length, IsUtf8, Option}
use Rattle.std.specs.Io.BufRead.{strip_last}
use Rattle.std.specs.Str.{trim}
use Rattle.std.specs.declared.io.Error.{Error as SystemError}
use Rattle.std.specs.declared.str.Utf8Error.{Utf8Error as Utf8Fault}
use Rattle.paseto_streams.specs.Input.{IsInput}
use Rattle.rusty_paseto_parts.specs.declared.error.PasetoError.TheVariants.{Utf8Error}
use Rattle.paseto_tasks.specs.declared.error.ProgramError.{ProgramError}
use Rattle.paseto_tasks.specs.declared.error.ProgramError.TheVariants.{File, Token}
use Rattle.paseto_tasks.specs.declared.error.file.FileError.TheVariants.{EmptyKey, Key, TooLong}
use Rattle.rusty_paseto_paserk.specs.declared.error.PaserkError.TheVariants.{NoKey}
use Rattle.paseto_tasks.specs.declared.error.token.TokenError.TheVariants.{Refused}
use Rattle.paseto_tasks.specs.Error.{Blame, nothing}

-- the token that an input is: its text without the white space around it
abbrev pub token_of_input : List ℕ → List ℕ
token_of_input input = trim input

-- the line that an input is: without the line feed at its end, where it has one
abbrev pub line_of_input : List ℕ → List ℕ
line_of_input input = strip_last 10 input

-- a text behind the comments that it begins with, each of them a line that begins with `#`; it may begin in one
abbrev pub uncommented : Bool → List ℕ → List ℕ
uncommented in_comment [] = []
uncommented true (byte ∷ rest) = if byte == 10 then uncommented false rest else uncommented true rest
uncommented false (byte ∷ rest) = if byte == 35 then uncommented true rest else byte ∷ rest

-- the line of a key file, behind its comments
abbrev pub key_line_of : List ℕ → List ℕ
key_line_of file = line_of_input (uncommented false file)

-- the text that is inspected: what is behind the comments of an input, without the white space around it
abbrev pub inspected_text : List ℕ → List ℕ
inspected_text input = token_of_input (uncommented false input)

-- this is so of the bytes that were read, which are those of the input where it is known
abbrev pub OfInput : Option (List ℕ) → (List ℕ → Type 0) → Type 0
OfInput known P = (bytes : List ℕ) × IsInput known bytes × P bytes

-- where nothing is at fault but a read, which returned an error of the system
abbrev pub reading : Blame
reading = record nothing { no_stream = SystemError }

-- why bytes are refused that are no text
abbrev pub IsNoText : List ℕ → ProgramError → Type 0
IsNoText bytes error = (¬ IsUtf8 bytes) × ((fault : Utf8Fault) × (error ≡ Token (Refused (Utf8Error fault))))

-- the bytes are too many for a key file
abbrev pub IsLong : List ℕ → Type 0
IsLong bytes = 16384 < length bytes

-- why bytes are no key file: they are too many, or their line is empty, or no text
abbrev pub IsNoKeyFile : List ℕ → ProgramError → Type 0
IsNoKeyFile bytes error =
    (IsLong bytes × (error ≡ File TooLong))
    ⊎ (((key_line_of bytes ≡ []) × (error ≡ File EmptyKey)) ⊎ ((¬ IsUtf8 (key_line_of bytes)) × (error ≡ File (Key NoKey))))

-- the bytes are no password: none, or too many
abbrev pub IsNoPassword : List ℕ → Type 0
IsNoPassword bytes = (line_of_input bytes ≡ []) ⊎ (4096 ≤ length (line_of_input bytes))
