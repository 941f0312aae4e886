-- What is said of a key that the arguments name.
use Rattle.std.specs.Prelude.{◌≡◌, ◌≢◌, ◌==◌, ◌⊎◌, ◌++◌, ℕ, true, List, Option, None, Some, Result, String, codes, option_map, string_bytes}
use Rattle.std.specs.Global.{Global}
use Rattle.std.specs.List.{list_any}
use Rattle.paseto_key_files.specs.Held.{GivesLine}
use Rattle.paseto_key_files.specs.Opening.{Unlocks, UnlocksNone}
use Rattle.paseto_key_files.specs.declared.error.KeyFileError.{KeyFileError}
use Rattle.paseto_key_files.specs.declared.error.KeyFileError.TheVariants.{OtherOpener, Wrap}
use Rattle.paseto_wrapping.specs.declared.error.WrapError.TheVariants.{InvalidPoint, InvalidPrivateKey, SmallOrder}
use Rattle.rusty_paseto_paserk.specs.Header.{HasHeader}
use Rattle.rusty_paseto_paserk.specs.declared.header.PaserkType.{PaserkType}
use Rattle.rusty_paseto_paserk.specs.declared.header.PaserkVersion.{PaserkVersion}
use Rattle.paseto_wrapping.specs.Header as locked
use Rattle.paseto_wrapping.specs.declared.header.WrappedType.{WrappedType}
use Rattle.paseto_pem.specs.Text.{HoldsPem}
use Rattle.paseto_keys.specs.Line.{IsLineFault}
use Rattle.paseto_tasks.specs.declared.error.ProgramError.{ProgramError}
use Rattle.paseto_tasks.specs.declared.error.ProgramError.TheVariants.{File}
use Rattle.paseto_tasks.specs.declared.error.file.FileError.TheVariants.{SecondLine}
use Rattle.paseto_key_files.specs.declared.openers.Openers.{Openers}
use Rattle.paseto_tasks.specs.Error.{IsMemory, key_file_error_of}
use Rattle.paseto_tasks.specs.Output.{IsLineOf}
use Rattle.paseto.specs.Files.{input_name}
use Rattle.paseto.specs.declared.fault.Fault.{Fault}
use Rattle.paseto.specs.declared.keys.Held.{Held}

-- the name of a key in lines on standard error: the environment's variable where no key is named
abbrev pub key_name : Option (List ℕ) → List ℕ
key_name None = codes "PASETO_KEY"
key_name (Some path) = input_name (Some path)

-- what an error is about: the key that opens the key file if that key was refused, and otherwise the key file
abbrev pub about_of : KeyFileError → List ℕ → List ℕ → List ℕ
about_of (OtherOpener source) opener name = opener
about_of (Wrap InvalidPrivateKey) opener name = opener
about_of error opener name = name

-- which of the two is at fault where a key is not sealed: the key of the recipient, where it is no point or one of small order
abbrev pub seal_about_of : KeyFileError → List ℕ → List ℕ → List ℕ
seal_about_of (Wrap InvalidPoint) recipient name = recipient
seal_about_of (Wrap SmallOrder) recipient name = recipient
seal_about_of error recipient name = about_of error recipient name

-- memory was refused, or the key of this name is at fault, as this says
abbrev pub IsKeyFault : List ℕ → (KeyFileError → Type 0) → Fault → Type 0
IsKeyFault name Is fault =
    IsMemory fault.error ⊎ ((fault.about.now ≡ name) × ((source : KeyFileError) × Is source × (fault.error ≡ key_file_error_of source)))

-- a text without the carriage return at its end, if there is one
abbrev pub IsWithoutReturn : List ℕ → List ℕ → Type 0
IsWithoutReturn text rest = (text ≡ rest ++ codes "\r") ⊎ ((rest ≡ text) × ((other : List ℕ) → text ≢ other ++ codes "\r"))

-- what opens key files is the password and the key that are held
pub record AreOpeners (held : Held) (openers : Openers) : Type 0 where
  pub password : option_map (λ bytes. bytes.now) openers.password ≡ option_map (λ bytes. bytes.items) held.password
  pub key : option_map (λ line. line.now) openers.key ≡ option_map string_bytes held.key

-- the answer for a text is that of opening it with what is held
abbrev pub OpensHeld : Held → List ℕ → Result (String Global) KeyFileError → Type 0
OpensHeld held text answer =
    (openers : Openers) × (rest : List ℕ) × AreOpeners held openers × IsWithoutReturn text rest
    × GivesLine (Unlocks openers rest) (UnlocksNone openers rest) answer

-- ---- lines

-- memory was refused, or the line of the key of this name is that of none
abbrev pub IsNoKeyLine : List ℕ → List ℕ → Fault → Type 0
IsNoKeyLine name line = IsKeyFault name (IsLineFault line)

-- ---- texts

-- a text begins like a key in PASERK, bare or locked
abbrev pub IsLikePaserk : List ℕ → Type 0
IsLikePaserk text = ((version : PaserkVersion) × (kind : PaserkType) × HasHeader version kind text)
    ⊎ ((version : PaserkVersion) × (kind : WrappedType) × locked.HasHeader version kind text)

-- more stands behind a key in PASERK: in its line, or PEM in the text that holds it
abbrev pub HasSecondLine : List ℕ → List ℕ → Type 0
HasSecondLine text line = (list_any (λ byte. byte == 10) line ≡ true) ⊎ (HoldsPem text × IsLikePaserk text)

-- the line is the one of a text that is opened with what is held
abbrev pub Opens : Held → List ℕ → List ℕ → Type 0
Opens held text line =
    (openers : Openers) × (rest : List ℕ) × AreOpeners held openers × IsWithoutReturn text rest × Unlocks openers rest line

-- the line is the one that a text holds, with nothing behind it
abbrev pub Holds : Held → List ℕ → List ℕ → Type 0
Holds held text line = Opens held text line × ¬ HasSecondLine text line

-- why a text of this name is not opened: what it holds has a second line, or there is nothing
abbrev pub HoldsNone : Held → List ℕ → List ℕ → Fault → Type 0
HoldsNone held name text fault =
    ((line : List ℕ) × Opens held text line × HasSecondLine text line × (fault.about.now ≡ name) × (fault.error ≡ File SecondLine))
    ⊎ ((openers : Openers) × (rest : List ℕ) × (source : KeyFileError) × AreOpeners held openers × IsWithoutReturn text rest
    × UnlocksNone openers rest source × (fault.about.now ≡ about_of source held.key_name.now name) × (fault.error ≡ key_file_error_of source))

-- why a text of this name holds no key: it is not opened, or its line is that of none
abbrev pub HoldsNoKey : Held → List ℕ → List ℕ → Fault → Type 0
HoldsNoKey held name text fault =
    HoldsNone held name text fault ⊎ ((line : List ℕ) × Holds held text line × IsNoKeyLine name line fault)

-- the text is one that is so, with a line feed behind it
abbrev pub IsTextBy : (List ℕ → Type 0) → List ℕ → Type 0
IsTextBy Is text = (made : List ℕ) × Is made × IsLineOf made text

-- memory was refused, or what is named so is at fault, as this says
abbrev pub IsOtherFault : (KeyFileError → List ℕ) → (KeyFileError → Type 0) → Fault → Type 0
IsOtherFault about Is fault =
    IsMemory fault.error
    ⊎ ((source : KeyFileError) × Is source × (fault.about.now ≡ about source) × (fault.error ≡ key_file_error_of source))
