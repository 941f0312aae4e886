-- What `unwrap` and `unseal` take, and what they make of it.
use Rattle.std.specs.Prelude.{◌≡◌, ◌≢◌, ◌⊎◌, ℕ, List, Option, None, Some}
use Rattle.paseto_pem.specs.Text.{HoldsPem}
use Rattle.paseto_keys.specs.AnyKey.{KeyParts}
use Rattle.paseto_keys.specs.Line.{IsLineOf}
use Rattle.paseto_tasks.specs.declared.arguments.Format.{Format}
use Rattle.paseto_tasks.specs.declared.error.ProgramError.{ProgramError}
use Rattle.paseto_tasks.specs.declared.error.ProgramError.TheVariants.{File}
use Rattle.paseto_tasks.specs.declared.error.file.FileError.TheVariants.{Key, NotSealed, NotWrapped}
use Rattle.paseto_wrapping.specs.Header.{HasHeader, HasNoHeader}
use Rattle.paseto_wrapping.specs.declared.header.WrappedType.{WrappedType}
use Rattle.paseto_wrapping.specs.declared.header.WrappedType.TheVariants.{Seal}
use Rattle.rusty_paseto_paserk.specs.Header.{HasHeader as HasKeyHeader}
use Rattle.rusty_paseto_paserk.specs.declared.error.PaserkError.TheVariants.{NoKey}
use Rattle.rusty_paseto_paserk.specs.declared.header.PaserkType.{PaserkType}
use Rattle.rusty_paseto_paserk.specs.declared.header.PaserkVersion.{PaserkVersion}
use Rattle.paseto.specs.Forms.{HasNoForm, IsFormed}
use Rattle.paseto.specs.Keys.{Holds, HoldsNoKey, IsKeyFault}
use Rattle.paseto.specs.declared.fault.Fault.{Fault}
use Rattle.paseto.specs.declared.keys.Held.{Held}
use Rattle.paseto_words.specs.declared.action.Under.{Under}
use Rattle.paseto_words.specs.declared.action.Under.TheVariants.{Unsaid, Key as UnderKey, Password}
use Rattle.paseto.specs.declared.locks.Lock.{Lock}
use Rattle.paseto.specs.declared.locks.Lock.TheVariants.{Any, Seal as OfSeal}

-- the text begins as a key of this type does under a password or another key
abbrev pub IsWrappedAs : WrappedType → List ℕ → Type 0
IsWrappedAs kind text = (version : PaserkVersion) × HasHeader version kind text

abbrev pub IsWrapped : List ℕ → Type 0
IsWrapped text = (kind : WrappedType) × IsWrappedAs kind text

-- the text is PEM, or begins as a bare key in PASERK
abbrev pub IsBare : List ℕ → Type 0
IsBare text = HoldsPem text ⊎ ((version : PaserkVersion) × (kind : PaserkType) × HasKeyHeader version kind text)

-- the text begins as a key under such a lock
abbrev pub IsLockedBy : Lock → List ℕ → Type 0
IsLockedBy Any text = IsWrapped text
IsLockedBy OfSeal text = IsWrappedAs Seal text

-- what is said of a text that begins as no wrapped key: it is a bare one, or none
abbrev pub IsBareFault : List ℕ → ProgramError → Type 0
IsBareFault text error = (IsBare text × (error ≡ File NotWrapped)) ⊎ ((¬ IsBare text) × (error ≡ File (Key NoKey)))

abbrev pub IsUnwrappedFault : List ℕ → ProgramError → Type 0
IsUnwrappedFault text error = HasNoHeader text × IsBareFault text error

-- the same, or that it is under another lock
abbrev pub IsLockFault : Lock → List ℕ → ProgramError → Type 0
IsLockFault Any text error = IsUnwrappedFault text error
IsLockFault OfSeal text error =
    IsUnwrappedFault text error ⊎ ((kind : WrappedType) × (kind ≢ Seal) × IsWrappedAs kind text × (error ≡ File NotSealed))

-- what is printed is the form of the key that the text holds, opened with what is held
abbrev pub OpensIn : Format → Held → List ℕ → List ℕ → Type 0
OpensIn format held text made =
    (line : List ℕ) × (key : KeyParts) × Holds held text line × IsLineOf line key × IsFormed format key made

-- why there is none: the text is not opened, or the key has no such form
abbrev pub OpensNone : Format → Held → List ℕ → List ℕ → Fault → Type 0
OpensNone format held name text fault =
    HoldsNoKey held name text fault
    ⊎ ((line : List ℕ) × (key : KeyParts) × Holds held text line × IsLineOf line key × IsKeyFault name (HasNoForm format key) fault)

-- the file that wraps a key: of the wrapping key, or of the password
abbrev pub file_under : Under → Option (List ℕ)
file_under Unsaid = None
file_under (UnderKey path) = Some path.now
file_under (Password path) = Some path.now
