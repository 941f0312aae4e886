-- The text of a key file, opened.
use Rattle.std.specs.Prelude.{◌≡◌, ◌⊎◌, ⊤, ℕ, List, IsSomeAnd, MatchOption}
use Rattle.paseto_wrapping.specs.declared.cost.PasswordCost.{PasswordCost}
use Rattle.paseto_wrapping.specs.declared.header.WrappedType.{WrappedType}
use Rattle.paseto_wrapping.specs.declared.header.WrappedType.TheVariants.{LocalWrap, SecretWrap, LocalPassword, SecretPassword, Seal}
use Rattle.paseto_wrapping.specs.Family.{family_of}
use Rattle.paseto_wrapping.specs.Header.{HasHeader, HasNoHeader}
use Rattle.paseto_wrapping.specs.Keys.{IsWrappedForm}
use Rattle.paseto_wrapping.specs.Password.{IsPasswordFault, IsProtected}
use Rattle.paseto_wrapping.specs.Pie.{IsPie, IsPieFault}
use Rattle.paseto_wrapping.specs.Reading.{Faults, InText, KeyFaults, TextFaults, Wraps, WrapsForm}
use Rattle.paseto_wrapping.specs.Sealing.{IsOpenFault, SealsFor}
use Rattle.rusty_paseto_paserk.specs.declared.header.PaserkVersion.{PaserkVersion}
use Rattle.rusty_paseto_paserk.specs.declared.header.PaserkVersion.TheVariants.{V1}
use Rattle.rusty_paseto_paserk.specs.declared.header.PaserkType.{PaserkType}
use Rattle.rusty_paseto_paserk.specs.declared.header.PaserkType.TheVariants.{Local, Secret}
use Rattle.rusty_paseto_paserk.specs.Text.{IsKeyFault, writing}
use Rattle.paseto_key_files.specs.declared.error.KeyFileError.{KeyFileError}
use Rattle.paseto_key_files.specs.declared.error.KeyFileError.TheVariants.{Memory, NeedsKey, NeedsPassword, NoSealing, OtherOpener, Wrap}
use Rattle.paseto_key_files.specs.declared.openers.Openers.{Openers}
use Rattle.paseto_key_files.specs.Error.{IsMemory}
use Rattle.paseto_key_files.specs.Held.{HoldsKey, HoldsNoKey}
use Rattle.paseto_pem.specs.Text.{HoldsPem}
use Rattle.paseto_key_files.specs.Line.{IsLocalKey, IsPrivateKey, IsSomeForm, IsWritingOf, private_line, without_line_end}
use Rattle.paseto_key_files.specs.Pem.{PemLine, PemLineFault}

-- the bound of what a text may ask for, `PasswordCost::most()`
abbrev pub most : PasswordCost
most = record { iterations = 10000000; memory = 1073741824; passes = 32; lanes = 16 }

-- the text wraps octets that are a form of a private key
abbrev pub InForm : PaserkVersion → Wraps → Wraps
InForm version = WrapsForm (IsWrappedForm version)

-- octets are a form of some private key
abbrev pub IsInForm : PaserkVersion → List ℕ → Type 0
IsInForm version = IsSomeForm (IsWrappedForm version)

-- ---- keys under a password

abbrev pub UnderPassword : PaserkVersion → WrappedType → List ℕ → Wraps
UnderPassword version kind password = InText version kind (IsProtected version kind password most)

abbrev pub PasswordFaults : PaserkVersion → WrappedType → List ℕ → Faults
PasswordFaults version kind password = TextFaults version kind (IsPasswordFault version kind password most)

-- ---- keys that another key opens

-- the text wraps a key for whoever has the key of the opener's line
abbrev pub ByKey : PaserkVersion → PaserkType → (List ℕ → Type 0) → (List ℕ → Wraps) → List ℕ → Wraps
ByKey version kind IsOpener IsWrapped opener text key =
    (own : List ℕ) × IsWritingOf version kind IsOpener own opener × IsWrapped own text key

-- why it is not opened: the opener's line is that of no such key, or with that key nothing is unwrapped that is wanted
abbrev pub ByNoKey : PaserkVersion → PaserkType → (List ℕ → Type 0) → (List ℕ → Type 0) → (List ℕ → Wraps) → (List ℕ → Faults)
    → List ℕ → List ℕ → KeyFileError → Type 0
ByNoKey version kind IsOpener IsWanted IsWrapped IsFault opener text (OtherOpener error) = IsKeyFault version kind IsOpener opener error
ByNoKey version kind IsOpener IsWanted IsWrapped IsFault opener text (Wrap error) =
    (own : List ℕ) × IsWritingOf version kind IsOpener own opener × KeyFaults IsWanted (IsWrapped own) (IsFault own) text error
ByNoKey version kind IsOpener IsWanted IsWrapped IsFault opener text (Memory _) = ⊤
ByNoKey version kind IsOpener IsWanted IsWrapped IsFault opener text _ = ⊥

-- under a wrapping key
abbrev pub Pies : PaserkVersion → WrappedType → List ℕ → Wraps
Pies version kind wk = InText version kind (IsPie version kind wk)

abbrev pub PieFaults : PaserkVersion → WrappedType → List ℕ → Faults
PieFaults version kind wk = TextFaults version kind (IsPieFault version kind wk)

-- sealed to a public key
abbrev pub Seals : PaserkVersion → List ℕ → Wraps
Seals version private = InText version Seal (SealsFor (family_of version) version private)

abbrev pub SealFaults : PaserkVersion → List ℕ → Faults
SealFaults version private = TextFaults version Seal (IsOpenFault (family_of version) version private)

-- a sealed key, which in version 1 is not opened
abbrev pub Unseals : PaserkVersion → Openers → List ℕ → List ℕ → Type 0
Unseals V1 openers text line = ⊥
Unseals version openers text line = IsSomeAnd openers.key (λ opener.
    HoldsKey IsLocalKey (writing version Local) (ByKey version Secret (IsPrivateKey version) (Seals version) opener.now) text line)

abbrev pub UnsealsNone : PaserkVersion → Openers → List ℕ → KeyFileError → Type 0
UnsealsNone V1 openers text error = error ≡ NoSealing
UnsealsNone version openers text error = MatchOption openers.key (error ≡ NeedsKey) (λ opener.
    ByNoKey version Secret (IsPrivateKey version) IsLocalKey (Seals version) (SealFaults version) opener.now text error)

-- ---- keys of any type

-- the line of the key that a text of this version and type holds
abbrev pub OpensAs : PaserkVersion → WrappedType → Openers → List ℕ → List ℕ → Type 0
OpensAs version LocalPassword openers text line = IsSomeAnd openers.password (λ password.
    HoldsKey IsLocalKey (writing version Local) (UnderPassword version LocalPassword password.now) text line)
OpensAs version SecretPassword openers text line = IsSomeAnd openers.password (λ password.
    HoldsKey (IsPrivateKey version) (private_line version) (InForm version (UnderPassword version SecretPassword password.now)) text line)
OpensAs version LocalWrap openers text line = IsSomeAnd openers.key (λ opener.
    HoldsKey IsLocalKey (writing version Local) (ByKey version Local IsLocalKey (Pies version LocalWrap) opener.now) text line)
OpensAs version SecretWrap openers text line = IsSomeAnd openers.key (λ opener.
    HoldsKey (IsPrivateKey version) (private_line version)
    (ByKey version Local IsLocalKey (λ wk. InForm version (Pies version SecretWrap wk)) opener.now) text line)
OpensAs version Seal openers text line = Unseals version openers text line

-- why there is none: what opens it is lacking, or opens nothing
abbrev pub OpensAsNone : PaserkVersion → WrappedType → Openers → List ℕ → KeyFileError → Type 0
OpensAsNone version LocalPassword openers text error = MatchOption openers.password (error ≡ NeedsPassword) (λ password.
    HoldsNoKey IsLocalKey (UnderPassword version LocalPassword password.now) (PasswordFaults version LocalPassword password.now) text error)
OpensAsNone version SecretPassword openers text error = MatchOption openers.password (error ≡ NeedsPassword) (λ password.
    HoldsNoKey (IsInForm version) (UnderPassword version SecretPassword password.now) (PasswordFaults version SecretPassword password.now) text error)
OpensAsNone version LocalWrap openers text error = MatchOption openers.key (error ≡ NeedsKey) (λ opener.
    ByNoKey version Local IsLocalKey IsLocalKey (Pies version LocalWrap) (PieFaults version LocalWrap) opener.now text error)
OpensAsNone version SecretWrap openers text error = MatchOption openers.key (error ≡ NeedsKey) (λ opener.
    ByNoKey version Local IsLocalKey (IsInForm version) (Pies version SecretWrap) (PieFaults version SecretWrap) opener.now text error)
OpensAsNone version Seal openers text error = UnsealsNone version openers text error

-- ---- lines

-- a line that begins as a locked key is opened, and any other one is a key's already
abbrev pub OpensLine : Openers → List ℕ → List ℕ → Type 0
OpensLine openers text line =
    ((version : PaserkVersion) × (kind : WrappedType) × HasHeader version kind text × OpensAs version kind openers text line)
    ⊎ (HasNoHeader text × (line ≡ text))

abbrev pub OpensNoLine : Openers → List ℕ → KeyFileError → Type 0
OpensNoLine openers text error =
    IsMemory error
    ⊎ ((version : PaserkVersion) × (kind : WrappedType) × HasHeader version kind text × OpensAsNone version kind openers text error)

-- ---- texts

-- the line of the key that the text of a key file holds
abbrev pub Unlocks : Openers → List ℕ → List ℕ → Type 0
Unlocks openers text line =
    (HoldsPem text × PemLine text line) ⊎ ((¬ HoldsPem text) × OpensLine openers (without_line_end text) line)

-- why there is none
abbrev pub UnlocksNone : Openers → List ℕ → KeyFileError → Type 0
UnlocksNone openers text error =
    (HoldsPem text × PemLineFault text error) ⊎ ((¬ HoldsPem text) × OpensNoLine openers (without_line_end text) error)
