-- Keys that are put under a password.
use Rattle.std.specs.Prelude.{◌≡◌, ◌⊎◌, ℕ, List, ◌++◌}
use Rattle.paseto_wrapping.specs.declared.cost.PasswordCost.{PasswordCost}
use Rattle.paseto_wrapping.specs.declared.error.WrapError.TheVariants.{InvalidCost, LongPassword}
use Rattle.paseto_wrapping.specs.declared.header.WrappedType.{WrappedType}
use Rattle.paseto_wrapping.specs.declared.header.WrappedType.TheVariants.{LocalPassword, SecretPassword}
use Rattle.paseto_wrapping.specs.Family.{family_of}
use Rattle.paseto_wrapping.specs.Keys.{wrapped_form}
use Rattle.paseto_wrapping.specs.Password.{AreDrawn, IsAllowed, IsShort, protected}
use Rattle.rusty_paseto_paserk.specs.Header.{HasHeader}
use Rattle.rusty_paseto_paserk.specs.declared.header.PaserkVersion.{PaserkVersion}
use Rattle.rusty_paseto_paserk.specs.declared.header.PaserkType.{PaserkType}
use Rattle.rusty_paseto_paserk.specs.declared.header.PaserkType.TheVariants.{Local, Secret, Public}
use Rattle.paseto_key_files.specs.declared.error.KeyFileError.{KeyFileError}
use Rattle.paseto_key_files.specs.declared.error.KeyFileError.TheVariants.{Random, Wrap}
use Rattle.paseto_key_files.specs.Error.{IsMemory}
use Rattle.paseto_key_files.specs.Line.{IsBeginFault, IsLineFault, IsLocalLine, IsPrivateLine}

-- the text is that of a form of the line's key under the password, by a salt and a nonce that were drawn
pub record IsUnderPassword (version : PaserkVersion) (kind : WrappedType) (IsLine : List ℕ → List ℕ → Type 0) (form_of : List ℕ → List ℕ)
    (password : List ℕ) (cost : PasswordCost) (IsDrawn : List ℕ → Type 0) (line text : List ℕ) : Type 0 where
  pub key : List ℕ
  pub is_line : IsLine key line
  pub salt : List ℕ
  pub nonce : List ℕ
  pub lengths : AreDrawn (family_of version) salt nonce
  pub is_drawn : IsDrawn (salt ++ nonce)
  pub short : IsShort password
  pub allowed : IsAllowed (family_of version) cost
  pub text_is : text ≡ protected version kind password cost salt nonce (form_of key)

-- the same by the type of the key
abbrev pub ProtectsAs : PaserkVersion → PaserkType → List ℕ → PasswordCost → (List ℕ → Type 0) → List ℕ → List ℕ → Type 0
ProtectsAs version Local password cost IsDrawn line text =
    IsUnderPassword version LocalPassword (IsLocalLine version) (λ key. key) password cost IsDrawn line text
ProtectsAs version Secret password cost IsDrawn line text =
    IsUnderPassword version SecretPassword (IsPrivateLine version) (wrapped_form version) password cost IsDrawn line text
ProtectsAs version Public password cost IsDrawn line text = ⊥

-- the text is that of a line under a password
abbrev pub Protects : List ℕ → PasswordCost → (List ℕ → Type 0) → List ℕ → List ℕ → Type 0
Protects password cost IsDrawn line text =
    (version : PaserkVersion) × (kind : PaserkType) × ProtectsAs version kind password cost IsDrawn line text

-- ---- why there is none

-- the password is too long, or its function does not allow the cost
abbrev pub IsCostFault : PaserkVersion → List ℕ → PasswordCost → KeyFileError → Type 0
IsCostFault version password cost (Wrap LongPassword) = ¬ IsShort password
IsCostFault version password cost (Wrap InvalidCost) = IsShort password × ¬ IsAllowed (family_of version) cost
IsCostFault version password cost _ = ⊥

-- memory was refused, or the generator failed
abbrev pub IsDrawFault : Type 0 → KeyFileError → Type 0
IsDrawFault Failure error = IsMemory error ⊎ ((error ≡ Random) × Failure)

-- memory was refused, the generator failed, the line is no such key's, or the password or the cost is none that is taken
abbrev pub ProtectsNoneAs : PaserkVersion → PaserkType → List ℕ → PasswordCost → Type 0 → List ℕ → KeyFileError → Type 0
ProtectsNoneAs version kind password cost Failure line error =
    IsDrawFault Failure error ⊎ (IsLineFault version kind line error ⊎ IsCostFault version password cost error)

-- the same, or the line begins as that of no key
abbrev pub ProtectsNone : List ℕ → PasswordCost → Type 0 → List ℕ → KeyFileError → Type 0
ProtectsNone password cost Failure line error =
    IsBeginFault line error
    ⊎ ((version : PaserkVersion) × (kind : PaserkType) × HasHeader version kind line
    × ProtectsNoneAs version kind password cost Failure line error)
