-- Keys that are put under a wrapping key.
use Rattle.std.specs.Prelude.{◌≡◌, ◌⊎◌, ⊤, ℕ, List, length}
use Rattle.paseto_wrapping.specs.declared.header.WrappedType.{WrappedType}
use Rattle.paseto_wrapping.specs.declared.header.WrappedType.TheVariants.{LocalWrap, SecretWrap}
use Rattle.paseto_wrapping.specs.Keys.{wrapped_form}
use Rattle.paseto_wrapping.specs.Pie.{pie}
use Rattle.rusty_paseto_paserk.specs.Header.{HasHeader}
use Rattle.rusty_paseto_paserk.specs.declared.header.PaserkVersion.{PaserkVersion}
use Rattle.rusty_paseto_paserk.specs.declared.header.PaserkType.{PaserkType}
use Rattle.rusty_paseto_paserk.specs.declared.header.PaserkType.TheVariants.{Local, Secret, Public}
use Rattle.rusty_paseto_paserk.specs.Text.{IsKeyFault}
use Rattle.paseto_key_files.specs.declared.error.KeyFileError.{KeyFileError}
use Rattle.paseto_key_files.specs.declared.error.KeyFileError.TheVariants.{Memory, OtherOpener}
use Rattle.paseto_key_files.specs.Line.{IsBeginFault, IsLineFault, IsLocalKey, IsLocalLine, IsPrivateLine}
use Rattle.paseto_key_files.specs.Password.{IsDrawFault}

-- the text is that of a form of the line's key under the key of the wrapping line, by a nonce that was drawn
pub record IsUnderKey (version : PaserkVersion) (kind : WrappedType) (IsLine : List ℕ → List ℕ → Type 0) (form_of : List ℕ → List ℕ)
    (wrapping : List ℕ) (IsDrawn : List ℕ → Type 0) (line text : List ℕ) : Type 0 where
  pub key : List ℕ
  pub is_line : IsLine key line
  pub wk : List ℕ
  pub is_wrapping : IsLocalLine version wk wrapping
  pub nonce : List ℕ
  pub size : length nonce ≡ 32
  pub is_drawn : IsDrawn nonce
  pub text_is : text ≡ pie version kind wk nonce (form_of key)

-- the same by the type of the key
abbrev pub WrapsAs : PaserkVersion → PaserkType → List ℕ → (List ℕ → Type 0) → List ℕ → List ℕ → Type 0
WrapsAs version Local wrapping IsDrawn line text = IsUnderKey version LocalWrap (IsLocalLine version) (λ key. key) wrapping IsDrawn line text
WrapsAs version Secret wrapping IsDrawn line text = IsUnderKey version SecretWrap (IsPrivateLine version) (wrapped_form version) wrapping IsDrawn line text
WrapsAs version Public wrapping IsDrawn line text = ⊥

-- the text is that of a line under a wrapping key
abbrev pub WrapsLine : List ℕ → (List ℕ → Type 0) → List ℕ → List ℕ → Type 0
WrapsLine wrapping IsDrawn line text =
    (version : PaserkVersion) × (kind : PaserkType) × WrapsAs version kind wrapping IsDrawn line text

-- ---- why there is none

-- the other line is that of no such key
abbrev pub IsOpenerFault : PaserkVersion → PaserkType → (List ℕ → Type 0) → List ℕ → KeyFileError → Type 0
IsOpenerFault version kind IsKey opener (OtherOpener error) = IsKeyFault version kind IsKey opener error
IsOpenerFault version kind IsKey opener (Memory _) = ⊤
IsOpenerFault version kind IsKey opener _ = ⊥

-- memory was refused, the generator failed, or one of the lines is no such key's
abbrev pub WrapsNoneAs : PaserkVersion → PaserkType → List ℕ → Type 0 → List ℕ → KeyFileError → Type 0
WrapsNoneAs version kind wrapping Failure line error =
    IsDrawFault Failure error ⊎ (IsLineFault version kind line error ⊎ IsOpenerFault version Local IsLocalKey wrapping error)

-- the same, or the line begins as that of no key
abbrev pub WrapsNone : List ℕ → Type 0 → List ℕ → KeyFileError → Type 0
WrapsNone wrapping Failure line error =
    IsBeginFault line error
    ⊎ ((version : PaserkVersion) × (kind : PaserkType) × HasHeader version kind line × WrapsNoneAs version kind wrapping Failure line error)
