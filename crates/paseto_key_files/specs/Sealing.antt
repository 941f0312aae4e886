-- Keys that are sealed to a public key.
use Rattle.std.specs.Prelude.{◌≡◌, ◌≢◌, ◌⊎◌, ℕ, List}
use Rattle.paseto_wrapping.specs.declared.error.WrapError.{WrapError}
use Rattle.paseto_wrapping.specs.Family.{family_of}
use Rattle.paseto_wrapping.specs.Sealing.{IsSealFault, IsSealed}
use Rattle.rusty_paseto_paserk.specs.declared.error.PaserkError.TheVariants.{NoKey, OtherType}
use Rattle.rusty_paseto_paserk.specs.declared.header.PaserkVersion.{PaserkVersion}
use Rattle.rusty_paseto_paserk.specs.declared.header.PaserkVersion.TheVariants.{V1}
use Rattle.rusty_paseto_paserk.specs.declared.header.PaserkType.{PaserkType}
use Rattle.rusty_paseto_paserk.specs.declared.header.PaserkType.TheVariants.{Local, Public}
use Rattle.rusty_paseto_paserk.specs.Header.{HasHeader, HasNoHeader}
use Rattle.paseto_key_files.specs.declared.error.KeyFileError.{KeyFileError}
use Rattle.paseto_key_files.specs.declared.error.KeyFileError.TheVariants.{NoSealing, Paserk, Wrap}
use Rattle.paseto_key_files.specs.Line.{IsLocalKey, IsLocalLine, IsPaserkFault, IsPublicKey, IsWritingOf}
use Rattle.paseto_key_files.specs.Password.{IsDrawFault}
use Rattle.paseto_key_files.specs.Wrapping.{IsOpenerFault}

-- the text is that of the line's key, sealed to the key of the public line, by an ephemeral key that was drawn
pub record IsSealedTo (version : PaserkVersion) (IsPublic : List ℕ → Type 0) (public : List ℕ) (IsDrawn : List ℕ → Type 0) (line text : List ℕ) : Type 0 where
  pub key : List ℕ
  pub is_line : IsLocalLine version key line
  pub point : List ℕ
  pub is_public : IsWritingOf version Public IsPublic point public
  pub ephemeral : List ℕ
  pub is_drawn : IsDrawn ephemeral
  pub sealed : IsSealed version point ephemeral key text

-- no key is sealed to this public key by what was drawn, for this reason
pub record IsNotSealed (version : PaserkVersion) (IsPublic : List ℕ → Type 0) (public : List ℕ) (IsDrawn : List ℕ → Type 0) (error : WrapError) : Type 0 where
  pub point : List ℕ
  pub is_public : IsWritingOf version Public IsPublic point public
  pub ephemeral : List ℕ
  pub is_drawn : IsDrawn ephemeral
  pub fault : IsSealFault (family_of version) point ephemeral error

abbrev pub SealsNoKey : PaserkVersion → (List ℕ → Type 0) → List ℕ → (List ℕ → Type 0) → KeyFileError → Type 0
SealsNoKey version IsPublic public IsDrawn (Wrap error) = IsNotSealed version IsPublic public IsDrawn error
SealsNoKey version IsPublic public IsDrawn _ = ⊥

-- in the versions 2, 3 and 4
abbrev pub SealsAs : PaserkVersion → List ℕ → (List ℕ → Type 0) → List ℕ → List ℕ → Type 0
SealsAs version = IsSealedTo version (IsPublicKey version)

-- memory was refused, the generator failed, one of the lines is no such key's, or no key is sealed to this public one
abbrev pub SealsNoneBy : PaserkVersion → (List ℕ → Type 0) → List ℕ → (List ℕ → Type 0) → Type 0 → List ℕ → KeyFileError → Type 0
SealsNoneBy version IsPublic public IsDrawn Failure line error =
    IsDrawFault Failure error
    ⊎ (IsPaserkFault version Local IsLocalKey line error
    ⊎ (IsOpenerFault version Public IsPublic public error ⊎ SealsNoKey version IsPublic public IsDrawn error))

abbrev pub SealsNoneAs : PaserkVersion → List ℕ → (List ℕ → Type 0) → Type 0 → List ℕ → KeyFileError → Type 0
SealsNoneAs V1 public IsDrawn Failure line error = error ≡ NoSealing
SealsNoneAs version public IsDrawn Failure line error = SealsNoneBy version (IsPublicKey version) public IsDrawn Failure line error

-- the text is that of a line, sealed
abbrev pub SealsLine : List ℕ → (List ℕ → Type 0) → List ℕ → List ℕ → Type 0
SealsLine public IsDrawn line text = (version : PaserkVersion) × SealsAs version public IsDrawn line text

-- why there is none; the line may also begin as that of no key, or of another type
abbrev pub SealsNone : List ℕ → (List ℕ → Type 0) → Type 0 → List ℕ → KeyFileError → Type 0
SealsNone public IsDrawn Failure line error =
    (HasNoHeader line × (error ≡ Paserk NoKey))
    ⊎ (((version : PaserkVersion) × (kind : PaserkType) × HasHeader version kind line × (kind ≢ Local) × (error ≡ Paserk (OtherType kind)))
    ⊎ ((version : PaserkVersion) × HasHeader version Local line × SealsNoneAs version public IsDrawn Failure line error))
