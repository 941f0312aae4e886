-- What is locked is opened: the text of a key under a password or a wrapping key, or of a sealed key, is opened as the line
-- of this key. The contracts of opening answer whatever a text holds.
use Rattle.std.specs.Prelude.{◌≡◌, ◌⊎◌, ℕ, List, Some}
use denote.Ref.{Bor}
use Rattle.base64.specs.GeneralPurpose.{IsBytes}
use Rattle.paseto_p384.specs.P384.{IsPrivate, p384_public}
use Rattle.paseto_wrapping.specs.declared.cost.PasswordCost.{PasswordCost}
use Rattle.paseto_wrapping.specs.Family.{family_of}
use Rattle.paseto_wrapping.specs.Password.{IsWithin}
use Rattle.rusty_paseto_paserk.specs.declared.header.PaserkVersion.{PaserkVersion}
use Rattle.rusty_paseto_paserk.specs.declared.header.PaserkVersion.TheVariants.{V1, V3}
use Rattle.rusty_paseto_paserk.specs.declared.header.PaserkType.{PaserkType}
use Rattle.rusty_paseto_paserk.specs.declared.header.PaserkType.TheVariants.{Public}
use Rattle.rusty_paseto_paserk.specs.Text.{writing}
use Rattle.paseto_key_files.specs.declared.openers.Openers.{Openers}
use Rattle.paseto_key_files.specs.Line.{IsPrivateLine, private_line}
use Rattle.paseto_key_files.specs.Opening.{Unlocks, most}
use Rattle.paseto_key_files.specs.Password.{ProtectsAs}
use Rattle.paseto_key_files.specs.Sealing.{SealsAs}
use Rattle.paseto_key_files.specs.Wrapping.{WrapsAs}

-- the same line, or in version 1 the one that is written of the same private key
abbrev pub IsSameLine : List ℕ → List ℕ → Type 0
IsSameLine line again = (again ≡ line) ⊎ ((key : List ℕ) × IsPrivateLine V1 key line × (again ≡ private_line V1 key))

-- the text is opened as the line
abbrev pub OpensAgain : Openers → List ℕ → List ℕ → Type 0
OpensAgain openers line text = (again : List ℕ) × IsSameLine line again × Unlocks openers text again

-- the line is that of a private key of P-384, which is above 0 and below the order
abbrev pub IsPrivateOf384 : List ℕ → List ℕ → Type 0
IsPrivateOf384 private line = IsPrivate private × IsPrivateLine V3 private line

-- under a password, by any bytes that are drawn, where the cost is within the bound
abbrev pub ProtectedUnlock : Type 0
ProtectedUnlock = (version : PaserkVersion) (kind : PaserkType) (cost : PasswordCost) (openers : Openers) (password : Bor (List ℕ)) (line text : List ℕ)
    → openers.password ≡ Some password → IsWithin (family_of version) most cost
    → ProtectsAs version kind password.now cost IsBytes line text → OpensAgain openers line text

-- under a wrapping key, by any bytes that are drawn
abbrev pub WrappedUnlock : Type 0
WrappedUnlock = (version : PaserkVersion) (kind : PaserkType) (openers : Openers) (wrapping : Bor (List ℕ)) (line text : List ℕ)
    → openers.key ≡ Some wrapping → WrapsAs version kind wrapping.now IsBytes line text → OpensAgain openers line text

-- in version 3, sealed to the public key of a private key, by any bytes that are drawn
abbrev pub SealedUnlock : Type 0
SealedUnlock = (private : List ℕ) (openers : Openers) (opener : Bor (List ℕ)) (public line text : List ℕ)
    → openers.key ≡ Some opener → IsPrivateOf384 private opener.now → public ≡ writing V3 Public (p384_public private)
    → SealsAs V3 public IsBytes line text → OpensAgain openers line text
