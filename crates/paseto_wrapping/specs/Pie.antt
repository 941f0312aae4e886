-- Keys under a wrapping key (PASERK specification, "PIE": types `local-wrap.pie` and `secret-wrap.pie`).
use Rattle.std.specs.Prelude.{◌≡◌, ℕ, ◌+◌, ◌<◌, ◌≤◌, List, ◌∷◌, ◌++◌, length, take, drop}
use Rattle.base64.specs.GeneralPurpose.{IsBytes}
use Rattle.rusty_paseto_primitives.specs.Hmac.{hmac}
use Rattle.rusty_paseto_primitives.specs.Blake2.Keyed.{blake2b}
use Rattle.rusty_paseto_paserk.specs.declared.header.PaserkVersion.{PaserkVersion}
use Rattle.paseto_wrapping.specs.declared.family.Family.{Family}
use Rattle.paseto_wrapping.specs.declared.family.Family.TheVariants.{Nist, Sodium}
use Rattle.paseto_wrapping.specs.declared.header.WrappedType.{WrappedType}
use Rattle.paseto_wrapping.specs.declared.error.WrapError.{WrapError}
use Rattle.paseto_wrapping.specs.declared.error.WrapError.TheVariants.{InvalidText, WrongKey}
use Rattle.paseto_wrapping.specs.Family.{encrypted, family_of, tag, tag_length}
use Rattle.paseto_wrapping.specs.Header.{header}
use Rattle.paseto_wrapping.specs.Text.{writing}

-- x, from which the encryption key Ek and the nonce n2 of the cipher are cut; wk is the wrapping key, and n the nonce
unfoldable pub x : Family → List ℕ → List ℕ → List ℕ
x Nist wk n = hmac wk (0x80 ∷ n)
x Sodium wk n = blake2b wk 56 (0x80 ∷ n)

-- the authentication key Ak
unfoldable pub ak : Family → List ℕ → List ℕ → List ℕ
ak Nist wk n = take 32 (hmac wk (0x81 ∷ n))
ak Sodium wk n = blake2b wk 32 (0x81 ∷ n)

-- c: the key ptk encrypted under Ek and n2
abbrev pub c : Family → List ℕ → List ℕ → List ℕ → List ℕ
c family wk n ptk = encrypted family (take 32 (x family wk n)) (drop 32 (x family wk n)) ptk

-- t: the tag under Ak of the header, the nonce and c
abbrev pub t : PaserkVersion → WrappedType → List ℕ → List ℕ → List ℕ → List ℕ
t version kind wk n c = tag (family_of version) (ak (family_of version) wk n) (header version kind ++ n ++ c)

-- t ++ n ++ c
unfoldable pub payload : PaserkVersion → WrappedType → List ℕ → List ℕ → List ℕ → List ℕ
payload version kind wk n ptk =
    let encrypted = c (family_of version) wk n ptk in
    t version kind wk n encrypted ++ n ++ encrypted

-- the text of a wrapped key
abbrev pub pie : PaserkVersion → WrappedType → List ℕ → List ℕ → List ℕ → List ℕ
pie version kind wk n ptk = writing version kind (payload version kind wk n ptk)

-- a nonce is 32 bytes
abbrev pub IsNonce : List ℕ → Type 0
IsNonce n = IsBytes n × (length n ≡ 32)

-- the payload wraps the key, under some nonce
abbrev pub IsPie : PaserkVersion → WrappedType → List ℕ → List ℕ → List ℕ → Type 0
IsPie version kind wk input ptk = (n : List ℕ) × IsNonce n × (input ≡ payload version kind wk n ptk)

-- how many bytes a payload has at least
abbrev pub shortest : PaserkVersion → ℕ
shortest version = tag_length (family_of version) + 32

-- why a payload is not unwrapped: it is cut off, or it wraps no bytes under this wrapping key
abbrev pub IsPieFault : PaserkVersion → WrappedType → List ℕ → List ℕ → WrapError → Type 0
IsPieFault version kind wk input InvalidText = length input < shortest version
IsPieFault version kind wk input WrongKey = (shortest version ≤ length input) × ((ptk : List ℕ) → ¬ IsPie version kind wk input ptk)
IsPieFault version kind wk input _ = ⊥
