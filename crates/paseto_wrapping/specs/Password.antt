-- Keys under a password (PASERK specification, "PBKW": types `local-pw` and `secret-pw`).
use Rattle.std.specs.Prelude.{◌≡◌, ⊤, ℕ, ◌+◌, ◌*◌, ◌/◌, ◌%◌, ◌^◌, ◌<◌, ◌≤◌, List, [], ◌∷◌, ◌++◌, length, take}
use Rattle.std.specs.Int.{w32, w64, to_be_bytes}
use Rattle.base64.specs.GeneralPurpose.{IsBytes}
use Rattle.sha2.specs.Sha512.{sha384}
use Rattle.rusty_paseto_primitives.specs.Blake2.Keyed.{blake2b}
use Rattle.rusty_paseto_primitives.specs.Pbkdf2.{derived_key}
use Rattle.paseto_argon2.specs.Derivation.{argon2id}
use Rattle.rusty_paseto_paserk.specs.declared.header.PaserkVersion.{PaserkVersion}
use Rattle.paseto_wrapping.specs.declared.family.Family.{Family}
use Rattle.paseto_wrapping.specs.declared.family.Family.TheVariants.{Nist, Sodium}
use Rattle.paseto_wrapping.specs.declared.header.WrappedType.{WrappedType}
use Rattle.paseto_wrapping.specs.declared.cost.PasswordCost.{PasswordCost}
use Rattle.paseto_wrapping.specs.declared.error.WrapError.{WrapError}
use Rattle.paseto_wrapping.specs.declared.error.WrapError.TheVariants.{InvalidNonce, InvalidText, LongPassword, InvalidCost, TooCostly, WrongKey, Memory}
use Rattle.paseto_wrapping.specs.Family.{encrypted, family_of, nonce_length, tag, tag_length}
use Rattle.paseto_wrapping.specs.Header.{header}
use Rattle.paseto_wrapping.specs.Text.{writing}

-- ---- the cost

-- the cost as it stands in a text: the iterations i, or the memory m in bytes, the passes o and the lanes p
unfoldable pub cost_bytes : Family → PasswordCost → List ℕ
cost_bytes Nist cost = to_be_bytes w32 cost.iterations
cost_bytes Sodium cost = to_be_bytes w64 cost.memory ++ to_be_bytes w32 cost.passes ++ to_be_bytes w32 cost.lanes

-- how many bytes these are
abbrev pub cost_length : Family → ℕ
cost_length Nist = 4
cost_length Sodium = 16

-- what PBKDF2 and Argon2id allow: an iteration; a lane and a pass, and whole KiB of memory, at least 8 for each lane
abbrev pub IsAllowed : Family → PasswordCost → Type 0
IsAllowed Nist cost = (1 ≤ cost.iterations) × (cost.iterations < 2 ^ 32)
IsAllowed Sodium cost =
    (1 ≤ cost.lanes) × (cost.lanes < 2 ^ 24) × (1 ≤ cost.passes) × (cost.passes < 2 ^ 32)
    × (cost.memory % 1024 ≡ 0) × (8 * cost.lanes ≤ cost.memory / 1024) × (cost.memory / 1024 < 2 ^ 32)

-- a cost is within a bound
abbrev pub IsWithin : Family → PasswordCost → PasswordCost → Type 0
IsWithin Nist most cost = cost.iterations ≤ most.iterations
IsWithin Sodium most cost = (cost.memory ≤ most.memory) × (cost.passes ≤ most.passes) × (cost.lanes ≤ most.lanes)

-- two costs are alike, as far as the family uses them
abbrev pub AreAlike : Family → PasswordCost → PasswordCost → Type 0
AreAlike Nist a b = a.iterations ≡ b.iterations
AreAlike Sodium a b = (a.memory ≡ b.memory) × (a.passes ≡ b.passes) × (a.lanes ≡ b.lanes)

-- ---- the keys

-- how many bytes the salt s has
abbrev pub salt_length : Family → ℕ
salt_length Nist = 32
salt_length Sodium = 16

-- k: 32 bytes by PBKDF2 with HMAC-SHA384, or by Argon2id
unfoldable pub k : Family → List ℕ → List ℕ → PasswordCost → List ℕ
k Nist password s cost = derived_key password s cost.iterations 32
k Sodium password s cost =
    argon2id password s [] [] (record { memory = cost.memory / 1024; passes = cost.passes; lanes = cost.lanes }) 32

-- the encryption key Ek
unfoldable pub ek : Family → List ℕ → List ℕ
ek Nist key = take 32 (sha384 (0xff ∷ key))
ek Sodium key = blake2b [] 32 (0xff ∷ key)

-- the authentication key Ak
unfoldable pub ak : Family → List ℕ → List ℕ
ak Nist key = sha384 (0xfe ∷ key)
ak Sodium key = blake2b [] 32 (0xfe ∷ key)

-- ---- the text

-- s ++ cost ++ n ++ c, where c is the key ptk encrypted under Ek and the nonce n
abbrev pub untagged : Family → List ℕ → PasswordCost → List ℕ → List ℕ → List ℕ → List ℕ
untagged family s cost n key ptk = s ++ cost_bytes family cost ++ n ++ encrypted family (ek family key) n ptk

-- t: the tag under Ak of the header and what it is behind
abbrev pub t : PaserkVersion → WrappedType → List ℕ → List ℕ → List ℕ
t version kind key front = tag (family_of version) (ak (family_of version) key) (header version kind ++ front)

-- s ++ cost ++ n ++ c ++ t
unfoldable pub payload : PaserkVersion → WrappedType → List ℕ → PasswordCost → List ℕ → List ℕ → List ℕ → List ℕ
payload version kind password cost s n ptk =
    let key = k (family_of version) password s cost in
    let front = untagged (family_of version) s cost n key ptk in
    front ++ t version kind key front

-- the text of a key under a password
abbrev pub protected : PaserkVersion → WrappedType → List ℕ → PasswordCost → List ℕ → List ℕ → List ℕ → List ℕ
protected version kind password cost s n ptk = writing version kind (payload version kind password cost s n ptk)

-- ---- reading

-- the payload is a salt, a cost, a nonce, a ciphertext and a tag of their lengths
pub record AreParts (family : Family) (input s told n c t : List ℕ) : Type 0 where
  pub salt : length s ≡ salt_length family
  pub cost : length told ≡ cost_length family
  pub nonce : length n ≡ nonce_length family
  pub tag : length t ≡ tag_length family
  pub joined : input ≡ s ++ told ++ n ++ c ++ t

-- the payload tells this cost
pub record TellsCost (family : Family) (input : List ℕ) (cost : PasswordCost) : Type 0 where
  pub s : List ℕ
  pub n : List ℕ
  pub c : List ℕ
  pub t : List ℕ
  pub parts : AreParts family input s (cost_bytes family cost) n c t

-- a cost is allowed, and within the bound
abbrev pub IsGranted : Family → PasswordCost → PasswordCost → Type 0
IsGranted family most cost = IsAllowed family cost × IsWithin family most cost

-- a password is shorter than 4 GiB
abbrev pub IsShort : List ℕ → Type 0
IsShort password = length password < 2 ^ 32

-- the payload holds the key under the password, by a cost that is granted, under some salt and nonce
pub record IsProtected (version : PaserkVersion) (kind : WrappedType) (password : List ℕ) (most : PasswordCost) (input ptk : List ℕ) : Type 0 where
  pub short : IsShort password
  pub cost : PasswordCost
  pub granted : IsGranted (family_of version) most cost
  pub s : List ℕ
  pub n : List ℕ
  pub salt : IsBytes s × (length s ≡ salt_length (family_of version))
  pub nonce : IsBytes n × (length n ≡ nonce_length (family_of version))
  pub made : input ≡ payload version kind password cost s n ptk

-- how many bytes a payload has at least
abbrev pub shortest : Family → ℕ
shortest family = salt_length family + cost_length family + nonce_length family + tag_length family

-- why a payload is not unwrapped: it is cut off, the password is too long, it tells no cost that is allowed, or one beyond
-- the bound, or by the cost that it tells it holds no bytes under the password
abbrev pub IsPasswordFault : PaserkVersion → WrappedType → List ℕ → PasswordCost → List ℕ → WrapError → Type 0
IsPasswordFault version kind password most input InvalidText = length input < shortest (family_of version)
IsPasswordFault version kind password most input LongPassword =
    (shortest (family_of version) ≤ length input) × ¬ IsShort password
IsPasswordFault version kind password most input InvalidCost =
    (shortest (family_of version) ≤ length input) × IsShort password
    × ((cost : PasswordCost) → IsAllowed (family_of version) cost → ¬ TellsCost (family_of version) input cost)
IsPasswordFault version kind password most input TooCostly =
    IsShort password × (cost : PasswordCost) × TellsCost (family_of version) input cost
    × IsAllowed (family_of version) cost × ¬ IsWithin (family_of version) most cost
IsPasswordFault version kind password most input WrongKey =
    IsShort password × ((cost : PasswordCost) × TellsCost (family_of version) input cost × IsGranted (family_of version) most cost)
    × ((ptk : List ℕ) → ¬ IsProtected version kind password most input ptk)
IsPasswordFault version kind password most input _ = ⊥

-- ---- writing

-- a salt and a nonce have their lengths
abbrev pub AreDrawn : Family → List ℕ → List ℕ → Type 0
AreDrawn family s n = (length s ≡ salt_length family) × (length n ≡ nonce_length family)

-- why a key is not put under a password: the salt or the nonce has another length, the password is too long, or its function
-- does not allow the cost
abbrev pub IsWritingFault : Family → List ℕ → List ℕ → List ℕ → PasswordCost → WrapError → Type 0
IsWritingFault family s n password cost InvalidNonce = ¬ AreDrawn family s n
IsWritingFault family s n password cost LongPassword = AreDrawn family s n × ¬ IsShort password
IsWritingFault family s n password cost InvalidCost = AreDrawn family s n × IsShort password × ¬ IsAllowed family cost
IsWritingFault family s n password cost (Memory _) = ⊤
IsWritingFault family s n password cost _ = ⊥
