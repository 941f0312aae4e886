-- Keys as C holds them: the numbers of a version and a type, a length, and bytes in room for the longest key.
use Rattle.std.specs.Prelude.{◌≡◌, ◌≤◌, ◌==◌, ◌&&◌, ◌++◌, not, ℕ, Bool, true, false, List, length, take, drop, replicate, nat_lt, Option, Some, None, if◌then◌else◌}
use Rattle.rusty_paseto_paserk.specs.declared.header.PaserkType.{PaserkType}
use Rattle.rusty_paseto_paserk.specs.declared.header.PaserkType.TheVariants.{Local, Secret, Public}
use Rattle.rusty_paseto_paserk.specs.declared.header.PaserkVersion.{PaserkVersion}
use Rattle.rusty_paseto_paserk.specs.declared.header.PaserkVersion.TheVariants.{V1, V2, V3, V4}
use Rattle.paseto_keys.specs.AnyKey.{KeyParts, is_key, key_parts, takes_assertion}
use Rattle.paseto_calls.specs.Arguments.{has_bytes}
use Rattle.paseto_calls.specs.declared.held_key.HeldKey.{HeldKey}
use Rattle.paseto_calls.specs.declared.refusal.Refusal.{Refusal}
use Rattle.paseto_calls.specs.declared.refusal.Refusal.TheVariants.{InvalidKey, InvalidNonce, NoAssertion, OtherType}
use Rattle.paseto_calls.specs.declared.wanted.Wanted.{Wanted}
use Rattle.paseto_calls.specs.declared.wanted.Wanted.TheVariants.{LocalKeys, SecretKeys, PublicKeys, Readers, Writers, Pairs, AllKeys}

-- ---- which key C gives

-- the number is that of a version, and of which one
abbrev pub is_version : ℕ → Bool
is_version n = if n == 1 then true else if n == 2 then true else if n == 3 then true else n == 4

abbrev pub version_by : ℕ → PaserkVersion
version_by n = if n == 1 then V1 else if n == 2 then V2 else if n == 3 then V3 else V4

-- the number is that of a type, and of which one
abbrev pub is_type : ℕ → Bool
is_type n = if n == 1 then true else if n == 2 then true else n == 3

abbrev pub type_by : ℕ → PaserkType
type_by n = if n == 1 then Local else if n == 2 then Secret else Public

-- the key that this is, where its numbers are those of a version and a type, its length is within the room, and its bytes may
-- be such a key
abbrev pub bytes_in : HeldKey → List ℕ
bytes_in key = take key.length key.bytes

abbrev pub named_by : HeldKey → KeyParts
named_by key = key_parts (type_by key.kind) (version_by key.version) (bytes_in key)

abbrev pub names_key : HeldKey → Bool
names_key key =
    is_version key.version
    && (is_type key.kind && (nat_lt key.length 1245 && is_key (type_by key.kind) (version_by key.version) (bytes_in key)))

-- ---- which key C gets

-- the numbers of a version and of a type
abbrev pub version_number : PaserkVersion → ℕ
version_number V1 = 1
version_number V2 = 2
version_number V3 = 3
version_number V4 = 4

abbrev pub type_number : PaserkType → ℕ
type_number Local = 1
type_number Secret = 2
type_number Public = 3

-- what is held of a key: zeros stand behind its bytes
pub record IsHeld (key : KeyParts) (held : HeldKey) : Type 0 where
  pub version_is : held.version ≡ version_number key.version
  pub kind_is : held.kind ≡ type_number key.kind
  pub length_is : held.length ≡ length key.bytes
  pub bytes_are : held.bytes ≡ key.bytes ++ drop (length key.bytes) (replicate 1244 0)

-- there is room for the key
abbrev pub Fits : KeyParts → Type 0
Fits key = length key.bytes ≤ 1244

-- ---- why a key is not used

-- the types of keys that a call takes
abbrev pub is_wanted : Wanted → PaserkType → Bool
is_wanted LocalKeys Local = true
is_wanted SecretKeys Secret = true
is_wanted PublicKeys Public = true
is_wanted Readers Local = true
is_wanted Readers Public = true
is_wanted Writers Local = true
is_wanted Writers Secret = true
is_wanted Pairs Secret = true
is_wanted Pairs Public = true
is_wanted AllKeys _ = true
is_wanted _ _ = false

-- the first of two reasons, where there is one
abbrev pub first_of : Option Refusal → Option Refusal → Option Refusal
first_of (Some refusal) other = Some refusal
first_of None other = other

-- the type is another one than the call takes, whatever else the key is; else it is no key
abbrev pub key_fault : Wanted → HeldKey → Option Refusal
key_fault wanted key =
    if is_type key.kind && not (is_wanted wanted (type_by key.kind)) then Some OtherType else
    if names_key key then None else Some InvalidKey

-- an assertion is given, and the version has none
abbrev pub assertion_fault : PaserkVersion → List ℕ → Option Refusal
assertion_fault version assertion = if has_bytes assertion && not (takes_assertion version) then Some NoAssertion else None

-- the key is not used with an assertion
abbrev pub bound_fault : Wanted → HeldKey → List ℕ → Option Refusal
bound_fault wanted key assertion = first_of (key_fault wanted key) (assertion_fault (version_by key.version) assertion)

-- fewer random bytes are given than are taken
abbrev pub drawn_fault : ℕ → List ℕ → Option Refusal
drawn_fault count drawn = if nat_lt (length drawn) count then Some InvalidNonce else None
