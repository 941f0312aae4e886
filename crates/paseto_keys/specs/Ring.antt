-- Rings of keys of any version and type, each under its id, and what they answer for a token, whose footer names the key.
use Rattle.std.specs.Prelude.{◌≡◌, ⊤, ℕ, true, false, List, [], ◌∷◌, length, if◌then◌else◌, Option, Some, None, is_some, codes, nat_eq, Result, Ok, Err, String}
use Rattle.std.specs.Cmp.Lexicographic.{pointwise}
use Rattle.std.specs.Global.{Global}
use Rattle.std.specs.List.{slice_get}
use Rattle.serde_json.specs.declared.value.Value.{Value}
use Rattle.rusty_paseto_parts.specs.Limit.{is_beyond}
use Rattle.rusty_paseto_parts.specs.Section.{HasCount, sections}
use Rattle.rusty_paseto_parts.specs.declared.error.PasetoError.TheVariants.{IncorrectSize, WrongHeader, TooLong}
use Rattle.rusty_paseto_parts.specs.declared.texts.footer.Footer.{Footer}
use Rattle.rusty_paseto_parts.specs.declared.texts.implicit_assertion.ImplicitAssertion.{ImplicitAssertion}
use Rattle.rusty_paseto_core.specs.Context.{assertion_of}
use Rattle.rusty_paseto_generic.specs.Parsers.Rules.{Rules}
use Rattle.rusty_paseto_generic.specs.Validator.{Verdict}
use Rattle.rusty_paseto.specs.KeyRing.{IsParsingAnswer, Keys, Readings, read_under, with_key}
use Rattle.rusty_paseto.specs.declared.error.KeyRingError.TheVariants.{Untrusted}
use Rattle.rusty_paseto.specs.declared.error.KeyRingParserError.{KeyRingParserError}
use Rattle.rusty_paseto.specs.declared.error.KeyRingParserError.TheVariants.{Ring as OfRing, Parser as OfParser, Memory as OfMemory}
use Rattle.paseto_rsa.specs.Forms.{IsPublic, is_public}
use Rattle.rusty_paseto_paserk.specs.Id.{id_of}
use Rattle.rusty_paseto_paserk.specs.Rsa.{public_id}
use Rattle.rusty_paseto_paserk.specs.declared.header.PaserkType.{PaserkType}
use Rattle.rusty_paseto_paserk.specs.declared.header.PaserkType.TheVariants.{Local, Public}
use Rattle.rusty_paseto_paserk.specs.declared.header.PaserkVersion.{PaserkVersion}
use Rattle.rusty_paseto_paserk.specs.declared.header.PaserkVersion.TheVariants.{V1, V2, V3, V4}
use Rattle.paseto_keys.specs.AnyKey.{binding, parts_of, reads_tokens, takes_assertion}
use Rattle.paseto_keys.specs.Reading.{reading_of}
use Rattle.paseto_keys.specs.declared.any_key.AnyKey.{AnyKey}
use Rattle.paseto_keys.specs.declared.any_key.AnyKey.TheVariants.{V1Local, V2Local, V3Local, V4Local, V1Public, V2Public, V3Public, V4Public}
use Rattle.paseto_keys.specs.declared.ring_error.RingError.{RingError}
use Rattle.paseto_keys.specs.declared.ring_error.RingError.TheVariants.{NoAssertion, Ring, Parser, Memory}

-- ---- the keys

-- the bytes of a key that reads tokens of this type and this version; in version 1 those of a public key are an RSA key
abbrev pub bytes_for : PaserkType → PaserkVersion → AnyKey → Option (List ℕ)
bytes_for Local V1 (V1Local key) = Some key
bytes_for Local V2 (V2Local key) = Some key
bytes_for Local V3 (V3Local key) = Some key
bytes_for Local V4 (V4Local key) = Some key
bytes_for Public V1 (V1Public key) = if is_public key then Some key else None
bytes_for Public V2 (V2Public key) = Some key
bytes_for Public V3 (V3Public key) = Some key
bytes_for Public V4 (V4Public key) = Some key
bytes_for _ _ _ = None

-- in version 1 the bytes of a public key are an RSA key
abbrev pub IsValidFor : PaserkType → PaserkVersion → List ℕ → Type 0
IsValidFor Public V1 bytes = IsPublic bytes
IsValidFor kind version bytes = ⊤

-- the key reads tokens of this type and this version, and a ring takes it
pub record IsKeyFor (kind : PaserkType) (version : PaserkVersion) (key : AnyKey) : Type 0 where
  pub reads : reads_tokens kind ≡ true
  pub kind_is : (parts_of key).kind ≡ kind
  pub version_is : (parts_of key).version ≡ version
  pub is_valid : IsValidFor kind version (parts_of key).bytes
  pub taken : bytes_for kind version key ≡ Some (parts_of key).bytes

-- the id of a key: that of its bytes, or in version 1 of a public key's SubjectPublicKeyInfo
abbrev pub id_for : PaserkType → PaserkVersion → List ℕ → List ℕ
id_for Public V1 key = public_id key
id_for kind version key = id_of version kind key

-- the key is put before others under its id, if it is one of this type and this version
abbrev pub with_own : PaserkType → PaserkVersion → Option (List ℕ) → Keys (List ℕ) → Keys (List ℕ)
with_own kind version (Some key) keys = with_key (id_for kind version key) key keys
with_own kind version None keys = keys

-- the keys of a type and a version, each under its id: the first, where several have one id
abbrev pub ring_of : PaserkType → PaserkVersion → List AnyKey → Keys (List ℕ)
ring_of kind version [] = λ id. None
ring_of kind version (key ∷ keys) = with_own kind version (bytes_for kind version key) (ring_of kind version keys)

-- ---- the token

-- the version that the first section names
abbrev pub version_in : List ℕ → Option PaserkVersion
version_in text =
    if pointwise nat_eq text (codes "v1") then Some V1
    else if pointwise nat_eq text (codes "v2") then Some V2
    else if pointwise nat_eq text (codes "v3") then Some V3
    else if pointwise nat_eq text (codes "v4") then Some V4
    else None

-- the type of the keys that read tokens of the purpose that the second section names
abbrev pub type_in : List ℕ → Option PaserkType
type_in text =
    if pointwise nat_eq text (codes "local") then Some Local
    else if pointwise nat_eq text (codes "public") then Some Public
    else None

-- both, where there are both
abbrev pub ring_kind : Option PaserkVersion → Option PaserkType → Option (PaserkType × PaserkVersion)
ring_kind (Some version) (Some kind) = Some (kind, version)
ring_kind _ _ = None

-- the type and the version of the keys for a token of these sections
abbrev pub kind_of : Option (List ℕ) → Option (List ℕ) → Option (PaserkType × PaserkVersion)
kind_of (Some version) (Some purpose) = ring_kind (version_in version) (type_in purpose)
kind_of _ _ = None

abbrev pub kind_in : List (List ℕ) → Option (PaserkType × PaserkVersion)
kind_in parts = kind_of (slice_get parts 0) (slice_get parts 1)

-- how a token is read under a key and the footer that is expected, or else its own
abbrev pub readings_in : PaserkType → PaserkVersion → Option Footer → Option ImplicitAssertion → Readings
readings_in kind version expected assertion key own = reading_of kind version (binding key (read_under expected own) (assertion_of assertion))

-- ---- what is answered

abbrev pub ring_error_in : KeyRingParserError → RingError
ring_error_in (OfRing error) = Ring error
ring_error_in (OfParser error) = Parser error
ring_error_in (OfMemory source) = Memory source

-- what a ring of one type and version answers
abbrev pub by_ring : Result (String Global × Value) KeyRingParserError → Result (String Global × Value) RingError
by_ring (Ok found) = Ok found
by_ring (Err error) = Err (ring_error_in error)

-- what is asked of the claims of a token: the longest token, the footer and the implicit assertion, and the checks
pub record Wanted : Type 0 where
  pub longest : Option ℕ
  pub footer : Option Footer
  pub assertion : Option ImplicitAssertion
  pub rules : Rules Verdict

abbrev pub wanted_of : Option ℕ → Option Footer → Option ImplicitAssertion → Rules Verdict → Wanted
wanted_of longest footer assertion rules = record { longest = longest; footer = footer; assertion = assertion; rules = rules }

-- the answer for a token of this type and this version: no assertion in its version, where one is expected; else a token that
-- is too long, whatever memory there is; and else what the ring of the keys of this type and this version answers
pub record IsAdmittedIn (kind : PaserkType) (version : PaserkVersion) (keys : List AnyKey) (wanted : Wanted) (token : List ℕ)
    (result : Result (String Global × Value) RingError) : Type 0 where
  pub unbound : takes_assertion version ≡ false → is_some wanted.assertion ≡ true → result ≡ Err NoAssertion
  pub long : (takes_assertion version ≡ false → is_some wanted.assertion ≡ false) → is_beyond wanted.longest (length token) ≡ true
      → result ≡ Err (Ring (Untrusted TooLong))
  pub answer : (takes_assertion version ≡ false → is_some wanted.assertion ≡ false) → is_beyond wanted.longest (length token) ≡ false
      → (answer : Result (String Global × Value) KeyRingParserError) × (result ≡ by_ring answer)
      × IsParsingAnswer (ring_of kind version keys) (readings_in kind version wanted.footer wanted.assertion) wanted.rules token answer

-- the answer for a token: a wrong number of sections, or else no type and version of keys for it, whatever memory there is; and
-- else that for its type and its version
pub record IsAdmittedByRing (keys : List AnyKey) (wanted : Wanted) (token : List ℕ) (result : Result (String Global × Value) RingError) : Type 0 where
  pub count : ¬ HasCount (sections token) → result ≡ Err (Ring (Untrusted IncorrectSize))
  pub header : HasCount (sections token) → kind_in (sections token) ≡ None → result ≡ Err (Ring (Untrusted WrongHeader))
  pub answer : (kind : PaserkType) (version : PaserkVersion) → HasCount (sections token) → kind_in (sections token) ≡ Some (kind, version)
      → IsAdmittedIn kind version keys wanted token result
