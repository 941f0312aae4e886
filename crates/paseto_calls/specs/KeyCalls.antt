-- Keys that C reads from texts, makes and writes.
use Rattle.std.specs.Prelude.{◌≡◌, ◌≢◌, ◌⊎◌, not, ⊤, ℕ, Bool, true, false, List, [], ◌∷◌, length, take, drop, Option, Some, None, IsSomeAnd, Result, Ok, Err, MatchResult, String, string_bytes, if◌then◌else◌}
use Rattle.std.specs.Global.{Global}
use Rattle.std.specs.declared.convert.Infallible.{Infallible}
use Rattle.paseto_key_files.specs.declared.error.KeyFileError.{KeyFileError}
use Rattle.paseto_key_files.specs.declared.openers.Openers.{Openers}
use Rattle.paseto_pem.specs.Ed25519.{IsPrivateWritten as IsEdwardsPrivateWritten, IsPublicOf as IsEdwardsPublicOf}
use Rattle.paseto_pem.specs.Key.{Contents, IsWritten}
use Rattle.paseto_pem.specs.P384.{IsPrivateWritten as IsCurvePrivateWritten, IsPublicWritten as IsCurvePublicWritten}
use Rattle.paseto_pem.specs.Rsa.{IsPrivateWritten as IsRsaPrivateWritten, IsPublicWritten as IsRsaPublicWritten}
use Rattle.paseto_pem.specs.declared.label.Label.{Label}
use Rattle.paseto_pem.specs.declared.label.Label.TheVariants.{PrivateKey, PublicKey}
use Rattle.paseto_wrapping.specs.Family.{family_of}
use Rattle.paseto_wrapping.specs.Keys.{wrapped_form}
use Rattle.paseto_wrapping.specs.Password.{IsShort, protected, salt_length}
use Rattle.paseto_wrapping.specs.Pie.{pie}
use Rattle.paseto_wrapping.specs.Sealing.{IsSealFault, IsSealed}
use Rattle.paseto_wrapping.specs.declared.cost.PasswordCost.{PasswordCost}
use Rattle.paseto_wrapping.specs.declared.error.WrapError.{WrapError}
use Rattle.paseto_wrapping.specs.declared.header.WrappedType.{WrappedType}
use Rattle.paseto_wrapping.specs.declared.header.WrappedType.TheVariants.{LocalPassword, LocalWrap, SecretPassword, SecretWrap}
use Rattle.rusty_paseto_paserk.specs.declared.header.PaserkType.{PaserkType}
use Rattle.rusty_paseto_paserk.specs.declared.header.PaserkType.TheVariants.{Local, Secret, Public}
use Rattle.rusty_paseto_paserk.specs.declared.header.PaserkVersion.{PaserkVersion}
use Rattle.rusty_paseto_paserk.specs.declared.header.PaserkVersion.TheVariants.{V1, V2, V3, V4}
use Rattle.paseto_keys.specs.AnyKey.{KeyParts, parts_of}
use Rattle.paseto_keys.specs.Generation.{Generates}
use Rattle.paseto_keys.specs.Id.{Identifies}
use Rattle.paseto_keys.specs.PublicHalf.{GivesHalf}
use Rattle.paseto_keys.specs.Unlock.{IsUnlockFault, UnlocksKey}
use Rattle.paseto_keys.specs.WrittenLine.{HasNoLine, IsWrittenIn}
use Rattle.paseto_keys.specs.declared.any_key.AnyKey.{AnyKey}
use Rattle.paseto_calls.specs.HeldKey.{Fits, drawn_fault, first_of, is_type, is_version, key_fault, named_by, type_by, version_by}
use Rattle.paseto_calls.specs.Refusal.{file_refusal, key_refusal, paserk_refusal, wrap_refusal}
use Rattle.paseto_calls.specs.Request.{Request, tells_nothing}
use Rattle.paseto_calls.specs.declared.held_key.HeldKey.{HeldKey}
use Rattle.paseto_calls.specs.declared.refusal.Refusal.{Refusal}
use Rattle.paseto_calls.specs.declared.refusal.Refusal.TheVariants.{InvalidKey, Memory, OtherType, OtherVersion, TooLong}
use Rattle.paseto_calls.specs.declared.wanted.Wanted.TheVariants.{AllKeys, LocalKeys, Pairs, PublicKeys, SecretKeys, Writers}

-- ---- keys of texts

-- the text opens as no key, and this is the refusal for its fault; or as one for which there is no room, which no key needs
abbrev pub IsOpeningFault : Openers → List ℕ → Refusal → Type 0
IsOpeningFault openers text refusal =
    ((error : KeyFileError) × IsUnlockFault openers text error × (refusal ≡ file_refusal error))
    ⊎ ((key : KeyParts) × UnlocksKey openers text key × (¬ Fits key) × (refusal ≡ InvalidKey))

-- a key is read from a text with what opens it
abbrev pub opening : Option Refusal → (Openers → Type 0) → List ℕ → Request KeyParts
opening fault Opens text = record {
  fault = fault;
  texts = text ∷ [];
  Makes = λ key. (openers : Openers) × Opens openers × UnlocksKey openers text key × Fits key;
  Refuses = λ refusal. (openers : Openers) × Opens openers × IsOpeningFault openers text refusal;
  Tells = tells_nothing;
}

-- nothing opens it
pub record OpensNothing (openers : Openers) : Type 0 where
  pub no_password : openers.password ≡ None
  pub no_key : openers.key ≡ None

-- a password opens it
pub record IsPassword (password : List ℕ) (openers : Openers) : Type 0 where
  pub is_password : IsSomeAnd openers.password (λ given. given.now ≡ password)
  pub no_key : openers.key ≡ None

-- a key opens it, of which this is the line
pub record IsOpenedBy (opener : KeyParts) (openers : Openers) : Type 0 where
  pub no_password : openers.password ≡ None
  pub is_key : IsSomeAnd openers.key (λ line. IsWrittenIn opener.kind opener.version opener.bytes line.now)

abbrev pub key_reading : List ℕ → Request KeyParts
key_reading text = opening None OpensNothing text

abbrev pub unlocking : List ℕ → List ℕ → Request KeyParts
unlocking text password = opening None (IsPassword password) text

-- the line of a key
abbrev pub IsLineOf : KeyParts → List ℕ → Type 0
IsLineOf key line = IsWrittenIn key.kind key.version key.bytes line

-- a key has no line, as an invalid one of version 1
abbrev pub IsLineless : KeyParts → Refusal → Type 0
IsLineless key refusal = (error : KeyFileError) × HasNoLine key.kind key.version key.bytes error × (refusal ≡ file_refusal error)

-- the opener has no line, or else the text opens as no key with it
abbrev pub unwrapping : List ℕ → HeldKey → Request KeyParts
unwrapping text opener = record (opening (key_fault Writers opener) (IsOpenedBy (named_by opener)) text) {
  Refuses = λ refusal. IsLineless (named_by opener) refusal
      ⊎ ((openers : Openers) × IsOpenedBy (named_by opener) openers × IsOpeningFault openers text refusal);
}

-- ---- keys that are made

-- a key is made of an answer for one, where there is room for it
abbrev pub making : {E : Type 0} → Option Refusal → (Result AnyKey E → Type 0) → (E → Refusal) → Request KeyParts
making fault Answers refusal_of = record {
  fault = fault;
  texts = [];
  Makes = λ key. (made : AnyKey) × Answers (Ok made) × (parts_of made ≡ key) × Fits key;
  Refuses = λ refusal. ((error : _) × Answers (Err error) × (refusal ≡ refusal_of error))
      ⊎ ((made : AnyKey) × Answers (Ok made) × (¬ Fits (parts_of made)) × (refusal ≡ InvalidKey));
  Tells = tells_nothing;
}

-- the public half of a private key
abbrev pub halving : HeldKey → Request KeyParts
halving key = making (key_fault SecretKeys key) (GivesHalf (named_by key)) paserk_refusal

-- ---- texts of keys

-- a text of a key is written, or there is none
abbrev pub key_writing : Option Refusal → (List ℕ → Type 0) → (Refusal → Type 0) → Request (List ℕ)
key_writing fault IsText HasNone = record { fault = fault; texts = []; Makes = IsText; Refuses = HasNone; Tells = tells_nothing }

-- the text in PASERK
abbrev pub line_writing : HeldKey → Request (List ℕ)
line_writing key = key_writing (key_fault AllKeys key) (IsLineOf (named_by key)) (IsLineless (named_by key))

-- the text in PEM, as `openssl pkey` writes it
abbrev pub IsPemOf : PaserkType → PaserkVersion → List ℕ → List ℕ → Type 0
IsPemOf Secret V1 = IsWritten IsRsaPrivateWritten PrivateKey
IsPemOf Secret V3 = IsWritten IsCurvePrivateWritten PrivateKey
IsPemOf Secret V4 = IsWritten IsEdwardsPrivateWritten PrivateKey
IsPemOf Public V1 = IsWritten IsRsaPublicWritten PublicKey
IsPemOf Public V3 = IsWritten IsCurvePublicWritten PublicKey
IsPemOf Public V4 = IsWritten IsEdwardsPublicOf PublicKey
IsPemOf _ _ = λ bytes text. ⊥

-- the bytes are no valid key
abbrev pub HasNoPem : Contents → Label → List ℕ → Refusal → Type 0
HasNoPem IsKeyOf label bytes refusal = (refusal ≡ InvalidKey) × ((contents : List ℕ) → ¬ IsKeyOf label contents bytes)

-- why a key has none; one of version 2 has none at all, since it would be read as one of version 4
abbrev pub IsNoPemOf : PaserkType → PaserkVersion → List ℕ → Refusal → Type 0
IsNoPemOf Secret V1 = HasNoPem IsRsaPrivateWritten PrivateKey
IsNoPemOf Secret V3 = HasNoPem IsCurvePrivateWritten PrivateKey
IsNoPemOf Secret V4 = HasNoPem IsEdwardsPrivateWritten PrivateKey
IsNoPemOf Public V1 = HasNoPem IsRsaPublicWritten PublicKey
IsNoPemOf Public V3 = HasNoPem IsCurvePublicWritten PublicKey
IsNoPemOf Public V4 = HasNoPem IsEdwardsPublicOf PublicKey
IsNoPemOf _ _ = λ bytes refusal. refusal ≡ OtherVersion

abbrev pub pem_writing : HeldKey → Request (List ℕ)
pem_writing key =
    let named = named_by key in
    key_writing (key_fault Pairs key) (IsPemOf named.kind named.version named.bytes) (IsNoPemOf named.kind named.version named.bytes)

-- the id
abbrev pub naming : HeldKey → Request (List ℕ)
naming key = record {
  fault = key_fault AllKeys key;
  texts = [];
  Makes = λ text. (id : String Global) × Identifies (named_by key) (Ok id) × (string_bytes id ≡ text);
  Refuses = λ refusal. (error : _) × Identifies (named_by key) (Err error) × (refusal ≡ paserk_refusal error);
  Tells = tells_nothing;
}

-- ---- with random bytes

-- a generator gives these bytes to whoever asks for so many
abbrev pub IsGiven : List ℕ → List ℕ → Type 0
IsGiven given filled = length filled ≡ length given → filled ≡ given

-- how many random bytes a new key takes
abbrev pub new_length : PaserkType → PaserkVersion → ℕ
new_length Secret V3 = 48
new_length _ _ = 32

abbrev pub is_public : PaserkType → Bool
is_public Public = true
is_public _ = false

abbrev pub is_first_secret : PaserkType → PaserkVersion → Bool
is_first_secret Secret V1 = true
is_first_secret _ _ = false

-- public keys are not generated, and neither is what is no key, or a private key of version 1
abbrev pub kind_fault : ℕ → ℕ → Option Refusal
kind_fault version kind =
    if not (is_type kind) then Some InvalidKey else
    if is_public (type_by kind) then Some OtherType else
    if not (is_version version) then Some InvalidKey else
    if is_first_secret (type_by kind) (version_by version) then Some OtherVersion else
    None

-- a key is generated of the first of what was drawn
abbrev pub generating : ℕ → ℕ → List ℕ → Request KeyParts
generating version kind drawn =
    let count = new_length (type_by kind) (version_by version) in
    making (first_of (kind_fault version kind) (drawn_fault count drawn))
    (Generates (type_by kind) (version_by version) (IsGiven (take count drawn)) Infallible ⊤) key_refusal

-- the key has a line, as all have but invalid ones of version 1
abbrev pub HasLine : KeyParts → Type 0
HasLine key = (line : List ℕ) × IsLineOf key line

-- how many random bytes a text under a password takes: those of its salt and its nonce
abbrev pub protecting_length : PaserkVersion → ℕ
protecting_length V1 = 48
protecting_length V3 = 48
protecting_length _ = 40

-- the cost of new texts under a password
abbrev pub new_cost : PasswordCost
new_cost = record { iterations = 100000; memory = 67108864; passes = 2; lanes = 1 }

-- the type of the text of a key under a password
abbrev pub password_type : PaserkType → WrappedType
password_type Local = LocalPassword
password_type _ = SecretPassword

-- the octets that are wrapped for a key: of a private one its form
abbrev pub wrapped_octets : PaserkType → PaserkVersion → List ℕ → List ℕ
wrapped_octets Local version bytes = bytes
wrapped_octets _ version bytes = wrapped_form version bytes

-- the text of a key under a password, by a salt and a nonce behind it
abbrev pub password_text : KeyParts → List ℕ → List ℕ → List ℕ
password_text key password given =
    let count = salt_length (family_of key.version) in
    protected key.version (password_type key.kind) password new_cost (take count given) (drop count given)
    (wrapped_octets key.kind key.version key.bytes)

-- a key is put under a password that is short enough
abbrev pub IsUnderPassword : KeyParts → List ℕ → List ℕ → List ℕ → Type 0
IsUnderPassword key password given text = HasLine key × IsShort password × (text ≡ password_text key password given)

-- the key is invalid, or else the password is too long
abbrev pub IsNotUnderPassword : KeyParts → List ℕ → Refusal → Type 0
IsNotUnderPassword key password refusal = IsLineless key refusal ⊎ (HasLine key × (¬ IsShort password) × (refusal ≡ TooLong))

-- the text under a password
abbrev pub protecting : HeldKey → List ℕ → List ℕ → Request (List ℕ)
protecting key password drawn =
    let count = protecting_length (version_by key.version) in
    key_writing (first_of (key_fault Writers key) (drawn_fault count drawn))
    (IsUnderPassword (named_by key) password (take count drawn)) (IsNotUnderPassword (named_by key) password)

-- the type of the text of a key under a wrapping key
abbrev pub wrap_type : PaserkType → WrappedType
wrap_type Local = LocalWrap
wrap_type _ = SecretWrap

-- a key is put under a wrapping key of the same version, by a nonce
abbrev pub IsUnderKey : KeyParts → KeyParts → List ℕ → List ℕ → Type 0
IsUnderKey key other nonce text =
    HasLine key × (key.version ≡ other.version)
    × (text ≡ pie key.version (wrap_type key.kind) other.bytes nonce (wrapped_octets key.kind key.version key.bytes))

-- the key is invalid, or else the wrapping key is of another version
abbrev pub IsNotUnderKey : KeyParts → KeyParts → Refusal → Type 0
IsNotUnderKey key other refusal = IsLineless key refusal ⊎ (HasLine key × (key.version ≢ other.version) × (refusal ≡ OtherVersion))

-- the text under a wrapping key
abbrev pub wrapping : HeldKey → HeldKey → List ℕ → Request (List ℕ)
wrapping key other drawn =
    key_writing (first_of (key_fault Writers key) (first_of (key_fault LocalKeys other) (drawn_fault 32 drawn)))
    (IsUnderKey (named_by key) (named_by other) (take 32 drawn)) (IsNotUnderKey (named_by key) (named_by other))

-- how many random bytes a sealed text takes
abbrev pub sealing_length : PaserkVersion → ℕ
sealing_length V3 = 48
sealing_length _ = 32

-- a key is sealed to a public key of the same version, 2, 3 or 4
abbrev pub seals : PaserkVersion → PaserkVersion → Bool
seals V2 V2 = true
seals V3 V3 = true
seals V4 V4 = true
seals _ _ = false

-- the refusal is for why no key is sealed to a public key by an ephemeral one
abbrev pub IsSealRefusal : PaserkVersion → List ℕ → List ℕ → Refusal → Type 0
IsSealRefusal version point ephemeral refusal =
    (error : WrapError) × IsSealFault (family_of version) point ephemeral error × (refusal ≡ wrap_refusal error)

-- a key is sealed, by an ephemeral key
abbrev pub IsSealedTo : KeyParts → KeyParts → List ℕ → List ℕ → Type 0
IsSealedTo key other ephemeral text = (seals key.version other.version ≡ true) × IsSealed key.version other.bytes ephemeral key.bytes text

-- the public key is of another version, or of version 1, or else nothing is sealed to it
abbrev pub IsNotSealedTo : KeyParts → KeyParts → List ℕ → Refusal → Type 0
IsNotSealedTo key other ephemeral refusal =
    ((seals key.version other.version ≡ false) × (refusal ≡ OtherVersion))
    ⊎ ((seals key.version other.version ≡ true) × IsSealRefusal key.version other.bytes ephemeral refusal)

-- the text that is sealed to a public key
abbrev pub sealing : HeldKey → HeldKey → List ℕ → Request (List ℕ)
sealing key other drawn =
    let count = sealing_length (version_by key.version) in
    key_writing (first_of (key_fault LocalKeys key) (first_of (key_fault PublicKeys other) (drawn_fault count drawn)))
    (IsSealedTo (named_by key) (named_by other) (take count drawn)) (IsNotSealedTo (named_by key) (named_by other) (take count drawn))

-- ---- for private clauses

-- the text is this one, or the password is too long, or memory was refused
abbrev pub IsPasswordAnswer : List ℕ → List ℕ → Result (String Global) Refusal → Type 0
IsPasswordAnswer password text result = MatchResult result (λ made. IsShort password × (string_bytes made ≡ text))
    (λ refusal. (refusal ≡ Memory) ⊎ ((refusal ≡ TooLong) × ¬ IsShort password))
