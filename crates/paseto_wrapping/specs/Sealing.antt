-- Sealed keys (PASERK specification, type `seal`): a key of local tokens for whoever has the private key of a public key.
-- Versions 2 and 4 agree on a secret by X25519, and version 3 by ECDH over P-384. Version 1's, by RSA, is left out.
use Rattle.std.specs.Prelude.{◌≡◌, ◌≢◌, ◌⊎◌, ⊤, ℕ, List, [], ◌∷◌, ◌++◌, length, take, drop, replicate, None, Some}
use Rattle.sha2.specs.Sha512.{sha384, sha512}
use Rattle.rusty_paseto_primitives.specs.Blake2.Keyed.{blake2b}
use Rattle.rusty_paseto_paserk.specs.declared.header.PaserkVersion.{PaserkVersion}
use Rattle.paseto_edwards25519.specs.Encoding.{decoded as decoded25519}
use Rattle.paseto_p384.specs.Agreement.{p384_shared}
use Rattle.paseto_p384.specs.Encoding.{decoded as decoded384}
use Rattle.paseto_p384.specs.P384.{IsPrivate, p384_public}
use Rattle.paseto_x25519.specs.Agreement.{base_point, x25519}
use Rattle.paseto_x25519.specs.Conversion.{IsOfSmallOrder, montgomery}
use Rattle.paseto_wrapping.specs.declared.error.WrapError.{WrapError}
use Rattle.paseto_wrapping.specs.declared.error.WrapError.TheVariants.{InvalidPoint, InvalidPrivateKey, InvalidText, Memory, SmallOrder, WrongKey}
use Rattle.paseto_wrapping.specs.declared.family.Family.{Family}
use Rattle.paseto_wrapping.specs.declared.family.Family.TheVariants.{Nist, Sodium}
use Rattle.paseto_wrapping.specs.declared.header.WrappedType.TheVariants.{Seal}
use Rattle.paseto_wrapping.specs.Family.{encrypted, family_of, tag, tag_length}
use Rattle.paseto_wrapping.specs.Header.{header}
use Rattle.paseto_wrapping.specs.Text.{writing}

-- ---- agreement

-- how many bytes an ephemeral secret key has, and its public key
abbrev pub secret_length : Family → ℕ
secret_length Nist = 48
secret_length Sodium = 32

abbrev pub point_length : Family → ℕ
point_length Nist = 49
point_length Sodium = 32

-- bytes serve as an ephemeral secret key: of P-384 a number above 0 and below n, of X25519 any
abbrev pub IsSecret : Family → List ℕ → Type 0
IsSecret Nist secret = IsPrivate secret
IsSecret Sodium secret = ⊤

-- epk, of an ephemeral secret key
abbrev pub public_of : Family → List ℕ → List ℕ
public_of Nist secret = p384_public secret
public_of Sodium secret = x25519 secret base_point

-- xk is what a secret key and a public key share
abbrev pub IsShared : Family → List ℕ → List ℕ → List ℕ → Type 0
IsShared Nist secret public xk = p384_shared secret public ≡ Some xk
IsShared Sodium secret public xk = (xk ≡ x25519 secret public) × (xk ≢ replicate 32 0)

-- the public key of tokens, as it agrees: that of Ed25519 in the Montgomery form
abbrev pub agreeing : Family → List ℕ → List ℕ
agreeing Nist public = public
agreeing Sodium public = montgomery public

-- a public key is a point
abbrev pub IsPoint : Family → List ℕ → Type 0
IsPoint Nist public = (length public ≡ 49) × (decoded384 public ≢ None)
IsPoint Sodium public = (length public ≡ 32) × (decoded25519 public ≢ None)

-- a point of Ed25519 is of small order, so that no key is sealed to it
abbrev pub IsSmall : Family → List ℕ → Type 0
IsSmall Nist public = ⊥
IsSmall Sodium public = IsOfSmallOrder public

-- a private key opens what is sealed for it: of Ed25519, a seed and its public key, which a key can be sealed to
abbrev pub IsOpener : Family → List ℕ → Type 0
IsOpener Nist private = IsPrivate private
IsOpener Sodium private =
    (length private ≡ 64) × IsPoint Sodium (drop 32 private) × ¬ IsSmall Sodium (drop 32 private)

-- the secret key and the public key by which a private key agrees
abbrev pub own_secret : Family → List ℕ → List ℕ
own_secret Nist private = private
own_secret Sodium private = take 32 (sha512 (take 32 private))

abbrev pub own_public : Family → List ℕ → List ℕ
own_public Nist private = p384_public private
own_public Sodium private = montgomery (drop 32 private)

-- ---- the keys that are made of what was agreed on

-- what is hashed, of a domain: the header h, xk, epk and the recipient's public key as it agrees
abbrev pub hashed : ℕ → PaserkVersion → List ℕ → List ℕ → List ℕ → List ℕ
hashed domain version xk epk public = domain ∷ header version Seal ++ xk ++ epk ++ public

-- Ek, and behind it n, the nonce of the cipher
unfoldable pub encryption_of : Family → List ℕ → List ℕ → List ℕ
encryption_of Nist message publics = sha384 message
encryption_of Sodium message publics = blake2b [] 32 message ++ blake2b [] 24 publics

-- Ak
unfoldable pub authentication_of : Family → List ℕ → List ℕ
authentication_of Nist message = sha384 message
authentication_of Sodium message = blake2b [] 32 message

-- ---- payloads

-- c of a key, and the key of c
unfoldable pub crypted : PaserkVersion → List ℕ → List ℕ → List ℕ → List ℕ → List ℕ
crypted version xk epk public bytes =
    let keys = encryption_of (family_of version) (hashed 1 version xk epk public) (epk ++ public) in
    encrypted (family_of version) (take 32 keys) (drop 32 keys) bytes

-- t of c
unfoldable pub tag_of : PaserkVersion → List ℕ → List ℕ → List ℕ → List ℕ → List ℕ
tag_of version xk epk public c =
    tag (family_of version) (authentication_of (family_of version) (hashed 2 version xk epk public))
    (header version Seal ++ epk ++ c)

abbrev pub with_tag : PaserkVersion → List ℕ → List ℕ → List ℕ → List ℕ → List ℕ
with_tag version xk epk public c = tag_of version xk epk public c ++ epk ++ c

abbrev pub payload : PaserkVersion → List ℕ → List ℕ → List ℕ → List ℕ → List ℕ
payload version xk epk public key = with_tag version xk epk public (crypted version xk epk public key)

-- ---- sealing

-- the payload seals a key to a public key, by an ephemeral secret key
abbrev pub IsSealing : Family → PaserkVersion → List ℕ → List ℕ → List ℕ → List ℕ → Type 0
IsSealing family version public ephemeral key sealed =
    IsSecret family ephemeral × IsPoint family public × (¬ IsSmall family public)
    × ((xk : List ℕ) × IsShared family ephemeral (agreeing family public) xk
    × (sealed ≡ payload version xk (public_of family ephemeral) (agreeing family public) key))

-- why a key is not sealed, in this order
abbrev pub IsSealFault : Family → List ℕ → List ℕ → WrapError → Type 0
IsSealFault family public ephemeral InvalidPrivateKey = ¬ IsSecret family ephemeral
IsSealFault family public ephemeral InvalidPoint = IsSecret family ephemeral × ¬ IsPoint family public
IsSealFault family public ephemeral SmallOrder =
    IsSecret family ephemeral × IsPoint family public
    × (IsSmall family public ⊎ ((xk : List ℕ) → ¬ IsShared family ephemeral (agreeing family public) xk))
IsSealFault family public ephemeral (Memory _) = ⊤
IsSealFault family public ephemeral _ = ⊥

-- the text of a sealed key
abbrev pub IsSealed : PaserkVersion → List ℕ → List ℕ → List ℕ → List ℕ → Type 0
IsSealed version public ephemeral key text =
    (sealed : List ℕ) × IsSealing (family_of version) version public ephemeral key sealed × (text ≡ writing version Seal sealed)

-- ---- unsealing

-- how many bytes a sealed key has
abbrev pub sealed_length : Family → ℕ
sealed_length Nist = 129
sealed_length Sodium = 96

-- t, epk and c of a payload
abbrev pub t_of : Family → List ℕ → List ℕ
t_of family sealed = take (tag_length family) sealed

abbrev pub epk_of : Family → List ℕ → List ℕ
epk_of family sealed = take (point_length family) (drop (tag_length family) sealed)

abbrev pub c_of : Family → List ℕ → List ℕ
c_of family sealed = drop (point_length family) (drop (tag_length family) sealed)

-- the payload seals a key of 32 bytes for whoever has a private key: under some ephemeral public key epk, with xk shared
abbrev pub SealsFor : Family → PaserkVersion → List ℕ → List ℕ → List ℕ → Type 0
SealsFor family version private sealed key =
    (epk : List ℕ) × (xk : List ℕ) × IsOpener family private × (length key ≡ 32) × (length epk ≡ point_length family)
    × IsShared family (own_secret family private) epk xk
    × (sealed ≡ payload version xk epk (own_public family private) key)

-- an ephemeral public key is a point: of X25519 any bytes are
abbrev pub IsPeer : Family → List ℕ → Type 0
IsPeer Nist epk = decoded384 epk ≢ None
IsPeer Sodium epk = ⊤

-- why a payload is not opened, in this order
abbrev pub IsOpenFault : Family → PaserkVersion → List ℕ → List ℕ → WrapError → Type 0
IsOpenFault family version private sealed InvalidText = length sealed ≢ sealed_length family
IsOpenFault family version private sealed InvalidPrivateKey =
    (length sealed ≡ sealed_length family) × ¬ IsOpener family private
IsOpenFault family version private sealed InvalidPoint =
    (length sealed ≡ sealed_length family) × IsOpener family private × ¬ IsPeer family (epk_of family sealed)
IsOpenFault family version private sealed SmallOrder =
    (length sealed ≡ sealed_length family) × IsOpener family private × IsPeer family (epk_of family sealed)
    × ((xk : List ℕ) → ¬ IsShared family (own_secret family private) (epk_of family sealed) xk)
IsOpenFault family version private sealed WrongKey =
    (xk : List ℕ) × (length sealed ≡ sealed_length family) × IsOpener family private
    × IsShared family (own_secret family private) (epk_of family sealed) xk
    × (t_of family sealed ≢ tag_of version xk (epk_of family sealed) (own_public family private) (c_of family sealed))
IsOpenFault family version private sealed _ = ⊥
