-- What is sealed in versions 2 and 4 is unsealed, since X25519 of two secret keys commutes, and the keys that an Ed25519 key
-- pair gives belong together.
use Rattle.std.proofs.Common.{◌≡◌, ℕ, ◌-◌, zero, suc, ◌%◌, ◌/◌, ◌^◌, List, inl, inr, length, take, drop, refl, sym, ap, subst, ◌∙◌, length-drop}
use Rattle.std.specs.Int.{byte_at, bytes_low_first}
use Rattle.sha2.specs.Sha512.{sha512}
use Rattle.rusty_paseto_primitives.specs.Bytes.{IsBytes}
use Rattle.rusty_paseto_primitives.proofs.ByteLists.{IsBytes-append, IsBytes-nil, IsBytes_cons, byte_at-lt}
use Rattle.rusty_paseto_paserk.specs.declared.header.PaserkVersion.{PaserkVersion}
use Rattle.rusty_paseto_paserk.specs.declared.header.PaserkVersion.TheVariants.{V2, V4}
use Rattle.paseto_edwards25519.specs.Scalar.{bytes32, word_bytes}
use Rattle.paseto_ed25519.specs.Ed25519.{IsOwn}
use Rattle.paseto_x25519.specs.Agreement.{base_point, x25519}
use Rattle.paseto_x25519.specs.Conversion.{montgomery}
use Rattle.paseto_x25519.specs.Laws.{IsSecretKey}
use Rattle.paseto_x25519.proofs.AgreementLaws.{half-bytes, keys_match, secrets_are_common}
use Rattle.paseto_x25519.proofs.OwnKeyLaws.{own_keys_agree}
use Rattle.paseto_wrapping.specs.declared.error.WrapError.{WrapError}
use Rattle.paseto_wrapping.specs.declared.error.WrapError.TheVariants.{InvalidCost, InvalidKey, InvalidNonce, InvalidPoint, InvalidPrivateKey, InvalidText, LongPassword, Memory, NoWrappedKey, OtherType, OtherVersion, SmallOrder, TooCostly, WrongKey}
use Rattle.paseto_wrapping.specs.declared.family.Family.TheVariants.{Sodium}
use Rattle.paseto_wrapping.specs.declared.header.WrappedType.TheVariants.{Seal}
use Rattle.paseto_wrapping.specs.Error.{IsMemory}
use Rattle.paseto_wrapping.specs.Laws.{SodiumSealedUnseal}
use Rattle.paseto_wrapping.specs.Reading.{InText}
use Rattle.paseto_wrapping.specs.Sealing.{IsSealFault, IsSealing, SealsFor}
use Rattle.paseto_wrapping.specs.Text.{writing}
use Rattle.paseto_wrapping.proofs.Sealings.{IsBytes-payload}

-- ---- bytes

IsBytes-low_first : (i k n : ℕ) → IsBytes (bytes_low_first i k n)
IsBytes-low_first i zero n = IsBytes-nil
IsBytes-low_first i (suc k) n = IsBytes_cons (byte_at i n) (bytes_low_first (suc i) k n) (byte_at-lt i n) (IsBytes-low_first (suc i) k n)

IsBytes-bytes32 : (n : ℕ) → IsBytes (bytes32 n)
unfolding bytes32 word_bytes
IsBytes-bytes32 n =
    IsBytes-append (bytes_low_first 0 16 (n % 2 ^ 128)) (bytes_low_first 0 16 (n / 2 ^ 128)) (IsBytes-low_first 0 16 (n % 2 ^ 128))
    (IsBytes-low_first 0 16 (n / 2 ^ 128))

length-bytes32 : (n : ℕ) → length (bytes32 n) ≡ 32
unfolding bytes32 word_bytes
length-bytes32 n = refl

-- ---- unsealing

-- what is shared by the ephemeral key is shared by the private key
shared : (private ephemeral : List ℕ) → IsOwn private → IsSecretKey ephemeral
    → x25519 ephemeral (montgomery (drop 32 private)) ≡ x25519 (take 32 (sha512 (take 32 private))) (x25519 ephemeral base_point)
shared private ephemeral own h =
    let seed = take 32 private in
    let secret = take 32 (sha512 seed) in
    ap (λ (p : List ℕ). x25519 ephemeral (montgomery p)) (sym own) ∙ ap (x25519 ephemeral) (sym (keys_match seed))
    ∙ secrets_are_common ephemeral secret h (half-bytes seed)

unsealed : (version : PaserkVersion) (private ephemeral key text sealed : List ℕ) → (length private ≡ 64) × IsOwn private → IsSecretKey ephemeral
    → IsBytes key × (length key ≡ 32) → IsSealing Sodium version (drop 32 private) ephemeral key sealed → text ≡ writing version Seal sealed
    → InText version Seal (SealsFor Sodium version private) text key
unsealed version private ephemeral key text sealed own h of_key made written =
    let epk : List ℕ = x25519 ephemeral base_point in
    let xk = made.3.0 in
    let bytes = subst IsBytes (sym made.3.2) (IsBytes-payload version xk epk (montgomery (drop 32 private)) key (IsBytes-bytes32 _) of_key.0) in (
      sealed,
      (bytes, written),
      (
        epk,
        xk,
        (own.0, made.1, made.2),
        of_key.1,
        length-bytes32 _,
        (made.3.1.0 ∙ shared private ephemeral own.1 h, made.3.1.1),
        made.3.2,
      ),
    )

pub v2_unsealed : SodiumSealedUnseal V2
v2_unsealed private ephemeral key text own h of_key s = unsealed V2 private ephemeral key text s.0 own h of_key s.1 s.2

pub v4_unsealed : SodiumSealedUnseal V4
v4_unsealed private ephemeral key text own h of_key s = unsealed V4 private ephemeral key text s.0 own h of_key s.1 s.2

-- ---- sealing

pub own_seal : (private ephemeral : List ℕ) (error : WrapError) → (length private ≡ 64) × IsOwn private → IsSecretKey ephemeral
    → IsSealFault Sodium (drop 32 private) ephemeral error → IsMemory error
own_seal private ephemeral NoWrappedKey own h fault = fault
own_seal private ephemeral (OtherVersion found) own h fault = fault
own_seal private ephemeral (OtherType found) own h fault = fault
own_seal private ephemeral InvalidText own h fault = fault
own_seal private ephemeral InvalidNonce own h fault = fault
own_seal private ephemeral LongPassword own h fault = fault
own_seal private ephemeral InvalidCost own h fault = fault
own_seal private ephemeral TooCostly own h fault = fault
own_seal private ephemeral InvalidPrivateKey own h fault = fault tt
own_seal private ephemeral InvalidPoint own h fault =
    fault.1 (length-drop 32 private ∙ ap (λ (n : ℕ). n - 32) own.0, (own_keys_agree private ephemeral own.1 h).0)
own_seal private ephemeral SmallOrder own h fault =
    let agree = own_keys_agree private ephemeral own.1 h in
    elim fault.2 [
      | inl small ↦ absurd (agree.1 small)
      | inr none ↦ absurd (none (x25519 ephemeral (montgomery (drop 32 private))) (refl, agree.2))
    ]
own_seal private ephemeral WrongKey own h fault = fault
own_seal private ephemeral InvalidKey own h fault = fault
own_seal private ephemeral (Memory source) own h fault = tt
