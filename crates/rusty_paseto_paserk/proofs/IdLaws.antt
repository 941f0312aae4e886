-- Two keys with one id show a collision of its hash.
use Rattle.std.proofs.Common.{◌≡◌, ℕ, List, [], ◌++◌, refl, sym, ap₂, ◌∙◌}
use Rattle.sha2.specs.Sha512.{sha384}
use Rattle.rusty_paseto_primitives.specs.Bytes.{IsBytes}
use Rattle.rusty_paseto_primitives.proofs.Blake2Lengths.{IsBytes-blake2b}
use Rattle.rusty_paseto_primitives.proofs.ByteLists.{IsBytes-take}
use Rattle.rusty_paseto_primitives.proofs.HmacLengths.{IsBytes-sha384}
use Rattle.rusty_paseto_parts.proofs.PaeLemmas.{append_parts}
use Rattle.rusty_paseto_parts.proofs.SectionLemmas.{base64url-injective}
use Rattle.rusty_paseto_paserk.specs.Header.{header, id_header}
use Rattle.rusty_paseto_paserk.specs.Id.{hash, id_of, id_of_text}
use Rattle.rusty_paseto_paserk.specs.IdLaws.{IdsShow, hashed}
use Rattle.rusty_paseto_paserk.specs.declared.header.PaserkVersion.{PaserkVersion}
use Rattle.rusty_paseto_paserk.specs.declared.header.PaserkVersion.TheVariants.{V1, V2, V3, V4}
use Rattle.rusty_paseto_paserk.specs.declared.header.PaserkType.{PaserkType}
use Rattle.rusty_paseto_paserk.proofs.KindLaws.{one_id_kind}

IsBytes-hash : (version : PaserkVersion) (message : List ℕ) → IsBytes (hash version message)
IsBytes-hash V1 message = IsBytes-take 33 (sha384 message) (IsBytes-sha384 message)
IsBytes-hash V2 message = IsBytes-blake2b [] 33 message
IsBytes-hash V3 message = IsBytes-take 33 (sha384 message) (IsBytes-sha384 message)
IsBytes-hash V4 message = IsBytes-blake2b [] 33 message

-- what follows one front
behind : (front a b : List ℕ) → front ++ a ≡ front ++ b → a ≡ b
behind front a b e = (append_parts front front a b refl e).1

one_hash : (version : PaserkVersion) (kind : PaserkType) (first second : List ℕ) → id_of version kind first ≡ id_of version kind second
    → hash version (hashed version kind first) ≡ hash version (hashed version kind second)
unfolding id_of_text
one_hash version kind first second e =
    base64url-injective _ _ (IsBytes-hash version (hashed version kind first)) (IsBytes-hash version (hashed version kind second))
    (behind (id_header version kind) _ _ e)

one_key : (version : PaserkVersion) (kind : PaserkType) (first second : List ℕ) → IsBytes first → IsBytes second
    → hashed version kind first ≡ hashed version kind second → first ≡ second
one_key version kind first second a b e =
    base64url-injective first second a b (behind (header version kind) _ _ (behind (id_header version kind) _ _ e))

kinds : (version other_version : PaserkVersion) (kind other_kind : PaserkType) (first second : List ℕ)
    → id_of version kind first ≡ id_of other_version other_kind second → (version ≡ other_version) × (kind ≡ other_kind)
unfolding id_of_text
kinds version other_version kind other_kind first second e = one_id_kind version other_version kind other_kind _ _ e

pub ids_show : IdsShow
ids_show version other_version kind other_kind first second a b e =
    let same = kinds version other_version kind other_kind first second e in
    let own : id_of version kind first ≡ id_of version kind second =
    e ∙ sym (ap₂ (λ (v : PaserkVersion) (k : PaserkType). id_of v k second) same.0 same.1) in (
      same.0,
      same.1,
      λ apart. record { apart = λ alike. apart (one_key version kind first second a b alike); one_hash = one_hash version kind first second own },
    )
