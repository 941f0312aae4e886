-- The keys of a ring.
use Rattle.std.proofs.Common.{◌≡◌, ◌≢◌, ◌∙◌, Bool, true, false, if◌then◌else◌, inl, inr, ℕ, ◌+◌, ◌<◌, ◌≤◌, List, ◌∷◌, length, get_or, drop, None, Some, Ok, Err, String, Global, string_bytes, bytes_eq, add-one, ap, refl, sym}
use Rattle.std.specs.Cmp.Lexicographic.{bytes_decides}
use Rattle.std.proofs.Math.Seq.{drop-cons}
use Rattle.std.proofs.lemmas.Bool.{false≢true}
use Rattle.std.proofs.lemmas.List.{drop_all}
use Rattle.rusty_paseto.specs.KeyRing.{Keys}
use Rattle.rusty_paseto_paserk.specs.Error.{IsMemory}
use Rattle.rusty_paseto_paserk.specs.declared.error.PaserkError.{PaserkError}
use Rattle.rusty_paseto_paserk.specs.declared.header.PaserkType.{PaserkType}
use Rattle.rusty_paseto_paserk.specs.declared.header.PaserkType.TheVariants.{Local, Secret, Public}
use Rattle.rusty_paseto_paserk.specs.declared.header.PaserkVersion.{PaserkVersion}
use Rattle.rusty_paseto_paserk.specs.declared.header.PaserkVersion.TheVariants.{V1, V2, V3, V4}
use Rattle.paseto_keys.specs.AnyKey.{parts_of, reads_tokens}
use Rattle.paseto_keys.specs.Id.{Identifies, IdentifiesIn}
use Rattle.paseto_keys.specs.Ring.{IsKeyFor, IsValidFor, bytes_for, id_for, ring_of, with_own}
use Rattle.paseto_keys.specs.declared.any_key.AnyKey.{AnyKey}

-- the keys from the i-th on are that one and those behind it
from_key : (keys : List AnyKey) (i : ℕ) (key : AnyKey) → i < length keys → key ≡ get_or keys i key → drop i keys ≡ key ∷ drop (i + 1) keys
from_key keys i key below is = drop-cons keys i key below ∙ rw (← is, add-one) refl

module _ (kind : PaserkType) (version : PaserkVersion) (id : List ℕ) (keys : List AnyKey) (i : ℕ) where
  -- so is the ring of them
  pub from : (key : AnyKey) → i < length keys → key ≡ get_or keys i key
      → ring_of kind version (drop i keys) id ≡ with_own kind version (bytes_for kind version key) (ring_of kind version (drop (i + 1) keys)) id
  from key below is = ap (λ rest. ring_of kind version rest id) (from_key keys i key below is)

  -- behind the last there is none
  pub none : length keys ≤ i → ring_of kind version (drop i keys) id ≡ None
  none past = rw (drop_all i keys past) refl

-- ---- the ids of the keys that a ring takes

pub identified : (kind : PaserkType) (version : PaserkVersion) (bytes : List ℕ) (own : String Global) → reads_tokens kind ≡ true
    → IdentifiesIn kind version bytes (Ok own) → string_bytes own ≡ id_for kind version bytes
identified Local V1 bytes own reads h = h.0
identified Local V2 bytes own reads h = h.0
identified Local V3 bytes own reads h = h.0
identified Local V4 bytes own reads h = h.0
identified Public V1 bytes own reads h = h.ok.1
identified Public V2 bytes own reads h = h.0
identified Public V3 bytes own reads h = h.0
identified Public V4 bytes own reads h = h.0
identified Secret version bytes own reads h = absurd (false≢true reads)

pub unidentified : (kind : PaserkType) (version : PaserkVersion) (bytes : List ℕ) (error : PaserkError) → reads_tokens kind ≡ true
    → IsValidFor kind version bytes → IdentifiesIn kind version bytes (Err error) → IsMemory error
unidentified Local V1 bytes error reads valid h = h.1
unidentified Local V2 bytes error reads valid h = h.1
unidentified Local V3 bytes error reads valid h = h.1
unidentified Local V4 bytes error reads valid h = h.1
unidentified Public V1 bytes error reads valid h = elim h.refused [ inl memory ↦ memory | inr other ↦ absurd (other.1 valid) ]
unidentified Public V2 bytes error reads valid h = h.1
unidentified Public V3 bytes error reads valid h = h.1
unidentified Public V4 bytes error reads valid h = h.1
unidentified Secret version bytes error reads valid h = absurd (false≢true reads)

not_true : (t : Bool) → (t ≡ true → ⊥) → t ≡ false
not_true true h = absurd (h refl)
not_true false h = refl

module _ (kind : PaserkType) (version : PaserkVersion) (key : AnyKey) (for : IsKeyFor kind version key) where
  pub named : (own : String Global) (id : List ℕ) → Identifies (parts_of key) (Ok own) → string_bytes own ≡ id
      → (keys : Keys (List ℕ)) → with_own kind version (bytes_for kind version key) keys id ≡ Some (parts_of key).bytes
  named own id h same keys =
      let bytes : List ℕ = (parts_of key).bytes in
      let is : id_for kind version bytes ≡ id = sym (identified kind version bytes own for.reads (rw (for.kind_is, for.version_is) at h)) ∙ same in
      ap (λ taken. with_own kind version taken keys id) for.taken
      ∙ ap (λ (t : Bool). if t then Some bytes else keys id) ((bytes_decides (id_for kind version bytes) id).1 is)

  pub unnamed : (own : String Global) (id : List ℕ) → Identifies (parts_of key) (Ok own) → string_bytes own ≢ id
      → (keys : Keys (List ℕ)) → with_own kind version (bytes_for kind version key) keys id ≡ keys id
  unnamed own id h other keys =
      let bytes : List ℕ = (parts_of key).bytes in
      let is = identified kind version bytes own for.reads (rw (for.kind_is, for.version_is) at h) in
      let apart : bytes_eq (id_for kind version bytes) id ≡ false = not_true _ (λ e. other (is ∙ (bytes_decides (id_for kind version bytes) id).0 e)) in
      ap (λ taken. with_own kind version taken keys id) for.taken ∙ ap (λ (t : Bool). if t then Some bytes else keys id) apart

  pub only_memory : (error : PaserkError) → Identifies (parts_of key) (Err error) → IsMemory error
  only_memory error h =
      unidentified kind version (parts_of key).bytes error for.reads for.is_valid (rw (for.kind_is, for.version_is) at h)
