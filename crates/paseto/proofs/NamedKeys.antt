-- Keys by their ids.
use Rattle.std.proofs.Common.{◌≡◌, ◌≢◌, ◌∙◌, inl, inr, ℕ, Bool, true, false, MatchBool, bytes_eq, List, [], ◌∷◌, length, Option, None, Some, MatchOption, Result, Ok, Err, IfOk, IsUtf8, subst, String, Global, string_bytes, refl, sym}
use Rattle.std.proofs.lemmas.Bool.{false≢true}
use Rattle.std.proofs.lemmas.Slice.Eq.{bytes_eq-Decides}
use Rattle.std.specs.Borrow.{Bor}
use Rattle.std.specs.declared.alloc.AllocError.{AllocError}
use Rattle.rusty_paseto_paserk.specs.Error.{IsMemory}
use Rattle.rusty_paseto_paserk.specs.Text.{IsLengthFault}
use Rattle.rusty_paseto_paserk.specs.declared.error.PaserkError.{PaserkError}
use Rattle.rusty_paseto_paserk.specs.declared.error.PaserkError.TheVariants.{NoKey, OtherVersion, OtherType, InvalidKey, Memory}
use Rattle.rusty_paseto_paserk.specs.declared.header.PaserkType.{PaserkType}
use Rattle.rusty_paseto_paserk.specs.declared.header.PaserkType.TheVariants.{Local, Secret, Public}
use Rattle.rusty_paseto_paserk.specs.declared.header.PaserkVersion.{PaserkVersion}
use Rattle.rusty_paseto_paserk.specs.declared.header.PaserkVersion.TheVariants.{V1, V2, V3, V4}
use Rattle.rusty_paseto.specs.KeyRing.{HasFooter, Names}
use Rattle.rusty_paseto.specs.declared.error.KeyRingError.{KeyRingError}
use Rattle.rusty_paseto.specs.declared.error.KeyRingError.TheVariants.{Untrusted, NoFooter, NotAnObject, NoKeyId, UnknownKey, Token as OfToken, Memory as OfMemory}
use Rattle.paseto_tasks.specs.Input.{token_of_input}
use Rattle.paseto_keys.specs.AnyKey.{KeyParts, parts_of}
use Rattle.paseto_keys.specs.Id.{Identifies, IdentifiesIn}
use Rattle.paseto_keys.specs.PublicHalf.{GivesHalf}
use Rattle.paseto_keys.specs.declared.any_key.AnyKey.{AnyKey}
use Rattle.paseto.specs.Named.{AreWithout, IsFirstWith, IsIdOf, IsIdOfHalf, IsNoUnknown, IsUnknown, NamesNone, NamesUnknown, SaysUnknown}

-- a key has one id
one_id_in : (kind : PaserkType) (version : PaserkVersion) (bytes : List ℕ) (one other : String Global) → IdentifiesIn kind version bytes (Ok one)
    → IdentifiesIn kind version bytes (Ok other) → string_bytes one ≡ string_bytes other
one_id_in Local version bytes one other a b = a.0 ∙ sym b.0
one_id_in Secret V1 bytes one other a b = a.ok.1 ∙ sym b.ok.1
one_id_in Secret V2 bytes one other a b = a.ok.1 ∙ sym b.ok.1
one_id_in Secret V3 bytes one other a b = a.ok.1 ∙ sym b.ok.1
one_id_in Secret V4 bytes one other a b = a.ok.1 ∙ sym b.ok.1
one_id_in Public V1 bytes one other a b = a.ok.1 ∙ sym b.ok.1
one_id_in Public V2 bytes one other a b = a.0 ∙ sym b.0
one_id_in Public V3 bytes one other a b = a.0 ∙ sym b.0
one_id_in Public V4 bytes one other a b = a.0 ∙ sym b.0

pub one_id : (key : KeyParts) (own : String Global) (id : List ℕ) → Identifies key (Ok own) → IsIdOf key id → string_bytes own ≡ id
one_id key own id is other = one_id_in key.kind key.version key.bytes own other.0 is other.2 ∙ other.1

-- a key of another length has no id
no_length : (n : ℕ) (key : List ℕ) (error : PaserkError) → ¬ IsMemory error → IsLengthFault n key error → length key ≢ n
no_length n key InvalidKey inside fault = fault
no_length n key (Memory refused) inside fault = absurd (inside tt)
no_length n key NoKey inside fault = absurd fault
no_length n key (OtherVersion version) inside fault = absurd fault
no_length n key (OtherType kind) inside fault = absurd fault

-- nor has one for which an error is returned, unless memory was refused
no_id_in : (kind : PaserkType) (version : PaserkVersion) (bytes : List ℕ) (error : PaserkError) (other : String Global) → ¬ IsMemory error
    → IdentifiesIn kind version bytes (Err error) → ¬ IdentifiesIn kind version bytes (Ok other)
no_id_in Local version bytes error other inside a b = inside a.1
no_id_in Secret V1 bytes error other inside a b = elim a.refused [ inl memory ↦ inside memory | inr none ↦ none.1 b.ok.0 ]
no_id_in Secret V2 bytes error other inside a b = no_length 64 bytes error inside a.refused b.ok.0
no_id_in Secret V3 bytes error other inside a b = no_length 48 bytes error inside a.refused b.ok.0
no_id_in Secret V4 bytes error other inside a b = no_length 64 bytes error inside a.refused b.ok.0
no_id_in Public V1 bytes error other inside a b = elim a.refused [ inl memory ↦ inside memory | inr none ↦ none.1 b.ok.0 ]
no_id_in Public V2 bytes error other inside a b = inside a.1
no_id_in Public V3 bytes error other inside a b = inside a.1
no_id_in Public V4 bytes error other inside a b = inside a.1

pub no_id : (key : KeyParts) (error : PaserkError) (id : List ℕ) → ¬ IsMemory error → Identifies key (Err error) → ¬ IsIdOf key id
no_id key error id inside is other = no_id_in key.kind key.version key.bytes error other.0 inside is other.2

pub id_told : (key : KeyParts) (own : String Global) (text id : List ℕ) (same : Bool) → Identifies key (Ok own) → text ≡ string_bytes own → same ≡ bytes_eq text id
    → MatchBool same (IsIdOf key id) (¬ IsIdOf key id)
id_told key own text id true is of_own told = (own, sym of_own ∙ (bytes_eq-Decides text id).0 (sym told), is)
id_told key own text id false is of_own told =
    λ other. false≢true (told ∙ (bytes_eq-Decides text id).1 (of_own ∙ one_id key own id is other))

pub none_told : (key : KeyParts) (error : PaserkError) (id : List ℕ) (answer : Result Bool AllocError) → Identifies key (Err error)
    → IfOk answer (λ has. (has ≡ false) × ¬ IsMemory error) → IfOk answer (λ has. MatchBool has (IsIdOf key id) (¬ IsIdOf key id))
none_told key error id (Ok has) is told = rw told.0 (no_id key error id told.1 is)
none_told key error id (Err refused) is told = tt

-- the first key of an id is one of it
pub not_without : (id : List ℕ) (keys : List AnyKey) (key : AnyKey) → AreWithout id keys → ¬ IsFirstWith id keys key
not_without id [] key none first = first
not_without id (k ∷ keys) key none (inl is) = none.0 is.0
not_without id (k ∷ keys) key none (inr more) = not_without id keys key none.1 more.1

-- the first of more keys, where the one in front has another id
pub more_keys : (id : List ℕ) (key : AnyKey) (rest : List AnyKey) (answer : Result (Option (Bor AnyKey)) AllocError) → ¬ IsIdOf (parts_of key) id
    → IfOk answer (λ found. MatchOption found (AreWithout id rest) (λ k. IsFirstWith id rest k.now))
    → IfOk answer (λ found. MatchOption found (AreWithout id (key ∷ rest)) (λ k. IsFirstWith id (key ∷ rest) k.now))
more_keys id key rest (Ok None) other found = (other, found)
more_keys id key rest (Ok (Some k)) other found = inr (other, found)
more_keys id key rest (Err refused) other found = tt

-- no other id is named than this, which a key has
pub known_key : (keys : List AnyKey) (token text footer own : List ℕ) (key : AnyKey) → text ≡ footer
    → ((other : List ℕ) → HasFooter token (Some other) → footer ≡ other) → ((other : List ℕ) → Names text other → own ≡ other) → IsFirstWith own keys key
    → (id : List ℕ) → ¬ NamesUnknown keys token id
known_key keys token text footer own key same footers ids first id unknown =
    let named : Names text id = subst (λ (f : List ℕ). Names f id) (sym (same ∙ footers unknown.footer unknown.is_named.has)) unknown.is_named.names in
    not_without id keys key unknown.without (subst (λ (i : List ℕ). IsFirstWith i keys key) (ids id named) first)

-- whether an input names an unknown key, by the error of finding it
module _ (keys : List AnyKey) (input token : List ℕ) (utf8 : IsUtf8 input) (same : token ≡ token_of_input input) where
  unknown_in : IsUnknown keys input → (id : List ℕ) × NamesUnknown keys token id
  unknown_in is = (is.id, rw same is.names)

  none_unknown : (error : KeyRingError) → NamesNone keys token error → SaysUnknown error → IsUnknown keys input
  none_unknown (UnknownKey id) none says = record { is_text = utf8; id = string_bytes id; names = rw same at none }
  none_unknown (Untrusted source) none says = absurd says
  none_unknown NoFooter none says = absurd says
  none_unknown NotAnObject none says = absurd says
  none_unknown NoKeyId none says = absurd says
  none_unknown (OfToken source) none says = absurd says
  none_unknown (OfMemory refused) none says = absurd says

  pub unknown_told : (error : KeyRingError) (answer : Result Bool AllocError) → NamesNone keys token error → ((id : List ℕ) → NamesUnknown keys token id → IsNoUnknown error)
      → IfOk answer (λ says. MatchBool says (SaysUnknown error) (¬ IsNoUnknown error)) → IfOk answer (λ unknown. MatchBool unknown (IsUnknown keys input) (¬ IsUnknown keys input))
  unknown_told error (Ok true) none complete says = none_unknown error none says
  unknown_told error (Ok false) none complete says = λ is. let found = unknown_in is in says (complete found.0 found.1)
  unknown_told error (Err refused) none complete says = tt

  pub known_told : ((id : List ℕ) → ¬ NamesUnknown keys token id) → ¬ IsUnknown keys input
  known_told known is = let found = unknown_in is in known found.0 found.1

-- the id of the public half
pub half_named : (key : KeyParts) (half : AnyKey) (answer : Result (String Global) PaserkError) → GivesHalf key (Ok half) → Identifies (parts_of half) answer
    → IfOk answer (λ id. IsIdOfHalf key (string_bytes id))
half_named key half (Ok id) gives is = (half, gives, (id, refl, is))
half_named key half (Err error) gives is = tt
