-- Where there is a key or a text of one, nothing is refused but memory.
use Rattle.std.proofs.Common.{◌≡◌, ◌⊎◌, ◌∙◌, inl, inr, ℕ, List, length, take, Option, None, Result, Ok, Err, String, Global, refl, sym, ap, subst}
use Rattle.std.specs.Bool.{⊤}
use Rattle.std.specs.declared.convert.Infallible.{Infallible}
use Rattle.paseto_p384.specs.P384.{IsPrivate}
use Rattle.paseto_rsa.specs.Forms.{IsPublic as IsRsaPublic}
use Rattle.paseto_rsa.specs.Keys.{IsPrivate as IsRsaPrivate}
use Rattle.rusty_paseto_paserk.specs.Error.{IsMemory as IsPaserkMemory}
use Rattle.rusty_paseto_paserk.specs.Text.{IsLengthFault}
use Rattle.rusty_paseto_paserk.specs.declared.error.PaserkError.{PaserkError}
use Rattle.rusty_paseto_paserk.specs.declared.error.PaserkError.TheVariants as Paserk
use Rattle.rusty_paseto_paserk.specs.declared.header.PaserkType.{PaserkType}
use Rattle.rusty_paseto_paserk.specs.declared.header.PaserkType.TheVariants.{Local, Secret, Public}
use Rattle.rusty_paseto_paserk.specs.declared.header.PaserkVersion.{PaserkVersion}
use Rattle.rusty_paseto_paserk.specs.declared.header.PaserkVersion.TheVariants.{V1, V2, V3, V4}
use Rattle.paseto_key_files.specs.declared.error.KeyFileError.{KeyFileError}
use Rattle.paseto_keys.specs.AnyKey.{KeyParts, key_parts, parts_of}
use Rattle.paseto_keys.specs.Error.{IsMemory as IsKeyMemory}
use Rattle.paseto_keys.specs.Generation.{Generates, IsNoNewKey}
use Rattle.paseto_keys.specs.Id.{IdentifiesIn}
use Rattle.paseto_keys.specs.PublicHalf.{GivesHalf, GivesHalfIn, IsHalf}
use Rattle.paseto_keys.specs.WrittenLine.{HasNoLine, IsWrittenIn}
use Rattle.paseto_keys.specs.declared.any_key.AnyKey.{AnyKey}
use Rattle.paseto_keys.specs.declared.error.KeyError.{KeyError}
use Rattle.paseto_keys.specs.declared.error.KeyError.TheVariants as Key
use Rattle.paseto_calls.specs.HeldKey.{Fits, drawn_fault, key_fault, named_by, type_by, version_by}
use Rattle.paseto_calls.specs.KeyCalls.{IsGiven, generating, halving, kind_fault, line_writing, making, naming, new_length}
use Rattle.paseto_calls.specs.Refusal.{key_refusal, paserk_refusal}
use Rattle.paseto_calls.specs.declared.held_key.HeldKey.{HeldKey}
use Rattle.paseto_calls.specs.declared.refusal.Refusal.{Refusal}
use Rattle.paseto_calls.specs.declared.refusal.Refusal.TheVariants.{Memory}
use Rattle.paseto_calls.specs.declared.wanted.Wanted.TheVariants.{SecretKeys}
use Rattle.paseto_calls.proofs.Whole.{AreApart, enough, first_none}

-- ---- failed allocations stay what they are

paserk_memory : (error : PaserkError) → IsPaserkMemory error → paserk_refusal error ≡ Memory
paserk_memory (Paserk.Memory source) memory = refl
paserk_memory error memory = absurd memory

key_memory : (error : KeyError) → IsKeyMemory error → key_refusal error ≡ Memory
key_memory (Key.Memory source) memory = refl
key_memory error memory = absurd memory

-- a key of the length is not refused for it
sized_memory : (n : ℕ) (bytes : List ℕ) (error : PaserkError) → length bytes ≡ n → IsLengthFault n bytes error → paserk_refusal error ≡ Memory
sized_memory n bytes (Paserk.Memory source) size fault = refl
sized_memory n bytes Paserk.InvalidKey size fault = absurd (fault size)
sized_memory n bytes error size fault = absurd fault

-- nor is a key of version 1 that is one
kept_memory : (IsKey : List ℕ → Type 0) (bytes : List ℕ) (error : PaserkError) → IsKey bytes
    → IsPaserkMemory error ⊎ ((error ≡ Paserk.InvalidKey) × ¬ IsKey bytes) → paserk_refusal error ≡ Memory
kept_memory IsKey bytes error is (inl memory) = paserk_memory error memory
kept_memory IsKey bytes error is (inr other) = absurd (other.1 is)

-- ---- lines

-- a key that has a line does not lack one
pub has_line : (kind : PaserkType) (version : PaserkVersion) (bytes line : List ℕ) (error : KeyFileError) → IsWrittenIn kind version bytes line
    → HasNoLine kind version bytes error → ⊥
has_line Local version bytes line error is none = none
has_line Secret V1 bytes line error is none = none.1 is.0
has_line Secret V2 bytes line error is none = none.1 is.0
has_line Secret V3 bytes line error is none = none.1 is.0
has_line Secret V4 bytes line error is none = none.1 is.0
has_line Public V1 bytes line error is none = none.1 is.0
has_line Public V2 bytes line error is none = none
has_line Public V3 bytes line error is none = none
has_line Public V4 bytes line error is none = none

-- and it has one alone
pub one_line : (kind : PaserkType) (version : PaserkVersion) (bytes one other : List ℕ) → IsWrittenIn kind version bytes one
    → IsWrittenIn kind version bytes other → one ≡ other
one_line Local version bytes one other a b = a ∙ sym b
one_line Secret V1 bytes one other a b = a.1 ∙ sym b.1
one_line Secret V2 bytes one other a b = a.1 ∙ sym b.1
one_line Secret V3 bytes one other a b = a.1 ∙ sym b.1
one_line Secret V4 bytes one other a b = a.1 ∙ sym b.1
one_line Public V1 bytes one other a b = a.1 ∙ sym b.1
one_line Public V2 bytes one other a b = a ∙ sym b
one_line Public V3 bytes one other a b = a ∙ sym b
one_line Public V4 bytes one other a b = a ∙ sym b

pub line_apart : (key : HeldKey) → AreApart (line_writing key)
line_apart key = record {
  refuses = λ text refusal taken is none. absurd (has_line _ _ _ text none.0 is none.1);
  tells = λ text refusal line taken is none. absurd none;
}

-- ---- ids

id_memory : (kind : PaserkType) (version : PaserkVersion) (bytes : List ℕ) (id : String Global) (error : PaserkError)
    → IdentifiesIn kind version bytes (Ok id) → IdentifiesIn kind version bytes (Err error) → paserk_refusal error ≡ Memory
id_memory Local version bytes id error is none = paserk_memory error none.1
id_memory Secret V1 bytes id error is none = kept_memory IsRsaPrivate bytes error is.ok.0 none.refused
id_memory Secret V2 bytes id error is none = sized_memory 64 bytes error is.ok.0 none.refused
id_memory Secret V3 bytes id error is none = sized_memory 48 bytes error is.ok.0 none.refused
id_memory Secret V4 bytes id error is none = sized_memory 64 bytes error is.ok.0 none.refused
id_memory Public V1 bytes id error is none = kept_memory IsRsaPublic bytes error is.ok.0 none.refused
id_memory Public V2 bytes id error is none = paserk_memory error none.1
id_memory Public V3 bytes id error is none = paserk_memory error none.1
id_memory Public V4 bytes id error is none = paserk_memory error none.1

pub naming_apart : (key : HeldKey) → AreApart (naming key)
naming_apart key = record {
  refuses = λ text refusal taken is none. none.2 ∙ id_memory _ _ _ is.0 none.0 is.1 none.1;
  tells = λ text refusal line taken is none. absurd none;
}

-- ---- keys that are made

module _ {E : Type 0} (fault : Option Refusal) (Answers : Result AnyKey E → Type 0) (refusal_of : E → Refusal)
    (only : (fault ≡ None) → (key : AnyKey) (error : E) → Answers (Ok key) → Answers (Err error) → refusal_of error ≡ Memory)
    (one : (fault ≡ None) → (key other : AnyKey) → Answers (Ok key) → Answers (Ok other) → parts_of key ≡ parts_of other) where
  making_apart : AreApart (making fault Answers refusal_of)
  making_apart = record {
    refuses = λ key refusal taken is none. elim none [
      | inl found ↦ found.2 ∙ only taken.fine is.0 found.0 is.1 found.1
      | inr found ↦ absurd (found.2 (subst (λ (k : KeyParts). Fits k) (sym is.2 ∙ one taken.fine is.0 found.0 is.1 found.1) is.3))
    ];
    tells = λ key refusal line taken is none. absurd none;
  }

module _ (version : PaserkVersion) (IsWhole : List ℕ → Type 0) (half_of : List ℕ → List ℕ) (private : List ℕ) where
  half_memory : (key : AnyKey) (error : PaserkError) → IsHalf version IsWhole half_of private (Ok key)
      → IsHalf version IsWhole half_of private (Err error) → paserk_refusal error ≡ Memory
  half_memory key error is none = elim none.refused [ inl memory ↦ paserk_memory error memory | inr other ↦ absurd (other.1 is.ok.0) ]

  half_one : (key other : AnyKey) → IsHalf version IsWhole half_of private (Ok key) → IsHalf version IsWhole half_of private (Ok other)
      → parts_of key ≡ parts_of other
  half_one key other a b = a.ok.1 ∙ sym b.ok.1

halves_memory : (kind : PaserkType) (version : PaserkVersion) (bytes : List ℕ) (key : AnyKey) (error : PaserkError)
    → GivesHalfIn kind version bytes (Ok key) → GivesHalfIn kind version bytes (Err error) → paserk_refusal error ≡ Memory
halves_memory Local version bytes key error is none = absurd (cc is)
halves_memory Public version bytes key error is none = absurd (cc is)
halves_memory Secret V1 bytes key error is none = elim none.refused [ inl memory ↦ paserk_memory error memory | inr other ↦ absurd (other.1 is.ok.0) ]
halves_memory Secret V2 bytes key error is none = half_memory _ _ _ bytes key error is none
halves_memory Secret V3 bytes key error is none = half_memory _ _ _ bytes key error is none
halves_memory Secret V4 bytes key error is none = half_memory _ _ _ bytes key error is none

halves_one : (kind : PaserkType) (version : PaserkVersion) (bytes : List ℕ) (key other : AnyKey)
    → GivesHalfIn kind version bytes (Ok key) → GivesHalfIn kind version bytes (Ok other) → parts_of key ≡ parts_of other
halves_one Local version bytes key other a b = absurd (cc a)
halves_one Public version bytes key other a b = absurd (cc a)
halves_one Secret V1 bytes key other a b = a.ok.2 ∙ sym b.ok.2
halves_one Secret V2 bytes key other a b = half_one _ _ _ bytes key other a b
halves_one Secret V3 bytes key other a b = half_one _ _ _ bytes key other a b
halves_one Secret V4 bytes key other a b = half_one _ _ _ bytes key other a b

pub halving_apart : (key : HeldKey) → AreApart (halving key)
halving_apart key = making_apart (key_fault SecretKeys key) (GivesHalf (named_by key)) paserk_refusal
    (λ fine half error is none. halves_memory _ _ _ half error is none) (λ fine half other a b. halves_one _ _ _ half other a b)

-- ---- new keys

-- the generator does not fail, and what is drawn makes a key
module _ (MakesNone : List ℕ → Type 0) (IsDrawn : List ℕ → Type 0) (error : KeyError) where
  new_memory : IsNoNewKey MakesNone IsDrawn Infallible error → ((drawn : List ℕ) → IsDrawn drawn → MakesNone drawn → ⊥)
      → key_refusal error ≡ Memory
  new_memory (inl memory) made = key_memory error memory
  new_memory (inr (inl failed)) made = absurd (elim failed.1 [ ])
  new_memory (inr (inr rejected)) made = absurd (made rejected.1.0 rejected.1.1 rejected.1.2)

private_size : (private : List ℕ) → IsPrivate private → length private ≡ 48
unfolding IsPrivate
private_size private is = is.0

module _ (given : List ℕ) where
  abbrev Answers : PaserkType → PaserkVersion → Result AnyKey KeyError → Type 0
  Answers kind version = Generates kind version (IsGiven given) Infallible ⊤

  news_memory : (kind : PaserkType) (version : PaserkVersion) → length given ≡ new_length kind version → (key : AnyKey) (error : KeyError)
      → Answers kind version (Ok key) → Answers kind version (Err error) → key_refusal error ≡ Memory
  news_memory Local version size key error is none = new_memory _ _ error none.none (λ drawn given no. no)
  news_memory Secret V1 size key error is none = absurd (cc is.0)
  news_memory Secret V2 size key error is none = new_memory _ _ error none.none (λ drawn given no. no)
  news_memory Secret V3 size key error is none = new_memory _ _ error none.none (λ drawn is_given no.
      let own = is.made in
      let same : own.0 ≡ drawn = own.2 (private_size own.0 own.3.0 ∙ sym size) ∙ sym (is_given (no.0 ∙ sym size)) in
      no.1 (subst IsPrivate same own.3.0))
  news_memory Secret V4 size key error is none = new_memory _ _ error none.none (λ drawn given no. no)
  news_memory Public version size key error is none = absurd (cc is.0)

  news_one : (kind : PaserkType) (version : PaserkVersion) → length given ≡ new_length kind version → (key other : AnyKey)
      → Answers kind version (Ok key) → Answers kind version (Ok other) → parts_of key ≡ parts_of other
  news_one Local version size key other a b =
      let one = a.made in
      let two = b.made in
      let same : one.0 ≡ two.0 = one.2 (one.3.0 ∙ sym size) ∙ sym (two.2 (two.3.0 ∙ sym size)) in
      one.4 ∙ ap (key_parts Local version) (one.3.1 ∙ same ∙ sym two.3.1) ∙ sym two.4
  news_one Secret V1 size key other a b = absurd (cc a.0)
  news_one Secret V2 size key other a b =
      let one = a.made in
      let two = b.made in
      let same : one.0 ≡ two.0 = one.2 (one.3.0 ∙ sym size) ∙ sym (two.2 (two.3.0 ∙ sym size)) in
      one.4 ∙ ap (key_parts Secret V2) (rw (one.3.1, same) (sym two.3.1)) ∙ sym two.4
  news_one Secret V3 size key other a b =
      let one = a.made in
      let two = b.made in
      let same : one.0 ≡ two.0 = one.2 (private_size one.0 one.3.0 ∙ sym size) ∙ sym (two.2 (private_size two.0 two.3.0 ∙ sym size)) in
      one.4 ∙ ap (key_parts Secret V3) (one.3.1 ∙ same ∙ sym two.3.1) ∙ sym two.4
  news_one Secret V4 size key other a b =
      let one = a.made in
      let two = b.made in
      let same : one.0 ≡ two.0 = one.2 (one.3.0 ∙ sym size) ∙ sym (two.2 (two.3.0 ∙ sym size)) in
      one.4 ∙ ap (key_parts Secret V4) (rw (one.3.1, same) (sym two.3.1)) ∙ sym two.4
  news_one Public version size key other a b = absurd (cc a.0)

used : (version kind : ℕ) (drawn : List ℕ) → (generating version kind drawn).fault ≡ None
    → length (take (new_length (type_by kind) (version_by version)) drawn) ≡ new_length (type_by kind) (version_by version)
used version kind drawn fine =
    let count = new_length (type_by kind) (version_by version) in
    enough count drawn (first_none (kind_fault version kind) (drawn_fault count drawn) fine).1

pub generating_apart : (version kind : ℕ) (drawn : List ℕ) → AreApart (generating version kind drawn)
generating_apart version kind drawn =
    let given = take (new_length (type_by kind) (version_by version)) drawn in
    making_apart _ (Answers given (type_by kind) (version_by version)) key_refusal
    (λ fine key error is none. news_memory given _ _ (used version kind drawn fine) key error is none)
    (λ fine key other a b. news_one given _ _ (used version kind drawn fine) key other a b)
