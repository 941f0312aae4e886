-- Where a ring admits a token, nothing is refused but memory.
use Rattle.std.proofs.Common.{◌≡◌, ◌∙◌, ◌⊎◌, inl, inr, ℕ, ℤ, Bool, true, false, List, length, map, Option, Some, None, is_some, Result, Ok, Err, String, Global, string_bytes, refl, sym, ap, ap₂, subst, arith}
use Rattle.std.proofs.lemmas.Bool.{cases_lt, false≢true}
use Rattle.serde_json.specs.Data.{Data, Items, Members, array, object}
use Rattle.serde_json.specs.Read.{read}
use Rattle.serde_json.specs.View.{view}
use Rattle.serde_json.specs.declared.value.Value.{Value}
use Rattle.rusty_paseto_parts.specs.Limit.{is_beyond}
use Rattle.rusty_paseto_parts.specs.Section.{HasCount, sections}
use Rattle.rusty_paseto_parts.specs.declared.texts.footer.Footer.{Footer}
use Rattle.rusty_paseto_core.specs.Context.{footer_of}
use Rattle.rusty_paseto_core.specs.Reading.{IsRead, Reading}
use Rattle.rusty_paseto_generic.specs.Parsers.Rules.{AreSame}
use Rattle.rusty_paseto.specs.KeyRing.{IsNoMemory, IsParsed, IsParsingAnswer, read_under}
use Rattle.rusty_paseto.specs.declared.error.KeyRingParserError.{KeyRingParserError}
use Rattle.rusty_paseto.specs.declared.error.KeyRingParserError.TheVariants.{Memory as OfMemory}
use Rattle.rusty_paseto_paserk.specs.declared.header.PaserkType.{PaserkType}
use Rattle.rusty_paseto_paserk.specs.declared.header.PaserkVersion.{PaserkVersion}
use Rattle.paseto_keys.specs.AnyKey.{binding, takes_assertion}
use Rattle.paseto_keys.specs.Reading.{reading_of}
use Rattle.paseto_keys.specs.Ring.{IsAdmittedByRing, IsAdmittedIn, Wanted, by_ring, kind_in, readings_in, ring_error_in, ring_of}
use Rattle.paseto_keys.specs.declared.any_key.AnyKey.{AnyKey}
use Rattle.paseto_keys.specs.declared.ring_error.RingError.{RingError}
use Rattle.paseto_calls.specs.Admit.{Demands, demanded}
use Rattle.paseto_calls.specs.AdmitBy.{IsAsked, admitting_by, key_in, ring_fault}
use Rattle.paseto_calls.specs.Fault.{refusal_of}
use Rattle.paseto_calls.specs.Parse.{expected_rules, read_names}
use Rattle.paseto_calls.specs.declared.admit.options.AdmitOptions.{AdmitOptions}
use Rattle.paseto_calls.specs.declared.held_key.HeldKey.{HeldKey}
use Rattle.paseto_calls.specs.declared.refusal.Refusal.TheVariants.{Memory}
use Rattle.paseto_calls.proofs.AdmitExits.{expecting_apart}
use Rattle.paseto_calls.proofs.ParseLemmas.{same_moment}
use Rattle.paseto_calls.proofs.Whole.{AreApart}

-- a failed allocation stays one
ring_memory : (error : KeyRingParserError) → IsNoMemory error → refusal_of (ring_fault (ring_error_in error)) ≡ Memory
ring_memory (OfMemory source) memory = refl
ring_memory error memory = absurd memory

-- ---- two answers for a token, where the same is asked

module _ (keys : List AnyKey) (token : List ℕ) (one two : Wanted) (pair : String Global × Value) (error : RingError)
    (longest : one.longest ≡ two.longest) (given : is_some one.assertion ≡ is_some two.assertion)
    (readings : (kind : PaserkType) (version : PaserkVersion) (key own : List ℕ)
    → readings_in kind version one.footer one.assertion key own ≡ readings_in kind version two.footer two.assertion key own)
    (rules : AreSame one.rules two.rules) where
  module _ (kind : PaserkType) (version : PaserkVersion) where
    parsed_again : (id : List ℕ) (value : Data)
        → IsParsed (ring_of kind version keys) (readings_in kind version one.footer one.assertion) one.rules token id value
        → IsParsed (ring_of kind version keys) (readings_in kind version two.footer two.assertion) two.rules token id value
    parsed_again id value parsed = record {
      text = parsed.text;
      is_opened = record {
        footer = parsed.is_opened.footer;
        key = parsed.is_opened.key;
        found = parsed.is_opened.found;
        is_read = subst (λ (r : Reading). IsRead r token parsed.text)
            (readings kind version parsed.is_opened.key parsed.is_opened.footer) parsed.is_opened.is_read;
      };
      is_value = record { is_read = parsed.is_value.is_read; passes = λ key. rw (rules key) at (parsed.is_value.passes key) };
    }

    answers_memory : (a b : Result (String Global × Value) KeyRingParserError) → Ok pair ≡ by_ring a → Err error ≡ by_ring b
        → IsParsingAnswer (ring_of kind version keys) (readings_in kind version one.footer one.assertion) one.rules token a
        → IsParsingAnswer (ring_of kind version keys) (readings_in kind version two.footer two.assertion) two.rules token b
        → refusal_of (ring_fault error) ≡ Memory
    answers_memory (Err source) b is none p q = absurd (cc is)
    answers_memory (Ok found) (Ok other) is none p q = absurd (cc none)
    answers_memory (Ok found) (Err source) is none p q =
        let own : error ≡ ring_error_in source = cc none in
        rw own (ring_memory source (q.complete (string_bytes found.0) (view found.1) (parsed_again _ _ p.parsed)))

    unbound_not : (b : Bool) → is_some one.assertion ≡ b → (is_some one.assertion ≡ true → ⊥) → is_some one.assertion ≡ false
    unbound_not true is not = absurd (not is)
    unbound_not false is not = is

    short_not : (b : Bool) → is_beyond one.longest (length token) ≡ b → (is_beyond one.longest (length token) ≡ true → ⊥)
        → is_beyond one.longest (length token) ≡ false
    short_not true is not = absurd (not is)
    short_not false is not = is

    in_memory : IsAdmittedIn kind version keys one token (Ok pair) → IsAdmittedIn kind version keys two token (Err error)
        → refusal_of (ring_fault error) ≡ Memory
    in_memory is none =
        let bound : takes_assertion version ≡ false → is_some one.assertion ≡ false =
        λ no. unbound_not (is_some one.assertion) refl (λ some. absurd (cc (is.unbound no some))) in
        let short = short_not (is_beyond one.longest (length token)) refl (λ long. absurd (cc (is.long bound long))) in
        let a = is.answer bound short in
        let b = none.answer (λ no. sym given ∙ bound no) (rw longest at short) in
        answers_memory a.0 b.0 a.1 b.1 a.2 b.2

  counted : (parts : List (List ℕ)) → (HasCount parts → ⊥) ⊎ HasCount parts
  counted parts = elim (cases_lt (length parts) 3) [
    | inl few ↦ inl (λ has. let least = has.0 in omega arith)
    | inr enough ↦ elim (cases_lt 4 (length parts)) [
      | inl many ↦ inl (λ has. let most = has.1 in omega arith)
      | inr within ↦ inr (enough, within)
    ]
  ]

  module _ (is : IsAdmittedByRing keys one token (Ok pair)) (none : IsAdmittedByRing keys two token (Err error)) where
    kind_memory : HasCount (sections token) → (found : Option (PaserkType × PaserkVersion)) → kind_in (sections token) ≡ found
        → refusal_of (ring_fault error) ≡ Memory
    kind_memory has None found = absurd (cc (is.header has found))
    kind_memory has (Some (kind, version)) found = in_memory kind version (is.answer kind version has found) (none.answer kind version has found)

    ring_apart : refusal_of (ring_fault error) ≡ Memory
    ring_apart = elim (counted (sections token)) [
      | inl other ↦ absurd (cc (is.count other))
      | inr has ↦ kind_memory has (kind_in (sections token)) refl
    ]

-- ---- what is asked

same_members : (text : List ℕ) (one other : Members) → read text ≡ Some (object one) → read text ≡ Some (object other) → one ≡ other
same_members text one other first second = let same : Some (object one) ≡ Some (object other) = sym first ∙ second in cc

same_names : (text : List ℕ) (one other : Items) → read_names text ≡ Some (array one) → read_names text ≡ Some (array other) → one ≡ other
same_names text one other first second = let same : Some (array one) ≡ Some (array other) = sym first ∙ second in cc

-- the same footer is read under
same_under : (one two : Option Footer) (own : List ℕ) → footer_of one ≡ footer_of two → is_some one ≡ is_some two
    → read_under one own ≡ read_under two own
same_under None None own text some = refl
same_under (Some a) (Some b) own text some = text
same_under None (Some b) own text some = absurd (false≢true some)
same_under (Some a) None own text some = absurd (false≢true (sym some))

module _ (expected : List ℕ) (now : ℤ) (demands : Demands) (footer assertion : List ℕ) (one two : Wanted)
    (a : IsAsked expected now demands footer assertion one) (b : IsAsked expected now demands footer assertion two) where
  same_rules : AreSame one.rules two.rules
  same_rules =
      let found = same_members expected a.members b.members a.is_expected.is_object b.is_expected.is_object in
      let named = same_names demands.names a.names b.names a.is_expected.is_array b.is_expected.is_array in
      let moments = same_moment a.moment b.moment (a.is_expected.is_moment ∙ sym b.is_expected.is_moment) demands.leeway b.members b.names in
      λ key. a.rules key ∙ ap₂ (λ m n. expected_rules m n a.moment demands.leeway key) found named ∙ moments key ∙ sym (b.rules key)

  same_readings : (kind : PaserkType) (version : PaserkVersion) (key own : List ℕ)
      → readings_in kind version one.footer one.assertion key own ≡ readings_in kind version two.footer two.assertion key own
  same_readings kind version key own =
      ap₂ (λ f s. reading_of kind version (binding key f s))
      (same_under one.footer two.footer own (a.footer_is ∙ sym b.footer_is) (a.has_footer ∙ sym b.has_footer))
      (a.assertion_is ∙ sym b.assertion_is)

pub admitting_by_apart : (keys : List HeldKey) (token expected : List ℕ) (now : ℤ) (footer assertion : List ℕ) (options : AdmitOptions)
    → AreApart (admitting_by keys token expected now footer assertion options)
admitting_by_apart keys token expected now footer assertion options = record {
  refuses = λ text refusal taken is fault.
      absurd (expecting_apart expected now (demanded options) _ _ _ refusal fault is.asked.is_expected);
  tells = λ text refusal line taken is none. elim none.is_fault [
    | inl long ↦ absurd (false≢true (sym is.short ∙ long.0))
    | inr found ↦ none.is_refusal ∙ ap refusal_of found.1.2
        ∙ ring_apart (map key_in keys) token is.wanted none.wanted (is.id, is.value) found.1.0
        (is.asked.longest ∙ sym none.asked.longest) (is.asked.has_assertion ∙ sym none.asked.has_assertion)
        (same_readings expected now (demanded options) footer assertion is.wanted none.wanted is.asked none.asked)
        (same_rules expected now (demanded options) footer assertion is.wanted none.wanted is.asked none.asked)
        is.admitted found.1.1
  ];
}
