-- What a ring answers for a token, in the words of the program.
use Rattle.std.proofs.Common.{◌≡◌, ◌⊎◌, ◌≤◌, ℕ, zero, suc, List, length, Bool, true, false, Option, None, Some, option_map, is_some, unwrap_or, Result, Ok, Err, IfOk, IfErr, IsErrAnd, IsOkAnd, String, Global, string_bytes, inl, inr, refl, sym, ap, subst, arith, ◌∙◌}
use Rattle.std.proofs.lemmas.Bool.{false≢true}
use Rattle.serde_json.specs.Data.{Data}
use Rattle.serde_json.specs.View.{view}
use Rattle.serde_json.specs.declared.value.Value.{Value}
use Rattle.rusty_paseto_parts.specs.Footer.{footer_text}
use Rattle.rusty_paseto_parts.specs.Section.{HasCount, sections}
use Rattle.rusty_paseto_parts.specs.declared.error.PasetoError.TheVariants.{IncorrectSize, WrongHeader}
use Rattle.rusty_paseto_parts.specs.declared.texts.footer.Footer.{Footer}
use Rattle.rusty_paseto_parts.specs.declared.texts.implicit_assertion.ImplicitAssertion.{ImplicitAssertion}
use Rattle.rusty_paseto_parts.proofs.LimitLemmas.{unlimited}
use Rattle.rusty_paseto_core.specs.Context.{assertion_of}
use Rattle.rusty_paseto_generic.specs.Parsers.Rules.{no_rule}
use Rattle.rusty_paseto.specs.KeyRing.{IsFirstParsingFault, IsParsed, IsParsingAnswer, Readings, read_under}
use Rattle.rusty_paseto.specs.declared.error.KeyRingError.{KeyRingError}
use Rattle.rusty_paseto.specs.declared.error.KeyRingError.TheVariants.{Untrusted, UnknownKey}
use Rattle.rusty_paseto.specs.declared.error.KeyRingParserError.{KeyRingParserError}
use Rattle.rusty_paseto.specs.declared.error.KeyRingParserError.TheVariants.{Ring as OfRing, Parser as OfParser, Memory as OfMemory}
use Rattle.rusty_paseto_paserk.specs.declared.header.PaserkType.{PaserkType}
use Rattle.rusty_paseto_paserk.specs.declared.header.PaserkVersion.{PaserkVersion}
use Rattle.paseto_keys.specs.AnyKey.{binding, takes_assertion}
use Rattle.paseto_keys.specs.Reading.{reading_of}
use Rattle.paseto_keys.specs.Ring.{IsAdmittedByRing, IsAdmittedIn, Wanted, by_ring, kind_in, readings_in, ring_of}
use Rattle.paseto_keys.specs.declared.any_key.AnyKey.{AnyKey}
use Rattle.paseto_keys.specs.declared.ring_error.RingError.{RingError}
use Rattle.paseto_keys.specs.declared.ring_error.RingError.TheVariants.{NoAssertion, Ring, Parser, Memory}
use Rattle.paseto_tasks.specs.declared.error.ProgramError.{ProgramError}
use Rattle.paseto_tasks.specs.Error.{BlamesNone, Fails, IsNoUsage, IsOutside, Says, nothing}
use Rattle.paseto_tasks.proofs.Statuses.{fixed_says, says_so}
use Rattle.paseto.specs.Answers.{IsNoMemoryOfRing, SaysOfRing, one_line, unknown_text}
use Rattle.paseto.specs.Gives.{Gives}
use Rattle.paseto.specs.Ring.{IsRingLine, IsTheValueIn, ParsesByRing, RefusesRing}

-- there are three sections or four, or there are not
count_or_not : (n : ℕ) → ((3 ≤ n) × (n ≤ 4)) ⊎ (¬ ((3 ≤ n) × (n ≤ 4)))
count_or_not zero = inr (λ h. absurd (omega (arith, h.0)))
count_or_not (suc zero) = inr (λ h. absurd (omega (arith, h.0)))
count_or_not (suc (suc zero)) = inr (λ h. absurd (omega (arith, h.0)))
count_or_not (suc (suc (suc zero))) = inl (omega arith, omega arith)
count_or_not (suc (suc (suc (suc zero)))) = inl (omega arith, omega arith)
count_or_not (suc (suc (suc (suc (suc n))))) = inr (λ h. absurd (omega (arith, h.1)))

-- the footer that is expected is the one that is demanded, or else the token's own
under : (footer : Option Footer) (own : List ℕ) → read_under footer own ≡ unwrap_or (option_map footer_text footer) own
under None own = refl
under (Some footer) own = refl

module _ (keys : List AnyKey) (footer : Option Footer) (demanded : Option ImplicitAssertion) (token : List ℕ) where
  abbrev wanted : Option (List ℕ)
  wanted = option_map footer_text footer

  abbrev asked : Wanted
  asked = record { longest = None; footer = footer; assertion = demanded; rules = λ key. no_rule }

  abbrev Parses : Data → Type 0
  Parses = ParsesByRing keys wanted demanded token

  -- what a ring's answer says in the words of the program
  pub record IsTold (answer : Result (String Global × Value) RingError) (result : Result Value ProgramError) : Type 0 where
    pub value : IfOk result (λ value. IsOkAnd answer (λ found. found.1 ≡ value))
    pub refused : IfErr result (λ error. IsErrAnd answer (λ source. IsOutside error ⊎ IsNoMemoryOfRing source))
    pub no_usage : IfErr result IsNoUsage
    pub blames : IfErr result BlamesNone
    pub said : IfErr result (λ error. IsErrAnd answer (λ source. SaysOfRing source error))

  abbrev Told : Result Value ProgramError → Type 0
  Told = Gives (λ value. IsTheValueIn keys wanted demanded token (view value)) (RefusesRing keys wanted demanded token) (Fails nothing)

  -- an error that has no line of its own
  refuses : (source : RingError) (result : Result Value ProgramError) → ((value : Data) → ¬ Parses value) → ((error : ProgramError) → SaysOfRing source error → Says (IsRingLine token) error)
      → IsTold (Err source) result → Told result
  refuses source (Ok value) none says told = absurd told.value
  refuses source (Err error) none says told = record {
    given = tt;
    refused = inl (record { none = none; no_usage = told.no_usage; said = says error told.said; blames = told.blames });
  }

  fails : (source : RingError) (result : Result Value ProgramError) → ((IsNoMemoryOfRing source) → ⊥) → IsTold (Err source) result → Told result
  fails source (Ok value) memory told = absurd told.value
  fails source (Err error) memory told = record {
    given = tt;
    refused = inr (elim told.refused [ inl outside ↦ (outside, told.blames) | inr some ↦ absurd (memory some) ]);
  }

  module _ (kind : PaserkType) (version : PaserkVersion) (count : HasCount (sections token)) (is_kind : kind_in (sections token) ≡ Some (kind, version)) where
    one_kind : (value : Data) (so : Parses value) → ◌≡◌ {A = PaserkType × PaserkVersion} (so.kind, so.version) (kind, version)
    one_kind value so = some_same (so.kind, so.version) (kind, version) (sym so.is_kind ∙ is_kind)
      where
        some_same : (a b : PaserkType × PaserkVersion) → Some a ≡ Some b → a ≡ b
        some_same a b same = cc

    same_readings : readings_in kind version footer demanded ≡ (λ key own. reading_of kind version (binding key (unwrap_or wanted own) (assertion_of demanded)))
    same_readings = λ i key own. reading_of kind version (binding key (under footer own i) (assertion_of demanded))

    abbrev Is : List ℕ → Data → Type 0
    Is id value = IsParsed (ring_of kind version keys) (readings_in kind version footer demanded) (λ key. no_rule) token id value

    parsed_by : (value : Data) (so : Parses value) → Is so.id value
    parsed_by value so = by (so.kind, so.version) (one_kind value so) so.is_parsed
      where
        by : (pair : PaserkType × PaserkVersion) → pair ≡ (kind, version)
            → IsParsed (ring_of pair.0 pair.1 keys) (λ key own. reading_of pair.0 pair.1 (binding key (unwrap_or wanted own) (assertion_of demanded))) (λ key. no_rule) token so.id value
            → Is so.id value
        by pair same parsed =
            subst (λ (readings : Readings). IsParsed (ring_of kind version keys) readings (λ key. no_rule) token so.id value) (sym same_readings)
            (subst (λ (p : PaserkType × PaserkVersion). IsParsed (ring_of p.0 p.1 keys) (λ key own. reading_of p.0 p.1 (binding key (unwrap_or wanted own) (assertion_of demanded))) (λ key. no_rule) token so.id value) same parsed)

    parses_so : (takes_assertion version ≡ false → is_some demanded ≡ false) → (id : List ℕ) (value : Data) → Is id value → Parses value
    parses_so bound id value parsed = record {
      kind = kind;
      version = version;
      count = count;
      is_kind = is_kind;
      bound = bound;
      id = id;
      is_parsed = subst (λ (readings : Readings). IsParsed (ring_of kind version keys) readings (λ key. no_rule) token id value) same_readings parsed;
    }

    -- the errors of a ring
    says_fault : (source : KeyRingError) → IsFirstParsingFault (ring_of kind version keys) (readings_in kind version footer demanded) (λ key. no_rule) token (OfRing source)
        → (error : ProgramError) → SaysOfRing (Ring source) error → Says (IsRingLine token) error
    says_fault (UnknownKey id) fault error said =
        says_so (λ line. line ≡ one_line (unknown_text (string_bytes id))) (IsRingLine token) (λ line is. (fault.0, string_bytes id, fault.1, fault.2.0, is)) error said
    says_fault source fault error said = fixed_says (IsRingLine token) error said

    parsing_told : (takes_assertion version ≡ false → is_some demanded ≡ false) → (answer : Result (String Global × Value) KeyRingParserError)
        → IsParsingAnswer (ring_of kind version keys) (readings_in kind version footer demanded) (λ key. no_rule) token answer
        → (result : Result Value ProgramError) → IsTold (by_ring answer) result → Told result
    parsing_told bound (Ok (id, value)) is (Ok other) told =
        let same : view value ≡ view other = ap (λ (v : Value). view v) told.value in
        record {
          given = (parses_so bound (string_bytes id) (view other) (rw same at is.parsed), λ another so. sym (is.complete so.id another (parsed_by another so)).1 ∙ same);
          refused = tt;
        }
    parsing_told bound (Ok found) is (Err error) told = absurd told.refused
    parsing_told bound (Err (OfMemory source)) is result told = fails (Memory source) result (λ none. none) told
    parsing_told bound (Err (OfRing source)) is result told =
        refuses (Ring source) result (λ value so. is.complete so.id value (parsed_by value so))
        (says_fault source (elim is.fault [ inl memory ↦ absurd memory | inr fault ↦ fault ])) told
    parsing_told bound (Err (OfParser source)) is result told =
        refuses (Parser source) result (λ value so. is.complete so.id value (parsed_by value so)) (λ error said. fixed_says (IsRingLine token) error said) told

    kind_told : (answer : Result (String Global × Value) RingError) → IsAdmittedIn kind version keys asked token answer
        → (result : Result Value ProgramError) → IsTold answer result → Told result
    kind_told answer is result told = by_binds (takes_assertion version) refl
      where
        told_as : (other : Result (String Global × Value) RingError) → answer ≡ other → IsTold other result
        told_as other same = subst (λ (a : Result (String Global × Value) RingError). IsTold a result) same told

        by_answer : (takes_assertion version ≡ false → is_some demanded ≡ false) → Told result
        by_answer bound =
            let parsing = is.answer bound (unlimited None (length token) refl) in
            parsing_told bound parsing.0 parsing.2 result (told_as (by_ring parsing.0) parsing.1)

        by_given : takes_assertion version ≡ false → (given : Bool) → is_some demanded ≡ given → Told result
        by_given none true given =
            refuses NoAssertion result (λ value so. false≢true (sym (so.bound (ap (λ (p : PaserkType × PaserkVersion). takes_assertion p.1) (one_kind value so) ∙ none)) ∙ given))
            (λ error said. fixed_says (IsRingLine token) error said) (told_as (Err NoAssertion) (is.unbound none given))
        by_given none false given = by_answer (λ _. given)

        by_binds : (binds : Bool) → takes_assertion version ≡ binds → Told result
        by_binds true binds = by_answer (λ none. absurd (false≢true (sym none ∙ binds)))
        by_binds false none = by_given none (is_some demanded) refl

  pub ring_told : (answer : Result (String Global × Value) RingError) → IsAdmittedByRing keys asked token answer
      → (result : Result Value ProgramError) → IsTold answer result → Told result
  ring_told answer is result told = by_count (count_or_not (length (sections token)))
    where
      told_as : (other : Result (String Global × Value) RingError) → answer ≡ other → IsTold other result
      told_as other same = subst (λ (a : Result (String Global × Value) RingError). IsTold a result) same told

      no_kind : (a : PaserkType × PaserkVersion) → kind_in (sections token) ≡ None → kind_in (sections token) ≡ Some a → ⊥
      no_kind a none some = let same : None ≡ Some a = sym none ∙ some in absurd (cc)

      by_kind : HasCount (sections token) → (kind : Option (PaserkType × PaserkVersion)) → kind_in (sections token) ≡ kind → Told result
      by_kind count None none =
          refuses (Ring (Untrusted WrongHeader)) result (λ value so. no_kind (so.kind, so.version) none so.is_kind)
          (λ error said. fixed_says (IsRingLine token) error said) (told_as (Err (Ring (Untrusted WrongHeader))) (is.header count none))
      by_kind count (Some (kind, version)) some = kind_told kind version count some answer (is.answer kind version count some) result told

      by_count : HasCount (sections token) ⊎ (¬ HasCount (sections token)) → Told result
      by_count (inl count) = by_kind count (kind_in (sections token)) refl
      by_count (inr none) =
          refuses (Ring (Untrusted IncorrectSize)) result (λ value so. none so.count)
          (λ error said. fixed_says (IsRingLine token) error said) (told_as (Err (Ring (Untrusted IncorrectSize))) (is.count none))
