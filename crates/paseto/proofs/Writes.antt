-- What a key writes of what is ordered, and why it writes nothing.
use Rattle.std.proofs.Common.{◌≡◌, ◌⊎◌, ℕ, List, length, Bool, true, false, is_some, Result, Ok, Err, String, Global, string_bytes, inl, inr, refl, sym, subst, ◌∙◌}
use Rattle.std.proofs.lemmas.Bool.{false≢true}
use Rattle.rusty_paseto_parts.specs.declared.error.PasetoError.{PasetoError}
use Rattle.rusty_paseto_parts.specs.declared.error.PasetoError.TheVariants.{Memory as NoTokenMemory}
use Rattle.paseto_keys.specs.AnyKey.{KeyParts, takes_assertion, writes_tokens}
use Rattle.paseto_keys.specs.Drawing.{IsDrawFault}
use Rattle.paseto_keys.specs.Error.{key_error_of}
use Rattle.paseto_keys.specs.Tokens.{IsUse, Writes, lifted}
use Rattle.paseto_keys.specs.Writing.{IsWriteAnswer}
use Rattle.paseto_keys.specs.declared.error.KeyError.{KeyError}
use Rattle.paseto_keys.specs.declared.error.KeyError.TheVariants.{Memory, NoAssertion, OtherType, Random}
use Rattle.paseto_tasks.specs.declared.error.ProgramError.{ProgramError}
use Rattle.paseto_tasks.specs.declared.arguments.Options.{Options}
use Rattle.paseto_tasks.specs.Error.{Fails, IsOfWords, IsOutside, Lacks, nothing, token_error_of, use_error_of}
use Rattle.paseto_tasks.specs.Output.{IsLineOf, Makes}
use Rattle.paseto_tasks.proofs.Blames.{IsWithin, blames_so, within_all}
use Rattle.paseto_tasks.proofs.Refusals.{token_inside, token_plain}
use Rattle.paseto_tasks.proofs.Statuses.{fixed_no_usage, fixed_says}
use Rattle.rusty_paseto.specs.Moment.{FitsDefault}
use Rattle.jiff.specs.Types.{Timestamp}
use Rattle.paseto.specs.Issue.{IsOrder, IsPayload, IsRepeatedLine, Issues, IssuesFor, MayWrite, Ordered, RefusesIssue, RefusesOrder, RefusesPayload, draws, issuing, writing}
use Rattle.paseto.proofs.Payloads.{outside_or_not}

-- ---- drawing

-- why nothing is drawn
pub draw_fails : (key : KeyParts) (Failure : Type 0) (now : Timestamp) (error : KeyError) → IsDrawFault Failure (draws key) error → Fails (issuing key Failure now) (use_error_of error)
draw_fails key Failure now (Memory source) fault = (tt, tt)
draw_fails key Failure now Random (inl memory) = absurd memory
draw_fails key Failure now Random (inr failed) = (tt, (failed.2, failed.1))
draw_fails key Failure now error (inl memory) = absurd memory
draw_fails key Failure now error (inr failed) = subst (λ (e : KeyError). Fails (issuing key Failure now) (use_error_of e)) (sym failed.0) (tt, (failed.2, failed.1))

abbrev failed : KeyError → Result (String Global) KeyError
failed error = Err error

abbrev written : String Global → Result (String Global) KeyError
written token = Ok token

module _ (key : KeyParts) (order : Ordered) where
  -- claims that have no text
  pub no_payload : (error : ProgramError) → RefusesPayload order error → RefusesOrder key order error
  no_payload error is = record { none = inl (λ line issues. is.none issues.text issues.is_payload); words = is.words; said = is.said; inside = is.inside }

  module _ (text : List ℕ) (is_payload : IsPayload order text) (drawn : List ℕ) (size : length drawn ≡ draws key) where
    abbrev Answers : Result (String Global) KeyError → Type 0
    Answers = IsUse (λ error. error) (writes_tokens key.kind ≡ true) key.kind (takes_assertion key.version) (is_some order.assertion)
        (Writes (draws key) drawn (writing key order drawn) (is_some order.footer) text)

    other_type : writes_tokens key.kind ≡ false → RefusesOrder key order (use_error_of (OtherType key.kind))
    other_type none = record { none = inl (λ line issues. false≢true (sym none ∙ issues.may.writes)); words = inl tt; said = tt; inside = λ outside. outside }

    no_assertion : takes_assertion key.version ≡ false → is_some order.assertion ≡ true → RefusesOrder key order (use_error_of NoAssertion)
    no_assertion none given = record {
      none = inl (λ line issues. false≢true (sym (issues.may.bound none) ∙ given));
      words = inl tt;
      said = tt;
      inside = λ outside. outside;
    }

    declined : MayWrite key order → (source : PasetoError) → IsWriteAnswer (writing key order drawn) (is_some order.footer) text (Err source)
        → RefusesOrder key order (use_error_of (key_error_of source)) ⊎ Fails nothing (use_error_of (key_error_of source))
    declined may (NoTokenMemory source) is = inr (tt, tt)
    declined may source is = inl (record {
      none = inr (record {
        may = may;
        text = text;
        is_payload = is_payload;
        drawn = drawn;
        size = size;
        error = source;
        is_declined = elim is.declined [ inl memory ↦ absurd memory | inr by_scheme ↦ by_scheme ];
      });
      words = inl (fixed_no_usage (token_error_of source) (token_plain source).0);
      said = fixed_says (IsRepeatedLine order) (token_error_of source) (token_plain source).0;
      inside = token_inside source;
    })

    -- the key may write, or why it does not
    may_or_not : (answer : Result (String Global) KeyError) → Answers answer
        → (MayWrite key order × Writes (draws key) drawn (writing key order drawn) (is_some order.footer) text answer)
        ⊎ ((error : KeyError) × (answer ≡ Err error) × RefusesOrder key order (use_error_of error))
    may_or_not answer used = by_writes (writes_tokens key.kind) refl
      where
        Goal : Type 0
        Goal = (MayWrite key order × Writes (draws key) drawn (writing key order drawn) (is_some order.footer) text answer)
            ⊎ ((error : KeyError) × (answer ≡ Err error) × RefusesOrder key order (use_error_of error))

        by_answer : writes_tokens key.kind ≡ true → (takes_assertion key.version ≡ false → is_some order.assertion ≡ false) → Goal
        by_answer writes bound = inl (record { writes = writes; bound = bound }, used.answer writes bound)

        by_given : writes_tokens key.kind ≡ true → takes_assertion key.version ≡ false → (given : Bool) → is_some order.assertion ≡ given → Goal
        by_given writes none true given = inr (NoAssertion, used.unbound writes none given, no_assertion none given)
        by_given writes none false given = by_answer writes (λ _. given)

        by_binds : writes_tokens key.kind ≡ true → (binds : Bool) → takes_assertion key.version ≡ binds → Goal
        by_binds writes true binds = by_answer writes (λ none. absurd (false≢true (sym none ∙ binds)))
        by_binds writes false none = by_given writes none (is_some order.assertion) refl

        by_writes : (writes : Bool) → writes_tokens key.kind ≡ writes → Goal
        by_writes true writes = by_binds writes (takes_assertion key.version) refl
        by_writes false none = inr (OtherType key.kind, used.other (λ writes. false≢true (sym none ∙ writes)), other_type none)

    same_error : (one other : KeyError) → failed one ≡ failed other → one ≡ other
    same_error one other same = cc

    pub write_refuses : (error : KeyError) → Answers (Err error) → RefusesOrder key order (use_error_of error) ⊎ Fails nothing (use_error_of error)
    write_refuses error used = by (may_or_not (Err error) used)
      where
        by_lifted : MayWrite key order → (found : Result (String Global) PasetoError) → failed error ≡ lifted found
            → IsWriteAnswer (writing key order drawn) (is_some order.footer) text found → RefusesOrder key order (use_error_of error) ⊎ Fails nothing (use_error_of error)
        by_lifted may (Ok token) same is = absurd (cc)
        by_lifted may (Err source) same is =
            subst (λ (e : KeyError). RefusesOrder key order (use_error_of e) ⊎ Fails nothing (use_error_of e)) (sym (same_error error (key_error_of source) same)) (declined may source is)

        by : (MayWrite key order × Writes (draws key) drawn (writing key order drawn) (is_some order.footer) text (Err error))
            ⊎ ((other : KeyError) × (failed error ≡ failed other) × RefusesOrder key order (use_error_of other))
            → RefusesOrder key order (use_error_of error) ⊎ Fails nothing (use_error_of error)
        by (inl may) = let found = may.1.answer size in by_lifted may.0 found.0 found.1 found.2
        by (inr none) = inl (subst (λ (e : KeyError). RefusesOrder key order (use_error_of e)) (sym (same_error error none.0 none.1)) none.2)

    pub write_issues : (token : String Global) (line : List ℕ) (IsDrawn : List ℕ → Type 0) → Answers (Ok token) → IsDrawn drawn → IsLineOf (string_bytes token) line
        → Issues key order IsDrawn line
    write_issues token line IsDrawn used is_drawn line_is = by (may_or_not (Ok token) used)
      where
        by_lifted : MayWrite key order → (found : Result (String Global) PasetoError) → written token ≡ lifted found
            → IsWriteAnswer (writing key order drawn) (is_some order.footer) text found → Issues key order IsDrawn line
        by_lifted may (Ok other) same is = record {
          may = may;
          text = text;
          is_payload = is_payload;
          drawn = drawn;
          is_drawn = is_drawn;
          token = string_bytes token;
          is_token = let one : token ≡ other = cc in rw one is.made;
          line_is = line_is;
        }
        by_lifted may (Err source) same is = absurd (cc)

        by : (MayWrite key order × Writes (draws key) drawn (writing key order drawn) (is_some order.footer) text (Ok token))
            ⊎ ((other : KeyError) × (written token ≡ failed other) × RefusesOrder key order (use_error_of other)) → Issues key order IsDrawn line
        by (inl may) = let found = may.1.answer size in by_lifted may.0 found.0 found.1 found.2
        by (inr none) = let other : KeyError = none.0 in let same : written token ≡ failed other = none.1 in absurd (cc)

-- ---- words

-- where claims may fail, issuing them may
pub within_issuing : (key : KeyParts) (Failure : Type 0) (now : Timestamp) → IsWithin (record nothing { no_moment = ¬ FitsDefault now }) (issuing key Failure now)
within_issuing key Failure now =
    record { bytes = λ h. absurd h; moment = λ h. h; long = λ h. absurd h; footer = λ h. absurd h; stream = λ h. absurd h }

module _ (claims : List (List ℕ)) (options : Options) (now : Timestamp) (key : KeyParts) (Failure : Type 0) where
  -- the words order nothing
  pub words_order_none : (error : ProgramError) → Lacks (λ order. IsOrder claims options now order) error → IsOfWords error
      → RefusesIssue claims options now key error ⊎ Fails (issuing key Failure now) error
  words_order_none error lacks of_words = by (outside_or_not error) lacks
    where
      by : IsOutside error ⊎ (¬ IsOutside error) → Lacks (λ order. IsOrder claims options now order) error
          → RefusesIssue claims options now key error ⊎ Fails (issuing key Failure now) error
      by (inl outside) known = inr (outside, blames_so (within_all (issuing key Failure now)) error of_words.1)
      by (inr inside) (inl outside) = absurd (inside outside)
      by (inr inside) (inr none) = inl (inl (none, of_words, inside))

  -- what they order is issued
  pub order_makes : (IsDrawn : List ℕ → Type 0) (order : Ordered) → IsOrder claims options now order → (made : Result (String Global) ProgramError)
      → Makes (Issues key order IsDrawn) (RefusesOrder key order) (Fails (issuing key Failure order.moment)) made
      → Makes (IssuesFor claims options now key IsDrawn) (RefusesIssue claims options now key) (Fails (issuing key Failure now)) made
  order_makes IsDrawn order is (Ok text) makes = record { printed = (order, is, makes.printed); refused = tt }
  order_makes IsDrawn order is (Err error) makes = record {
    printed = tt;
    refused = elim makes.refused [ inl refuses ↦ inl (inr (order, is, refuses)) | inr fails ↦ inr (rw is.moment at fails) ];
  }
