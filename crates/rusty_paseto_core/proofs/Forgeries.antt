-- A forgery is none of the tokens that were issued, and what is none of them is a forgery.
use Rattle.std.proofs.Common.{◌≡◌, ℕ, suc, ◌<◌, ◌^◌, List, [], ◌∷◌, ◌++◌, Bool, if◌then◌else◌, length, refl, sym, ap, ap₂, subst, ◌∙◌, inl, inr, ◌⊎◌, Option, Some, None, Result, Ok, Err}
use Rattle.std.proofs.lemmas.List.Elements.{All-nil}
use Rattle.std.specs.List.{All, slice_get, slice_index_or}
use Rattle.std.specs.Prelude.{IsErrAnd}
use Rattle.rusty_paseto_parts.specs.Error.{IsMemory}
use Rattle.rusty_paseto_parts.specs.PreAuthenticationEncoding.{pae}
use Rattle.rusty_paseto_parts.specs.declared.error.PasetoError.{PasetoError}
use Rattle.rusty_paseto_core.specs.Framing.{framing}
use Rattle.rusty_paseto_core.specs.Local.{Design, IsLawful, header}
use Rattle.rusty_paseto_core.specs.Local.Forgery.{ForgeriesAreNew, ForgeriesAreTags, IsForgeryAnswer, IsFresh, IsIssued, IsSpelling}
use Rattle.rusty_paseto_core.specs.Local.Opened.{IsOpened, IsUnopened, case_in, content_in, covered_in}
use Rattle.rusty_paseto_core.specs.Local.Sealing.{sealed_payload, tag_of}
use Rattle.rusty_paseto_core.specs.Local.TagCollision.{Case, Content, Covered, IsFirstFault, Opens, OpensTo, case_of, cases, covered, encoding}
use Rattle.rusty_paseto_core.specs.Reading.{IsForm}
use Rattle.rusty_paseto_core.specs.declared.local.forgery.TagForgery.{TagForgery}
use Rattle.rusty_paseto_core.specs.declared.local.tag_collision.Opened.{Opened}
use Rattle.rusty_paseto_core.specs.declared.local.tag_collision.Opening.{Opening}
use Rattle.rusty_paseto_core.proofs.CollisionLaws.{encoded_alike, nonces_alike}
use Rattle.rusty_paseto_core.proofs.Issued.{AreFresh, at_place, before_open, case_there}
use Rattle.rusty_paseto_core.proofs.Kept.{one_content_alone}
use Rattle.rusty_paseto_core.proofs.Spellings.{same_up_to_dot}

-- ---- spellings

module _ (design : Design) (law : IsLawful design) where
  -- what is covered alike is encoded alike
  encoded_as : (first second : Case) (one : Content) → covered design first one ≡ covered design second one
      → encoding design first one ≡ encoding design second one
  encoded_as first second one same =
      let keys : first.binding.key ≡ second.binding.key = ap (λ (c : Covered). c.key) same in
      let footers : first.binding.footer ≡ second.binding.footer = ap (λ (c : Covered). c.footer) same in
      let assertions : (let assertion : List (List ℕ) = if design.binds_assertion then first.binding.assertion ∷ [] else [] in assertion)
      ≡ (if design.binds_assertion then second.binding.assertion ∷ [] else []) = ap (λ (c : Covered). c.assertion) same in
      ap pae (assembled _ _ _ _ _ _ (ap (λ (k : List ℕ). design.apply_keystream k one.nonce one.text) keys) footers assertions)
    where
      assembled : (a b f g : List ℕ) (x y : List (List ℕ)) → a ≡ b → f ≡ g → x ≡ y
          → header design ∷ one.nonce ∷ a ∷ f ∷ x ≡ header design ∷ one.nonce ∷ b ∷ g ∷ y
      assembled a b f g x y e h k = rw (e, h, k) refl

  module _ (first second : Case) (one other : Content) (first_opens : OpensTo design first one) (second_opens : OpensTo design second other)
      (nonces : one.nonce ≡ other.nonce) (same : covered design first one ≡ covered design second other) where
    contents : one ≡ other
    contents =
        ap₂ (λ (n t : List ℕ). let whole : Content = record { nonce = n; text = t } in whole) nonces (ap (λ (c : Covered). c.text) same)

    made_opens : OpensTo design first other
    made_opens = subst (λ (c : Content). OpensTo design first c) contents first_opens

    covered_both : covered design first other ≡ covered design second other
    covered_both = ap (covered design first) (sym contents) ∙ same

    payloads : sealed_payload design first.binding other.nonce other.text ≡ sealed_payload design second.binding other.nonce other.text
    unfolding sealed_payload
    payloads =
        let keys : first.binding.key ≡ second.binding.key = ap (λ (c : Covered). c.key) same in
        let c : design.apply_keystream first.binding.key other.nonce other.text ≡ design.apply_keystream second.binding.key other.nonce other.text =
        ap (λ (k : List ℕ). design.apply_keystream k other.nonce other.text) keys in
        let k : design.authentication_key first.binding.key other.nonce ≡ design.authentication_key second.binding.key other.nonce =
        ap (λ (k : List ℕ). design.authentication_key k other.nonce) keys in
        let t : tag_of design first.binding other.nonce (design.apply_keystream first.binding.key other.nonce other.text)
        ≡ tag_of design second.binding other.nonce (design.apply_keystream second.binding.key other.nonce other.text) =
        ap₂ design.tag k (encoded_as first second other covered_both) in
        ap₂ (λ (x y : List ℕ). other.nonce ++ x ++ y) c t

    framed : (case : Case) (opens : OpensTo design case other)
        → case.token ≡ framing (header design) (sealed_payload design case.binding other.nonce other.text) opens.read.written case.binding.footer
    framed case opens =
        opens.read.is_framing
        ∙ ap (λ (p : List ℕ). framing (header design) p opens.read.written case.binding.footer)
        (opens.read.carried.carries.is_sealed ∙ ap (λ (n : List ℕ). sealed_payload design case.binding n other.text) opens.nonce)

    -- two tokens with one nonce, whose tags cover the same, are spellings of each other
    pub is_spelling : IsSpelling design first second
    is_spelling =
        let written : Bool = made_opens.read.written in
        let footers : first.binding.footer ≡ second.binding.footer = ap (λ (c : Covered). c.footer) same in
        record {
          content = other;
          made_opens = made_opens;
          opens = second_opens;
          alike = covered_both;
          spelled = same_up_to_dot (header design) (sealed_payload design second.binding other.nonce other.text) second.binding.footer first.token second.token
              written second_opens.read.written (subst (λ (f : List ℕ). IsForm written f) footers made_opens.read.form) second_opens.read.form
              (framed first made_opens ∙ ap₂ (λ (p f : List ℕ). framing (header design) p written f) payloads footers)
              (framed second second_opens);
        }

  -- a token with another nonce, or whose tag covers something else, has no tag of an encoding that fits into memory
  pub fresh_of : {V : Type 0} (own other : Opened V) (message : List ℕ) → IsOpened design other
      → message ≡ encoding design (case_in own) (content_in own) → length message < 2 ^ 64
      → ((((content_in other).nonce ≡ (content_in own).nonce) × (covered_in design other ≡ covered_in design own)) → ⊥)
      → IsFresh design (case_in own).binding.key message (case_in other)
  fresh_of {V} own other message opened is fits differ = record {
    opens = (content_in other, opened.opens);
    apart = λ p keys messages.
        let alone : encoding design (case_in other) (content_in other) ≡ message = ap (encoding design (case_in other)) (sym (opened.alone p.0 p.1)) ∙ messages in
        let fits_too = subst (λ (m : List ℕ). length m < 2 ^ 64) (sym alone) fits in
        let both : encoding design (case_in other) (content_in other) ≡ encoding design (case_in own) (content_in own) = alone ∙ is in
        differ (
          nonces_alike design law (case_in other) (case_in own) (content_in other) (content_in own) fits_too both,
          encoded_alike design law (case_in other) (case_in own) (content_in other) (content_in own) fits_too both keys,
        );
  }

  -- ---- laws

  pub forgeries_are_new : ForgeriesAreNew design
  forgeries_are_new issued case found bytes f i =
      let s = i.spelling in
      let fresh = at_place (IsFresh design case.binding.key found.message) issued f.fresh i.place i.one i.is_there in
      fresh.apart (s.content, s.made_opens) (ap (λ (c : Covered). c.key) s.alike)
      (encoded_as i.one case s.content s.alike
      ∙ ap (encoding design case) (one_content_alone design law case s.content f.content bytes s.opens f.opens) ∙ sym f.message)

  pub forgeries_are_tags : ForgeriesAreTags design
  forgeries_are_tags issued case found f k d low p same_key same_message =
      let one = slice_index_or issued k d in
      let fits : length (encoding design one p.0) < 2 ^ 64 = subst (λ (m : List ℕ). length m < 2 ^ 64) (sym same_message) f.fits in
      let nonces = nonces_alike design law one case p.0 f.content fits (same_message ∙ f.message) in
      record {
        apart = λ keys. (f.fresh k d low).apart p keys same_message;
        one_key = ap (design.authentication_key one.binding.key) (sym nonces) ∙ same_key;
      }

-- ---- the answers

module _ (design : Design) (issued : List Case) (case : Case) where
  fault_answer : (error : PasetoError) → IsMemory error ⊎ IsFirstFault design (case ∷ issued) error → IsForgeryAnswer design issued case (Err error)
  fault_answer error (inl memory) = record { found = tt; complete = λ all. memory; fault = inl memory }
  fault_answer error (inr fault) = record {
    found = tt;
    complete = λ all. absurd (fault.closed (at_place (Opens design) (case ∷ issued) all fault.place fault.first fault.is_there));
    fault = inr fault;
  }

  -- an error that is handed on
  pub refused_answer : (error : PasetoError) (answer : Result (Option TagForgery) PasetoError) → IsErrAnd answer (λ e. e ≡ error)
      → IsMemory error ⊎ IsFirstFault design (case ∷ issued) error → IsForgeryAnswer design issued case answer
  refused_answer error (Ok found) is fault = absurd is
  refused_answer error (Err e) is fault = subst (λ (x : PasetoError). IsForgeryAnswer design issued case (Err x)) (sym is) (fault_answer error fault)

  -- the token does not open
  pub token_fault : (error : PasetoError) → IsUnopened design case error → IsMemory error ⊎ IsFirstFault design (case ∷ issued) error
  token_fault error (inl memory) = inl memory
  token_fault error (inr fault) = inr (record {
    place = 0;
    first = case;
    is_there = refl;
    before = All-nil (Opens design);
    closed = fault.0;
    fault = fault.1;
  })

  pub issued_answer : IsIssued design issued case → IsForgeryAnswer design issued case (Ok None)
  issued_answer i = record { found = i; complete = λ all. tt; fault = tt }

-- a token that is none of those that were issued
pub forgery_answer : {V : Type 0} (design : Design) (issued : List Case) (own : Opened V) (found : TagForgery) → IsOpened design own
    → found.nonce ≡ (content_in own).nonce → found.message ≡ encoding design (case_in own) (content_in own) → length found.message < 2 ^ 64
    → found.tag.items ≡ Rattle.rusty_paseto_core.specs.Local.Opened.tag_in own
    → All (IsFresh design (case_in own).binding.key found.message) issued → IsForgeryAnswer design issued (case_in own) (Ok (Some found))
forgery_answer {V} design issued own found opened nonce message fits tags fresh = record {
  found = record {
    content = content_in own;
    opens = opened.opens;
    nonce = nonce;
    message = message;
    fits = fits;
    tag = tags ∙ opened.tag
        ∙ ap₂ (λ (n m : List ℕ). design.tag (design.authentication_key (case_in own).binding.key n) m) (sym nonce) (sym message);
    fresh = fresh;
  };
  complete = λ all. tt;
  fault = tt;
}

module _ {V : Type 0} (design : Design) (issued : List (Opening V)) where
  pub issued_there : (case : Case) (i : ℕ) (asked : Opening V) → slice_get issued i ≡ Some asked
      → IsSpelling design (case_of asked) case → IsIssued design (cases issued) case
  issued_there case i asked here spelling = record {
    place = i;
    one = case_of asked;
    is_there = case_there {A = Opening V} case_of issued i asked here;
    spelling = spelling;
  }

  -- one of those that were issued does not open
  pub issued_fault : (case : Case) (key message : List ℕ) (i : ℕ) (asked : Opening V) (error : PasetoError) → slice_get issued i ≡ Some asked
      → Opens design case → AreFresh {A = Opening V} case_of issued (IsFresh design key message) i → IsUnopened design (case_of asked) error
      → IsMemory error ⊎ IsFirstFault design (case ∷ cases issued) error
  issued_fault case key message i asked error here opens all (inl memory) = inl memory
  issued_fault case key message i asked error here opens all (inr fault) = inr (record {
    place = suc i;
    first = case_of asked;
    is_there = case_there {A = Opening V} case_of issued i asked here;
    before = before_open {A = Opening V} case_of issued (IsFresh design key message) (Opens design) (λ c h. h.opens) i case opens all;
    closed = fault.0;
    fault = fault.1;
  })
