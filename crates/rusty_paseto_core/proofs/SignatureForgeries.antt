-- A public token that was never issued shows a message and a signature that no issued token has together.
use Rattle.std.proofs.Common.{◌≡◌, ℕ, suc, ◌<◌, ◌≤◌, ◌^◌, List, ◌∷◌, ◌++◌, Bool, true, false, if◌then◌else◌, drop, length, length-append, refl, sym, ap, ap₂, subst, ◌∙◌, arith, inl, inr, ◌⊎◌, lit<, Option, Some, None, Result, Ok, Err}
use Rattle.std.proofs.lemmas.List.{drop_at}
use Rattle.std.proofs.lemmas.List.Elements.{All-nil}
use Rattle.std.specs.List.{All, slice_get}
use Rattle.std.specs.Prelude.{IsErrAnd}
use Rattle.rusty_paseto_primitives.specs.Bytes.{IsBytes}
use Rattle.rusty_paseto_parts.specs.Error.{IsMemory}
use Rattle.rusty_paseto_parts.specs.declared.error.PasetoError.{PasetoError}
use Rattle.rusty_paseto_parts.proofs.PaeLemmas.{pae-injective}
use Rattle.rusty_paseto_core.specs.Context.{Binding}
use Rattle.rusty_paseto_core.specs.Framing.{IsHeader, SameUpToDot, framing}
use Rattle.rusty_paseto_core.specs.Local.TagCollision.{Case}
use Rattle.rusty_paseto_core.specs.Public.{PublicDesign, header, message, pieces, public, where_bound}
use Rattle.rusty_paseto_core.specs.Public.Scheme.{Refusal, Validity}
use Rattle.rusty_paseto_core.specs.Public.Verifying.{verification}
use Rattle.rusty_paseto_core.specs.Reading.{IsFault, IsForm, IsFramed, IsFramingFault, IsRead}
use Rattle.rusty_paseto_core.proofs.Framed.{IsFramed-payload}
use Rattle.rusty_paseto_core.proofs.ReadingLaws.{IsRead-IsFramed, IsRead-fault, IsRead-text}
use Rattle.rusty_paseto_core.proofs.Verified.{verification-lawful}
use Rattle.rusty_paseto_core.specs.Public.SignatureForgery.{IsFirstUnverified, IsFreshlySigned, IsSignatureAnswer, IsSigned, IsSignedIssued, IsSignedSpelling, IsUnverified, IsVerified, SignatureForgeriesAreNew, SignedContent, VerifiesTo, signed_case, signed_cases}
use Rattle.rusty_paseto_core.specs.declared.public.signature_forgery.SignatureForgery.{SignatureForgery}
use Rattle.rusty_paseto_core.specs.declared.public.signature_forgery.SignedToken.{SignedToken}
use Rattle.rusty_paseto_core.proofs.CollisionLaws.{encoding_fits}
use Rattle.rusty_paseto_core.proofs.Issued.{AreFresh, at_place, before_open, case_there}
use Rattle.rusty_paseto_core.proofs.Spellings.{same_up_to_dot}

-- ---- messages that fit into memory

few_of : (binds_key binds_assertion : Bool) (key front text footer assertion : List ℕ)
    → length (where_bound binds_key key ++ (front ∷ text ∷ footer ∷ where_bound binds_assertion assertion)) < 2 ^ 64
few_of true true key front text footer assertion = lit< tt
few_of true false key front text footer assertion = lit< tt
few_of false true key front text footer assertion = lit< tt
few_of false false key front text footer assertion = lit< tt

parted : (binds_key : Bool) (key other_key front text other_text footer other_footer : List ℕ) (last other_last : List (List ℕ))
    → where_bound binds_key key ++ (front ∷ text ∷ footer ∷ last) ≡ where_bound binds_key other_key ++ (front ∷ other_text ∷ other_footer ∷ other_last)
    → (text ≡ other_text) × (footer ≡ other_footer)
parted true key other_key front text other_text footer other_footer last other_last e = (cc, cc)
parted false key other_key front text other_text footer other_footer last other_last e = (cc, cc)

-- equal messages are of one text and one footer
alike : (design : PublicDesign) (one other : Binding) (text other_text : List ℕ) → length (message design one text) < 2 ^ 64
    → message design one text ≡ message design other other_text → (text ≡ other_text) × (one.footer ≡ other.footer)
unfolding message
alike design one other text other_text fits same =
    let other_fits = subst (λ (m : List ℕ). length m < 2 ^ 64) same fits in
    let parts = pae-injective (pieces design one text) (pieces design other other_text)
    (few_of design.binds_key design.binds_assertion one.key (header design) text one.footer one.assertion)
    (few_of design.binds_key design.binds_assertion other.key (header design) other_text other.footer other.assertion)
    (encoding_fits _ fits) (encoding_fits _ other_fits) same in
    parted design.binds_key one.key other.key (header design) text other_text one.footer other.footer _ _ parts

module _ (valid : Validity) (refused : Refusal) (design : PublicDesign) (is_header : IsHeader design.version public (header design)) where
  module _ (case : Case) (footer_bytes : IsBytes case.binding.footer) where
    -- a token with a fault does not verify
    pub fault_unverified : (error : PasetoError) → IsMemory error ⊎ IsFault (verification valid refused design case.binding) case.token error
        → IsUnverified valid refused design case error
    fault_unverified error (inl memory) = inl memory
    fault_unverified error (inr fault) = inr (
      λ verified. IsRead-fault (verification valid refused design case.binding) (verification-lawful valid refused design case.binding is_header footer_bytes)
          case.token verified.0.text error verified.1.read fault,
      fault,
    )

    -- a fault of the framing is the token's
    pub framing_unverified : (version footer : List ℕ) (error : PasetoError) → design.version ≡ version → footer ≡ case.binding.footer
        → IsMemory error ⊎ IsFramingFault version public footer case.token error → IsUnverified valid refused design case error
    framing_unverified version footer error own same (inl memory) = inl memory
    framing_unverified version footer error own same (inr fault) =
        let whole : IsFramingFault design.version public case.binding.footer case.token error = rw (own, ← same) fault in
        fault_unverified error (inr (inl whole))

    -- what is framed for the footer that was asked for is framed for the token's
    pub framed_for : (version footer payload : List ℕ) → design.version ≡ version → footer ≡ case.binding.footer
        → IsFramed version public footer case.token payload → IsFramed design.version public case.binding.footer case.token payload
    framed_for version footer payload own same framed = rw (own, ← same) framed

    module _ (text : List ℕ) (read : IsRead (verification valid refused design case.binding) case.token text) where
      framed : IsFramed design.version public case.binding.footer case.token read.payload
      framed =
          IsRead-IsFramed (verification valid refused design case.binding) (verification-lawful valid refused design case.binding is_header footer_bytes)
          case.token text read

      content : SignedContent
      content = record { text = text; signature = read.carried.carries.signature }

      behind : (payload signature other : List ℕ) → payload ≡ other ++ signature → drop (length other) payload ≡ signature
      behind payload signature other e = ap (drop (length other)) e ∙ drop_at other signature (length other) refl

      alone : (other : SignedContent) → VerifiesTo valid refused design case other → other ≡ content
      unfolding content
      alone other its =
          let reading = verification valid refused design case.binding in
          let lawful = verification-lawful valid refused design case.binding is_header footer_bytes in
          let own = read.carried.carries in
          let signed = its.read.carried.carries in
          let payloads : its.read.payload ≡ read.payload =
          IsFramed-payload design.version public case.binding.footer case.token its.read.payload read.payload
          (IsRead-IsFramed reading lawful case.token other.text its.read) framed in
          let texts : other.text ≡ text = IsRead-text reading lawful case.token other.text text its.read read in
          let signatures : signed.signature ≡ own.signature =
          sym (behind its.read.payload signed.signature other.text signed.is_signed)
          ∙ ap₂ (λ (t p : List ℕ). drop (length t) p) texts payloads ∙ behind read.payload own.signature text own.is_signed in
          ap₂ (λ (t s : List ℕ). let whole : SignedContent = record { text = t; signature = s } in whole) texts (sym its.signature ∙ signatures)

      module _ (payload : List ℕ) (framed_too : IsFramed design.version public case.binding.footer case.token payload) where
        is_signed : payload ≡ text ++ read.carried.carries.signature
        is_signed =
            IsFramed-payload design.version public case.binding.footer case.token payload read.payload framed_too framed
            ∙ read.carried.carries.is_signed

        -- its payload is no shorter than its text
        pub text_within : length text ≤ length payload
        text_within =
            let whole = ap length is_signed in
            omega (arith, whole, length-append text read.carried.carries.signature)

        -- what it shows
        pub signed_from : (made : SignatureForgery) → made.message ≡ message design case.binding text → length made.message < 2 ^ 64
            → made.signature.items ≡ drop (length text) payload → IsSigned valid refused design case made
        unfolding content
        signed_from made same fits signature = record {
          content = content;
          verifies = record { read = read; signature = refl };
          message = same;
          fits = fits;
          signature = signature ∙ behind payload read.carried.carries.signature text is_signed;
          alone = alone;
        }

  -- ---- spellings

  module _ (first second : Case) (content : SignedContent) (made : VerifiesTo valid refused design first content)
      (verifies : VerifiesTo valid refused design second content) (footers : first.binding.footer ≡ second.binding.footer) where
    framed_as : (case : Case) (v : VerifiesTo valid refused design case content)
        → case.token ≡ framing (header design) (content.text ++ content.signature) v.read.written case.binding.footer
    framed_as case v =
        v.read.is_framing
        ∙ ap (λ (p : List ℕ). framing (header design) p v.read.written case.binding.footer)
        (v.read.carried.carries.is_signed ∙ ap (λ (s : List ℕ). content.text ++ s) v.signature)

    spelled : SameUpToDot second.binding.footer first.token second.token
    spelled =
        let written : Bool = made.read.written in
        let payload = content.text ++ content.signature in
        same_up_to_dot (header design) payload second.binding.footer first.token second.token written verifies.read.written
        (subst (λ (f : List ℕ). IsForm written f) footers made.read.form) verifies.read.form
        (framed_as first made ∙ ap (λ (f : List ℕ). framing (header design) payload written f) footers)
        (framed_as second verifies)

  -- two tokens with one signature of one message are spellings of each other
  pub signed_spelling : (first second : Case) (one other : SignatureForgery) → IsSigned valid refused design first one
      → IsSigned valid refused design second other → one.message ≡ other.message → one.signature.items ≡ other.signature.items
      → IsSignedSpelling valid refused design first second
  signed_spelling first second one other a b messages signatures =
      let same : message design first.binding a.content.text ≡ message design second.binding b.content.text = sym a.message ∙ messages ∙ b.message in
      let parts = alike design first.binding second.binding a.content.text b.content.text (subst (λ (m : List ℕ). length m < 2 ^ 64) a.message a.fits) same in
      let contents : a.content ≡ b.content =
      ap₂ (λ (t s : List ℕ). let whole : SignedContent = record { text = t; signature = s } in whole) parts.0
      (sym a.signature ∙ signatures ∙ b.signature) in
      let made = subst (λ (c : SignedContent). VerifiesTo valid refused design first c) contents a.verifies in
      record {
        content = b.content;
        made_verifies = made;
        verifies = b.verifies;
        messages = ap (λ (c : SignedContent). message design first.binding c.text) (sym contents) ∙ same;
        spelled = spelled first second b.content made b.verifies parts.1;
      }

  -- a token with another message or another signature
  pub freshly_signed : (signed signature : List ℕ) (first : Case) (one : SignatureForgery) → IsSigned valid refused design first one
      → (((one.message ≡ signed) × (one.signature.items ≡ signature)) → ⊥) → IsFreshlySigned valid refused design signed signature first
  freshly_signed signed signature first one a other = record {
    verifies = (a.content, a.verifies);
    apart = λ p same is.
        let content = a.alone p.0 p.1 in
        other (
          a.message ∙ ap (λ (c : SignedContent). message design first.binding c.text) (sym content) ∙ same,
          a.signature ∙ ap (λ (c : SignedContent). c.signature) (sym content) ∙ is,
        );
  }

  pub signature_forgeries_are_new : SignatureForgeriesAreNew valid refused design
  signature_forgeries_are_new issued case found bytes f i =
      let s = i.spelling in
      let fresh = at_place (IsFreshlySigned valid refused design found.message found.signature.items) issued f.fresh i.place i.one i.is_there in
      let content : s.content ≡ f.content =
      alone case bytes s.content.text s.verifies.read s.content s.verifies
      ∙ sym (alone case bytes s.content.text s.verifies.read f.content f.verifies) in
      fresh.apart (s.content, s.made_verifies)
      (s.messages ∙ ap (λ (c : SignedContent). message design case.binding c.text) content ∙ sym f.message)
      (ap (λ (c : SignedContent). c.signature) content ∙ sym f.signature)

-- ---- the answers

module _ (valid : Validity) (refused : Refusal) (design : PublicDesign) (issued : List Case) (case : Case) where
  fault_answer : (error : PasetoError) → IsMemory error ⊎ IsFirstUnverified valid refused design (case ∷ issued) error
      → IsSignatureAnswer valid refused design issued case (Err error)
  fault_answer error (inl memory) = record { found = tt; complete = λ all. memory; fault = inl memory }
  fault_answer error (inr fault) = record {
    found = tt;
    complete = λ all. absurd (fault.closed (at_place (IsVerified valid refused design) (case ∷ issued) all fault.place fault.first fault.is_there));
    fault = inr fault;
  }

  -- an error that is handed on
  pub refused_answer : (error : PasetoError) (answer : Result (Option SignatureForgery) PasetoError) → IsErrAnd answer (λ e. e ≡ error)
      → IsMemory error ⊎ IsFirstUnverified valid refused design (case ∷ issued) error → IsSignatureAnswer valid refused design issued case answer
  refused_answer error (Ok found) is fault = absurd is
  refused_answer error (Err e) is fault =
      subst (λ (x : PasetoError). IsSignatureAnswer valid refused design issued case (Err x)) (sym is) (fault_answer error fault)

  -- the token does not verify
  pub token_fault : (error : PasetoError) → IsUnverified valid refused design case error
      → IsMemory error ⊎ IsFirstUnverified valid refused design (case ∷ issued) error
  token_fault error (inl memory) = inl memory
  token_fault error (inr fault) = inr (record {
    place = 0;
    first = case;
    is_there = refl;
    before = All-nil (IsVerified valid refused design);
    closed = fault.0;
    fault = fault.1;
  })

  pub issued_answer : IsSignedIssued valid refused design issued case → IsSignatureAnswer valid refused design issued case (Ok None)
  issued_answer i = record { found = i; complete = λ all. tt; fault = tt }

  pub forgery_answer : (made : SignatureForgery) → IsSigned valid refused design case made
      → All (IsFreshlySigned valid refused design made.message made.signature.items) issued
      → IsSignatureAnswer valid refused design issued case (Ok (Some made))
  forgery_answer made t fresh =
      let own = t.verifies.read.carried.carries in
      record {
        found = record {
          content = t.content;
          verifies = t.verifies;
          message = t.message;
          fits = t.fits;
          signature = t.signature;
          is_valid = subst (λ (m : List ℕ). valid case.binding.key m made.signature.items) (sym t.message)
              (subst (λ (s : List ℕ). valid case.binding.key (message design case.binding t.content.text) s) (t.verifies.signature ∙ sym t.signature) own.is_valid);
          fresh = fresh;
        };
        complete = λ all. tt;
        fault = tt;
      }

module _ (valid : Validity) (refused : Refusal) (design : PublicDesign) (key : List ℕ) (issued : List SignedToken) where
  pub issued_there : (case : Case) (i : ℕ) (asked : SignedToken) → slice_get issued i ≡ Some asked
      → IsSignedSpelling valid refused design (signed_case design key asked) case
      → IsSignedIssued valid refused design (signed_cases design key issued) case
  issued_there case i asked here spelling = record {
    place = i;
    one = signed_case design key asked;
    is_there = case_there (signed_case design key) issued i asked here;
    spelling = spelling;
  }

  -- one of those that were issued does not verify
  pub issued_fault : (case : Case) (signed signature : List ℕ) (i : ℕ) (asked : SignedToken) (error : PasetoError) → slice_get issued i ≡ Some asked
      → IsVerified valid refused design case
      → AreFresh (signed_case design key) issued (IsFreshlySigned valid refused design signed signature) i
      → IsUnverified valid refused design (signed_case design key asked) error
      → IsMemory error ⊎ IsFirstUnverified valid refused design (case ∷ signed_cases design key issued) error
  issued_fault case signed signature i asked error here verified all (inl memory) = inl memory
  issued_fault case signed signature i asked error here verified all (inr fault) = inr (record {
    place = suc i;
    first = signed_case design key asked;
    is_there = case_there (signed_case design key) issued i asked here;
    before = before_open (signed_case design key) issued (IsFreshlySigned valid refused design signed signature) (IsVerified valid refused design)
        (λ c h. h.verifies) i case verified all;
    closed = fault.0;
    fault = fault.1;
  })

-- the assertion that a version has
pub bound_is : {A : Type 0} (binds : Bool) (given answer : Option A) → (binds ≡ true → answer ≡ given) → (binds ≡ false → answer ≡ None)
    → answer ≡ (if binds then given else None)
bound_is true given answer bound none = bound refl
bound_is false given answer bound none = none refl
