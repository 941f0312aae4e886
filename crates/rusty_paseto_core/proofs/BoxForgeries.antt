-- A token of version 2 that was never issued shows a sealing that no issued token is.
use Rattle.std.proofs.Common.{◌≡◌, ℕ, suc, ◌<◌, ◌^◌, List, [], ◌∷◌, ◌++◌, length, refl, sym, ap, ap₂, subst, ◌∙◌, inl, inr, ◌⊎◌, lit<, Option, Some, None, Result, Ok, Err}
use Rattle.std.proofs.lemmas.List.{take_at, take-append-drop}
use Rattle.std.proofs.lemmas.List.Elements.{All-nil}
use Rattle.std.specs.List.{All, slice_get}
use Rattle.std.specs.Prelude.{IsErrAnd}
use Rattle.rusty_paseto_primitives.specs.Bytes.{IsBytes}
use Rattle.rusty_paseto_parts.specs.Error.{IsMemory}
use Rattle.rusty_paseto_parts.specs.declared.error.PasetoError.{PasetoError}
use Rattle.rusty_paseto_parts.proofs.PaeLemmas.{pae-injective}
use Rattle.rusty_paseto_core.specs.Context.{Binding}
use Rattle.rusty_paseto_core.specs.Framing.{framing}
use Rattle.rusty_paseto_core.specs.Local.{local}
use Rattle.rusty_paseto_core.specs.Local.BoxForgery.{BoxForgeriesAreNew, BoxOpens, BoxOpensTo, IsBoxForgeryAnswer, IsBoxIssued, IsBoxOpened, IsBoxSpelling, IsBoxUnopened, IsFirstBoxFault, IsFreshBox, box_case, box_cases}
use Rattle.rusty_paseto_core.specs.Local.Boxed.{HoldsBoxed, IsBoxedFault, associated, box_in, box_of, box_opening, header, nonce_in, v2}
use Rattle.rusty_paseto_core.specs.Local.SealedBox.{BoxSealing, IsBoxNonce, IsLawfulBox}
use Rattle.rusty_paseto_core.specs.Local.TagCollision.{Case, Content}
use Rattle.rusty_paseto_core.specs.Reading.{CarriesText, IsFault, IsForm, IsFramed, IsFramingFault, IsRead}
use Rattle.rusty_paseto_core.specs.declared.local.box_forgery.BoxForgery.{BoxForgery}
use Rattle.rusty_paseto_core.specs.declared.local.tag_collision.Opening.{Opening}
use Rattle.rusty_paseto_core.proofs.CollisionLaws.{encoding_fits}
use Rattle.rusty_paseto_core.proofs.Framed.{IsFramed-framing, IsFramed-payload}
use Rattle.rusty_paseto_core.proofs.Issued.{AreFresh, at_place, before_open, case_there}
use Rattle.rusty_paseto_core.proofs.ReadingLaws.{IsRead-IsFramed, IsRead-fault, IsRead-text}
use Rattle.rusty_paseto_core.proofs.Spellings.{same_up_to_dot}
use Rattle.rusty_paseto_core.proofs.Unboxed.{asked, box_opening-lawful, in-IsNonce, payload_parts}

module _ (box : BoxSealing) (law : IsLawfulBox box) (case : Case) (key_size : length case.binding.key ≡ 32) (key_bytes : IsBytes case.binding.key)
    (footer_bytes : IsBytes case.binding.footer) where
  -- a token with a fault does not open
  pub box_unopened : (error : PasetoError) → IsMemory error ⊎ IsFault (box_opening box case.binding) case.token error → IsBoxUnopened box case error
  box_unopened error (inl memory) = inl memory
  box_unopened error (inr fault) = inr (
    λ opens. IsRead-fault (box_opening box case.binding) (box_opening-lawful box law case.binding key_size key_bytes footer_bytes)
        case.token opens.0.text error opens.1.read fault,
    fault,
  )

  -- a fault of the framing is the token's
  pub framing_unopened : (footer : List ℕ) (error : PasetoError) → footer ≡ case.binding.footer
      → IsMemory error ⊎ IsFramingFault v2 local footer case.token error → IsBoxUnopened box case error
  framing_unopened footer error same (inl memory) = inl memory
  framing_unopened footer error same (inr fault) =
      box_unopened error (inr (inl (subst (λ (f : List ℕ). IsFramingFault v2 local f case.token error) same fault)))

  module _ (payload : List ℕ) (framed : IsFramed v2 local case.binding.footer case.token payload) where
    -- a fault of the payload is the token's
    pub payload_unopened : (error : PasetoError) → IsMemory error ⊎ IsBoxedFault box case.binding payload error → IsBoxUnopened box case error
    payload_unopened error (inl memory) = inl memory
    payload_unopened error (inr fault) = box_unopened error (inr (inr (payload, framed, fault)))

    -- the nonce of a reading is the payload's
    read_nonce : (text : List ℕ) (read : IsRead (box_opening box case.binding) case.token text) → read.carried.carries.nonce ≡ nonce_in payload
    read_nonce text read =
        let lawful = box_opening-lawful box law case.binding key_size key_bytes footer_bytes in
        let own = read.carried.carries in
        let parts = payload_parts own.nonce read.payload (box_of box case.binding own.nonce text) own.is_boxed in
        let same : read.payload ≡ payload =
        IsFramed-payload v2 local case.binding.footer case.token read.payload payload
        (IsRead-IsFramed (box_opening box case.binding) lawful case.token text read) framed in
        sym (take_at own.nonce parts.0 24 own.is_nonce.size) ∙ ap nonce_in (sym parts.2 ∙ same)

    -- what is kept of a token that holds a text
    pub box_opened : (text : List ℕ) → HoldsBoxed box case.binding payload text → IsBoxOpened box case payload
    box_opened text holds =
        let reading = box_opening box case.binding in
        let lawful = box_opening-lawful box law case.binding key_size key_bytes footer_bytes in
        let whole : nonce_in payload ++ box_in payload ≡ payload = take-append-drop 24 payload in
        let carried : CarriesText reading payload text = record {
          utf8 = holds.utf8;
          bytes = holds.is_box.0;
          carries = record {
            nonce = nonce_in payload;
            is_nonce = in-IsNonce box law case.binding key_size key_bytes footer_bytes payload framed.bytes holds.room;
            is_boxed = rw (holds.is_box.1, whole) refl;
          };
        } in
        let form = IsFramed-framing v2 local header case.binding.footer case.token payload lawful.is_header.text framed in
        let read : IsRead reading case.token text =
        record { payload = payload; carried = carried; written = form.0; form = form.1; is_framing = form.2 } in
        record {
          key_size = key_size;
          key_bytes = key_bytes;
          footer_bytes = footer_bytes;
          text = text;
          read = read;
          nonce = refl;
          payload_is = refl;
          sealing = holds.is_box.1;
          alone = λ content opens.
              ap₂ (λ (n t : List ℕ). let w : Content = record { nonce = n; text = t } in w)
              (sym opens.nonce ∙ read_nonce content.text opens.read)
              (IsRead-text reading lawful case.token content.text text opens.read read);
        }

-- what is kept opens
pub opens_as : (box : BoxSealing) (case : Case) (payload : List ℕ) (a : IsBoxOpened box case payload)
    → BoxOpensTo box case (record { nonce = nonce_in payload; text = a.text })
opens_as box case payload a = record { read = a.read; nonce = a.nonce }

-- equal data that fits is of one nonce and one footer
data_alike : (nonce other_nonce footer other_footer : List ℕ) → length (associated nonce footer) < 2 ^ 64
    → associated nonce footer ≡ associated other_nonce other_footer → (nonce ≡ other_nonce) × (footer ≡ other_footer)
data_alike nonce other_nonce footer other_footer fits same =
    let other_fits = subst (λ (m : List ℕ). length m < 2 ^ 64) same fits in
    let parts = pae-injective (header ∷ nonce ∷ footer ∷ []) (header ∷ other_nonce ∷ other_footer ∷ []) (lit< tt) (lit< tt)
    (encoding_fits _ fits) (encoding_fits _ other_fits) same in
    (cc, cc)

some_same : {A : Type 0} (x y : A) → Some x ≡ Some y → x ≡ y
some_same x y e = cc

module _ (box : BoxSealing) (law : IsLawfulBox box) where
  -- two tokens of one key and footer, and of one payload, are spellings of each other
  pub box_spelling : (first second : Case) (one payload : List ℕ) → IsBoxOpened box first one → IsBoxOpened box second payload
      → first.binding ≡ second.binding → one ≡ payload → IsBoxSpelling box first second
  box_spelling first second one payload a b bindings same =
      let keys : first.binding.key ≡ second.binding.key = ap (λ (x : Binding). x.key) bindings in
      let footers : first.binding.footer ≡ second.binding.footer = ap (λ (x : Binding). x.footer) bindings in
      let sealed : box_of box second.binding (nonce_in payload) a.text ≡ Some (box_in payload) =
      subst (λ (x : Binding). box_of box x (nonce_in payload) a.text ≡ Some (box_in payload)) bindings
      (subst (λ (p : List ℕ). box_of box first.binding (nonce_in p) a.text ≡ Some (box_in p)) same a.sealing) in
      let is_nonce = subst (λ (n : List ℕ). IsBoxNonce n) b.nonce b.read.carried.carries.is_nonce in
      let texts : a.text ≡ b.text =
      law.injective second.binding.key (nonce_in payload) (associated (nonce_in payload) second.binding.footer) a.text b.text (box_in payload)
      (asked box law second.binding b.key_size b.key_bytes b.footer_bytes (nonce_in payload) is_nonce)
      a.read.carried.bytes b.read.carried.bytes sealed b.sealing in
      let content : Content = record { nonce = nonce_in payload; text = b.text } in
      let made : BoxOpensTo box first content =
      subst (λ (t : List ℕ). let c : Content = record { nonce = nonce_in payload; text = t } in BoxOpensTo box first c) texts
      (subst (λ (p : List ℕ). let c : Content = record { nonce = nonce_in p; text = a.text } in BoxOpensTo box first c) same (opens_as box first one a)) in
      let form : IsForm a.read.written second.binding.footer = subst (λ (f : List ℕ). IsForm a.read.written f) footers a.read.form in
      record {
        content = content;
        made_opens = made;
        opens = opens_as box second payload b;
        keys = keys;
        footers = footers;
        spelled = same_up_to_dot header payload second.binding.footer first.token second.token a.read.written b.read.written form b.read.form
            (a.read.is_framing ∙ ap₂ (λ (p f : List ℕ). framing header p a.read.written f) (a.payload_is ∙ same) footers)
            (b.read.is_framing ∙ ap (λ (p : List ℕ). framing header p b.read.written second.binding.footer) b.payload_is);
      }

  -- a token of another key or footer, or with another payload
  pub fresh_box : (first second : Case) (one payload encoding sealing : List ℕ) → IsBoxOpened box first one
      → first.binding.assertion ≡ second.binding.assertion
      → encoding ≡ associated (nonce_in payload) second.binding.footer → length encoding < 2 ^ 64 → sealing ≡ box_in payload
      → (((first.binding ≡ second.binding) × (one ≡ payload)) → ⊥) → IsFreshBox box second.binding.key encoding sealing first
  fresh_box first second one payload encoding sealing a assertions encoding_is fits sealing_is differ = record {
    opens = (record { nonce = nonce_in one; text = a.text }, opens_as box first one a);
    apart = λ p keys data_same sealed.
        let alone = a.alone p.0 p.1 in
        let nonces : p.0.nonce ≡ nonce_in one = ap (λ (c : Content). c.nonce) alone in
        let texts : p.0.text ≡ a.text = ap (λ (c : Content). c.text) alone in
        let own : associated (nonce_in one) first.binding.footer ≡ associated (nonce_in payload) second.binding.footer =
        ap (λ (n : List ℕ). associated n first.binding.footer) (sym nonces) ∙ data_same ∙ encoding_is in
        let own_fits = subst (λ (m : List ℕ). length m < 2 ^ 64) (encoding_is ∙ sym own) fits in
        let parts = data_alike (nonce_in one) (nonce_in payload) first.binding.footer second.binding.footer own_fits own in
        let boxes : box_in one ≡ box_in payload =
        some_same (box_in one) (box_in payload)
        (sym a.sealing ∙ ap₂ (λ (n t : List ℕ). box_of box first.binding n t) (sym nonces) (sym texts) ∙ sealed ∙ ap (λ (l : List ℕ). Some l) sealing_is) in
        let payloads : one ≡ payload =
        sym (take-append-drop 24 one) ∙ ap₂ (λ (n b : List ℕ). n ++ b) parts.0 boxes ∙ take-append-drop 24 payload in
        differ (bound_alike first.binding second.binding keys parts.1 assertions, payloads);
  }
    where
      bound_alike : (x y : Binding) → x.key ≡ y.key → x.footer ≡ y.footer → x.assertion ≡ y.assertion → x ≡ y
      bound_alike x y a b c i = record { key = a i; footer = b i; assertion = c i }

  pub box_forgeries_are_new : BoxForgeriesAreNew box
  box_forgeries_are_new issued case found key_size key_bytes footer_bytes f i =
      let s = i.spelling in
      let fresh = at_place (IsFreshBox box case.binding.key found.encoding found.sealing.items) issued f.fresh i.place i.one i.is_there in
      let reading = box_opening-lawful box law case.binding key_size key_bytes footer_bytes in
      let framed = IsRead-IsFramed (box_opening box case.binding) reading case.token s.content.text s.opens.read in
      let nonces : s.content.nonce ≡ f.content.nonce =
      sym s.opens.nonce ∙ read_nonce box law case key_size key_bytes footer_bytes s.opens.read.payload framed s.content.text s.opens.read
      ∙ sym (read_nonce box law case key_size key_bytes footer_bytes s.opens.read.payload framed f.content.text f.opens.read) ∙ f.opens.nonce in
      let texts : s.content.text ≡ f.content.text =
      IsRead-text (box_opening box case.binding) reading case.token s.content.text f.content.text s.opens.read f.opens.read in
      let encodings : associated s.content.nonce i.one.binding.footer ≡ found.encoding =
      ap₂ associated nonces s.footers ∙ sym f.encoding in
      let sealed : box i.one.binding.key s.content.nonce (associated s.content.nonce i.one.binding.footer) s.content.text ≡ Some found.sealing.items =
      rw (s.keys, encodings, texts, nonces, ← f.nonce) f.sealing in
      fresh.apart (s.content, s.made_opens) s.keys encodings sealed

-- ---- the answers

module _ (box : BoxSealing) (issued : List Case) (case : Case) where
  fault_answer : (error : PasetoError) → IsMemory error ⊎ IsFirstBoxFault box (case ∷ issued) error → IsBoxForgeryAnswer box issued case (Err error)
  fault_answer error (inl memory) = record { found = tt; complete = λ all. memory; fault = inl memory }
  fault_answer error (inr fault) = record {
    found = tt;
    complete = λ all. absurd (fault.closed (at_place (BoxOpens box) (case ∷ issued) all fault.place fault.first fault.is_there));
    fault = inr fault;
  }

  -- an error that is handed on
  pub refused_answer : (error : PasetoError) (answer : Result (Option BoxForgery) PasetoError) → IsErrAnd answer (λ e. e ≡ error)
      → IsMemory error ⊎ IsFirstBoxFault box (case ∷ issued) error → IsBoxForgeryAnswer box issued case answer
  refused_answer error (Ok found) is fault = absurd is
  refused_answer error (Err e) is fault = subst (λ (x : PasetoError). IsBoxForgeryAnswer box issued case (Err x)) (sym is) (fault_answer error fault)

  -- the token does not open
  pub token_fault : (error : PasetoError) → IsBoxUnopened box case error → IsMemory error ⊎ IsFirstBoxFault box (case ∷ issued) error
  token_fault error (inl memory) = inl memory
  token_fault error (inr fault) = inr (record {
    place = 0;
    first = case;
    is_there = refl;
    before = All-nil (BoxOpens box);
    closed = fault.0;
    fault = fault.1;
  })

  pub issued_answer : IsBoxIssued box issued case → IsBoxForgeryAnswer box issued case (Ok None)
  issued_answer i = record { found = i; complete = λ all. tt; fault = tt }

  -- a token that is none of those that were issued
  pub forgery_answer : (payload : List ℕ) (found : BoxForgery) → IsBoxOpened box case payload → found.nonce ≡ nonce_in payload
      → found.encoding ≡ associated (nonce_in payload) case.binding.footer → length found.encoding < 2 ^ 64 → found.sealing.items ≡ box_in payload
      → All (IsFreshBox box case.binding.key found.encoding found.sealing.items) issued → IsBoxForgeryAnswer box issued case (Ok (Some found))
  forgery_answer payload found a nonce encoding fits sealing fresh = record {
    found = record {
      content = record { nonce = nonce_in payload; text = a.text };
      opens = opens_as box case payload a;
      nonce = nonce;
      encoding = encoding;
      fits = fits;
      sealing = rw (nonce, encoding, sealing) a.sealing;
      fresh = fresh;
    };
    complete = λ all. tt;
    fault = tt;
  }

module _ {V : Type 0} (box : BoxSealing) (issued : List (Opening V)) where
  pub issued_there : (case : Case) (i : ℕ) (asked : Opening V) → slice_get issued i ≡ Some asked
      → IsBoxSpelling box (box_case asked) case → IsBoxIssued box (box_cases issued) case
  issued_there case i asked here spelling = record {
    place = i;
    one = box_case asked;
    is_there = case_there {A = Opening V} box_case issued i asked here;
    spelling = spelling;
  }

  -- one of those that were issued does not open
  pub issued_fault : (case : Case) (key encoding sealing : List ℕ) (i : ℕ) (asked : Opening V) (error : PasetoError) → slice_get issued i ≡ Some asked
      → BoxOpens box case → AreFresh {A = Opening V} box_case issued (IsFreshBox box key encoding sealing) i → IsBoxUnopened box (box_case asked) error
      → IsMemory error ⊎ IsFirstBoxFault box (case ∷ box_cases issued) error
  issued_fault case key encoding sealing i asked error here opens all (inl memory) = inl memory
  issued_fault case key encoding sealing i asked error here opens all (inr fault) = inr (record {
    place = suc i;
    first = box_case asked;
    is_there = case_there {A = Opening V} box_case issued i asked here;
    before = before_open {A = Opening V} box_case issued (IsFreshBox box key encoding sealing) (BoxOpens box) (λ c h. h.opens) i case opens all;
    closed = fault.0;
    fault = fault.1;
  })
