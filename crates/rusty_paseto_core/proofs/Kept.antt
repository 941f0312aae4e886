-- What is kept of a token that was opened.
use Rattle.std.proofs.Common.{◌≡◌, ℕ, ◌≤◌, List, [], ◌∷◌, ◌++◌, ◌+◌, ◌<◌, map, get_or, length, take, drop, refl, sym, ap, ap₂, subst, ◌∙◌, arith, Result, Ok, Err, IfErr, inl, inr, ◌⊎◌, length-append}
use Rattle.std.proofs.lemmas.List.{take_at, drop_at, length-take-le}
use Rattle.std.proofs.lemmas.List.{take_all, take_more, take-map, map-append}
use Rattle.std.proofs.lemmas.List.Elements.{All-map, All-nil, All-push, All-weaker}
use Rattle.std.proofs.lemmas.Option.{slice_get-map, slice_get_read}
use Rattle.std.specs.Prelude.{IsErrAnd}
use Rattle.std.specs.List.{All}
use Rattle.std.specs.Option.{option_map}
use Rattle.std.specs.String.{string_bytes}
use Rattle.rusty_paseto_parts.specs.Error.{IsMemory}
use Rattle.rusty_paseto_parts.specs.declared.error.PasetoError.{PasetoError}
use Rattle.rusty_paseto_parts.specs.declared.error.PasetoError.TheVariants.{IncorrectSize}
use Rattle.rusty_paseto_primitives.specs.Bytes.{IsBytes}
use Rattle.rusty_paseto_core.specs.Context.{Binding}
use Rattle.rusty_paseto_core.specs.Local.{Design, IsLawful, local}
use Rattle.rusty_paseto_core.specs.Local.Opening.{HasRoom, HoldsText, IsSealedFault, nonce_in, opening}
use Rattle.rusty_paseto_core.specs.Local.Opening as payloads
use Rattle.rusty_paseto_core.specs.Local.Opened.{AreOpened, IsOpened, IsUnopened, case_in, content_in, nonce_and_tag_in}
use Rattle.rusty_paseto_core.specs.Local.TagCollision.{Case, Content, IsFirstFault, Opens, OpensTo, case_of, cases, tag}
use Rattle.rusty_paseto_core.specs.Reading.{IsFault, IsFramed, IsFramingFault, IsRead}
use Rattle.rusty_paseto_core.specs.declared.local.tag_collision.Opened.{Opened}
use Rattle.rusty_paseto_core.specs.declared.local.tag_collision.Opening.{Opening}
use Rattle.rusty_paseto_core.proofs.Framed.{IsFramed-payload}
use Rattle.rusty_paseto_core.proofs.Opened.{HoldsText-carries, carries-HoldsText, nonce_in-sealed, opening-lawful, tag_in-sealed}
use Rattle.rusty_paseto_core.proofs.ReadingLaws.{IsFramed-IsRead, IsRead-IsFramed, IsRead-fault, IsRead-text}

-- an error that is handed on
pub handed_on : {T : Type 0} (P : PasetoError → Type 0) (error : PasetoError) (answer : Result T PasetoError) → IsErrAnd answer (λ e. e ≡ error)
    → P error → IfErr answer P
handed_on P error (Ok found) is h = absurd is
handed_on P error (Err e) is h = subst P (sym is) h

-- a token with a fault does not open
closed : (design : Design) → IsLawful design → (case : Case) (error : PasetoError) → IsBytes case.binding.footer
    → IsFault (opening design case.binding) case.token error → ¬ Opens design case
closed design law case error bytes fault opens =
    IsRead-fault (opening design case.binding) (opening-lawful design law case.binding bytes) case.token opens.0.text error opens.1.read fault

module _ (design : Design) (law : IsLawful design) (case : Case) (binding : Binding) (version footer : List ℕ)
    (own : binding ≡ case.binding) (same_version : design.version ≡ version) (same_footer : footer ≡ binding.footer)
    (bytes : IsBytes binding.footer) where
  bytes_as : IsBytes case.binding.footer
  bytes_as = subst (λ (b : Binding). IsBytes b.footer) own bytes

  footer_as : footer ≡ case.binding.footer
  footer_as = same_footer ∙ ap (λ (b : Binding). b.footer) own

  framed_as : (payload : List ℕ) → IsFramed version local footer case.token payload → IsFramed design.version local case.binding.footer case.token payload
  framed_as payload framed =
      subst (λ (v : List ℕ). IsFramed v local case.binding.footer case.token payload) (sym same_version)
      (subst (λ (f : List ℕ). IsFramed version local f case.token payload) footer_as framed)

  -- a fault of the framing is the token's
  pub framing_unopened : (error : PasetoError) → IsMemory error ⊎ IsFramingFault version local footer case.token error → IsUnopened design case error
  framing_unopened error (inl memory) = inl memory
  framing_unopened error (inr fault) =
      let whole : IsFault (opening design case.binding) case.token error =
      inl (subst (λ (v : List ℕ). IsFramingFault v local case.binding.footer case.token error) (sym same_version)
      (subst (λ (f : List ℕ). IsFramingFault version local f case.token error) footer_as fault)) in
      inr (closed design law case error bytes_as whole, whole)

  -- a fault of the payload is the token's
  pub payload_unopened : (payload : List ℕ) (error : PasetoError) → IsFramed version local footer case.token payload
      → IsMemory error ⊎ IsSealedFault design binding payload error → IsUnopened design case error
  payload_unopened payload error framed (inl memory) = inl memory
  payload_unopened payload error framed (inr fault) =
      let whole : IsFault (opening design case.binding) case.token error =
      inr (payload, framed_as payload framed, subst (λ (b : Binding). IsSealedFault design b payload error) own fault) in
      inr (closed design law case error bytes_as whole, whole)

  -- want of room is a fault of the payload
  pub room_unopened : (payload : List ℕ) (error : PasetoError) → IsFramed version local footer case.token payload
      → IsMemory error ⊎ ((error ≡ IncorrectSize) × (¬ HasRoom design payload)) → IsUnopened design case error
  room_unopened payload error framed (inl memory) = inl memory
  room_unopened payload error framed (inr fault) =
      payload_unopened payload error framed (inr (subst (λ (e : PasetoError). IsSealedFault design binding payload e) (sym fault.0) fault.1))

module _ (design : Design) (law : IsLawful design) (case : Case) (footer_bytes : IsBytes case.binding.footer) (payload text : List ℕ)
    (framed : IsFramed design.version local case.binding.footer case.token payload)
    (holds : HoldsText design case.binding payload text) (bytes : IsBytes payload) where
  -- the nonce of each reading of the token is the payload's
  read_nonce : (other : List ℕ) (read : IsRead (opening design case.binding) case.token other) → read.carried.carries.nonce ≡ nonce_in payload
  read_nonce other read =
      let lawful = opening-lawful design law case.binding footer_bytes in
      let own = read.carried.carries in
      let same : read.payload ≡ payload =
      IsFramed-payload design.version local case.binding.footer case.token read.payload payload
      (IsRead-IsFramed (opening design case.binding) lawful case.token other read) framed in
      sym (nonce_in-sealed design law case.binding own.nonce other own.is_nonce) ∙ ap nonce_in (sym own.is_sealed ∙ same)

  -- the tag of the payload is that of its content
  read_tag : (read : IsRead (opening design case.binding) case.token text)
      → payloads.tag_in design payload ≡ tag design case (record { nonce = nonce_in payload; text = text })
  read_tag read =
      let lawful = opening-lawful design law case.binding footer_bytes in
      let own = read.carried.carries in
      let same : read.payload ≡ payload =
      IsFramed-payload design.version local case.binding.footer case.token read.payload payload
      (IsRead-IsFramed (opening design case.binding) lawful case.token text read) framed in
      ap (payloads.tag_in design) (sym same ∙ own.is_sealed)
      ∙ tag_in-sealed design law case.binding own.nonce text own.is_nonce
      ∙ ap (λ (n : List ℕ). tag design case (record { nonce = n; text = text })) (read_nonce text read)

  one_content : (content : Content) → OpensTo design case content → content ≡ record { nonce = nonce_in payload; text = text }
  one_content content opens =
      let lawful = opening-lawful design law case.binding footer_bytes in
      let read = IsFramed-IsRead (opening design case.binding) lawful case.token payload text framed (HoldsText-carries design law case.binding payload text bytes holds) in
      ap₂ (λ (n t : List ℕ). let whole : Content = record { nonce = n; text = t } in whole)
      (sym opens.nonce ∙ read_nonce content.text opens.read)
      (IsRead-text (opening design case.binding) lawful case.token content.text text opens.read read)

-- a token has one content
pub one_content_alone : (design : Design) → IsLawful design → (case : Case) (one other : Content) → IsBytes case.binding.footer
    → OpensTo design case one → OpensTo design case other → one ≡ other
one_content_alone design law case one other footer_bytes a b =
    let lawful = opening-lawful design law case.binding footer_bytes in
    let payload = a.read.payload in
    let framed = IsRead-IsFramed (opening design case.binding) lawful case.token one.text a.read in
    let holds = carries-HoldsText design law case.binding payload one.text a.read.carried in
    one_content design law case footer_bytes payload one.text framed holds framed.bytes one a
    ∙ sym (one_content design law case footer_bytes payload one.text framed holds framed.bytes other b)

-- what is kept is the content of the token
pub kept_opened : {V : Type 0} (design : Design) → IsLawful design → (kept : Opened V) (binding : Binding) (version footer payload : List ℕ)
    → binding ≡ (case_in kept).binding → design.version ≡ version → footer ≡ binding.footer → IsBytes binding.footer
    → IsFramed version local footer (case_in kept).token payload → HoldsText design binding payload (string_bytes kept.text)
    → nonce_and_tag_in kept ≡ nonce_in payload ++ payloads.tag_in design payload → IsOpened design kept
kept_opened {V} design law kept binding version footer payload own same_version same_footer footer_bytes framed holds seal_is =
    let case = case_in kept in
    let text = string_bytes kept.text in
    let bytes : IsBytes case.binding.footer = bytes_as design law case binding version footer own same_version same_footer footer_bytes in
    let framed_as : IsFramed design.version local case.binding.footer case.token payload =
    framed_as design law case binding version footer own same_version same_footer footer_bytes payload framed in
    let holds_as : HoldsText design case.binding payload text = subst (λ (b : Binding). HoldsText design b payload text) own holds in
    let size : length (nonce_in payload) ≡ 32 = length-take-le 32 payload (omega (arith, holds.room)) in
    let nonce : take 32 (nonce_and_tag_in kept) ≡ nonce_in payload = ap (take 32) seal_is ∙ take_at (nonce_in payload) (payloads.tag_in design payload) 32 size in
    let rest : drop 32 (nonce_and_tag_in kept) ≡ payloads.tag_in design payload = ap (drop 32) seal_is ∙ drop_at (nonce_in payload) (payloads.tag_in design payload) 32 size in
    let whole : content_in kept ≡ record { nonce = nonce_in payload; text = text } = ap (λ (n : List ℕ). let w : Content = record { nonce = n; text = text } in w) nonce in
    let lawful = opening-lawful design law case.binding bytes in
    let read = IsFramed-IsRead (opening design case.binding) lawful case.token payload text framed_as (HoldsText-carries design law case.binding payload text framed.bytes holds_as) in
    record {
      room = omega (arith, ap length seal_is, length-append (nonce_in payload) (payloads.tag_in design payload), size);
      opens = record { read = read; nonce = read_nonce design law case bytes payload text framed_as holds_as framed.bytes text read ∙ sym nonce };
      tag = rest ∙ read_tag design law case bytes payload text framed_as holds_as framed.bytes read ∙ ap (tag design case) (sym whole);
      alone = λ content opens. one_content design law case bytes payload text framed_as holds_as framed.bytes content opens ∙ sym whole;
    }

module _ {V : Type 0} (design : Design) where
  pub none_opened : (kept : List (Opened V)) → kept ≡ [] → AreOpened design [] kept
  none_opened kept none = record { cases = ap (map {A = Opened V} case_in) none; each = rw none (All-nil (IsOpened {V = V} design)) }

  -- one more
  pub more_opened : (openings : List (Opening V)) (i : ℕ) (asked : Opening V) (kept whole : List (Opened V)) (one : Opened V)
      → i < length openings → asked ≡ get_or openings i asked
      → case_in one ≡ case_of asked → IsOpened design one → whole ≡ kept ++ one ∷ []
      → AreOpened design (cases (take i openings)) kept → AreOpened design (cases (take (i + 1) openings)) whole
  more_opened openings i asked kept whole one low here same opened is are = record {
    cases =
        ap (map {A = Opened V} case_in) is ∙ map-append {A = Opened V} case_in kept (one ∷ [])
        ∙ ap₂ (λ (front : List Case) (last : Case). front ++ last ∷ []) are.cases same
        ∙ sym (ap (map {A = Opening V} case_of) (take_more openings i asked low)
        ∙ map-append {A = Opening V} case_of (take i openings) (get_or openings i asked ∷ [])
        ∙ ap (λ (x : Opening V). map {A = Opening V} case_of (take i openings) ++ case_of x ∷ []) (sym here));
    each = rw is (All-push (IsOpened {V = V} design) kept one are.each opened);
  }

  -- all of them
  pub all_opened : (openings : List (Opening V)) (i : ℕ) (kept : List (Opened V)) → length openings ≤ i
      → AreOpened design (cases (take i openings)) kept → AreOpened design (cases openings) kept
  all_opened openings i kept end are = subst (λ (o : List (Opening V)). AreOpened design (cases o) kept) (take_all i openings end) are

  before_open : (openings : List (Opening V)) (i : ℕ) (kept : List (Opened V)) → AreOpened design (cases (take i openings)) kept
      → All (Opens design) (take i (cases openings))
  before_open openings i kept are =
      subst (All (Opens design)) (are.cases ∙ sym (take-map {X = Opening V} case_of i openings))
      (All-map (Opens design) {Y = Opened V} case_in kept
      (All-weaker (IsOpened {V = V} design) (λ (o : Opened V). Opens design (case_in o)) (λ o h. (content_in o, h.opens)) kept are.each))

  -- the first that does not open
  pub first_unopened : (openings : List (Opening V)) (i : ℕ) (asked : Opening V) (kept : List (Opened V)) (error : PasetoError)
      → i < length openings → asked ≡ get_or openings i asked
      → AreOpened design (cases (take i openings)) kept → IsUnopened design (case_of asked) error
      → IsMemory error ⊎ IsFirstFault design (cases openings) error
  first_unopened openings i asked kept error low here are (inl memory) = inl memory
  first_unopened openings i asked kept error low here are (inr fault) = inr (record {
    place = i;
    first = case_of asked;
    is_there =
        slice_get-map {A = Opening V} case_of openings i
        ∙ ap (option_map {T = Opening V} case_of) (slice_get_read openings (length openings) i asked refl low here);
    before = before_open openings i kept are;
    closed = fault.0;
    fault = fault.1;
  })
