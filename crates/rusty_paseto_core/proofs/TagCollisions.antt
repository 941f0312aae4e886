-- From what is kept of opened tokens to the answer for the openings.
use Rattle.std.proofs.Common.{◌≡◌, ℕ, ◌<◌, ◌^◌, List, [], ◌∷◌, ◌++◌, map, length, take, drop, sym, ap, ap₂, subst, ◌∙◌, Option, Some, None, Result, Ok, Err, inl, inr, ◌⊎◌}
use Rattle.std.proofs.lemmas.List.{take-append-drop}
use Rattle.std.proofs.lemmas.List.Elements.{All-map, All-weaker}
use Rattle.std.proofs.lemmas.Option.{get_or_from_slice_get, slice_get-map, slice_get_within}
use Rattle.std.specs.List.{All, slice_get, slice_index_or}
use Rattle.std.specs.Option.{option_map}
use Rattle.std.specs.Prelude.{IsErrAnd}
use Rattle.rusty_paseto_parts.specs.Error.{IsMemory}
use Rattle.rusty_paseto_parts.specs.declared.error.PasetoError.{PasetoError}
use Rattle.rusty_paseto_core.specs.Local.{Design}
use Rattle.rusty_paseto_core.specs.Local.Opened.{AreOpened, IsOpened, IsPair, CoverTheSame, case_in, content_in, nonce_and_tag_in, tag_in}
use Rattle.rusty_paseto_core.specs.Local.TagCollision.{Case, Content, IsCollision, IsCollisionAnswer, IsFirstFault, NoneShareTag, Opens, ShareTag, encoding, tag, covered}
use Rattle.rusty_paseto_core.specs.declared.local.tag_collision.Opened.{Opened}
use Rattle.rusty_paseto_core.specs.declared.local.tag_collision.TagCollision.{TagCollision}

module _ {V : Type 0} (design : Design) (kept : List (Opened V)) (each : All (IsOpened {V = V} design) kept) where
  opened_at : (i : ℕ) (x : Opened V) → slice_get kept i ≡ Some x → IsOpened design x
  opened_at i x is =
      subst (IsOpened {V = V} design) (get_or_from_slice_get kept i x x is) (each i x (slice_get_within kept i x is))

  case_at : (i : ℕ) (x : Opened V) → slice_get kept i ≡ Some x → slice_get (map {A = Opened V} case_in kept) i ≡ Some (case_in x)
  case_at i x is = slice_get-map {A = Opened V} case_in kept i ∙ ap (option_map {T = Opened V} case_in) is

  -- a pair, whose tokens are read at its places, with its encodings and its tag
  pub pair_collides : (i j : ℕ) (pair : IsPair design kept i j) (a b : Opened V) → a ≡ pair.first → b ≡ pair.second
      → (found : TagCollision) → found.places ≡ i ∷ j ∷ []
      → found.first ≡ encoding design (case_in a) (content_in a) → length found.first < 2 ^ 64
      → found.second ≡ encoding design (case_in b) (content_in b) → length found.second < 2 ^ 64
      → found.tag.items ≡ tag_in a → IsCollision design (map {A = Opened V} case_in kept) found
  pair_collides i j pair a b a_is b_is found places first first_fits second second_fits tags =
      let encoded : Opened V → List ℕ = λ x. encoding design (case_in x) (content_in x) in
      let one = opened_at i pair.first pair.first_is in
      let other = opened_at j pair.second pair.second_is in
      record {
        i = i;
        j = j;
        places = places;
        first = case_in pair.first;
        second = case_in pair.second;
        first_is = case_at i pair.first pair.first_is;
        second_is = case_at j pair.second pair.second_is;
        share = record {
          one = content_in pair.first;
          other = content_in pair.second;
          first_opens = one.opens;
          second_opens = other.opens;
          nonce = ap (take 32) pair.nonce_and_tag;
          tag = sym one.tag ∙ ap (drop 32) pair.nonce_and_tag ∙ other.tag;
          apart = pair.apart;
        };
        first_encoding = first ∙ ap encoded a_is;
        second_encoding = second ∙ ap encoded b_is;
        first_fits = first_fits;
        second_fits = second_fits;
        tag = tags ∙ ap tag_in a_is ∙ one.tag;
      }

  -- two that share a tag have one nonce and tag
  one_nonce_and_tag : (a b : Opened V) → IsOpened design a → IsOpened design b → (share : ShareTag design (case_in a) (case_in b)) → nonce_and_tag_in a ≡ nonce_and_tag_in b
  one_nonce_and_tag a b one other share =
      let first = one.alone share.one share.first_opens in
      let second = other.alone share.other share.second_opens in
      let nonces : take 32 (nonce_and_tag_in a) ≡ take 32 (nonce_and_tag_in b) =
      ap (λ (c : Content). c.nonce) (sym first) ∙ share.nonce ∙ ap (λ (c : Content). c.nonce) second in
      let tags : drop 32 (nonce_and_tag_in a) ≡ drop 32 (nonce_and_tag_in b) =
      one.tag ∙ ap (tag design (case_in a)) (sym first) ∙ share.tag ∙ ap (tag design (case_in b)) second ∙ sym other.tag in
      sym (take-append-drop 32 (nonce_and_tag_in a)) ∙ ap₂ (λ (x y : List ℕ). x ++ y) nonces tags ∙ take-append-drop 32 (nonce_and_tag_in b)

  -- where one nonce and tag covers one content, no two share a tag
  pub none_share : CoverTheSame design kept → NoneShareTag design (map {A = Opened V} case_in kept)
  none_share alike =
      All-map (λ (first : Case). All (λ (second : Case). ¬ ShareTag design first second) (map {A = Opened V} case_in kept)) {Y = Opened V} case_in kept
      (λ k d low.
      All-map (λ (second : Case). ¬ ShareTag design (case_in (slice_index_or kept k d)) second) {Y = Opened V} case_in kept
      (λ l e high share.
      let a = slice_index_or kept k d in
      let b = slice_index_or kept l e in
      let one = each k d low in
      let other = each l e high in
      let first = one.alone share.one share.first_opens in
      let second = other.alone share.other share.second_opens in
      share.apart (ap (covered design (case_in a)) first
      ∙ alike k d low l e high (one_nonce_and_tag a b one other share)
      ∙ ap (covered design (case_in b)) (sym second))))

-- the answers
module _ (design : Design) (openings : List Case) where
  first_at : All (Opens design) openings → (i : ℕ) (x : Case) → slice_get openings i ≡ Some x → Opens design x
  first_at all i x is = subst (Opens design) (get_or_from_slice_get openings i x x is) (all i x (slice_get_within openings i x is))

  fault_answer : (error : PasetoError) → IsMemory error ⊎ IsFirstFault design openings error → IsCollisionAnswer design openings (Err error)
  fault_answer error (inl memory) = record { opened = tt; found = tt; complete = λ all. memory; fault = inl memory }
  fault_answer error (inr fault) = record {
    opened = tt;
    found = tt;
    complete = λ all. absurd (fault.closed (first_at all fault.place fault.first fault.is_there));
    fault = inr fault;
  }

  -- a fault that is handed on
  pub refused_answer : (error : PasetoError) (answer : Result (Option TagCollision) PasetoError) → IsErrAnd answer (λ e. e ≡ error)
      → IsMemory error ⊎ IsFirstFault design openings error → IsCollisionAnswer design openings answer
  refused_answer error (Ok found) is fault = absurd is
  refused_answer error (Err e) is fault = subst (λ (x : PasetoError). IsCollisionAnswer design openings (Err x)) (sym is) (fault_answer error fault)

  module _ {V : Type 0} (kept : List (Opened V)) (are : AreOpened design openings kept) where
    all_open : All (Opens design) openings
    all_open =
        subst (All (Opens design)) are.cases
        (All-map (Opens design) {Y = Opened V} case_in kept
        (All-weaker (IsOpened {V = V} design) (λ (o : Opened V). Opens design (case_in o)) (λ o h. (content_in o, h.opens)) kept are.each))

    -- no pair is found
    pub none_answer : CoverTheSame design kept → IsCollisionAnswer design openings (Ok None)
    none_answer alike = record {
      opened = all_open;
      found = subst (NoneShareTag design) are.cases (none_share design kept are.each alike);
      complete = λ all. tt;
      fault = tt;
    }

    -- a pair is shown
    pub some_answer : (found : TagCollision) → IsCollision design (map {A = Opened V} case_in kept) found → IsCollisionAnswer design openings (Ok (Some found))
    some_answer found shown = record {
      opened = all_open;
      found = subst (λ (o : List Case). IsCollision design o found) are.cases shown;
      complete = λ all. tt;
      fault = tt;
    }
