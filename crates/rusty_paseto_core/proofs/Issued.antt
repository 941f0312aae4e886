-- What is known of tokens that were issued while they are gone through: those before a place open, and are not the token that
-- is looked for.
use Rattle.std.proofs.Common.{◌≡◌, ℕ, suc, ◌+◌, ◌≤◌, List, ◌∷◌, map, take, length, sym, ap, subst, ◌∙◌, Some}
use Rattle.std.proofs.lemmas.List.{take_all, take-map}
use Rattle.std.proofs.lemmas.List.Elements.{All-cons, All-map, All-more, All-nil, All-weaker}
use Rattle.std.proofs.lemmas.Option.{get_or_from_slice_get, slice_get-map, slice_get_within}
use Rattle.std.specs.List.{All, slice_get}
use Rattle.std.specs.Option.{option_map}
use Rattle.rusty_paseto_core.specs.Local.TagCollision.{Case}

-- what holds of each of a list holds at a place
pub at_place : (P : Case → Type 0) (list : List Case) → All P list → (i : ℕ) (x : Case) → slice_get list i ≡ Some x → P x
at_place P list all i x is = subst P (get_or_from_slice_get list i x x is) (all i x (slice_get_within list i x is))

module _ {A : Type 0} (case : A → Case) (issued : List A) where
  pub case_there : (i : ℕ) (asked : A) → slice_get issued i ≡ Some asked → slice_get (map {A = A} case issued) i ≡ Some (case asked)
  case_there i asked here = slice_get-map {A = A} case issued i ∙ ap (option_map {T = A} case) here

  module _ (Fresh : Case → Type 0) where
    -- those before a place are fresh
    abbrev pub AreFresh : ℕ → Type 0
    AreFresh i = All (λ (o : A). Fresh (case o)) (take i issued)

    pub none_fresh : AreFresh 0
    none_fresh = All-nil (λ (o : A). Fresh (case o))

    pub more_fresh : (i : ℕ) (asked : A) → slice_get issued i ≡ Some asked → AreFresh i → Fresh (case asked) → AreFresh (i + 1)
    more_fresh i asked here all fresh =
        All-more (λ (o : A). Fresh (case o)) issued i asked (slice_get_within issued i asked here) all
        (subst (λ (o : A). Fresh (case o)) (sym (get_or_from_slice_get issued i asked asked here)) fresh)

    pub all_fresh : (i : ℕ) → length issued ≤ i → AreFresh i → All Fresh (map {A = A} case issued)
    all_fresh i end all =
        All-map Fresh {Y = A} case issued (subst (All (λ (o : A). Fresh (case o))) (take_all i issued end) all)

    -- a token and those before a place open, where what is fresh opens
    pub before_open : (Opens : Case → Type 0) → ((c : Case) → Fresh c → Opens c) → (i : ℕ) (token : Case) → Opens token → AreFresh i
        → All Opens (take (suc i) (token ∷ map {A = A} case issued))
    before_open Opens opens i token own all =
        All-cons Opens token (take i (map {A = A} case issued)) own
        (subst (All Opens) (sym (take-map {X = A} case i issued))
        (All-map Opens {Y = A} case (take i issued)
        (All-weaker (λ (o : A). Fresh (case o)) (λ (o : A). Opens (case o)) (λ o h. opens (case o) h) (take i issued) all)))
