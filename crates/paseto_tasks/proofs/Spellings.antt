-- The lines that a token is looked for in.
use Rattle.std.proofs.Common.{◌≡◌, ◌<◌, ◌≤◌, ◌+◌, ℕ, List, length, take, get_or, Some, sym, ap, subst, ◌∙◌, refl}
use Rattle.std.proofs.lemmas.List.{get_or_default, length-map, take_all}
use Rattle.std.proofs.lemmas.List.Elements.{All-more}
use Rattle.std.proofs.lemmas.Option.{get_or_from_slice_get, slice_get-map, slice_get_read}
use Rattle.std.specs.Borrow.{Bor}
use Rattle.std.specs.List.{All, slice_get}
use Rattle.std.specs.Option.{option_map}
use Rattle.paseto_tasks.specs.Arguments.{texts}

module _ (lines : List (Bor (List ℕ))) (i : ℕ) (d : Bor (List ℕ)) (low : i < length lines) where
  -- the text of the line at a place
  pub line_there : slice_get (texts lines) i ≡ Some (get_or lines i d).now
  line_there =
      slice_get-map {A = Bor (List ℕ)} (λ w. w.now) lines i
      ∙ ap (option_map {T = Bor (List ℕ)} (λ w. w.now))
      (slice_get_read lines (length lines) i (get_or lines i d) refl low (get_or_default lines i d (get_or lines i d) low))

  -- what holds of the lines before a place and of the one there
  pub one_more : (P : List ℕ → Type 0) → All P (take i (texts lines)) → P (get_or lines i d).now → All P (take (i + 1) (texts lines))
  one_more P before here =
      All-more P (texts lines) i (get_or lines i d).now (subst (λ (n : ℕ). i < n) (sym (length-map lines (λ w. w.now))) low) before
      (subst P (sym (get_or_from_slice_get (texts lines) i (get_or lines i d).now (get_or lines i d).now line_there)) here)

-- what holds of the lines before the end holds of all
pub all_of : (P : List ℕ → Type 0) (lines : List (Bor (List ℕ))) (i : ℕ) → length lines ≤ i → All P (take i (texts lines)) → All P (texts lines)
all_of P lines i end all = subst (All P) (take_all i (texts lines) (subst (λ (n : ℕ). n ≤ i) (sym (length-map lines (λ w. w.now))) end)) all
