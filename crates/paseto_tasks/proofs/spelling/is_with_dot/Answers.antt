use Rattle.std.proofs.Common.{◌≡◌, ℕ, List, ◌++◌, ◌∷◌, [], nat_eq, true, ap, sym, subst, refl, ◌∙◌}
use Rattle.std.proofs.lemmas.List.{append_cancel_left}
use Rattle.std.specs.Cmp.Lexicographic.{pointwise, same_text}
use Rattle.paseto_tasks.proofs.spelling.is_with_dot.Goals as goal

pub returns-in-Some : goal.returns-in-Some
returns-in-Some c =
    let bare = c.args.bare.now in
    let rest = c.in-Some.rest.now in
    let is : c.args.text.now ≡ bare ++ rest = c.in-Some.ensures in (
      λ yes. is ∙ ap (λ (r : List ℕ). bare ++ r) (same_text rest (46 ∷ []) (sym yes ∙ c.eq.ensures)),
      λ dotted. c.eq.ensures ∙ subst (λ (r : List ℕ). pointwise nat_eq r (46 ∷ []) ≡ true) (append_cancel_left bare (46 ∷ []) rest (sym dotted ∙ is)) refl,
    )
