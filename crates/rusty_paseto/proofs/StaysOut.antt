-- An expiration that was taken out stays out.
use Rattle.std.proofs.Common.{◌≡◌, ℕ, List, [], ◌∷◌, Bool, true, false, if◌then◌else◌, Option, Some, None, bytes_eq, refl, sym, ap, ◌∙◌}
use Rattle.serde_json.specs.Data.{Data, Members, put}
use Rattle.serde_json.specs.Find.{get_member}
use Rattle.serde_json.proofs.Views.{get_member-put_other}
use Rattle.rusty_paseto_claims.specs.Claim.{Answer, gives, refuses}
use Rattle.rusty_paseto_claims.specs.Error.{unexpected}
use Rattle.rusty_paseto_claims.specs.Whole.{is_whole}
use Rattle.rusty_paseto_generic.specs.Builders.Claims.{Outcome, becomes, refused, claim_set, unwrapped}
use Rattle.rusty_paseto.specs.Laws.{ExpirationStaysOut}
use Rattle.rusty_paseto.specs.PasetoBuilder.{expiration_key}

-- the claims that an edit makes
abbrev made : Outcome → Members → Members
made (becomes members) other = members
made (refused fault) other = other

put_beside : (key : List ℕ) (value : Data) (old new : Members) (whole : Bool) → (expiration_key ≡ key → ⊥)
    → (if whole then becomes (put key value old) else refused (unexpected key)) ≡ becomes new
    → get_member expiration_key new ≡ get_member expiration_key old
put_beside key value old new true other is =
    sym (ap (λ edit. get_member expiration_key (made edit old)) is) ∙ get_member-put_other expiration_key key value old other
put_beside key value old new false other is = cc is

-- a claim under another key leaves the expiration as it is
set_beside : (key : List ℕ) (answer : Answer) (old new : Members) → (expiration_key ≡ key → ⊥) → claim_set key answer old ≡ becomes new
    → get_member expiration_key new ≡ get_member expiration_key old
set_beside [] answer old new other is = sym (ap (λ edit. get_member expiration_key (made edit old)) is)
set_beside (first ∷ rest) (gives value) old new other is =
    let stored = unwrapped (first ∷ rest) value in
    put_beside (first ∷ rest) stored old new (is_whole stored) other is
set_beside (first ∷ rest) (refuses fault) old new other is = cc is

either_true : (same was : Bool) → was ≡ true → (if same then true else was) ≡ true
either_true true was h = refl
either_true false was h = h

-- where no key is repeated after a key was set, none was before, and the key was not counted
not_repeated : (key : List ℕ) (before : Option (List ℕ)) (was : Bool) → (if was then Some key else before) ≡ None
    → (was ≡ false) × (before ≡ None)
not_repeated key before true h = cc h
not_repeated key before false h = (refl, h)

pub expiration_stays_out : ExpirationStaysOut
expiration_stays_out key answer old new keys new_keys never is same = record {
  is_counted = same.is_counted expiration_key ∙ either_true (bytes_eq key expiration_key) _ never.is_counted;
  has_none = λ none.
      let fresh = not_repeated key keys.repeated (keys.is_counted key) (sym same.repeated ∙ none) in
      let other : expiration_key ≡ key → ⊥ =
      λ at. absurd (true_not_false (sym never.is_counted ∙ ap keys.is_counted at ∙ fresh.0)) in
      set_beside key answer old new other is ∙ never.has_none fresh.1;
}
  where
    true_not_false : true ≡ false → ⊥
    true_not_false h = cc h
