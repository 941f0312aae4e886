-- Where an object has no odd key.
use Rattle.std.proofs.Common.{◌≡◌, ℕ, List, Bool, true, false, not, ◌||◌, Option, Some, None, option_map, Bor, if◌then◌else◌, is_some, refl, sym, ◌∙◌}
use Rattle.serde_json.specs.Data.{Members, no_members, member}
use Rattle.serde_json.specs.Written.{has_float, members_have_float}
use Rattle.rusty_paseto_claims.specs.Whole.{first_odd}

odd_or_later : (odd : Bool) (key : List ℕ) (found : Option (List ℕ)) (later : Bool) → is_some found ≡ later
    → is_some (if not odd then found else Some key) ≡ (odd || later)
odd_or_later true key found later e = refl
odd_or_later false key found later e = e

-- there is one exactly where a value is not whole
pub is_some-first_odd : (members : Members) → is_some (first_odd members) ≡ members_have_float members
is_some-first_odd no_members = refl
is_some-first_odd (member key value rest) = odd_or_later (has_float value) key (first_odd rest) (members_have_float rest) (is_some-first_odd rest)

is_some-found : (found : Option (Bor (List ℕ))) (members : Members) → option_map (λ key. key.now) found ≡ first_odd members
    → is_some found ≡ members_have_float members
is_some-found None members e = rw (← e) at (is_some-first_odd members)
is_some-found (Some key) members e = rw (← e) at (is_some-first_odd members)

pub none_found : (none : Bool) (found : Option (Bor (List ℕ))) (members : Members) → option_map (λ key. key.now) found ≡ first_odd members
    → is_some found ≡ not none → none ≡ not (members_have_float members)
none_found true found members e n = rw (sym (is_some-found found members e) ∙ n) refl
none_found false found members e n = rw (sym (is_some-found found members e) ∙ n) refl
