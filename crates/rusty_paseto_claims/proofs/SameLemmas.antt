-- The test of `same` tells when values are the same.
use Rattle.std.proofs.Common.{◌≡◌, ℕ, List, Bool, true, false, not, ◌&&◌, IsTrue, is_some, refl, sym, ap, ◌∙◌}
use Rattle.std.specs.Cmp.{booleans_Decides}
use Rattle.std.specs.Cmp.Derive.{both_true}
use Rattle.std.proofs.lemmas.Bool.{and_parts, or_parts}
use Rattle.std.proofs.lemmas.Bool.Decides.{Decides-eqb, Decides-int_eq}
use Rattle.std.proofs.lemmas.Slice.Eq.{bytes_eq-Decides}
use Rattle.serde_json.specs.Data.{Num, unsigned, negative, float, Data, null, boolean, number, string, array, object, Items, no_items, item, Members, no_members, member}
use Rattle.serde_json.specs.Find.{as_null, as_bool, as_number, as_str, as_array, as_object, is_float}
use Rattle.serde_json.specs.Written.{has_float, items_have_float, members_have_float}
use Rattle.rusty_paseto_claims.specs.Same.{IsSame, holds_of, same, same_items, same_members, same_number}
use Rattle.rusty_paseto_claims.specs.Whole.{is_whole}

of_null : (right : Data) → is_some (as_null right) ≡ true → null ≡ right
of_null null h = refl
of_null (boolean b) h = cc h
of_null (number n) h = cc h
of_null (string s) h = cc h
of_null (array ds) h = cc h
of_null (object ms) h = cc h

of_boolean : (test : Bool → Bool) (right : Data) → holds_of test (as_bool right) ≡ true → (a : Bool) × (right ≡ boolean a) × (test a ≡ true)
of_boolean test null h = cc h
of_boolean test (boolean b) h = (b, refl, h)
of_boolean test (number n) h = cc h
of_boolean test (string s) h = cc h
of_boolean test (array ds) h = cc h
of_boolean test (object ms) h = cc h

of_number : (test : Num → Bool) (right : Data) → holds_of test (as_number right) ≡ true → (a : Num) × (right ≡ number a) × (test a ≡ true)
of_number test null h = cc h
of_number test (boolean b) h = cc h
of_number test (number n) h = (n, refl, h)
of_number test (string s) h = cc h
of_number test (array ds) h = cc h
of_number test (object ms) h = cc h

of_string : (test : List ℕ → Bool) (right : Data) → holds_of test (as_str right) ≡ true → (a : List ℕ) × (right ≡ string a) × (test a ≡ true)
of_string test null h = cc h
of_string test (boolean b) h = cc h
of_string test (number n) h = cc h
of_string test (string s) h = (s, refl, h)
of_string test (array ds) h = cc h
of_string test (object ms) h = cc h

of_array : (test : Items → Bool) (right : Data) → holds_of test (as_array right) ≡ true → (a : Items) × (right ≡ array a) × (test a ≡ true)
of_array test null h = cc h
of_array test (boolean b) h = cc h
of_array test (number n) h = cc h
of_array test (string s) h = cc h
of_array test (array ds) h = (ds, refl, h)
of_array test (object ms) h = cc h

of_object : (test : Members → Bool) (right : Data) → holds_of test (as_object right) ≡ true → (a : Members) × (right ≡ object a) × (test a ≡ true)
of_object test null h = cc h
of_object test (boolean b) h = cc h
of_object test (number n) h = cc h
of_object test (string s) h = cc h
of_object test (array ds) h = cc h
of_object test (object ms) h = (ms, refl, h)

same_number-sound : (a b : Num) → same_number a b ≡ true → (is_float a ≡ false) × (a ≡ b)
same_number-sound (unsigned m) (unsigned n) h = (refl, ap unsigned ((Decides-eqb m n).0 h))
same_number-sound (unsigned m) (negative n) h = cc h
same_number-sound (unsigned m) (float n) h = cc h
same_number-sound (negative m) (unsigned n) h = cc h
same_number-sound (negative m) (negative n) h = (refl, ap negative ((Decides-int_eq m n).0 h))
same_number-sound (negative m) (float n) h = cc h
same_number-sound (float m) b h = cc h

same_number-itself : (a : Num) → is_float a ≡ false → same_number a a ≡ true
same_number-itself (unsigned m) h = (Decides-eqb m m).1 refl
same_number-itself (negative m) h = (Decides-int_eq m m).1 refl
same_number-itself (float m) h = cc h

mutual
  same-sound : (left right : Data) → same left right ≡ true → (has_float left ≡ false) × (left ≡ right)
  same-sound null right h = (refl, of_null right h)
  same-sound (boolean a) right h =
      let found = of_boolean _ right h in
      (refl, ap boolean ((booleans_Decides a found.0).0 found.2) ∙ sym found.1)
  same-sound (number a) right h =
      let found = of_number _ right h in
      let equal = same_number-sound a found.0 found.2 in
      (equal.0, ap number equal.1 ∙ sym found.1)
  same-sound (string a) right h =
      let found = of_string _ right h in
      (refl, ap string ((bytes_eq-Decides a found.0).0 found.2) ∙ sym found.1)
  same-sound (array ds) right h =
      let found = of_array _ right h in
      let equal = same_items-sound ds found.0 found.2 in
      (equal.0, ap array equal.1 ∙ sym found.1)
  same-sound (object ms) right h =
      let found = of_object _ right h in
      let equal = same_members-sound ms found.0 found.2 in
      (equal.0, ap object equal.1 ∙ sym found.1)

  same_items-sound : (left right : Items) → same_items left right ≡ true → (items_have_float left ≡ false) × (left ≡ right)
  same_items-sound no_items no_items h = (refl, refl)
  same_items-sound no_items (item e es) h = cc h
  same_items-sound (item d ds) no_items h = cc h
  same_items-sound (item d ds) (item e es) h =
      let both = and_parts (same d e) (same_items ds es) h in
      let first = same-sound d e both.0 in
      let rest = same_items-sound ds es both.1 in
      (rw (first.0, rest.0) refl, rw (first.1, rest.1) refl)

  same_members-sound : (left right : Members) → same_members left right ≡ true → (members_have_float left ≡ false) × (left ≡ right)
  same_members-sound no_members no_members h = (refl, refl)
  same_members-sound no_members (member k e es) h = cc h
  same_members-sound (member l d ds) no_members h = cc h
  same_members-sound (member l d ds) (member k e es) h =
      let named = and_parts _ (same d e && same_members ds es) h in
      let both = and_parts (same d e) (same_members ds es) named.1 in
      let key = (bytes_eq-Decides l k).0 named.0 in
      let first = same-sound d e both.0 in
      let rest = same_members-sound ds es both.1 in
      (rw (first.0, rest.0) refl, rw (key, first.1, rest.1) refl)

mutual
  same-itself : (value : Data) → has_float value ≡ false → same value value ≡ true
  same-itself null h = refl
  same-itself (boolean b) h = (booleans_Decides b b).1 refl
  same-itself (number n) h = same_number-itself n h
  same-itself (string s) h = (bytes_eq-Decides s s).1 refl
  same-itself (array ds) h = same_items-itself ds h
  same-itself (object ms) h = same_members-itself ms h

  same_items-itself : (items : Items) → items_have_float items ≡ false → same_items items items ≡ true
  same_items-itself no_items h = refl
  same_items-itself (item d ds) h =
      let both = or_parts (has_float d) (items_have_float ds) h in
      both_true (same-itself d both.0) (same_items-itself ds both.1)

  same_members-itself : (members : Members) → members_have_float members ≡ false → same_members members members ≡ true
  same_members-itself no_members h = refl
  same_members-itself (member k d ds) h =
      let both = or_parts (has_float d) (members_have_float ds) h in
      both_true ((bytes_eq-Decides k k).1 refl) (both_true (same-itself d both.0) (same_members-itself ds both.1))

not_false : (b : Bool) → not b ≡ true → b ≡ false
not_false true h = cc h
not_false false h = refl

-- the test is true exactly where they are the same
pub test_is_same : (answer : Bool) (left right : Data) → answer ≡ same left right → (IsTrue answer → IsSame left right) × (IsSame left right → IsTrue answer)
unfolding IsSame
test_is_same answer left right tested = (
  λ h. let equal = same-sound left right (sym tested ∙ h) in
      let whole : is_whole left ≡ true = rw equal.0 refl in
      (whole, rw equal.1 at whole, equal.1),
  λ is. tested ∙ rw (← is.2) (same-itself left (not_false (has_float left) is.0)),
)
