-- When two JSON values are the same.
use Rattle.std.specs.Prelude.{◌≡◌, ◌==◌, ◌&&◌, Bool, true, false, Option, is_some, option_map, unwrap_or, nat_eq}
use Rattle.std.specs.Ordering.{int_eq}
use Rattle.std.specs.Bool.{beq}
use Rattle.std.specs.Cmp.Lexicographic.{pointwise}
use Rattle.serde_json.specs.Data.{Num, unsigned, negative, float, Data, null, boolean, number, string, array, object, Items, no_items, item, Members, no_members, member}
use Rattle.serde_json.specs.Find.{as_null, as_bool, as_number, as_str, as_array, as_object}
use Rattle.rusty_paseto_claims.specs.Whole.{is_whole}

-- both have whole numbers alone, and they are one tree. A tree has each number by its value, and an object
-- as a map: each key once, in byte order
unfoldable pub IsSame : Data → Data → Type 0
IsSame left right = (is_whole left ≡ true) × (is_whole right ≡ true) × (left ≡ right)

-- ---- for private clauses: the same as a test, level by level

abbrev pub holds_of : {A : Type 0} → (A → Bool) → Option A → Bool
holds_of test found = unwrap_or (option_map test found) false

abbrev pub same_number : Num → Num → Bool
same_number (unsigned m) (unsigned n) = m == n
same_number (unsigned m) (negative n) = false
same_number (unsigned m) (float n) = false
same_number (negative m) (unsigned n) = false
same_number (negative m) (negative n) = int_eq m n
same_number (negative m) (float n) = false
same_number (float m) n = false

abbrev mutual
  pub same : Data → Data → Bool
  same null right = is_some (as_null right)
  same (boolean a) right = holds_of (beq a) (as_bool right)
  same (number a) right = holds_of (same_number a) (as_number right)
  same (string a) right = holds_of (pointwise nat_eq a) (as_str right)
  same (array ds) right = holds_of (same_items ds) (as_array right)
  same (object ms) right = holds_of (same_members ms) (as_object right)

  pub same_items : Items → Items → Bool
  same_items no_items no_items = true
  same_items no_items (item e es) = false
  same_items (item d ds) no_items = false
  same_items (item d ds) (item e es) = same d e && same_items ds es

  pub same_members : Members → Members → Bool
  same_members no_members no_members = true
  same_members no_members (member k e es) = false
  same_members (member l d ds) no_members = false
  same_members (member l d ds) (member k e es) = pointwise nat_eq l k && (same d e && same_members ds es)
