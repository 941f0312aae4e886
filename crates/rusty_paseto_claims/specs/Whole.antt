-- Which JSON values have whole numbers alone.
use Rattle.std.specs.Prelude.{◌≡◌, ⊤, ℕ, List, [], Bool, true, false, MatchOption, not, Option, Some, None, if◌then◌else◌}
use Rattle.std.specs.Ordering.{nat_cmp}
use Rattle.std.specs.declared.cmp.Ordering.TheVariants.{Less}
use Rattle.std.specs.Cmp.Lexicographic.{slice_cmp}
use Rattle.serde_json.specs.Data.{Data, object, Items, Members, no_members, member}
use Rattle.serde_json.specs.Find.{get_member}
use Rattle.serde_json.specs.Written.{has_float, items_have_float}

-- every number in it, at any depth, is held as a whole number: a float is held for each other one
abbrev pub is_whole : Data → Bool
is_whole value = not (has_float value)

abbrev pub are_whole : Items → Bool
are_whole items = not (items_have_float items)

-- the first key whose value is not whole. Members are in byte order of their keys, each key once
abbrev pub first_odd : Members → Option (List ℕ)
first_odd no_members = None
first_odd (member key value rest) = if is_whole value then first_odd rest else Some key

-- the first key of an object, and the empty text for another value that is not whole
abbrev pub odd_key : Data → Option (List ℕ)
odd_key (object members) = first_odd members
odd_key value = if is_whole value then None else Some []

-- the key has a value that is not whole, and each key before it, in byte order, has one that is, or none
abbrev pub IsFirstOdd : Members → List ℕ → Type 0
IsFirstOdd members key = ((value : Data) × (get_member key members ≡ Some value) × (is_whole value ≡ false))
    × ((other : List ℕ) → slice_cmp nat_cmp other key ≡ Less → MatchOption (get_member other members) ⊤ (λ value. is_whole value ≡ true))

-- the same as `odd_key`, without going over the members
abbrev pub IsOdd : Option (List ℕ) → Data → Type 0
IsOdd None value = is_whole value ≡ true
IsOdd (Some key) (object members) = IsFirstOdd members key
IsOdd (Some key) value = (key ≡ []) × (is_whole value ≡ false)
