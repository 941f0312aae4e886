-- What is reserved for members that are put into others. For private clauses.
use Rattle.std.specs.Prelude.{◌≡◌, ℕ, Bool, true, false, List, if◌then◌else◌, Option, Some, None, IsSome, option_map, unwrap_or}
use Rattle.serde_json.specs.Data.{Data, Members}
use Rattle.serde_json.specs.Find.{as_number, get_member, is_float}

-- the value marks a place that is reserved: it is a fraction, which no claim holds
abbrev pub is_mark : Data → Bool
is_mark value = unwrap_or (option_map is_float (as_number value)) false

abbrev pub is_marked : Option Data → Bool
is_marked None = false
is_marked (Some value) = is_mark value

-- what stands at a place once it is filled: what belongs there, where it was reserved
abbrev pub filled : Option Data → Option Data → Option Data
filled None own = None
filled (Some value) own = if is_mark value then own else Some value

-- the first value, or else the other
abbrev pub either_value : Option Data → Option Data → Option Data
either_value None other = other
either_value (Some value) other = Some value

-- filled with their own values, all the members have what the first have, and else the others' values
abbrev pub IsReserved : Members → Members → Members → Type 0
IsReserved own more all =
    (key : List ℕ) → (filled (get_member key all) (get_member key own) ≡ either_value (get_member key more) (get_member key own))
    × (is_marked (get_member key all) ≡ true → IsSome (get_member key own))
