-- What a contract sees of the keys that a default builder counts, and of those that a ring holds.
use Rattle.std.specs.Prelude.{ℕ, List, map, option_map, string_bytes}
use Rattle.std.specs.BTreeMap.{get_by_text, keys}
use Rattle.std.specs.BTreeSet.{contains_text}
use Rattle.rusty_paseto.specs.KeyRing as ring
use Rattle.rusty_paseto.specs.PasetoBuilder.{Counting}
use Rattle.rusty_paseto.specs.declared.key_ring.Ring.{Ring}
use Rattle.rusty_paseto.specs.declared.keys.Keys.{Keys}

abbrev pub counting : Keys → Counting
counting keys = record { is_counted = λ key. contains_text keys.counted key; repeated = option_map string_bytes keys.repeated }

-- the ids of a ring's keys, in their order
abbrev pub ids_of : {K : Type 0} → Ring K → List (List ℕ)
ids_of held = map string_bytes (keys held.keys)

-- the keys of a ring by their ids
abbrev pub keys_of : {K : Type 0} → Ring K → ring.Keys K
keys_of held = get_by_text held.keys
