-- What a validator of even numbers finds of a value under a key.
use Rattle.std.specs.Prelude.{◌%◌, ◌==◌, ℕ, List, if◌then◌else◌, Option, Some, None}
use Rattle.serde_json.specs.Data.{Data, number, unsigned}
use Rattle.rusty_paseto_claims.specs.Error.{Fault, custom_validation}

abbrev pub even : List ℕ → Data → Option Fault
even key (number (unsigned n)) = if n % 2 == 0 then None else Some (custom_validation key)
even key other = Some (custom_validation key)
