-- What the validators of tests find.
use Rattle.std.specs.Prelude.{ℕ, List, [], Option, Some, None, if◌then◌else◌}
use Rattle.serde_json.specs.Data.{Data, null}
use Rattle.serde_json.specs.Written.{compact_text}
use Rattle.rusty_paseto_claims.specs.Error.{Fault, custom_validation, invalid, unexpected}
use Rattle.rusty_paseto_claims.specs.Whole.{is_whole}

-- null is refused, and nothing else
abbrev pub refused_null : List ℕ → Data → Option Fault
refused_null key null = Some (custom_validation key)
refused_null key value = None

-- each value is refused: by its text where its numbers are whole
abbrev pub told : List ℕ → Data → Option Fault
told key value = Some (if is_whole value then invalid key [] (compact_text value) else unexpected key)
