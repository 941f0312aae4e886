-- What is said of a text whose times are not checked.
use Rattle.std.specs.Prelude.{ℕ, ℤ, List, Bool, false, int_le, if◌then◌else◌, Option, None, Some, Result, Ok, Err, codes}
use Rattle.jiff.specs.Types.{Timestamp}
use Rattle.jiff.specs.Words.{parse_timestamp}
use Rattle.serde_json.specs.Data.{Data}
use Rattle.serde_json.specs.Read.{read}
use Rattle.paseto.specs.ClaimLine.{early_line, expired_line, text_under}

-- the moment that a text is has passed, as has that of an expired token
abbrev pub is_past : {E : Type 0} → Result ℤ E → Timestamp → Bool
is_past (Ok instant) at = int_le instant at.nanosecond
is_past (Err _) at = false

abbrev pub has_passed : List ℕ → Timestamp → Bool
has_passed text at = is_past (parse_timestamp text) at

-- it has not come
abbrev pub is_future : {E : Type 0} → Result ℤ E → Timestamp → Bool
is_future (Ok instant) at = int_le at.nanosecond instant
is_future (Err _) at = false

abbrev pub is_to_come : List ℕ → Timestamp → Bool
is_to_come text at = is_future (parse_timestamp text) at

-- why claims would be refused at a moment: their `exp` has passed, or else their `nbf` has not come
abbrev pub line_of_claims : Data → Timestamp → Option (List ℕ)
line_of_claims claims at =
    if has_passed (text_under (codes "exp") claims) at then Some (expired_line (text_under (codes "exp") claims) at)
    else if is_to_come (text_under (codes "nbf") claims) at then Some (early_line (text_under (codes "nbf") claims) at)
    else None

abbrev pub line_of_data : Option Data → Timestamp → Option (List ℕ)
line_of_data (Some claims) at = line_of_claims claims at
line_of_data None at = None

-- the same of a text, where it is JSON
abbrev pub line_of_text : List ℕ → Timestamp → Option (List ℕ)
line_of_text text at = line_of_data (read text) at
