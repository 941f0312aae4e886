-- Moments, and their texts.
use Rattle.std.specs.Prelude.{◌≡◌, ◌≤ℤ◌, ℕ, ℤ, pos, List, ◌++◌, codes}
use Rattle.jiff.specs.Names.{iso_datetime_text}
use Rattle.jiff.specs.Types.{DateTime}
use Rattle.jiff.specs.Words.{civil_nanos}

-- the date and time in UTC of a moment, which is a number of nanoseconds since 1970-01-01T00:00:00Z
abbrev pub IsCivil : ℤ → DateTime → Type 0
IsCivil moment civil = civil_nanos civil ≡ moment

-- the year of the moment in UTC is from 0 to 9999
abbrev pub HasShortYear : ℤ → Type 0
HasShortYear moment = (civil : DateTime) × IsCivil moment civil × (pos 0 ≤ℤ civil.date.year) × (civil.date.year ≤ℤ pos 9999)

-- the text of a moment: its date and time in UTC, as `YYYY-MM-DDTHH:MM:SS` with the fraction of a second up to its last
-- digit that is not zero, where there is one, and `Z` (RFC 3339, section 5.6); a year before 0 has a sign and six digits
abbrev pub IsMomentText : ℤ → List ℕ → Type 0
IsMomentText moment text = (civil : DateTime) × IsCivil moment civil × (text ≡ iso_datetime_text civil ++ codes "Z")
