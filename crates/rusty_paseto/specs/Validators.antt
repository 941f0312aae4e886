-- What the validators that stand ready find of a value under a key.
use Rattle.std.specs.Prelude.{ℕ, ℤ, pos, List, length, Bool, false, ◌||◌, if◌then◌else◌, Option, Some, None, nat_eq, nat_le, int_le, bytes_eq, String, string_bytes}
use Rattle.std.specs.Global.{Global}
use Rattle.std.specs.List.{list_any, starts_with}
use Rattle.std.specs.Str.{chars}
use Rattle.serde_json.specs.Data.{Data, null, number, string, array, unsigned, negative, Items, no_items, item}
use Rattle.rusty_paseto_claims.specs.Error.{Fault, custom_validation, missing, unexpected}
use Rattle.rusty_paseto_generic.specs.Validator.{Verdict}

-- a value that may not stand under the key fails
abbrev pub allowed : Bool → List ℕ → Option Fault
allowed test key = if test then None else Some (custom_validation key)

-- the fault of a value that is not of the kind that is expected: null is missing
abbrev pub unfit : List ℕ → Data → Fault
unfit key null = missing key
unfit key other = unexpected key

-- a value has to be there
abbrev pub present : Verdict
present key null = Some (missing key)
present key other = None

-- ---- texts

-- a text has to be there, of which the test holds
abbrev pub of_text : (List ℕ → Bool) → Verdict
of_text test key null = Some (missing key)
of_text test key (string text) = allowed (test text) key
of_text test key other = Some (unexpected key)

-- it is one of these
abbrev pub one_of : List (String Global) → Verdict
one_of texts = of_text (λ text. list_any (λ other. bytes_eq text (string_bytes other)) texts)

-- it has so many characters at most
abbrev pub at_most_characters : ℕ → Verdict
at_most_characters count = of_text (λ text. nat_le (length (chars text)) count)

-- it begins with this
abbrev pub begins_with : List ℕ → Verdict
begins_with prefix = of_text (λ text. starts_with nat_eq text prefix)

-- ---- numbers

-- a whole number has to be there, of which the test holds
abbrev pub of_number : (ℤ → Bool) → Verdict
of_number test key null = Some (missing key)
of_number test key (number (unsigned n)) = allowed (test (pos n)) key
of_number test key (number (negative z)) = allowed (test z) key
of_number test key other = Some (unexpected key)

abbrev pub at_most : ℤ → Verdict
at_most bound = of_number (λ z. int_le z bound)

abbrev pub at_least : ℤ → Verdict
at_least bound = of_number (λ z. int_le bound z)

-- it lies between the two, or is one of them
abbrev pub within : ℤ → ℤ → Verdict
within least most = of_number (λ z. if int_le least z then int_le z most else false)

-- ---- lists

-- the item is the text
abbrev pub is_text : List ℕ → Data → Bool
is_text text (string other) = bytes_eq text other
is_text text other = false

-- the text is one of the items
abbrev pub has_text : List ℕ → Items → Bool
has_text text no_items = false
has_text text (item first more) = is_text text first || has_text text more

-- an array has to be there, that has the text
abbrev pub holding : List ℕ → Verdict
holding text key null = Some (missing key)
holding text key (array items) = allowed (has_text text items) key
holding text key other = Some (unexpected key)
