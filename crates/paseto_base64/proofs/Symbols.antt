-- The symbols by arithmetic, which a check computes for each of the 64 values.
use Rattle.std.proofs.Common.{◌≡◌, ℕ, ◌+◌, ◌-◌, ◌%◌, ◌<◌, ◌==◌, true, refl, slice_index}
use Rattle.std.proofs.lemmas.Bool.{eqb-true}
use Rattle.base64.specs.Tables.{all_below}
use Rattle.base64.proofs.Tables.{all_below_at}
use Rattle.paseto_base64.specs.declared.alphabet.Alphabet.TheVariants.{Standard, UrlSafe}
use Rattle.paseto_base64.specs.Alphabet.{symbols}
use Rattle.paseto_base64.specs.Masks.{above, equal}

-- the character of a value, with what is taken away from that of 62 and added to that of 63
abbrev pub by_arithmetic : ℕ → ℕ → ℕ → ℕ
by_arithmetic down up value =
    (65 + value + above value 25 6 + above value 62 up
    + (4294967296 - (above value 51 75 + above value 61 down))) % 4294967296 % 128

standard_checked : all_below (λ value. by_arithmetic 15 3 value == slice_index (symbols Standard) value) 64 ≡ true
standard_checked = refl

url_safe_checked : all_below (λ value. by_arithmetic 13 49 value == slice_index (symbols UrlSafe) value) 64 ≡ true
url_safe_checked = refl

pub standard_symbol : (value : ℕ) → value < 64 → by_arithmetic 15 3 value ≡ slice_index (symbols Standard) value
standard_symbol value low =
    eqb-true _ _ (all_below_at (λ value. by_arithmetic 15 3 value == slice_index (symbols Standard) value) 64 value standard_checked low)

pub url_safe_symbol : (value : ℕ) → value < 64 → by_arithmetic 13 49 value ≡ slice_index (symbols UrlSafe) value
url_safe_symbol value low =
    eqb-true _ _ (all_below_at (λ value. by_arithmetic 13 49 value == slice_index (symbols UrlSafe) value) 64 value url_safe_checked low)

-- the value of a character, with the characters of 62 and 63 and what is added to them
abbrev pub value_by_arithmetic : ℕ → ℕ → ℕ → ℕ → ℕ → ℕ
value_by_arithmetic plus to_plus slash to_slash character =
    (character + 4 + equal character plus to_plus + equal character slash to_slash
    + (4294967296 - (above character 64 69 + above character 96 6))) % 4294967296 % 64

standard_values : all_below (λ value. value_by_arithmetic 43 15 47 12 (slice_index (symbols Standard) value) == value) 64 ≡ true
standard_values = refl

url_safe_values : all_below (λ value. value_by_arithmetic 45 13 95 33 (slice_index (symbols UrlSafe) value) == value) 64 ≡ true
url_safe_values = refl

pub standard_value : (character value : ℕ) → value < 64 → character ≡ slice_index (symbols Standard) value
    → value_by_arithmetic 43 15 47 12 character ≡ value
standard_value character value low is =
    rw is (eqb-true _ _ (all_below_at (λ value. value_by_arithmetic 43 15 47 12 (slice_index (symbols Standard) value) == value) 64 value standard_values low))

pub url_safe_value : (character value : ℕ) → value < 64 → character ≡ slice_index (symbols UrlSafe) value
    → value_by_arithmetic 45 13 95 33 character ≡ value
url_safe_value character value low is =
    rw is (eqb-true _ _ (all_below_at (λ value. value_by_arithmetic 45 13 95 33 (slice_index (symbols UrlSafe) value) == value) 64 value url_safe_values low))
