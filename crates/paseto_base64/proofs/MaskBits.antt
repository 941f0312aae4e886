-- The upper bits of a difference are all set where it is negative, and else none is.
use Rattle.std.proofs.Common.{◌≡◌, ℕ, ◌+◌, ◌-◌, ◌/◌, ◌%◌, ◌<◌, arith, bit_and, inl, inr, refl, ◌∙◌}
use Rattle.std.proofs.lemmas.Bool.{cases_lt, le-ltb, lt-ltb}
use Rattle.std.proofs.lemmas.Bool.Decides.{eqb_tells}
use Rattle.std.proofs.lemmas.Grind.{numeral_and}
use Rattle.std.specs.Int.Bits.{and_zero_l}
use Rattle.paseto_base64.specs.Masks.{above, equal}

all_set : (bits number : ℕ) → number < 256 → bits ≡ 16777215 → bit_and bits number ≡ number
all_set bits number low e = rw e (numeral_and 16777214 number refl ∙ omega (arith, low))

none_set : (bits number : ℕ) → bits ≡ 0 → bit_and bits number ≡ 0
none_set bits number e = rw e (and_zero_l number)

pub above_bits : (byte other number : ℕ) → byte < 256 → other < 256 → number < 256
    → bit_and ((other + (4294967296 - byte)) % 4294967296 / 256) number ≡ above byte other number
above_bits byte other number b o n = elim (cases_lt other byte) [
  | inl less ↦ rw (lt-ltb other byte less) (all_set _ number n (omega (arith, less, b)))
  | inr more ↦ rw (le-ltb other byte more) (none_set _ number (omega (arith, more, o)))
]

pub equal_bits : (byte other number : ℕ) → byte < 256 → other < 256 → number < 256
    → bit_and (((byte + 256 - other) % 256 + 4294967295) % 4294967296 / 256) number ≡ equal byte other number
equal_bits byte other number b o n = elim (eqb_tells byte other) [
  | inl same ↦ rw same.0 (all_set _ number n (omega (arith, same.1, o)))
  | inr apart ↦ rw apart.0 (none_set _ number (omega (arith, apart.1, b, o)))
]
