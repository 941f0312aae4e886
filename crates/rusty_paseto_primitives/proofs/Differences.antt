-- The differences of bytes, joined.
use Rattle.std.proofs.Common.{◌≡◌, ℕ, bit_or, bit_xor, arith}
use Rattle.std.specs.Int.Bits.{xor_add_and}
use Rattle.std.proofs.lemmas.Nat.{and_le_l, and_le_r, le_or_l, le_or_r}

-- with one more they are none
pub joined_none : (difference x y : ℕ) → bit_or difference (bit_xor x y) ≡ 0 → (difference ≡ 0) × (x ≡ y)
joined_none difference x y none = (
  omega (arith, le_or_l difference (bit_xor x y)),
  omega (arith, le_or_r difference (bit_xor x y), xor_add_and x y, and_le_l x y, and_le_r x y),
)
