-- The cases of decoding.
use Rattle.std.proofs.Common.{◌≡◌, ◌≢◌, ℕ, ◌+◌, ◌*◌, ◌/◌, ◌%◌, ◌^◌, ◌<◌, ◌≤◌, List, refl, arith}
use Rattle.std.specs.Prelude.{Some, None}
use Rattle.std.proofs.lemmas.Bool.Decides.{nat_tests}
use Rattle.paseto_edwards25519.specs.Field.{minus, times}
use Rattle.paseto_edwards_laws.specs.Edwards25519.{prime, square_root_of_minus_one}
use Rattle.paseto_edwards25519.specs.Scalar.{number32}
use Rattle.paseto_edwards25519.specs.Encoding.{at, candidate, decoded, point_of, root_at, square_root}

-- the sign stands above the 255 bits of y
pub encoded_number : (low high x_low x_high y x : ℕ) → low + 2 ^ 128 * high ≡ y → x_low + 2 ^ 128 * x_high ≡ x
    → low + 2 ^ 128 * (high + x_low % 2 * 2 ^ 127) ≡ y + 2 ^ 255 * (x % 2)
encoded_number low high x_low x_high y x e f = omega arith

pub root_first : (u v x : ℕ) → x ≡ candidate u v → times v (times x x) ≡ u → Some x ≡ square_root u v
unfolding square_root
root_first u v x e f = grind (arith, nat_tests)

pub root_second : (u v x : ℕ) → x ≡ candidate u v → times v (times x x) ≢ u → times v (times x x) ≡ minus 0 u
    → Some (times x square_root_of_minus_one) ≡ square_root u v
unfolding square_root
root_second u v x e f g = grind (arith, nat_tests)

pub root_none : (u v x : ℕ) → x ≡ candidate u v → times v (times x x) ≢ u → times v (times x x) ≢ minus 0 u
    → None ≡ square_root u v
unfolding square_root
root_none u v x e f g = grind (arith, nat_tests)

pub point_same : (y sign x : ℕ) → x % 2 ≡ sign → Some (at x y) ≡ point_of y sign (Some x)
unfolding point_of
point_same y sign x e = grind (arith, nat_tests)

pub point_none : (y sign x : ℕ) → x % 2 ≢ sign → x ≡ 0 → None ≡ point_of y sign (Some x)
unfolding point_of
point_none y sign x e f = grind (arith, nat_tests)

pub point_negated : (y sign x : ℕ) → x % 2 ≢ sign → x ≢ 0 → Some (at (minus 0 x) y) ≡ point_of y sign (Some x)
unfolding point_of
point_negated y sign x e f = grind (arith, nat_tests)

pub decoded_none : (bytes : List ℕ) → prime ≤ number32 bytes % 2 ^ 255 → None ≡ decoded bytes
unfolding decoded
decoded_none bytes h = grind (arith, nat_tests)

pub decoded_at : (bytes : List ℕ) (y sign : ℕ) → y ≡ number32 bytes % 2 ^ 255 → sign ≡ number32 bytes / 2 ^ 255
    → y < prime → point_of y sign (root_at y) ≡ decoded bytes
unfolding decoded
decoded_at bytes y sign e f h = grind (arith, nat_tests)

-- what an absent root gives
pub point_of_none : (y sign : ℕ) → None ≡ point_of y sign None
unfolding point_of
point_of_none y sign = refl

-- the 255 bits of y, and the sign
pub split_sign : (n low high y : ℕ) → low + 2 ^ 128 * high ≡ n → low + 2 ^ 128 * (high % 2 ^ 127) < prime
    → y ≡ (low + 2 ^ 128 * (high % 2 ^ 127)) % prime
    → (y ≡ n % 2 ^ 255) × (high / 2 ^ 127 ≡ n / 2 ^ 255) × (y < prime)
split_sign n low high y e below f = (omega arith, omega arith, omega arith)

pub not_below : (n low high : ℕ) → low < 2 ^ 128 → low + 2 ^ 128 * high ≡ n
    → prime ≤ low + 2 ^ 128 * (high % 2 ^ 127) → prime ≤ n % 2 ^ 255
not_below n low high bound e f = omega arith
