-- What the code computes of a byte is what the definitions say, since it is so for each of the 256 bytes.
use Rattle.std.proofs.Common.{◌≡◌, ℕ, zero, suc, ◌*◌, ◌/◌, ◌%◌, ◌<◌, List, [], ◌∷◌, bit_xor, slice_index, refl, arith, below_more}
use Rattle.rusty_paseto_primitives.specs.Aes.Field.{affine, inverse, inverse_below, product, product_of_bits, s_box, sub_byte, xtimes}

-- the values of a function below n, the last first
unfoldable pub values : {A : Type 0} → (ℕ → A) → ℕ → List A
values f zero = []
values f (suc n) = f n ∷ values f n

-- functions with the same values below n agree there
pub agree_below : {A : Type 0} (f g : ℕ → A) (n : ℕ) → values f n ≡ values g n → (k : ℕ) → k < n → f k ≡ g k
unfolding values
agree_below f g zero same k lt = absurd (omega arith)
agree_below f g (suc n) same k lt = below_more (λ i. f i ≡ g i) n (agree_below f g n (cc)) (cc) k (omega arith)

-- x times a byte, in a register of eight bits
pub xtimes_of_byte : (a : ℕ) → a < 256 → bit_xor (a * 2 % 256) (a / 128 * 27) ≡ xtimes a
unfolding values xtimes
xtimes_of_byte = agree_below (λ a. bit_xor (a * 2 % 256) (a / 128 * 27)) xtimes 256 refl

pub product_by_one : (a : ℕ) → a < 256 → product 1 a ≡ a
unfolding values xtimes product_of_bits product
product_by_one = agree_below (product 1) (λ a. a) 256 refl

pub product_by_two : (a : ℕ) → a < 256 → product 2 a ≡ xtimes a
unfolding values xtimes product_of_bits product
product_by_two = agree_below (product 2) xtimes 256 refl

pub product_by_three : (a : ℕ) → a < 256 → product 3 a ≡ bit_xor (xtimes a) a
unfolding values xtimes product_of_bits product
product_by_three = agree_below (product 3) (λ a. bit_xor (xtimes a) a) 256 refl

-- the table lists what the rule gives
pub s_box_is : (a : ℕ) → a < 256 → slice_index s_box a ≡ sub_byte a
unfolding values xtimes product_of_bits product inverse_below inverse affine sub_byte
s_box_is = agree_below (slice_index s_box) sub_byte 256 refl
