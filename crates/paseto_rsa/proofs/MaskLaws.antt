-- Masks of hashes.
use Rattle.std.proofs.Common.{◌≡◌, ℕ, zero, suc, ◌/◌, ◌%◌, ◌^◌, ◌<◌, List, [], ◌∷◌, ◌++◌, length, get_or, refl, sym, ap, arith}
use Rattle.std.specs.Prelude.{bit_xor}
use Rattle.sha2.specs.Sha512.{sha384}
use Rattle.paseto_montgomery.specs.Octets.{i2osp}
use Rattle.paseto_rsa.specs.Mask.{mgf1_blocks, xor_octets}

-- a counter of one octet
pub counter-octets : (n : ℕ) → n < 256 → 0 ∷ 0 ∷ 0 ∷ n ∷ [] ≡ i2osp n 4
unfolding i2osp
counter-octets n h =
    let first : n / 256 ^ 3 % 256 ≡ 0 = omega arith in
    let second : n / 256 ^ 2 % 256 ≡ 0 = omega arith in
    let third : n / 256 ^ 1 % 256 ≡ 0 = omega arith in
    let last : n / 256 ^ 0 % 256 ≡ n = omega arith in
    sym (rw (first, second, third, last) refl)

pub blocks-more : (seed : List ℕ) (n : ℕ) → mgf1_blocks seed (suc n) ≡ mgf1_blocks seed n ++ sha384 (seed ++ i2osp n 4)
unfolding mgf1_blocks
blocks-more seed n = refl

pub blocks-none : (seed : List ℕ) → mgf1_blocks seed 0 ≡ []
unfolding mgf1_blocks
blocks-none seed = refl

pub length-xor : (xs ys : List ℕ) → length xs ≡ length ys → length (xor_octets xs ys) ≡ length xs
unfolding xor_octets
length-xor [] ys e = refl
length-xor (x ∷ xs) [] e = absurd (omega arith)
length-xor (x ∷ xs) (y ∷ ys) e = ap suc (length-xor xs ys (omega arith))

pub get_or-xor : (xs ys : List ℕ) (k : ℕ) → length xs ≡ length ys → k < length xs
    → get_or (xor_octets xs ys) k 0 ≡ bit_xor (get_or xs k 0) (get_or ys k 0)
unfolding xor_octets
get_or-xor [] ys k e h = absurd (omega arith)
get_or-xor (x ∷ xs) [] k e h = absurd (omega arith)
get_or-xor (x ∷ xs) (y ∷ ys) zero e h = refl
get_or-xor (x ∷ xs) (y ∷ ys) (suc k) e h = get_or-xor xs ys k (omega arith) (omega arith)
