-- Blocks as the code holds them.
use Rattle.std.proofs.Common.{◌≡◌, ℕ, zero, suc, ◌+◌, ◌*◌, ◌/◌, ◌%◌, ◌^◌, ◌<◌, List, [], ◌∷◌, slice_index, slice_index_or, refl, ap, ◌∙◌, arith}
use Rattle.rusty_paseto_primitives.specs.Blake2.Block.{word_at}
use Rattle.rusty_paseto_primitives.proofs.Below.{below_eight}
use Rattle.paseto_argon2.specs.Block.{registers, row_words, rows, transposed}
use Rattle.paseto_argon2.specs.Permutation.{register, row}

-- the sum of four numbers, of which two are equal
pub sum_with_twice : (a b p : ℕ) → ((a + b) % 2 ^ 64 + (p % 2 ^ 64 + p % 2 ^ 64) % 2 ^ 64) % 2 ^ 64 ≡ (a + b + 2 * p) % 2 ^ 64
sum_with_twice a b p = omega arith

rows-at : (f : ℕ → ℕ) (i : ℕ) → i < 8 → slice_index_or (rows f) i [] ≡ row (λ k. f (16 * i + k))
rows-at f = below_eight _ refl refl refl refl refl refl refl refl

row-at : (f : ℕ → ℕ) (j : ℕ) → j < 8 → slice_index_or (row f) j [] ≡ register f j
row-at f = below_eight _ refl refl refl refl refl refl refl refl

register-at : (f : ℕ → ℕ) (j b : ℕ) → b < 2 → slice_index (register f j) b ≡ f (2 * j + b)
register-at f j zero lt = let same : 2 * j ≡ 2 * j + 0 = omega arith in ap f same
register-at f j (suc zero) lt = refl
register-at f j (suc (suc b)) lt = absurd (omega arith)

-- word k of a block
pub word_in_registers : (block : List (List (List ℕ))) (a : List ℕ) (k : ℕ) → block ≡ registers a → k < 128
    → slice_index (slice_index_or (slice_index_or block (k / 16) []) (k % 16 / 2) []) (k % 2) ≡ slice_index a k
unfolding registers
word_in_registers block a k e lt =
    let f : ℕ → ℕ = slice_index a in
    let place : 16 * (k / 16) + (2 * (k % 16 / 2) + k % 2) ≡ k = omega arith in
    ap (λ (b : List (List (List ℕ))). slice_index (slice_index_or (slice_index_or b (k / 16) []) (k % 16 / 2) []) (k % 2)) e
    ∙ ap (λ (r : List (List ℕ)). slice_index (slice_index_or r (k % 16 / 2) []) (k % 2)) (rows-at f (k / 16) (omega arith))
    ∙ ap (λ (r : List ℕ). slice_index r (k % 2)) (row-at (λ n. f (16 * (k / 16) + n)) (k % 16 / 2) (omega arith))
    ∙ register-at (λ n. f (16 * (k / 16) + n)) (k % 16 / 2) (k % 2) (omega arith)
    ∙ ap f place

-- register j of each row
abbrev pub column_of : List (List (List ℕ)) → ℕ → List (List ℕ)
column_of block j =
    slice_index_or (slice_index_or block 0 []) j [] ∷ slice_index_or (slice_index_or block 1 []) j []
    ∷ slice_index_or (slice_index_or block 2 []) j [] ∷ slice_index_or (slice_index_or block 3 []) j []
    ∷ slice_index_or (slice_index_or block 4 []) j [] ∷ slice_index_or (slice_index_or block 5 []) j []
    ∷ slice_index_or (slice_index_or block 6 []) j [] ∷ slice_index_or (slice_index_or block 7 []) j [] ∷ []

pub column_in_registers : (block : List (List (List ℕ))) (a : List ℕ) (j : ℕ) → block ≡ registers a → j < 8
    → column_of block j ≡ row (slice_index (row_words (transposed a) j))
unfolding registers transposed
column_in_registers block a j e lt =
    ap (λ (b : List (List (List ℕ))). column_of b j) e
    ∙ below_eight (λ (k : ℕ). column_of (rows (slice_index a)) k ≡ row (slice_index (row_words (transposed a) k)))
    refl refl refl refl refl refl refl refl j lt

-- two words, told by other numbers for their places
pub words_elsewhere : (b v : List ℕ) (n k l : ℕ) → v ≡ word_at b n ∷ word_at b (n + 1) ∷ [] → n ≡ k → n + 1 ≡ l
    → v ≡ word_at b k ∷ word_at b l ∷ []
words_elsewhere b v n k l e ek el =
    e ∙ ap (λ (x : ℕ). word_at b x ∷ word_at b (n + 1) ∷ []) ek ∙ ap (λ (x : ℕ). word_at b k ∷ word_at b x ∷ []) el
