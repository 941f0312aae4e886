-- The memory as the code holds it, and places in it.
use Rattle.std.proofs.Common.{◌≡◌, ℕ, zero, suc, ◌+◌, ◌-◌, ◌*◌, ◌<◌, ◌≤◌, List, [], ◌∷◌, ◌++◌, length, take, replicate, map, slice_index_or, slice_set, refl, sym, ap, ◌∙◌, arith}
use Rattle.std.proofs.lemmas.List.{get_or-map, length-map, map-set}
use Rattle.std.proofs.lemmas.Nat.{mul-add-lt, mul-le}
use Rattle.paseto_argon2.specs.Block.{registers}

-- a block that is read
pub block_read : (memory : List (List (List (List ℕ)))) (m : List (List ℕ)) (k : ℕ) (d : List (List (List ℕ)))
    → memory ≡ map registers m → k < length memory → slice_index_or memory k d ≡ registers (slice_index_or m k [])
block_read memory m k d e lt =
    let size : length memory ≡ length m = ap length e ∙ length-map m registers in
    let within : k < length m = omega arith in
    ap (λ (x : List (List (List (List ℕ)))). slice_index_or x k d) e ∙ get_or-map registers m k [] d within

-- a block that is written
pub block_written : (memory : List (List (List (List ℕ)))) (m : List (List ℕ)) (k : ℕ) (block : List (List (List ℕ))) (x : List ℕ)
    → memory ≡ map registers m → block ≡ registers x → slice_set memory k block ≡ map registers (slice_set m k x)
block_written memory m k block x e made =
    ap (λ (y : List (List (List (List ℕ)))). slice_set y k block) e ∙ ap (slice_set (map registers m) k) made ∙ sym (map-set registers m k x)

take_nothing : (n : ℕ) → take {A = List (List (List ℕ))} n [] ≡ []
take_nothing zero = refl
take_nothing (suc n) = refl

replicate_registers : (n : ℕ) (x : List ℕ) → replicate n (registers x) ≡ map registers (replicate n x)
replicate_registers zero x = refl
replicate_registers (suc n) x = ap (λ (rest : List (List (List (List ℕ)))). registers x ∷ rest) (replicate_registers n x)

-- a memory that was empty and is filled up with a block
pub memory_of_one : (items before : List (List (List (List ℕ)))) (block : List (List (List ℕ))) (x : List ℕ) (n old count : ℕ)
    → items ≡ take n before ++ replicate (n - old) block → before ≡ [] → old ≡ 0 → block ≡ registers x → n ≡ count
    → items ≡ map registers (replicate count x)
memory_of_one items before block x n old count e eb eo ex en =
    let none : take n before ≡ [] = ap (take n) eb ∙ take_nothing n in
    let left : n - old ≡ count = omega arith in
    e ∙ rw (none, left, ex) (replicate_registers count x)

-- the place of a block
pub place_within : (i j p q : ℕ) → i < p → j < q → i * q + j < p * q
place_within i j p q hi hj = let lt = mul-add-lt i q j p hi hj in omega (arith, lt)

-- some segments of the three others
pub segments_within : (k segment : ℕ) → k < 4 → k * segment ≤ 3 * segment
segments_within k segment lt = mul-le k segment 3 segment (omega arith) (omega arith)
