-- How the memory grows, block by block.
use Rattle.std.proofs.Common.{◌≡◌, ℕ, ◌+◌, ◌-◌, ◌/◌, ◌%◌, ◌<◌, ◌≤◌, ◌==◌, true, false, IsTrue, not, nat_lt, List, [], map, slice_index, slice_index_or, slice_set, refl, ap, ◌∙◌, arith, add-one}
use Rattle.std.proofs.lemmas.Bool.Decides.{nat_tests}
use Rattle.paseto_argon2.specs.Block.{compressed, registers, xored}
use Rattle.paseto_argon2.specs.Filling.{Setting, address_block, after_blocks, after_lanes, after_passes, after_slices, area, block_at, column, column_before, columns, first_block, is_independent, last_blocks, made, next_block, place, random_word, reference_column, reference_lane, with_block}
use Rattle.paseto_argon2.proofs.Memory.{block_written}

-- a block that is made, as the code writes it
pub written : (s : Setting) (memory : List (List (List (List ℕ)))) (m : List (List ℕ)) (r i sl n x k : ℕ) (block : List (List (List ℕ))) (b : List ℕ)
    → memory ≡ map registers m → k ≡ place s i (column s sl n) → block ≡ registers b → b ≡ next_block s m r i sl n x
    → slice_set memory k block ≡ map registers (with_block s m r i sl n x)
unfolding with_block
written s memory m r i sl n x k block b e ek eb next =
    block_written memory m k block b e eb ∙ ap (λ (y : List ℕ). map registers (slice_set m k y)) next
    ∙ ap (λ (j : ℕ). map registers (slice_set m j (next_block s m r i sl n x))) ek

-- what a block is made of, by the places that the code reads
pub made_is : (s : Setting) (m : List (List ℕ)) (r i sl n x before previous l size z reference : ℕ)
    → before ≡ column_before s (column s sl n) → previous ≡ place s i before → l ≡ reference_lane s r i sl x → size ≡ area s r sl n (l == i)
    → z ≡ reference_column s r sl size x → reference ≡ place s l z
    → compressed (slice_index_or m previous []) (slice_index_or m reference []) ≡ made s m r i sl n x
unfolding made
made_is s m r i sl n x before previous l size z reference eb ep el es ez er = rw (ep, eb, er, ez, es, el) refl

-- the three cases of a block
pub next_first : (s : Setting) (m : List (List ℕ)) (r i sl n x j : ℕ) → r ≡ 0 → j ≡ column s sl n → j < 2
    → first_block s i j ≡ next_block s m r i sl n x
unfolding next_block
next_first s m r i sl n x j er ej lt =
    let first : (r == 0) ≡ true = grind (arith, nat_tests) in
    let front : nat_lt (column s sl n) 2 ≡ true = grind (arith, nat_tests) in
    rw (first, front, ej) refl

pub next_made : (s : Setting) (m : List (List ℕ)) (r i sl n x : ℕ) → r ≡ 0 → 2 ≤ column s sl n → made s m r i sl n x ≡ next_block s m r i sl n x
unfolding next_block
next_made s m r i sl n x er le =
    let first : (r == 0) ≡ true = grind (arith, nat_tests) in
    let front : nat_lt (column s sl n) 2 ≡ false = grind (arith, nat_tests) in
    rw (first, front) refl

pub next_mixed : (s : Setting) (m : List (List ℕ)) (r i sl n x : ℕ) → 0 < r
    → xored (made s m r i sl n x) (block_at s m i (column s sl n)) ≡ next_block s m r i sl n x
unfolding next_block
next_mixed s m r i sl n x some =
    let later : (r == 0) ≡ false = grind (arith, nat_tests) in
    rw later refl

-- the two cases of a random word
pub word_independent : (s : Setting) (m : List (List ℕ)) (r i sl n x : ℕ) → IsTrue (is_independent r sl)
    → x ≡ slice_index (address_block s r i sl (n / 128)) (n % 128) → x ≡ random_word s m r i sl n
unfolding random_word
word_independent s m r i sl n x half e =
    let test : is_independent r sl ≡ true = grind (arith, nat_tests) in
    rw test e

pub word_dependent : (s : Setting) (m : List (List ℕ)) (r i sl n x : ℕ) → IsTrue (not (is_independent r sl))
    → x ≡ slice_index (block_at s m i (column_before s (column s sl n))) 0 → x ≡ random_word s m r i sl n
unfolding random_word
word_dependent s m r i sl n x half e =
    let test : is_independent r sl ≡ false = grind (arith, nat_tests) in
    rw test e

-- one more block
pub after_more : (s : Setting) (m : List (List ℕ)) (r i sl n x : ℕ) → x ≡ random_word s (after_blocks s m r i sl n) r i sl n
    → with_block s (after_blocks s m r i sl n) r i sl n x ≡ after_blocks s m r i sl (n + 1)
unfolding after_blocks
after_more s m r i sl n x e = rw (e, add-one) refl

pub after_none : (s : Setting) (m : List (List ℕ)) (r i sl : ℕ) → m ≡ after_blocks s m r i sl 0
unfolding after_blocks
after_none s m r i sl = refl

pub lanes_none : (s : Setting) (m : List (List ℕ)) (r sl : ℕ) → m ≡ after_lanes s m r sl 0
unfolding after_lanes
lanes_none s m r sl = refl

pub lanes_more : (s : Setting) (m : List (List ℕ)) (r sl i : ℕ)
    → after_blocks s (after_lanes s m r sl i) r i sl s.segment ≡ after_lanes s m r sl (i + 1)
unfolding after_lanes
lanes_more s m r sl i = rw add-one refl

pub slices_none : (s : Setting) (m : List (List ℕ)) (r : ℕ) → m ≡ after_slices s m r 0
unfolding after_slices
slices_none s m r = refl

pub slices_more : (s : Setting) (m : List (List ℕ)) (r sl : ℕ) → after_lanes s (after_slices s m r sl) r sl s.lanes ≡ after_slices s m r (sl + 1)
unfolding after_slices
slices_more s m r sl = rw add-one refl

pub passes_none : (s : Setting) (m : List (List ℕ)) → m ≡ after_passes s m 0
unfolding after_passes
passes_none s m = refl

pub passes_more : (s : Setting) (m : List (List ℕ)) (r : ℕ) → after_slices s (after_passes s m r) r 4 ≡ after_passes s m (r + 1)
unfolding after_passes
passes_more s m r = rw add-one refl

pub last_more : (s : Setting) (m : List (List ℕ)) (i : ℕ)
    → xored (last_blocks s m i) (block_at s m i (columns s - 1)) ≡ last_blocks s m (i + 1)
unfolding last_blocks
last_more s m i = rw add-one refl
