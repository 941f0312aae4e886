-- How the memory is filled (RFC 9106, sections 3.2 and 3.4), for Argon2id. The memory is the matrix of blocks, row
-- after row: a row is a lane, and four segments side by side make it up. The segments of all lanes in one place are a
-- slice.
use Rattle.std.specs.Prelude.{ℕ, zero, suc, ◌+◌, ◌-◌, ◌*◌, ◌/◌, ◌%◌, ◌^◌, ◌==◌, Bool, ◌&&◌, nat_lt, if◌then◌else◌, List, [], ◌∷◌, ◌++◌, replicate, slice_index, slice_index_or, slice_set}
use Rattle.paseto_argon2.specs.Block.{block_of, compressed, xored, zero_block}
use Rattle.paseto_argon2.specs.VariableHash.{le32, variable_hash}

-- what the filling depends on: H_0, the number of lanes p, the number of blocks in a segment, which is a quarter of
-- the columns q, and the number of passes t
pub record Setting : Type 0 where
  pub seed : List ℕ
  pub lanes : ℕ
  pub segment : ℕ
  pub passes : ℕ

-- q
abbrev pub columns : Setting → ℕ
columns s = 4 * s.segment

-- the place in the memory of the block in lane i and column j
abbrev pub place : Setting → ℕ → ℕ → ℕ
place s i j = i * columns s + j

-- B[i][j]
abbrev pub block_at : Setting → List (List ℕ) → ℕ → ℕ → List ℕ
block_at s m i j = slice_index_or m (place s i j) []

-- the column of block n of a segment of slice sl, and the column before a column
abbrev pub column : Setting → ℕ → ℕ → ℕ
column s sl n = sl * s.segment + n

abbrev pub column_before : Setting → ℕ → ℕ
column_before s j = (j + columns s - 1) % columns s

-- B[i][0] and B[i][1] of the first pass (3.2, steps 3 and 4)
unfoldable pub first_block : Setting → ℕ → ℕ → List ℕ
first_block s i j = block_of (variable_hash 1024 (s.seed ++ le32 j ++ le32 i))

-- block k of the numbers J_1 and J_2 of a segment, of pass r, lane i and slice sl, where they depend on no data: 2
-- says that this is Argon2id (3.4.1.2)
unfoldable pub address_block : Setting → ℕ → ℕ → ℕ → ℕ → List ℕ
address_block s r i sl k =
    compressed zero_block (compressed zero_block
    (r ∷ i ∷ sl ∷ (s.lanes * columns s) ∷ s.passes ∷ 2 ∷ (k + 1) ∷ replicate 121 0))

-- in the first half of the first pass they depend on no data (3.4.1.3)
abbrev pub is_independent : ℕ → ℕ → Bool
is_independent r sl = r == 0 && nat_lt sl 2

-- J_1 and J_2 for block n of a segment, as one word, in which J_1 is the lower half (3.4.1)
unfoldable pub random_word : Setting → List (List ℕ) → ℕ → ℕ → ℕ → ℕ → ℕ
random_word s m r i sl n =
    if is_independent r sl
    then slice_index (address_block s r i sl (n / 128)) (n % 128)
    else slice_index (block_at s m i (column_before s (column s sl n))) 0

-- the lane l that the word x refers to: in the first slice of the first pass the current one (3.4.2)
unfoldable pub reference_lane : Setting → ℕ → ℕ → ℕ → ℕ → ℕ
reference_lane s r i sl x = if (r == 0 && sl == 0) then i else x / 2 ^ 32 % s.lanes

-- the number of blocks of a lane in finished segments: in the first pass all earlier ones, and then the last three
-- (3.4.2)
unfoldable pub finished : Setting → ℕ → ℕ → ℕ
finished s r sl = if r == 0 then sl * s.segment else 3 * s.segment

-- the number of blocks that block n of a segment may refer to, |W|: the finished ones, in the own lane also those of
-- this segment but the one before, and in another lane, for the first block of a segment, all but the very last
-- (3.4.2)
unfoldable pub area : Setting → ℕ → ℕ → ℕ → Bool → ℕ
area s r sl n is_own =
    if is_own then finished s r sl + n - 1 else (if n == 0 then finished s r sl - 1 else finished s r sl)

-- the column of the first of them (3.4.2)
unfoldable pub start : Setting → ℕ → ℕ → ℕ
start s r sl = if r == 0 then 0 else (sl + 1) % 4 * s.segment

-- which of so many blocks the word x refers to: |W| (1 - J_1 ^ 2 / 2 ^ 64), as it is computed (3.4.2)
unfoldable pub chosen : ℕ → ℕ → ℕ
chosen size x =
    let j1 = x % 2 ^ 32 in
    let square = j1 * j1 / 2 ^ 32 in
    size - 1 - size * square / 2 ^ 32

-- the column z (3.4.2)
unfoldable pub reference_column : Setting → ℕ → ℕ → ℕ → ℕ → ℕ
reference_column s r sl size x = (start s r sl + chosen size x) % columns s

-- G of the block before and of the block that the word x refers to (3.2, step 5)
unfoldable pub made : Setting → List (List ℕ) → ℕ → ℕ → ℕ → ℕ → ℕ → List ℕ
made s m r i sl n x =
    let l = reference_lane s r i sl x in
    let z = reference_column s r sl (area s r sl n (l == i)) x in
    compressed (block_at s m i (column_before s (column s sl n))) (block_at s m l z)

-- block n of a segment: in passes after the first, the exclusive or with what it was (3.2, steps 3 to 6)
unfoldable pub next_block : Setting → List (List ℕ) → ℕ → ℕ → ℕ → ℕ → ℕ → List ℕ
next_block s m r i sl n x =
    let j = column s sl n in
    if r == 0
    then (if nat_lt j 2 then first_block s i j else made s m r i sl n x)
    else xored (made s m r i sl n x) (block_at s m i j)

-- the memory with block n of a segment made
unfoldable pub with_block : Setting → List (List ℕ) → ℕ → ℕ → ℕ → ℕ → ℕ → List (List ℕ)
with_block s m r i sl n x = slice_set m (place s i (column s sl n)) (next_block s m r i sl n x)

-- the memory after the first n blocks of a segment
unfoldable pub after_blocks : Setting → List (List ℕ) → ℕ → ℕ → ℕ → ℕ → List (List ℕ)
after_blocks s m r i sl zero = m
after_blocks s m r i sl (suc n) =
    let before = after_blocks s m r i sl n in
    with_block s before r i sl n (random_word s before r i sl n)

-- the memory after the segments of the first i lanes of a slice; they refer in other lanes to finished slices alone
unfoldable pub after_lanes : Setting → List (List ℕ) → ℕ → ℕ → ℕ → List (List ℕ)
after_lanes s m r sl zero = m
after_lanes s m r sl (suc i) = after_blocks s (after_lanes s m r sl i) r i sl s.segment

-- the memory after the first sl slices of a pass
unfoldable pub after_slices : Setting → List (List ℕ) → ℕ → ℕ → List (List ℕ)
after_slices s m r zero = m
after_slices s m r (suc sl) = after_lanes s (after_slices s m r sl) r sl s.lanes

-- the memory after the first r passes
unfoldable pub after_passes : Setting → List (List ℕ) → ℕ → List (List ℕ)
after_passes s m zero = m
after_passes s m (suc r) = after_slices s (after_passes s m r) r 4

-- the exclusive or of the last blocks of the first i lanes (3.2, step 7)
unfoldable pub last_blocks : Setting → List (List ℕ) → ℕ → List ℕ
last_blocks s m zero = zero_block
last_blocks s m (suc i) = xored (last_blocks s m i) (block_at s m i (columns s - 1))

-- C: that of all lanes, after all passes
unfoldable pub final_block : Setting → List ℕ
final_block s =
    let empty = replicate (s.lanes * columns s) zero_block in
    last_blocks s (after_passes s empty s.passes) s.lanes
