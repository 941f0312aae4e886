-- How an output is filled with blocks of 48 bytes, of which the last may be cut.
use Rattle.std.proofs.Common.{◌≡◌, ℕ, zero, suc, ◌+◌, ◌-◌, ◌*◌, ◌<◌, ◌≤◌, List, [], ◌++◌, ⊎_elim, length, take, drop, refl, sym, ap, ◌∙◌, arith, length-append, length-drop, add-one, append-nil}
use Rattle.std.proofs.lemmas.Bool.{cases_lt}
use Rattle.std.proofs.lemmas.List.{drop-take, drop_at, length-take-le, nil_from_length, take_all, take_at}
use Rattle.std.proofs.Math.Seq.{take-append-add, take-nil}
use Rattle.std.specs.Int.{div_ceil}
use borrow.Rule.Slice.PartMut.{put_mid}
use Rattle.rusty_paseto_primitives.specs.Bytes.{joined}

-- each block from the first on has 48 bytes
abbrev pub AreWhole : (ℕ → List ℕ) → Type 0
AreWhole block = (n : ℕ) → length (block (suc n)) ≡ 48

pub length-joined : (block : ℕ → List ℕ) (n : ℕ) → AreWhole block → length (joined block n) ≡ 48 * n
unfolding joined
length-joined block zero whole = refl
length-joined block (suc n) whole =
    let before = length-joined block n whole in
    let last = whole n in
    let both = length-append (joined block n) (block (suc n)) in
    omega (arith, before, last, both)

-- as many bytes as blocks are needed for
pub length-taken : (block : ℕ → List ℕ) (n : ℕ) → AreWhole block → length (take n (joined block (div_ceil n 48))) ≡ n
length-taken block n whole =
    length-take-le n (joined block (div_ceil n 48)) (omega (arith, length-joined block (div_ceil n 48) whole))

-- the output, of the given length, has its first n blocks, of which the last may be cut by its end
abbrev pub IsFilled : (ℕ → List ℕ) → ℕ → List ℕ → ℕ → Type 0
IsFilled block size out n = (length out ≡ size) × (take (48 * n) out ≡ take size (joined block n))

pub filled_none : (block : ℕ → List ℕ) (out : List ℕ) → IsFilled block (length out) out 0
unfolding joined
filled_none block out = (refl, sym (take-nil (length out)))

-- the blocks before one that begins within the output are whole
filled_whole : (block : ℕ → List ℕ) (out : List ℕ) (size n : ℕ) → AreWhole block → IsFilled block size out n → 48 * n < size
    → take (48 * n) out ≡ joined block n
filled_whole block out size n wholes done within =
    done.1 ∙ take_all size (joined block n) (omega (arith, length-joined block n wholes))

-- the block before place 48 * n of the output, of which there is none before the first
pub previous_block : (block : ℕ → List ℕ) (out : List ℕ) (size n : ℕ) → AreWhole block → block 0 ≡ []
    → IsFilled block size out n → 48 * n < size → take (48 * n - (48 * n - 48)) (drop (48 * n - 48) out) ≡ block n
unfolding joined
previous_block block out size zero wholes none done within = sym none
previous_block block out size (suc n) wholes none done within =
    let place : 48 * suc n - 48 ≡ 48 * n = omega arith in
    let width : 48 * suc n - 48 * n ≡ 48 = omega arith in
    let end : 48 * suc n ≡ 48 * n + 48 = omega arith in
    let whole = filled_whole block out size (suc n) wholes done within in
    rw (place, width) (sym (drop-take (48 * n) 48 out) ∙ ap (drop (48 * n)) (rw end at whole)
    ∙ drop_at (joined block n) (block (suc n)) (48 * n) (length-joined block n wholes))

-- what a block's place in the output holds once the first k bytes of the block are written there
block_placed : (block rest : List ℕ) (k room : ℕ) → length block ≡ 48 → k ≤ 48 → k + length rest ≡ room
    → (k < 48 → k ≡ room) → take 48 (take k block ++ rest) ≡ take room block
block_placed block rest k room len short fits cut =
    let front : length (take k block) ≡ k = length-take-le k block (omega arith) in
    ⊎_elim (λ less. let none : rest ≡ [] = nil_from_length rest (omega (arith, cut less)) in
    let alone : take k block ++ rest ≡ take k block = rw none (append-nil (take k block)) in
    ap (take 48) alone ∙ take_all 48 (take k block) (omega arith) ∙ ap (λ (j : ℕ). take j block) (cut less))
    (λ full. take_at (take k block) rest 48 (omega arith) ∙ take_all k block (omega arith) ∙ sym (take_all room block (omega arith)))
    (cases_lt k 48)

-- one more block
pub filled_more : (block : ℕ → List ℕ) (out made : List ℕ) (size n k : ℕ) → AreWhole block → IsFilled block size out n
    → 48 * n < size → made ≡ block (suc n) → k ≤ 48 → 48 * n + k ≤ size → (k < 48 → 48 * n + k ≡ size)
    → IsFilled block size (put_mid (48 * n) k out (take k made)) (n + 1)
unfolding joined
filled_more block out made size n k wholes done within eb short fits cut =
    let front : List ℕ = take (48 * n) out in
    let part : List ℕ = take k made in
    let rest : List ℕ = drop k (drop (48 * n) out) in
    let room : ℕ = size - 48 * n in
    let whole : front ≡ joined block n = filled_whole block out size n wholes done within in
    let len_made : length made ≡ 48 = ap length eb ∙ wholes n in
    let len_front : length front ≡ 48 * n = length-take-le (48 * n) out (omega arith) in
    let len_part : length part ≡ k = length-take-le k made (omega arith) in
    let len_rest : length rest ≡ room - k = length-drop k (drop (48 * n) out) ∙ omega (arith, length-drop (48 * n) out) in
    let len : length (front ++ (part ++ rest)) ≡ size = omega (arith, length-append front (part ++ rest), length-append part rest) in
    let end : 48 * (n + 1) ≡ length front + 48 = omega arith in
    let all : size ≡ length front + room = omega arith in
    let placed : take 48 (part ++ rest) ≡ take room made = block_placed made rest k room len_made short (omega arith) (λ less. omega (arith, cut less)) in
    let written : take (48 * (n + 1)) (front ++ (part ++ rest)) ≡ front ++ take room made =
    rw end (take-append-add front (part ++ rest) 48) ∙ ap (λ (xs : List ℕ). front ++ xs) placed in
    let wanted : take size (joined block (n + 1)) ≡ front ++ take room made =
    rw (add-one, ← eb, ← whole) (ap (λ (j : ℕ). take j (front ++ made)) all ∙ take-append-add front made room) in
    (len, written ∙ sym wanted)

-- the whole output
pub filled_all : (block : ℕ → List ℕ) (out : List ℕ) (size n : ℕ) → IsFilled block size out n → n ≡ div_ceil size 48
    → out ≡ take size (joined block (div_ceil size 48))
filled_all block out size n done en =
    sym (take_all (48 * n) out (omega arith)) ∙ done.1 ∙ ap (λ (j : ℕ). take size (joined block j)) en
