-- Xored by a keystream: laws of it, and the steps of a loop over bytes and over blocks.
use Rattle.std.proofs.Common.{◌≡◌, ℕ, ◌+◌, ◌-◌, ◌*◌, ◌<◌, ◌≤◌, List, [], ◌∷◌, ◌++◌, zero, suc, length, take, drop, replicate, bit_xor, slice_index, refl, sym, ap, ap₂, ◌∙◌, arith, append_assoc, append-nil, add-zero, zero-add, mul_comm, length-append, length-drop}
use Rattle.std.proofs.Math.ListN.{set}
use Rattle.std.proofs.lemmas.List.{drop_more, take_more, get_or_at, set_at, length-take, length-take-le, drop-drop, take_at, drop_at, take_all, drop_all}
use Rattle.std.proofs.lemmas.Nat.{div-mul-add, mod-mul-add, xor_lt}
use Rattle.std.proofs.lemmas.Simd.{get_or-replicate, length-replicate, length-zip2, put_chunk_whole}
use Rattle.std.proofs.Math.Seq.{take-add}
use Rattle.std.specs.Simd.Lanes.{chunk, put_chunk, zip2}
use lib.Bits.{xor_assoc, xor_self, xor_zero_l, xor_zero_r}
use Rattle.rusty_paseto_primitives.specs.Bytes.{IsBytes}
use Rattle.rusty_paseto_primitives.specs.Keystream.{xored, xored_from, stream_of_blocks}

pub length-xored_from : (s : ℕ → ℕ) (i : ℕ) (b : List ℕ) → length (xored_from s i b) ≡ length b
unfolding xored_from
length-xored_from s i [] = refl
length-xored_from s i (x ∷ xs) = ap suc (length-xored_from s (i + 1) xs)

pub length-xored : (s : ℕ → ℕ) (b : List ℕ) → length (xored s b) ≡ length b
unfolding xored
length-xored s b = length-xored_from s 0 b

-- two streams that agree along the data apply_keystream it alike
pub xored_from-agree : (s t : ℕ → ℕ) (i j : ℕ) (b : List ℕ) → ((k : ℕ) → k < length b → s (i + k) ≡ t (j + k))
    → xored_from s i b ≡ xored_from t j b
unfolding xored_from
xored_from-agree s t i j [] same = refl
xored_from-agree s t i j (x ∷ xs) same =
    let here : s i ≡ t j = ap s (sym (add-zero i)) ∙ same 0 (omega arith) ∙ ap t (add-zero j) in
    let rest : (k : ℕ) → k < length xs → s (i + 1 + k) ≡ t (j + 1 + k) =
    λ k h. let e : i + 1 + k ≡ i + suc k = omega arith in
    let f : j + 1 + k ≡ j + suc k = omega arith in
    ap s e ∙ same (suc k) (omega arith) ∙ sym (ap t f) in
    ap₂ ◌∷◌ (ap (bit_xor x) here) (xored_from-agree s t (i + 1) (j + 1) xs rest)

xored_from-append : (s : ℕ → ℕ) (i : ℕ) (xs ys : List ℕ)
    → xored_from s i (xs ++ ys) ≡ xored_from s i xs ++ xored_from s (i + length xs) ys
unfolding xored_from
xored_from-append s i [] ys = ap (λ (n : ℕ). xored_from s n ys) (omega arith)
xored_from-append s i (x ∷ xs) ys =
    let e : i + 1 + length xs ≡ i + suc (length xs) = omega arith in
    ap (λ (t : List ℕ). bit_xor x (s i) ∷ t)
    (xored_from-append s (i + 1) xs ys ∙ ap (λ (n : ℕ). xored_from s (i + 1) xs ++ xored_from s n ys) e)

pub xored_from-twice : (s : ℕ → ℕ) (i : ℕ) (b : List ℕ) → xored_from s i (xored_from s i b) ≡ b
unfolding xored_from
xored_from-twice s i [] = refl
xored_from-twice s i (x ∷ xs) =
    ap₂ ◌∷◌ (xor_assoc x (s i) (s i) ∙ ap (bit_xor x) (xor_self (s i)) ∙ xor_zero_r x) (xored_from-twice s (i + 1) xs)

-- the exclusive or, twice, gives the bytes back
pub xored-xored : (s : ℕ → ℕ) (b : List ℕ) → xored s (xored s b) ≡ b
unfolding xored
xored-xored s b = xored_from-twice s 0 b

pub IsBytes-xored_from : (s : ℕ → ℕ) (i : ℕ) (b : List ℕ) → ((k : ℕ) → s k < 256) → IsBytes b → IsBytes (xored_from s i b)
unfolding xored_from
IsBytes-xored_from s i [] fits bytes k = bytes k
IsBytes-xored_from s i (x ∷ xs) fits bytes zero = xor_lt 8 x (s i) (bytes 0) (fits i)
IsBytes-xored_from s i (x ∷ xs) fits bytes (suc k) = IsBytes-xored_from s (i + 1) xs fits (λ j. bytes (suc j)) k

-- bytes under a keystream of bytes are bytes
pub IsBytes-xored : (s : ℕ → ℕ) (b : List ℕ) → ((k : ℕ) → s k < 256) → IsBytes b → IsBytes (xored s b)
unfolding xored
IsBytes-xored s b fits bytes = IsBytes-xored_from s 0 b fits bytes

-- the data `now` is `old` with its first n bytes xored
abbrev pub IsXoredTo : (ℕ → ℕ) → ℕ → List ℕ → List ℕ → Type 0
IsXoredTo s n old now = now ≡ xored s (take n old) ++ drop n old

pub xored_to_none : (s : ℕ → ℕ) (old : List ℕ) → IsXoredTo s 0 old old
unfolding xored xored_from
xored_to_none s old = refl

pub xored_to_all : (s : ℕ → ℕ) (n : ℕ) (old now : List ℕ) → IsXoredTo s n old now → length old ≤ n → now ≡ xored s old
xored_to_all s n old now done le =
    done ∙ rw (take_all n old le, drop_all n old le) (append-nil (xored s old))

length-xored_to : (s : ℕ → ℕ) (n : ℕ) (old : List ℕ) → n ≤ length old → length (xored s (take n old)) ≡ n
length-xored_to s n old le = length-xored s (take n old) ∙ length-take-le n old le

-- the data keeps its length
pub xored_to_length : (s : ℕ → ℕ) (n : ℕ) (old now : List ℕ) → IsXoredTo s n old now → n ≤ length old → length now ≡ length old
xored_to_length s n old now done le =
    ap length done ∙ omega (arith, length-append (xored s (take n old)) (drop n old), length-xored_to s n old le, length-drop n old)

-- the step of a loop over bytes
pub xored_to_byte : (s : ℕ → ℕ) (n : ℕ) (old now : List ℕ) → IsXoredTo s n old now → n < length old
    → IsXoredTo s (n + 1) old (set now n (bit_xor (slice_index now n) (s n)))
unfolding xored xored_from
xored_to_byte s n old now done lt =
    let front : length (xored s (take n old)) ≡ n = length-xored_to s n old (omega arith) in
    let rest : drop n old ≡ slice_index old n ∷ drop (n + 1) old = drop_more old n 0 lt in
    let now-is : now ≡ xored s (take n old) ++ slice_index old n ∷ drop (n + 1) old =
    done ∙ ap (λ (r : List ℕ). xored s (take n old) ++ r) rest in
    let byte : slice_index now n ≡ slice_index old n =
    ap (λ (r : List ℕ). slice_index r n) now-is ∙ get_or_at (xored s (take n old)) (slice_index old n) (drop (n + 1) old) 0 n front in
    let more : xored s (take (n + 1) old) ≡ xored s (take n old) ++ bit_xor (slice_index old n) (s n) ∷ [] =
    ap (xored s) (take_more old n 0 lt) ∙ xored_from-append s 0 (take n old) (slice_index old n ∷ [])
    ∙ ap (λ (i : ℕ). xored s (take n old) ++ bit_xor (slice_index old n) (s i) ∷ []) (omega (arith, length-take-le n old (omega arith))) in
    ap (λ (r : List ℕ). set r n (bit_xor (slice_index now n) (s n))) now-is
    ∙ set_at (xored s (take n old)) (slice_index old n) (drop (n + 1) old) (bit_xor (slice_index now n) (s n)) n front
    ∙ ap (λ (b : ℕ). xored s (take n old) ++ bit_xor b (s n) ∷ drop (n + 1) old) byte
    ∙ sym (ap (λ (r : List ℕ). r ++ drop (n + 1) old) more ∙ append_assoc (xored s (take n old)) (bit_xor (slice_index old n) (s n) ∷ []) (drop (n + 1) old))

-- a stretch of k bytes from place a on, by a stream t that agrees with s there
pub xored_to_part : (s t : ℕ → ℕ) (a k m : ℕ) (old now part : List ℕ) → IsXoredTo s a old now → m ≡ a + k → m ≤ length old
    → ((i : ℕ) → i < k → t i ≡ s (a + i)) → part ≡ xored t (take k (drop a now))
    → IsXoredTo s m old (take a now ++ (part ++ drop k (drop a now)))
unfolding xored
xored_to_part s t a k m old now part done m-is le same part-is =
    let front : length (xored s (take a old)) ≡ a = length-xored_to s a old (omega arith) in
    let taken : take a now ≡ xored s (take a old) = ap (take a) done ∙ take_at (xored s (take a old)) (drop a old) a front in
    let dropped : drop a now ≡ drop a old = ap (drop a) done ∙ drop_at (xored s (take a old)) (drop a old) a front in
    let short : length (take k (drop a old)) ≤ k = omega (arith, length-take k (drop a old)) in
    let agree : xored t (take k (drop a old)) ≡ xored_from s a (take k (drop a old)) =
    xored_from-agree t s 0 a (take k (drop a old)) (λ i h. ap t (zero-add i) ∙ same i (omega arith)) in
    let here : part ≡ xored_from s a (take k (drop a old)) =
    part-is ∙ ap (λ (r : List ℕ). xored t (take k r)) dropped ∙ agree in
    let place : 0 + length (take a old) ≡ a = omega (arith, length-take-le a old (omega arith)) in
    let more : xored s (take m old) ≡ xored s (take a old) ++ xored_from s a (take k (drop a old)) =
    ap (λ (n : ℕ). xored s (take n old)) m-is ∙ ap (xored s) (take-add a k old)
    ∙ xored_from-append s 0 (take a old) (take k (drop a old))
    ∙ ap (λ (n : ℕ). xored s (take a old) ++ xored_from s n (take k (drop a old))) place in
    let rest : drop k (drop a now) ≡ drop m old =
    ap (drop k) dropped ∙ drop-drop k a old ∙ ap (λ (n : ℕ). drop n old) (sym m-is) in
    rw (taken, here, rest, more) (sym (append_assoc (xored s (take a old)) (xored_from s a (take k (drop a old))) (drop m old)))

-- the exclusive or of two lists of one length
zip2-xored : (xs ys : List ℕ) → length xs ≡ length ys → zip2 bit_xor xs ys ≡ xored (slice_index ys) xs
unfolding xored xored_from
zip2-xored [] ys same = refl
zip2-xored (x ∷ xs) [] same = absurd (omega arith)
zip2-xored (x ∷ xs) (y ∷ ys) same =
    ap (λ (rest : List ℕ). bit_xor x y ∷ rest)
    (zip2-xored xs ys (omega arith) ∙ xored_from-agree (slice_index ys) (slice_index (y ∷ ys)) 0 1 xs (λ k h. let here : 0 + k ≡ k = omega arith in let there : 1 + k ≡ suc k = omega arith in rw (here, there) refl))

-- sixteen bytes under a vector of keystream
pub vector_xored : (bytes vector : List ℕ) → length bytes ≡ 16 → length vector ≡ 16
    → put_chunk 0 bytes (zip2 bit_xor (chunk 0 16 bytes) vector) ≡ xored (slice_index vector) bytes
vector_xored bytes vector size lanes =
    let whole : chunk 0 16 bytes ≡ bytes = take_all 16 bytes (omega arith) in
    let made : length (zip2 bit_xor bytes vector) ≡ length bytes = length-zip2 bit_xor bytes vector (omega arith) in
    rw whole (put_chunk_whole bytes (zip2 bit_xor bytes vector) (omega arith)) ∙ zip2-xored bytes vector (omega arith)

-- the keystream within block n
pub stream_of_blocks-at : (size : ℕ) (block : ℕ → List ℕ) (n i : ℕ) → i < size
    → stream_of_blocks size block (size * n + i) ≡ slice_index (block n) i
stream_of_blocks-at size block n i lt =
    let turned : size * n + i ≡ n * size + i = ap (λ (p : ℕ). p + i) (mul_comm size n) in
    rw (turned, div-mul-add n size i lt, mod-mul-add n size i lt) refl

-- the step of a loop over blocks of any size: block n, or its first k bytes
pub xored_to_block : (size : ℕ) (block : ℕ → List ℕ) (n k m : ℕ) (keystream old now part : List ℕ)
    → IsXoredTo (stream_of_blocks size block) (size * n) old now → keystream ≡ block n → k ≤ size
    → m ≡ size * n + k → m ≤ length old → part ≡ xored (slice_index keystream) (take k (drop (size * n) now))
    → IsXoredTo (stream_of_blocks size block) m old (take (size * n) now ++ (part ++ drop k (drop (size * n) now)))
xored_to_block size block n k m keystream old now part done block-is within m-is le part-is =
    xored_to_part (stream_of_blocks size block) (slice_index keystream) (size * n) k m old now part done m-is le
    (λ i h. ap (λ (b : List ℕ). slice_index b i) block-is ∙ sym (stream_of_blocks-at size block n i (omega arith))) part-is

-- data no longer than a block, under the first block
pub xored_by_block : (size : ℕ) (block : ℕ → List ℕ) (keystream text : List ℕ) → keystream ≡ block 0 → length text ≤ size
    → xored (slice_index keystream) text ≡ xored (stream_of_blocks size block) text
unfolding xored
xored_by_block size block keystream text block-is within =
    xored_from-agree (slice_index keystream) (stream_of_blocks size block) 0 0 text (λ i h.
    let first : size * 0 + (0 + i) ≡ 0 + i = omega arith in
    ap (λ (b : List ℕ). slice_index b (0 + i)) block-is
    ∙ sym (stream_of_blocks-at size block 0 (0 + i) (omega arith)) ∙ ap (stream_of_blocks size block) first)

-- data whose front and whose rest are xored, one after the other, by a stream t that goes on from s
pub xored_in_two : (s t : ℕ → ℕ) (a : ℕ) (old front back : List ℕ) → a ≤ length old → front ≡ xored s (take a old)
    → ((i : ℕ) → t i ≡ s (a + i)) → let now = front ++ drop a old in
    back ≡ xored t (take (length now - a) (drop a now))
    → take a now ++ (back ++ drop (length now - a) (drop a now)) ≡ xored s old
xored_in_two s t a old front back within front-is same back-is =
    let now : List ℕ = front ++ drop a old in
    let done : IsXoredTo s a old now = ap (λ (part : List ℕ). part ++ drop a old) front-is in
    let long : length now ≡ length old = xored_to_length s a old now done within in
    let k : ℕ = length now - a in
    xored_to_all s (length old) old _
    (xored_to_part s t a k (length old) old now back done (omega arith) (omega arith) (λ i h. same i) back-is)
    (omega arith)

xored_from-at : (s : ℕ → ℕ) (a : ℕ) (xs : List ℕ) (i : ℕ) → i < length xs
    → slice_index (xored_from s a xs) i ≡ bit_xor (slice_index xs i) (s (a + i))
unfolding xored_from
xored_from-at s a [] i h = absurd (omega arith)
xored_from-at s a (x ∷ xs) zero h = ap (λ (n : ℕ). bit_xor x (s n)) (sym (add-zero a))
xored_from-at s a (x ∷ xs) (suc i) h =
    let place : a + 1 + i ≡ a + suc i = omega arith in
    xored_from-at s (a + 1) xs i (omega arith) ∙ ap (λ (n : ℕ). bit_xor (slice_index xs i) (s n)) place

-- zeros under a keystream are the keystream, by which other bytes may be xored
pub xored_by_zeros : (s t : ℕ → ℕ) (n : ℕ) (bytes text : List ℕ) → bytes ≡ xored t (replicate n 0) → length text ≤ n
    → ((i : ℕ) → i < n → t i ≡ s i) → xored (slice_index bytes) text ≡ xored s text
unfolding xored
xored_by_zeros s t n bytes text e fits same =
    xored_from-agree (slice_index bytes) s 0 0 text (λ i h.
    let zero_byte : ℕ = 0 in
    let here : 0 + i ≡ i = zero-add i in
    let within : i < length (replicate n zero_byte) = omega (arith, length-replicate n zero_byte) in
    rw here (ap (λ (b : List ℕ). slice_index b i) e ∙ xored_from-at t 0 (replicate n 0) i within
    ∙ rw (get_or-replicate n i zero_byte zero_byte (omega arith), here) (xor_zero_l (t i) ∙ same i (omega arith))))

-- no bytes stay so under any keystream
pub xored_nothing : (s : ℕ → ℕ) (text : List ℕ) → length text ≡ 0 → text ≡ xored s text
unfolding xored xored_from
xored_nothing s [] h = refl
xored_nothing s (x ∷ xs) h = absurd (omega arith)
