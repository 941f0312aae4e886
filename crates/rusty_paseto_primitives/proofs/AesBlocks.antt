-- The rounds of AES, and that its keystream is of bytes.
use Rattle.std.proofs.Common.{◌≡◌, ℕ, zero, suc, ◌+◌, ◌-◌, ◌*◌, ◌/◌, ◌%◌, ◌<◌, ◌≤◌, List, [], ◌∷◌, ◌++◌, Bool, true, false, cond, bit_xor, eqb, drop, slice_index, refl, arith}
use Rattle.std.proofs.lemmas.Nat.{xor_lt}
use Rattle.rusty_paseto_primitives.specs.Bytes.{IsBytes}
use Rattle.rusty_paseto_primitives.specs.Aes.Cipher.{aes256, cipher, rounds}
use Rattle.rusty_paseto_primitives.specs.Aes.Counter.{aes256_ctr_stream, counter_block}
use Rattle.rusty_paseto_primitives.specs.Aes.Field.{affine, sub_byte}
use Rattle.rusty_paseto_primitives.specs.Aes.KeySchedule.{expanded, key_expansion, key_word_step, next_word, rot_word, round_constant, round_constants, round_key, sub_word, word, xor_word}
use Rattle.rusty_paseto_primitives.specs.Aes.State.{add_round_key, at, mix_columns, shift_rows, state_of, sub_bytes}
use Rattle.rusty_paseto_primitives.proofs.ByteLists.{IsBytes-append, IsBytes-drop, IsBytes-take}

-- the step of the loop over rounds, from round 1 on
pub rounds_more : (w block : List ℕ) (n : ℕ) → 1 ≤ n
    → rounds w block (n + 1 - 1)
    ≡ add_round_key (mix_columns (shift_rows (sub_bytes (rounds w block (n - 1))))) (round_key w n)
unfolding rounds
rounds_more w block n le =
    let count : n + 1 - 1 ≡ suc (n - 1) = omega arith in
    let number : suc (n - 1) ≡ n = omega arith in
    rw (count, number) refl

sub_byte-lt : (a : ℕ) → sub_byte a < 256
unfolding sub_byte affine
sub_byte-lt a = omega arith

-- a word of four bytes
IsBytes-word : (a b c d : ℕ) → a < 256 → b < 256 → c < 256 → d < 256 → IsBytes (a ∷ b ∷ c ∷ d ∷ [])
IsBytes-word a b c d ha hb hc hd zero = ha
IsBytes-word a b c d ha hb hc hd (suc zero) = hb
IsBytes-word a b c d ha hb hc hd (suc (suc zero)) = hc
IsBytes-word a b c d ha hb hc hd (suc (suc (suc zero))) = hd
IsBytes-word a b c d ha hb hc hd (suc (suc (suc (suc k)))) = omega arith

-- a state of sixteen bytes
pub IsBytes-state_of : (f : ℕ → ℕ → ℕ) → ((row column : ℕ) → f row column < 256) → IsBytes (state_of f)
IsBytes-state_of f each =
    let column : ℕ → List ℕ = λ c. f 0 c ∷ f 1 c ∷ f 2 c ∷ f 3 c ∷ [] in
    let bytes : (c : ℕ) → IsBytes (column c) =
    λ c. IsBytes-word (f 0 c) (f 1 c) (f 2 c) (f 3 c) (each 0 c) (each 1 c) (each 2 c) (each 3 c) in
    let right : IsBytes (column 2 ++ column 3) = IsBytes-append (column 2) (column 3) (bytes 2) (bytes 3) in
    IsBytes-append (column 0) (column 1 ++ (column 2 ++ column 3)) (bytes 0)
    (IsBytes-append (column 1) (column 2 ++ column 3) (bytes 1) right)

IsBytes-sub_word : (t : List ℕ) → IsBytes (sub_word t)
unfolding sub_word
IsBytes-sub_word t =
    let s : ℕ → ℕ = λ k. sub_byte (slice_index t k) in
    let fits : (k : ℕ) → s k < 256 = λ k. sub_byte-lt (slice_index t k) in
    IsBytes-word (s 0) (s 1) (s 2) (s 3) (fits 0) (fits 1) (fits 2) (fits 3)

IsBytes-xor_word : (s t : List ℕ) → IsBytes s → IsBytes t → IsBytes (xor_word s t)
unfolding xor_word
IsBytes-xor_word s t hs ht =
    let x : ℕ → ℕ = λ k. bit_xor (slice_index s k) (slice_index t k) in
    let fits : (k : ℕ) → x k < 256 = λ k. xor_lt 8 (slice_index s k) (slice_index t k) (hs k) (ht k) in
    IsBytes-word (x 0) (x 1) (x 2) (x 3) (fits 0) (fits 1) (fits 2) (fits 3)

IsBytes-round_constants : IsBytes round_constants
IsBytes-round_constants =
    IsBytes-append (0x01 ∷ 0x02 ∷ 0x04 ∷ 0x08 ∷ []) (0x10 ∷ 0x20 ∷ 0x40 ∷ [])
    (IsBytes-word 0x01 0x02 0x04 0x08 (omega arith) (omega arith) (omega arith) (omega arith))
    (IsBytes-take 3 (0x10 ∷ 0x20 ∷ 0x40 ∷ 0x00 ∷ [])
    (IsBytes-word 0x10 0x20 0x40 0x00 (omega arith) (omega arith) (omega arith) (omega arith)))

IsBytes-round_constant : (j : ℕ) → IsBytes (round_constant j)
IsBytes-round_constant j =
    IsBytes-word (slice_index round_constants (j - 1)) 0 0 0
    (IsBytes-round_constants (j - 1)) (omega arith) (omega arith) (omega arith)

IsBytes-cond : (b : Bool) (s t : List ℕ) → IsBytes s → IsBytes t → IsBytes (cond b s t)
IsBytes-cond true s t hs ht = hs
IsBytes-cond false s t hs ht = ht

IsBytes-key_word_step : (i : ℕ) (t : List ℕ) → IsBytes t → IsBytes (key_word_step i t)
unfolding key_word_step
IsBytes-key_word_step i t ht =
    let turned : List ℕ = sub_word (rot_word t) in
    let constant : List ℕ = round_constant (i / 8) in
    let at_none : IsBytes (xor_word turned constant) =
    IsBytes-xor_word turned constant (IsBytes-sub_word (rot_word t)) (IsBytes-round_constant (i / 8)) in
    let elsewhere : IsBytes (cond (eqb (i % 8) 4) (sub_word t) t) =
    IsBytes-cond (eqb (i % 8) 4) (sub_word t) t (IsBytes-sub_word t) ht in
    IsBytes-cond (eqb (i % 8) 0) (xor_word turned constant) (cond (eqb (i % 8) 4) (sub_word t) t)
    at_none elsewhere

IsBytes-word_of : (w : List ℕ) (i : ℕ) → IsBytes w → IsBytes (word w i)
unfolding word
IsBytes-word_of w i h =
    IsBytes-word
    (slice_index w (4 * i)) (slice_index w (4 * i + 1)) (slice_index w (4 * i + 2)) (slice_index w (4 * i + 3))
    (h (4 * i)) (h (4 * i + 1)) (h (4 * i + 2)) (h (4 * i + 3))

IsBytes-next_word : (w : List ℕ) (i : ℕ) → IsBytes w → IsBytes (next_word w i)
unfolding next_word
IsBytes-next_word w i h =
    let before : List ℕ = word w (i - 1) in
    let step : IsBytes (key_word_step i before) = IsBytes-key_word_step i before (IsBytes-word_of w (i - 1) h) in
    IsBytes-xor_word (word w (i - 8)) (key_word_step i before) (IsBytes-word_of w (i - 8) h) step

IsBytes-expanded : (key : List ℕ) (n : ℕ) → IsBytes key → IsBytes (expanded key n)
unfolding expanded
IsBytes-expanded key zero h = h
IsBytes-expanded key (suc n) h =
    let before : IsBytes (expanded key n) = IsBytes-expanded key n h in
    IsBytes-append (expanded key n) (next_word (expanded key n) (8 + n)) before
    (IsBytes-next_word (expanded key n) (8 + n) before)

-- the schedule of a key of bytes is of bytes
pub IsBytes-key_expansion : (key : List ℕ) → IsBytes key → IsBytes (key_expansion key)
unfolding key_expansion
IsBytes-key_expansion key h = IsBytes-expanded key 52 h

pub IsBytes-round_key : (w : List ℕ) (n : ℕ) → IsBytes w → IsBytes (round_key w n)
IsBytes-round_key w n h =
    IsBytes-take 16 (drop (16 * n) w) (IsBytes-drop (16 * n) w h)

pub IsBytes-add_round_key : (s k : List ℕ) → IsBytes s → IsBytes k → IsBytes (add_round_key s k)
unfolding add_round_key
IsBytes-add_round_key s k hs hk =
    IsBytes-state_of (λ row column. bit_xor (at s row column) (at k row column))
    (λ row column. xor_lt 8 (at s row column) (at k row column) (hs (row + 4 * column)) (hk (row + 4 * column)))

pub IsBytes-sub_bytes : (s : List ℕ) → IsBytes (sub_bytes s)
unfolding sub_bytes
IsBytes-sub_bytes s =
    IsBytes-state_of (λ row column. sub_byte (at s row column)) (λ row column. sub_byte-lt (at s row column))

pub IsBytes-shift_rows : (s : List ℕ) → IsBytes s → IsBytes (shift_rows s)
unfolding shift_rows
IsBytes-shift_rows s h =
    IsBytes-state_of (λ row column. at s row ((column + row) % 4))
    (λ row column. h (row + 4 * ((column + row) % 4)))

-- the block under a key of bytes is of bytes
pub IsBytes-aes256 : (key block : List ℕ) → IsBytes key → IsBytes (aes256 key block)
unfolding aes256 cipher key_expansion
IsBytes-aes256 key block h =
    let w : List ℕ = expanded key 52 in
    let s : List ℕ = sub_bytes (rounds w block 13) in
    IsBytes-add_round_key (shift_rows s) (round_key w 14)
    (IsBytes-shift_rows s (IsBytes-sub_bytes (rounds w block 13)))
    (IsBytes-round_key w 14 (IsBytes-expanded key 52 h))

-- the keystream of a key of bytes is of bytes
pub aes256_ctr_stream-lt : (key start : List ℕ) (i : ℕ) → IsBytes key → aes256_ctr_stream key start i < 256
unfolding aes256_ctr_stream
aes256_ctr_stream-lt key start i h = IsBytes-aes256 key (counter_block start (i / 16)) h (i % 16)
