-- The key schedule of AES: its steps, and that it is of bytes.
use Rattle.std.proofs.Common.{◌≡◌, ◌≢◌, ℕ, suc, ◌+◌, ◌-◌, ◌*◌, ◌/◌, ◌%◌, ◌≤◌, List, ◌++◌, length, take, refl, sym, ap, ◌∙◌, arith}
use Rattle.std.proofs.lemmas.Bool.{ne_eqb}
use Rattle.std.proofs.lemmas.List.{get_or-take}
use Rattle.std.proofs.lemmas.Slice.{take-put_mid}
use borrow.Rule.Slice.PartMut.{put_mid}
use Rattle.rusty_paseto_primitives.specs.Aes.KeySchedule.{expanded, key_word_step, next_word, rot_word, round_constant, sub_word, word, xor_word}

pub key_word_step-at_none : (i : ℕ) (t : List ℕ) → i % 8 ≡ 0
    → key_word_step i t ≡ xor_word (sub_word (rot_word t)) (round_constant (i / 8))
unfolding key_word_step
key_word_step-at_none i t e = rw e refl

pub key_word_step-at_four : (i : ℕ) (t : List ℕ) → i % 8 ≡ 4 → key_word_step i t ≡ sub_word t
unfolding key_word_step
key_word_step-at_four i t e = rw e refl

pub key_word_step-elsewhere : (i : ℕ) (t : List ℕ) → i % 8 ≢ 0 → i % 8 ≢ 4 → key_word_step i t ≡ t
unfolding key_word_step
key_word_step-elsewhere i t not_none not_four = rw (ne_eqb (i % 8) 0 not_none, ne_eqb (i % 8) 4 not_four) refl

-- a word among the first m bytes
word-take : (m : ℕ) (w : List ℕ) (i : ℕ) → 4 * i + 4 ≤ m → word (take m w) i ≡ word w i
unfolding word
word-take m w i within =
    rw (
      get_or-take m w (4 * i) 0 (omega arith),
      get_or-take m w (4 * i + 1) 0 (omega arith),
      get_or-take m w (4 * i + 2) 0 (omega arith),
      get_or-take m w (4 * i + 3) 0 (omega arith),
    ) refl

-- the next word is made of the words before it only
next_word-take : (w : List ℕ) (i : ℕ) → 8 ≤ i → next_word (take (4 * i) w) i ≡ next_word w i
unfolding next_word
next_word-take w i le =
    rw (word-take (4 * i) w (i - 8) (omega arith), word-take (4 * i) w (i - 1) (omega arith)) refl

length-next_word : (w : List ℕ) (i : ℕ) → length (next_word w i) ≡ 4
unfolding next_word xor_word
length-next_word w i = refl

-- the step of a loop over words
pub expanded_more : (w key ys : List ℕ) (i k : ℕ) → take (4 * i) w ≡ expanded key (i - 8) → 8 ≤ i → 4 * i ≤ length w
    → ys ≡ next_word w i → take (4 * (i + 1)) (put_mid (4 * i) k w ys) ≡ expanded key (i + 1 - 8)
unfolding expanded
expanded_more w key ys i k held le fits ys-is =
    let ys-long : length ys ≡ 4 = ap length ys-is ∙ length-next_word w i in
    let front : take (4 * (i + 1)) (put_mid (4 * i) k w ys) ≡ take (4 * i) w ++ ys =
    take-put_mid (4 * i) k w ys (4 * (i + 1)) (omega arith) fits in
    let count : i + 1 - 8 ≡ suc (i - 8) = omega arith in
    let place : 8 + (i - 8) ≡ i = omega arith in
    let last : ys ≡ next_word (take (4 * i) w) i = ys-is ∙ sym (next_word-take w i le) in
    rw (front, count, place, ← held) (ap (λ (t : List ℕ). take (4 * i) w ++ t) last)
