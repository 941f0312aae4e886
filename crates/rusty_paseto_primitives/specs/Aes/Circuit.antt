-- Circuits of gates on bits, and the one by Boyar and Peralta for the S-box of AES.
use Rattle.std.specs.Prelude.{ℕ, List, [], ◌∷◌, map, slice_index_or}

-- a gate names its two inputs, counted from the newest value
pub data Gate : Type 0 where
  plus : ℕ → ℕ → Gate
  times : ℕ → ℕ → Gate

-- the values after some gates, the newest first, where sums and products are these
abbrev pub run : {A : Type 0} → (A → A → A) → (A → A → A) → A → List Gate → List A → List A
run add mul none [] values = values
run add mul none (plus m n ∷ gates) values =
    run add mul none gates (add (slice_index_or values m none) (slice_index_or values n none) ∷ values)
run add mul none (times m n ∷ gates) values =
    run add mul none gates (mul (slice_index_or values m none) (slice_index_or values n none) ∷ values)

-- the sums of the bits of a byte that the rest of the circuit takes: the lowest bit, and 21 sums
abbrev pub spread_gates : List Gate
spread_gates =
    plus 4 2 ∷ plus 8 2 ∷ plus 9 6 ∷ plus 10 5 ∷ plus 10 9 ∷ plus 0 5 ∷ plus 0 10 ∷ plus 5 6
    ∷ plus 2 15 ∷ plus 3 10 ∷ plus 0 6 ∷ plus 14 3 ∷ plus 0 14 ∷ plus 1 19 ∷ plus 1 14 ∷ plus 2 10
    ∷ plus 2 13 ∷ plus 17 0 ∷ plus 2 1 ∷ plus 3 15 ∷ plus 15 3 ∷ plus 19 0 ∷ plus 29 1 ∷ []

abbrev pub spread_outputs : List ℕ
spread_outputs = 23 ∷ 17 ∷ 14 ∷ 12 ∷ 16 ∷ 13 ∷ 8 ∷ 5 ∷ 19 ∷ 20 ∷ 7 ∷ 6 ∷ 15 ∷ 21 ∷ 22 ∷ 10 ∷ 2 ∷ 4 ∷ 0 ∷ 3 ∷ 9 ∷ 1 ∷ []

-- the four bits that are to be inverted in the field of sixteen elements
abbrev pub folded_gates : List Gate
folded_gates =
    times 12 15 ∷ times 4 7 ∷ plus 0 1 ∷ times 7 3 ∷ plus 0 3 ∷ times 18 21 ∷ times 11 7 ∷ plus 0 1
    ∷ times 10 15 ∷ plus 0 3 ∷ times 19 21 ∷ times 25 28 ∷ plus 0 1 ∷ times 21 23 ∷ plus 0 3 ∷ plus 12 2
    ∷ plus 11 1 ∷ plus 9 4 ∷ plus 8 3 ∷ plus 3 39 ∷ plus 3 39 ∷ plus 3 42 ∷ plus 3 40 ∷ []

abbrev pub folded_outputs : List ℕ
folded_outputs = 3 ∷ 2 ∷ 1 ∷ 0 ∷ []

-- the inverse in the field of sixteen elements, and five sums of its bits
abbrev pub inverted_gates : List Gate
inverted_gates =
    plus 0 1 ∷ times 1 3 ∷ plus 5 0 ∷ times 2 0 ∷ plus 0 5 ∷ plus 7 8 ∷ plus 7 4 ∷ times 0 1
    ∷ plus 0 11 ∷ plus 11 0 ∷ plus 7 1 ∷ times 14 0 ∷ plus 0 2 ∷ plus 10 1 ∷ times 9 0 ∷ plus 14 0
    ∷ plus 0 3 ∷ plus 12 8 ∷ plus 13 2 ∷ plus 10 6 ∷ plus 2 3 ∷ []

abbrev pub inverted_outputs : List ℕ
inverted_outputs = 16 ∷ 12 ∷ 8 ∷ 5 ∷ 4 ∷ 3 ∷ 2 ∷ 1 ∷ 0 ∷ []

-- the products of the inverse with the sums of the byte
abbrev pub multiplied_gates : List Gate
multiplied_gates =
    times 29 15 ∷ times 25 7 ∷ times 25 2 ∷ times 31 19 ∷ times 29 5 ∷ times 27 12 ∷ times 33 17 ∷ times 37 24
    ∷ times 34 18 ∷ times 38 21 ∷ times 34 13 ∷ times 34 15 ∷ times 40 25 ∷ times 38 18 ∷ times 36 16 ∷ times 42 24
    ∷ times 46 30 ∷ times 43 25 ∷ []

abbrev pub multiplied_outputs : List ℕ
multiplied_outputs = 17 ∷ 16 ∷ 15 ∷ 14 ∷ 13 ∷ 12 ∷ 11 ∷ 10 ∷ 9 ∷ 8 ∷ 7 ∷ 6 ∷ 5 ∷ 4 ∷ 3 ∷ 2 ∷ 1 ∷ 0 ∷ []

-- the bits of the substituted byte, of the products and a bit that is set
abbrev pub gathered_gates : List Gate
gathered_gates =
    plus 15 16 ∷ plus 11 12 ∷ plus 7 15 ∷ plus 12 13 ∷ plus 6 16 ∷ plus 7 10 ∷ plus 13 14 ∷ plus 7 10
    ∷ plus 14 15 ∷ plus 25 26 ∷ plus 22 7 ∷ plus 6 3 ∷ plus 16 11 ∷ plus 16 4 ∷ plus 13 2 ∷ plus 29 3
    ∷ plus 9 3 ∷ plus 13 4 ∷ plus 22 4 ∷ plus 3 2 ∷ plus 21 2 ∷ plus 7 3 ∷ plus 5 40 ∷ plus 12 0
    ∷ plus 9 42 ∷ plus 22 0 ∷ plus 7 6 ∷ plus 19 6 ∷ plus 22 7 ∷ plus 27 9 ∷ plus 2 48 ∷ plus 12 0
    ∷ plus 5 50 ∷ plus 23 0 ∷ []

abbrev pub gathered_outputs : List ℕ
gathered_outputs = 8 ∷ 10 ∷ 4 ∷ 5 ∷ 6 ∷ 0 ∷ 2 ∷ 12 ∷ []

-- output k of some gates: the value at the k-th of these places, after all gates
abbrev pub output : {A : Type 0} → (A → A → A) → (A → A → A) → A → List Gate → List ℕ → List A → ℕ → A
output add mul none gates places values k =
    slice_index_or (map (λ n. slice_index_or (run add mul none gates values) n none) places) k none
