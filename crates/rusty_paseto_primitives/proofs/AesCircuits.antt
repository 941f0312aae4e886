-- Circuits on planes are the circuits on their bits, and that of the S-box gives what the rule gives.
use Rattle.std.proofs.Common.{◌≡◌, ℕ, ◌<◌, Bool, true, false, ◌&&◌, List, [], ◌∷◌, ◌++◌, map, slice_index, slice_index_or, bit_and, bit_xor, refl, sym, ap, ap₂, ◌∙◌, arith}
use Rattle.std.proofs.Math.ListN.{get_or-map}
use Rattle.std.specs.List.{range_with_len}
use Rattle.std.specs.Simd.Lanes.{zip2}
use Rattle.std.proofs.lemmas.List.FromFn.{get_or-map-range_with_len}
use Rattle.std.proofs.lemmas.Simd.{map-map}
use Rattle.rusty_paseto_primitives.specs.Aes.Circuit.{Gate, folded_gates, folded_outputs, gathered_gates, gathered_outputs, inverted_gates, inverted_outputs, multiplied_gates, multiplied_outputs, output, plus, run, spread_gates, spread_outputs, times}
use Rattle.rusty_paseto_primitives.specs.Aes.Field.{affine, inverse, inverse_below, product, product_of_bits, sub_byte, xtimes}
use Rattle.rusty_paseto_primitives.specs.Aes.Planes.{bit, bits_of_gates, differ, plane, planes, vectors}
use Rattle.rusty_paseto_primitives.specs.Aes.State.{sub_bytes}
use Rattle.rusty_paseto_primitives.specs.Bytes.{IsBytes}
use Rattle.rusty_paseto_primitives.proofs.AesBytes.{agree_below, values}
use Rattle.rusty_paseto_primitives.proofs.AesPlanes.{and-plane, vectors-agree, xor-plane}
use Rattle.rusty_paseto_primitives.proofs.Below.{below_sixteen}

map-same : {A B : Type 0} (f g : A → B) (xs : List A) → ((x : A) → f x ≡ g x) → map f xs ≡ map g xs
map-same f g [] same = refl
map-same f g (x ∷ xs) same = ap₂ ◌∷◌ (same x) (map-same f g xs same)

-- what takes sums to sums and products to products takes the values of a circuit to its values
run-map : {A B : Type 0} (h : A → B) (add mul : A → A → A) (none : A) (plus_b times_b : B → B → B)
    → ((x y : A) → plus_b (h x) (h y) ≡ h (add x y)) → ((x y : A) → times_b (h x) (h y) ≡ h (mul x y))
    → (gates : List Gate) (values : List A)
    → run plus_b times_b (h none) gates (map h values) ≡ map h (run add mul none gates values)
run-map h add mul none plus_b times_b sums products [] values = refl
run-map h add mul none plus_b times_b sums products (plus m n ∷ gates) values =
    let one = ap₂ plus_b (get_or-map h values m none) (get_or-map h values n none) ∙ sums (slice_index_or values m none) (slice_index_or values n none) in
    ap (λ v. run plus_b times_b (h none) gates (v ∷ map h values)) one
    ∙ run-map h add mul none plus_b times_b sums products gates (add (slice_index_or values m none) (slice_index_or values n none) ∷ values)
run-map h add mul none plus_b times_b sums products (times m n ∷ gates) values =
    let one = ap₂ times_b (get_or-map h values m none) (get_or-map h values n none) ∙ products (slice_index_or values m none) (slice_index_or values n none) in
    ap (λ v. run plus_b times_b (h none) gates (v ∷ map h values)) one
    ∙ run-map h add mul none plus_b times_b sums products gates (mul (slice_index_or values m none) (slice_index_or values n none) ∷ values)

pub output-map : {A B : Type 0} (h : A → B) (add mul : A → A → A) (none : A) (plus_b times_b : B → B → B)
    → ((x y : A) → plus_b (h x) (h y) ≡ h (add x y)) → ((x y : A) → times_b (h x) (h y) ≡ h (mul x y))
    → (gates : List Gate) (places : List ℕ) (values : List A) (k : ℕ)
    → output plus_b times_b (h none) gates places (map h values) k ≡ h (output add mul none gates places values k)
output-map h add mul none plus_b times_b sums products gates places values k =
    let last = run add mul none gates values in
    ap (λ r. slice_index_or (map (λ n. slice_index_or r n (h none)) places) k (h none)) (run-map h add mul none plus_b times_b sums products gates values)
    ∙ ap (λ r. slice_index_or r k (h none))
    (map-same (λ n. slice_index_or (map h last) n (h none)) (λ n. h (slice_index_or last n none)) places (λ n. get_or-map h last n none)
    ∙ sym (map-map h (λ n. slice_index_or last n none) places))
    ∙ get_or-map h (map (λ n. slice_index_or last n none) places) k none

-- gates on planes
pub gates_on_planes : (n : ℕ) (gates : List Gate) (places : List ℕ) (values : List (ℕ → ℕ → Bool))
    → map (output (zip2 bit_xor) (zip2 bit_and) (plane (λ i j. false)) gates places (map plane values)) (range_with_len 0 n)
    ≡ vectors n (bits_of_gates gates places values)
gates_on_planes n gates places values =
    map-same (output (zip2 bit_xor) (zip2 bit_and) (plane (λ i j. false)) gates places (map plane values))
    (λ k. plane (bits_of_gates gates places values k)) (range_with_len 0 n)
    (output-map plane (λ f g i j. differ (f i j) (g i j)) (λ f g i j. f i j && g i j) (λ i j. false) (zip2 bit_xor) (zip2 bit_and)
    xor-plane and-plane gates places values)

-- the bits that gates give at one place, from the bits there
abbrev bits_at : List Gate → List ℕ → List Bool → ℕ → Bool
bits_at gates places values = output differ ◌&&◌ false gates places values

bits_of_gates-at : (gates : List Gate) (places : List ℕ) (values : List (ℕ → ℕ → Bool)) (k i j : ℕ)
    → bits_of_gates gates places values k i j ≡ bits_at gates places (map (λ f. f i j) values) k
bits_of_gates-at gates places values k i j =
    sym (output-map (λ (f : ℕ → ℕ → Bool). f i j) (λ f g i j. differ (f i j) (g i j)) (λ f g i j. f i j && g i j) (λ i j. false)
    differ ◌&&◌ (λ x y. refl) (λ x y. refl) gates places values k)

-- the whole circuit on bits
abbrev s_box_bits : (ℕ → Bool) → ℕ → Bool
s_box_bits x =
    let y : ℕ → Bool = bits_at spread_gates spread_outputs (map x (range_with_len 0 8)) in
    let t : ℕ → Bool = bits_at folded_gates folded_outputs (map y (range_with_len 0 22)) in
    let u : ℕ → Bool = bits_at inverted_gates inverted_outputs (map t (range_with_len 0 4)) in
    let z : ℕ → Bool = bits_at multiplied_gates multiplied_outputs (map y (range_with_len 0 22) ++ map u (range_with_len 0 9)) in
    bits_at gathered_gates gathered_outputs (map z (range_with_len 0 18) ++ true ∷ [])

-- the whole circuit on planes
abbrev pub s_box_planes : (ℕ → ℕ → ℕ → Bool) → ℕ → ℕ → ℕ → Bool
s_box_planes x =
    let y : ℕ → ℕ → ℕ → Bool = bits_of_gates spread_gates spread_outputs (map x (range_with_len 0 8)) in
    let t : ℕ → ℕ → ℕ → Bool = bits_of_gates folded_gates folded_outputs (map y (range_with_len 0 22)) in
    let u : ℕ → ℕ → ℕ → Bool = bits_of_gates inverted_gates inverted_outputs (map t (range_with_len 0 4)) in
    let z : ℕ → ℕ → ℕ → Bool = bits_of_gates multiplied_gates multiplied_outputs (map y (range_with_len 0 22) ++ map u (range_with_len 0 9)) in
    bits_of_gates gathered_gates gathered_outputs (map z (range_with_len 0 18) ++ (λ i j. true) ∷ [])

s_box_planes-at : (x : ℕ → ℕ → ℕ → Bool) (k i j : ℕ) → s_box_planes x k i j ≡ s_box_bits (λ b. x b i j) k
s_box_planes-at x k i j =
    let y : ℕ → ℕ → ℕ → Bool = bits_of_gates spread_gates spread_outputs (map x (range_with_len 0 8)) in
    let t : ℕ → ℕ → ℕ → Bool = bits_of_gates folded_gates folded_outputs (map y (range_with_len 0 22)) in
    let u : ℕ → ℕ → ℕ → Bool = bits_of_gates inverted_gates inverted_outputs (map t (range_with_len 0 4)) in
    let z : ℕ → ℕ → ℕ → Bool = bits_of_gates multiplied_gates multiplied_outputs (map y (range_with_len 0 22) ++ map u (range_with_len 0 9)) in
    let yb : ℕ → Bool = bits_at spread_gates spread_outputs (map (λ b. x b i j) (range_with_len 0 8)) in
    let tb : ℕ → Bool = bits_at folded_gates folded_outputs (map yb (range_with_len 0 22)) in
    let ub : ℕ → Bool = bits_at inverted_gates inverted_outputs (map tb (range_with_len 0 4)) in
    let zb : ℕ → Bool = bits_at multiplied_gates multiplied_outputs (map yb (range_with_len 0 22) ++ map ub (range_with_len 0 9)) in
    let ey : (m : ℕ) → y m i j ≡ yb m = λ m. bits_of_gates-at spread_gates spread_outputs (map x (range_with_len 0 8)) m i j in
    let et : (m : ℕ) → t m i j ≡ tb m = λ m. bits_of_gates-at folded_gates folded_outputs (map y (range_with_len 0 22)) m i j
    ∙ ap (λ (v : List Bool). bits_at folded_gates folded_outputs v m) (map-same (λ n. y n i j) yb (range_with_len 0 22) ey) in
    let eu : (m : ℕ) → u m i j ≡ ub m = λ m. bits_of_gates-at inverted_gates inverted_outputs (map t (range_with_len 0 4)) m i j
    ∙ ap (λ (v : List Bool). bits_at inverted_gates inverted_outputs v m) (map-same (λ n. t n i j) tb (range_with_len 0 4) et) in
    let ez : (m : ℕ) → z m i j ≡ zb m = λ m.
    bits_of_gates-at multiplied_gates multiplied_outputs (map y (range_with_len 0 22) ++ map u (range_with_len 0 9)) m i j
    ∙ ap₂ (λ (v w : List Bool). bits_at multiplied_gates multiplied_outputs (v ++ w) m)
    (map-same (λ n. y n i j) yb (range_with_len 0 22) ey) (map-same (λ n. u n i j) ub (range_with_len 0 9) eu) in
    bits_of_gates-at gathered_gates gathered_outputs (map z (range_with_len 0 18) ++ (λ i j. true) ∷ []) k i j
    ∙ ap (λ (v : List Bool). bits_at gathered_gates gathered_outputs (v ++ true ∷ []) k) (map-same (λ n. z n i j) zb (range_with_len 0 18) ez)

-- it gives what the rule gives, for each byte
s_box_bits-list : (x : ℕ) → x < 256 → map (s_box_bits (bit x)) (range_with_len 0 8) ≡ map (bit (sub_byte x)) (range_with_len 0 8)
unfolding values xtimes product_of_bits product inverse_below inverse affine sub_byte
s_box_bits-list =
    agree_below (λ x. map (s_box_bits (bit x)) (range_with_len 0 8)) (λ x. map (bit (sub_byte x)) (range_with_len 0 8)) 256 refl

s_box_bits-is : (x b : ℕ) → x < 256 → b < 8 → s_box_bits (bit x) b ≡ bit (sub_byte x) b
s_box_bits-is x b fits low =
    sym (get_or-map-range_with_len (s_box_bits (bit x)) 0 8 b b false low (omega arith))
    ∙ ap (λ (v : List Bool). slice_index_or v b false) (s_box_bits-list x fits)
    ∙ get_or-map-range_with_len (bit (sub_byte x)) 0 8 b b false low (omega arith)

sub_bytes-at : (s : List ℕ) (i : ℕ) → i < 16 → slice_index (sub_bytes s) i ≡ sub_byte (slice_index s i)
unfolding sub_bytes
sub_bytes-at s = below_sixteen _ refl refl refl refl refl refl refl refl refl refl refl refl refl refl refl refl

-- the circuit on the planes of blocks
pub s_box_planes-is : (s : ℕ → List ℕ) → ((j : ℕ) → IsBytes (s j))
    → vectors 8 (s_box_planes (λ b i j. bit (slice_index (s j) i) b)) ≡ planes (λ j. sub_bytes (s j))
s_box_planes-is s bytes =
    vectors-agree 8 (s_box_planes (λ b i j. bit (slice_index (s j) i) b)) (λ b i j. bit (slice_index (sub_bytes (s j)) i) b)
    (λ b i j hb hi hj. s_box_planes-at (λ b i j. bit (slice_index (s j) i) b) b i j
    ∙ s_box_bits-is (slice_index (s j) i) b (bytes j i) hb
    ∙ ap (λ (y : ℕ). bit y b) (sym (sub_bytes-at (s j) i hi)))
