-- Characters of a section, sixteen at once.
use Rattle.std.proofs.Common.{◌≡◌, ℕ, zero, suc, ◌+◌, ◌-◌, ◌*◌, ◌/◌, ◌%◌, ◌^◌, ◌<◌, ◌≤◌, ◌==◌, Bool, true, false, not, cond, IsTrue, List, [], ◌∷◌, ◌++◌, map, length, take, drop, replicate, slice_index, refl, sym, ap, ap₂, subst, ◌∙◌, arith, inl, inr, Ok}
use Rattle.std.proofs.lemmas.Bool.{eqb-true, ltb-false}
use Rattle.std.proofs.lemmas.List.{get_or-drop, length-drop, length-map, length-replicate, length-take-le, take-append-drop, take-take, take_all}
use Rattle.std.proofs.lemmas.Slice.{take-put_mid}
use Rattle.std.proofs.lemmas.Simd.{length-zip2, mask_l-mod}
use Rattle.std.proofs.Math.Seq.{take-add, take-append-add}
use borrow.Rule.Slice.PartMut.{put_mid}
use lib.Dec.{eqb, ltb}
use lib.Lanes.{mask_l, top, zip2}
use Rattle.base64.specs.GeneralPurpose.{decode_of, encode_of}
use Rattle.base64.specs.Rfc4648.{encode_symbols}
use Rattle.base64.specs.Tables.{all_below}
use Rattle.base64.specs.Engines.{url_safe_no_pad}
use Rattle.base64.proofs.EngineFacts.{decode_of_strict, encode_of-append}
use Rattle.base64.proofs.Tables.{all_below_at, are_tables_inverse, encode-decode_table}
use Rattle.rusty_paseto_parts.specs.Section.{base64url}
use Rattle.rusty_paseto_parts.specs.Sixteen.{sixteen, value}
use Rattle.rusty_paseto_parts.proofs.SectionLemmas.{base64url-symbols, symbols}

-- a list of sixteen numbers, by its numbers
pub sixteen_of : (xs : List ℕ) → length xs ≡ 16 → xs ≡ sixteen (slice_index xs)
sixteen_of (a ∷ b ∷ c ∷ d ∷ e ∷ f ∷ g ∷ h ∷ i ∷ j ∷ k ∷ l ∷ m ∷ n ∷ o ∷ p ∷ []) long = refl
sixteen_of xs long = absurd (omega arith)

-- the three bytes of four values, and those after them, are spelled by the symbols of the values
pub base64url_group : (t rest : List ℕ) (a b c d : ℕ) → a < 64 → b < 64 → c < 64 → d < 64
    → encode_symbols t ((a * 4 % 256 + b / 16) % 256 ∷ (b * 16 % 256 + c / 4) % 256 ∷ (c * 64 % 256 + d / 1) % 256 ∷ rest)
    ≡ slice_index t a ∷ slice_index t b ∷ slice_index t c ∷ slice_index t d ∷ encode_symbols t rest
unfolding encode_symbols
base64url_group t rest a b c d ha hb hc hd =
    let first : (a * 4 % 256 + b / 16) % 256 / 4 ≡ a = omega arith in
    let second : (a * 4 % 256 + b / 16) % 256 % 4 * 16 + (b * 16 % 256 + c / 4) % 256 / 16 ≡ b = omega arith in
    let third : (b * 16 % 256 + c / 4) % 256 % 16 * 4 + (c * 64 % 256 + d / 1) % 256 / 64 ≡ c = omega arith in
    let fourth : (c * 64 % 256 + d / 1) % 256 % 64 ≡ d = omega arith in
    rw (first, second, third, fourth) refl

pub base64url_none : (t : List ℕ) → encode_symbols t [] ≡ []
unfolding encode_symbols
base64url_none t = refl

-- ---- the lanes of the code

-- where p holds of a lane, it is full
abbrev full : Bool → ℕ
full p = cond p 255 0

-- what a lane becomes, for the character in it
abbrev pub lane : ℕ → ℕ
lane x =
    cond (top 7 (full (ltb ((x + 191) % 256) 26))) ((x + 191) % 256)
    (cond (top 7 (full (ltb ((x + 159) % 256) 26))) (((x + 159) % 256 + 26) % 256)
    (cond (top 7 (full (ltb ((x + 208) % 256) 10))) (((x + 208) % 256 + 52) % 256)
    (cond (top 7 (full (eqb x 95))) 63 (cond (top 7 (full (eqb x 45))) 62 255))))

lanes_are_values : all_below (λ x. lane x == value x) 256 ≡ true
unfolding value
lanes_are_values = refl

lane_value : (x : ℕ) → x < 256 → lane x ≡ value x
lane_value x fits = eqb-true _ _ (all_below_at (λ x. lane x == value x) 256 x lanes_are_values fits)

pub sixteen_lanes : (f : ℕ → ℕ) → ((i : ℕ) → f i < 256) → sixteen (λ i. lane (f i)) ≡ sixteen (λ i. value (f i))
sixteen_lanes f fits = λ k. sixteen (λ i. lane_value (f i) (fits i) k)

-- whether the first number is less than the second, in a lane
abbrev less : ℕ → ℕ → ℕ
less a b = full (ltb a b)

none_above : (xs : List ℕ) → mask_l (map (top 7) (zip2 less (replicate (length xs) 63) xs)) ≡ 0 → (i : ℕ) → slice_index xs i < 64
none_above [] e i = omega arith
none_above (x ∷ xs) e zero = go (ltb 63 x) refl (omega arith)
  where
    go : (t : Bool) → ltb 63 x ≡ t → ◌≡◌ {A = ℕ} (cond (top 7 (full t)) 1 0) 0 → x < 64
    go true p q = absurd (omega arith)
    go false p q = omega (arith, ltb-false _ _ p)
none_above (x ∷ xs) e (suc i) = none_above xs (omega arith) i

twice_not : (b : Bool) → IsTrue (not (not b)) → b ≡ true
twice_not true h = refl
twice_not false h = cc h

-- no lane is above 63
pub all_values : (xs : List ℕ) → length xs ≡ 16
    → IsTrue (not (not (eqb (mask_l (map (top 7) (zip2 less (replicate 16 63) xs)) % 2 ^ 64) 0))) → (i : ℕ) → slice_index xs i < 64
all_values xs long test =
    let zero_mask : mask_l (map (top 7) (zip2 less (replicate 16 63) xs)) % 2 ^ 64 ≡ 0 = eqb-true _ _ (twice_not _ test) in
    let bound : ℕ = 63 in
    let size : length (map (top 7) (zip2 less (replicate 16 bound) xs)) ≡ 16 = omega (arith, length-map (zip2 less (replicate 16 bound) xs) (top 7), length-zip2 less (replicate 16 bound) xs (sym long), length-replicate 16 bound) in
    none_above xs (ap (λ (n : ℕ). mask_l (map (top 7) (zip2 less (replicate n 63) xs))) long
    ∙ sym (mask_l-mod (map (top 7) (zip2 less (replicate 16 bound) xs)) 64 (omega arith)) ∙ zero_mask)

-- ---- reading

-- the symbol of a value is the character that it is the value of
symbol_of_value : (x : ℕ) → x < 256 → value x < 64 → slice_index symbols (value x) ≡ x
unfolding value
symbol_of_value x fits low =
    elim (encode-decode_table symbols url_safe_no_pad.decode_table (are_tables_inverse symbols url_safe_no_pad.decode_table 61 url_safe_no_pad.tables) x fits) [
      | inl none ↦ absurd (omega arith)
      | inr some ↦ some.1
    ]

-- sixteen characters, their values and the bytes that these were packed into
pub sixteen_read : (text chars values bytes : List ℕ) → length text ≡ 16 → ((i : ℕ) → slice_index text i < 256) → chars ≡ text
    → ((f : ℕ → ℕ) → ((i : ℕ) → f i < 256) → chars ≡ sixteen f → values ≡ sixteen (λ i. value (f i)))
    → ((i : ℕ) → slice_index values i < 64)
    → ((f : ℕ → ℕ) → ((i : ℕ) → f i < 64) → values ≡ sixteen f → (t : List ℕ) → encode_symbols t (take 12 bytes) ≡ sixteen (λ i. slice_index t (f i)))
    → base64url (take 12 bytes) ≡ text
sixteen_read text chars values bytes long fits same made low packed =
    let is : values ≡ sixteen (λ i. value (slice_index text i)) = made (slice_index text) fits (same ∙ sixteen_of text long) in
    let size : length values ≡ 16 = ap length is in
    let one : (i : ℕ) → slice_index values i ≡ value (slice_index text i) → slice_index symbols (slice_index values i) ≡ slice_index text i =
    λ i e. ap (slice_index symbols) e ∙ symbol_of_value (slice_index text i) (fits i) (subst (λ (v : ℕ). v < 64) e (low i)) in
    let at = λ (i : ℕ). ap (λ (v : List ℕ). slice_index v i) is in
    base64url-symbols (take 12 bytes) ∙ packed (slice_index values) low (sixteen_of values size) symbols
    ∙ (λ k. one 0 (at 0) k ∷ one 1 (at 1) k ∷ one 2 (at 2) k ∷ one 3 (at 3) k ∷ one 4 (at 4) k ∷ one 5 (at 5) k ∷ one 6 (at 6) k ∷ one 7 (at 7) k
    ∷ one 8 (at 8) k ∷ one 9 (at 9) k ∷ one 10 (at 10) k ∷ one 11 (at 11) k ∷ one 12 (at 12) k ∷ one 13 (at 13) k ∷ one 14 (at 14) k ∷ one 15 (at 15) k ∷ [])
    ∙ sym (sixteen_of text long)

-- the base64url of whole groups of three bytes, and then of more
pub base64url-append : (a b : List ℕ) → length a % 3 ≡ 0 → base64url (a ++ b) ≡ base64url a ++ base64url b
unfolding base64url
base64url-append a b whole = encode_of-append url_safe_no_pad a b whole

pub base64url-nil : base64url [] ≡ []
unfolding base64url encode_symbols
base64url-nil = refl

-- twelve bytes more
pub more_read : (text bytes part : List ℕ) (n k w : ℕ) → base64url (take (12 * n) bytes) ≡ take (16 * n) text → length part ≡ 16
    → 12 * n + 16 ≤ length bytes → w ≡ 16 → base64url (take 12 part) ≡ take w (drop (16 * n) text)
    → base64url (take (12 * (n + 1)) (put_mid (12 * n) k bytes part)) ≡ take (16 * (n + 1)) text
more_read text bytes part n k w so_far size fits width here =
    let all : List ℕ = put_mid (12 * n) k bytes part in
    let front : List ℕ = take (12 * n) bytes in
    let whole : take (12 * n + 16) all ≡ front ++ part = take-put_mid (12 * n) k bytes part (12 * n + 16) (omega arith) (omega arith) in
    let long : length front ≡ 12 * n = length-take-le (12 * n) bytes (omega arith) in
    let to : length front + 12 ≡ 12 * (n + 1) = omega arith in
    let cut : take (12 * (n + 1)) all ≡ front ++ take 12 part =
    sym (take-take (12 * (n + 1)) (12 * n + 16) all (omega arith)) ∙ ap (take (12 * (n + 1))) whole
    ∙ ap (λ (m : ℕ). take m (front ++ part)) (sym to) ∙ take-append-add front part 12 in
    let place : 16 * n + 16 ≡ 16 * (n + 1) = omega arith in
    ap base64url cut ∙ base64url-append front (take 12 part) (omega arith)
    ∙ ap₂ ◌++◌ so_far (here ∙ ap (λ (m : ℕ). take m (drop (16 * n) text)) width)
    ∙ sym (take-add (16 * n) 16 text) ∙ ap (λ (m : ℕ). take m text) place

-- the bytes of the front of a text, and behind them those of the rest
pub rest_read : (text front out : List ℕ) (n len k w : ℕ) → base64url (take (12 * n) front) ≡ take (16 * n) text → 12 * n ≤ length front
    → len ≤ length out → ((i : ℕ) → slice_index text i < 256) → w ≡ length text - 16 * n
    → decode_of url_safe_no_pad (take w (drop (16 * n) text)) ≡ Ok (take len out)
    → text ≡ base64url (take (12 * n + len) (put_mid (12 * n) k front out))
unfolding base64url
rest_read text front out n len k w so_far fits within bytes width decoded =
    let all : List ℕ = put_mid (12 * n) k front out in
    let before : List ℕ = take (12 * n) front in
    let behind : List ℕ = drop (16 * n) text in
    let whole : take (12 * n + length out) all ≡ before ++ out = take-put_mid (12 * n) k front out (12 * n + length out) refl fits in
    let long : length before ≡ 12 * n = length-take-le (12 * n) front fits in
    let cut : take (12 * n + len) all ≡ before ++ take len out =
    sym (take-take (12 * n + len) (12 * n + length out) all (omega arith)) ∙ ap (take (12 * n + len)) whole
    ∙ ap (λ (m : ℕ). take (m + len) (before ++ out)) (sym long) ∙ take-append-add before out len in
    let everything : take w behind ≡ behind = take_all w behind (omega (arith, length-drop (16 * n) text)) in
    let are_bytes : (i : ℕ) → slice_index behind i < 256 = λ i. subst (λ (b : ℕ). b < 256) (sym (get_or-drop (16 * n) text i 0)) (bytes (16 * n + i)) in
    let rest : behind ≡ encode_of url_safe_no_pad (take len out) =
    decode_of_strict url_safe_no_pad behind (take len out) (refl, refl) are_bytes (ap (decode_of url_safe_no_pad) (sym everything) ∙ decoded) in
    sym (take-append-drop (16 * n) text) ∙ ap₂ ◌++◌ (sym so_far) rest
    ∙ sym (base64url-append before (take len out) (omega arith)) ∙ ap base64url (sym cut)
