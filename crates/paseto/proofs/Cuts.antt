-- Where a line of an input ends.
use Rattle.std.proofs.Common.{◌≡◌, ◌≢◌, ◌==◌, ◌∙◌, ℕ, zero, suc, Bool, true, false, ◌<◌, ◌≤◌, ◌-◌, arith, List, [], ◌∷◌, ◌++◌, length, get_or, take, drop, if◌then◌else◌, refl, sym, ap, subst}
use Rattle.std.proofs.lemmas.Bool.{ne_eqb}
use Rattle.std.proofs.lemmas.List.{take_all, take_rest, drop_all}
use Rattle.std.specs.Io.BufRead.{drop_through}
use Rattle.paseto.specs.Each.{first_line}

-- a line that has not ended: it holds no line feed
abbrev pub IsLine : List ℕ → Type 0
IsLine line = first_line line ≡ line

-- the first line holds no line feed
pub first_is_line : (xs : List ℕ) → IsLine (first_line xs)
first_is_line [] = refl
first_is_line (b ∷ xs) = by (b == 10) refl (first_is_line xs)
  where
    by : (same : Bool) → (b == 10) ≡ same → IsLine (first_line xs) → IsLine (if same then [] else b ∷ first_line xs)
    by true is rest = refl
    by false is rest = rw is (ap (λ (l : List ℕ). b ∷ l) rest)

-- what stands behind a line that has not ended: a line feed, and the rest
pub line_first : (line z : List ℕ) → IsLine line → first_line (line ++ 10 ∷ z) ≡ line
line_first [] z is = refl
line_first (b ∷ line) z is = by (b == 10) refl is (λ rest. line_first line z rest)
  where
    by : (same : Bool) → (b == 10) ≡ same → (if same then [] else b ∷ first_line line) ≡ b ∷ line → (IsLine line → first_line (line ++ 10 ∷ z) ≡ line)
        → (if same then [] else b ∷ first_line (line ++ 10 ∷ z)) ≡ b ∷ line
    by true is same more = absurd (cc)
    by false is same more = ap (λ (l : List ℕ). b ∷ l) (more (ap (λ (l : List ℕ). drop 1 l) same))

pub line_dropped : (line z : List ℕ) → IsLine line → drop_through 10 (line ++ 10 ∷ z) ≡ z
line_dropped [] z is = refl
line_dropped (b ∷ line) z is = by (b == 10) refl is (λ rest. line_dropped line z rest)
  where
    by : (same : Bool) → (b == 10) ≡ same → (if same then [] else b ∷ first_line line) ≡ b ∷ line → (IsLine line → drop_through 10 (line ++ 10 ∷ z) ≡ z)
        → (if same then line ++ 10 ∷ z else drop_through 10 (line ++ 10 ∷ z)) ≡ z
    by true is same more = absurd (cc)
    by false is same more = more (ap (λ (l : List ℕ). drop 1 l) same)

-- nothing stands behind a line that is the last
pub none_behind : (line : List ℕ) → IsLine line → drop_through 10 line ≡ []
none_behind [] is = refl
none_behind (b ∷ line) is = by (b == 10) refl is (λ rest. none_behind line rest)
  where
    by : (same : Bool) → (b == 10) ≡ same → (if same then [] else b ∷ first_line line) ≡ b ∷ line → (IsLine line → drop_through 10 line ≡ [])
        → (if same then line else drop_through 10 line) ≡ []
    by true is same more = absurd (cc)
    by false is same more = more (ap (λ (l : List ℕ). drop 1 l) same)

-- a line with one more byte
pub line_more : (line : List ℕ) (b : ℕ) → IsLine line → (b == 10) ≡ false → IsLine (line ++ b ∷ [])
line_more [] b is other = rw other refl
line_more (a ∷ line) b is other = by (a == 10) refl is (λ rest. line_more line b rest other)
  where
    by : (same : Bool) → (a == 10) ≡ same → (if same then [] else a ∷ first_line line) ≡ a ∷ line → (IsLine line → IsLine (line ++ b ∷ []))
        → (if same then [] else a ∷ first_line (line ++ b ∷ [])) ≡ a ∷ (line ++ b ∷ [])
    by true is same more = absurd (cc)
    by false is same more = ap (λ (l : List ℕ). a ∷ l) (more (ap (λ (l : List ℕ). drop 1 l) same))

-- a line feed at an index, the first one
pub line_at : (xs : List ℕ) (n : ℕ) → n < length xs → IsLine (take n xs) → get_or xs n 0 ≡ 10 → (first_line xs ≡ take n xs) × (drop_through 10 xs ≡ drop (suc n) xs)
line_at [] n short is ends = absurd (omega (arith, short))
line_at (b ∷ xs) zero short is ends = rw ends (refl, refl)
line_at (b ∷ xs) (suc n) short is ends = by (b == 10) refl is (λ rest. line_at xs n (omega (arith, short)) rest ends)
  where
    by : (same : Bool) → (b == 10) ≡ same → (if same then [] else b ∷ first_line (take n xs)) ≡ b ∷ take n xs
        → (IsLine (take n xs) → (first_line xs ≡ take n xs) × (drop_through 10 xs ≡ drop (suc n) xs))
        → ((if same then [] else b ∷ first_line xs) ≡ b ∷ take n xs) × ((if same then xs else drop_through 10 xs) ≡ drop (suc n) xs)
    by true is same more = absurd (cc)
    by false is same more =
        let all = more (ap (λ (l : List ℕ). drop 1 l) same) in
        (ap (λ (l : List ℕ). b ∷ l) all.0, all.1)

-- none up to the next index
pub line_on : (xs : List ℕ) (n : ℕ) → n < length xs → IsLine (take n xs) → get_or xs n 0 ≢ 10 → IsLine (take (suc n) xs)
line_on [] n short is other = absurd (omega (arith, short))
line_on (b ∷ xs) zero short is other = rw (ne_eqb b 10 other) refl
line_on (b ∷ xs) (suc n) short is other = by (b == 10) refl is (λ rest. line_on xs n (omega (arith, short)) rest other)
  where
    by : (same : Bool) → (b == 10) ≡ same → (if same then [] else b ∷ first_line (take n xs)) ≡ b ∷ take n xs
        → (IsLine (take n xs) → IsLine (take (suc n) xs)) → (if same then [] else b ∷ first_line (take (suc n) xs)) ≡ b ∷ take (suc n) xs
    by true is same more = absurd (cc)
    by false is same more = ap (λ (l : List ℕ). b ∷ l) (more (ap (λ (l : List ℕ). drop 1 l) same))

-- the last line, which no line feed ends
pub last_line : (xs : List ℕ) (n : ℕ) → length xs ≤ n → IsLine (take n xs) → take (length xs - n) (drop n xs) ≡ drop_through 10 xs
last_line xs n long is = take_rest xs n ∙ drop_all n xs long ∙ sym (none_behind xs (subst IsLine (take_all n xs long) is))

-- what is behind a line is shorter
dropped_shorter : (xs : List ℕ) → length (drop_through 10 xs) ≤ length xs
dropped_shorter [] = omega arith
dropped_shorter (b ∷ xs) = by (b == 10) (dropped_shorter xs)
  where
    by : (same : Bool) → length (drop_through 10 xs) ≤ length xs → length (if same then xs else drop_through 10 xs) ≤ length (b ∷ xs)
    by true rest = omega arith
    by false rest = omega (arith, rest)

pub dropped_smaller : (xs : List ℕ) → 0 < length xs → length (drop_through 10 xs) < length xs
dropped_smaller [] some = absurd (omega (arith, some))
dropped_smaller (b ∷ xs) some = by (b == 10) (dropped_shorter xs)
  where
    by : (same : Bool) → length (drop_through 10 xs) ≤ length xs → length (if same then xs else drop_through 10 xs) < length (b ∷ xs)
    by true rest = omega arith
    by false rest = omega (arith, rest)
