-- What is behind the comments of a key file.
use Rattle.std.proofs.Common.{◌≡◌, ◌==◌, ◌<◌, ◌≤◌, arith, ℕ, Bool, true, false, List, [], ◌∷◌, length, get_or, drop, if◌then◌else◌, refl, sym}
use Rattle.std.specs.Io.BufRead.{drop_through}
use Rattle.paseto_tasks.specs.Input.{uncommented}

-- behind the comment that a text begins in
pub in_comment : (xs : List ℕ) → uncommented true xs ≡ uncommented false (drop_through 10 xs)
in_comment [] = refl
in_comment (b ∷ xs) = by (b == 10) refl (in_comment xs)
  where
    by : (same : Bool) → (b == 10) ≡ same → uncommented true xs ≡ uncommented false (drop_through 10 xs)
        → (if same then uncommented false xs else uncommented true xs) ≡ uncommented false (if same then xs else drop_through 10 xs)
    by true is rest = refl
    by false is rest = rest

-- what is behind a line is shorter
pub dropped_shorter : (xs : List ℕ) → length (drop_through 10 xs) ≤ length xs
dropped_shorter [] = omega arith
dropped_shorter (b ∷ xs) = by (b == 10) (dropped_shorter xs)
  where
    by : (same : Bool) → length (drop_through 10 xs) ≤ length xs → length (if same then xs else drop_through 10 xs) ≤ length (b ∷ xs)
    by true rest = omega arith
    by false rest = omega (arith, rest)

-- a comment at the beginning
pub comment_first : (xs : List ℕ) → 0 < length xs → get_or xs 0 0 ≡ 35
    → (uncommented false (drop_through 10 (drop 1 xs)) ≡ uncommented false xs) × (length (drop_through 10 (drop 1 xs)) < length xs)
comment_first [] some begins = absurd (omega (arith, some))
comment_first (b ∷ xs) some begins = rw begins (sym (in_comment xs), omega (arith, dropped_shorter xs))
