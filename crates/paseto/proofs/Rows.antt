-- The rows of the lines of an input, one after another.
use Rattle.std.proofs.Common.{◌≡◌, ◌==◌, ◌<◌, ◌≤◌, ◌&&◌, ◌||◌, ℕ, Bool, true, false, List, [], ◌∷◌, ◌++◌, if◌then◌else◌, length, length-append, arith, refl, sym, ap}
use Rattle.std.proofs.lemmas.Bool.{false≢true, eqb-true}
use Rattle.std.proofs.Math.Bool.{and_assoc, and-true}
use Rattle.std.proofs.lemmas.List.{append_assoc, append-nil}
use Rattle.std.specs.Io.BufRead.{drop_through}
use Rattle.paseto.specs.Each.{AreRows, IsFront, first_line, is_ended}
use Rattle.paseto.specs.Each.AreRows.{no_lines, next_line}
use Rattle.paseto.proofs.Cuts.{IsLine, line_dropped, line_first, none_behind}

-- where a line feed stands in the bytes, they are their first line, it, and what is behind
pub cut_whole : (xs : List ℕ) → is_ended xs ≡ true → xs ≡ first_line xs ++ 10 ∷ drop_through 10 xs
cut_whole [] is = absurd (false≢true is)
cut_whole (b ∷ xs) is = by (b == 10) refl is (λ rest. cut_whole xs rest)
  where
    by : (same : Bool) → (b == 10) ≡ same → (same || is_ended xs) ≡ true → (is_ended xs ≡ true → xs ≡ first_line xs ++ 10 ∷ drop_through 10 xs)
        → b ∷ xs ≡ (if same then [] else b ∷ first_line xs) ++ 10 ∷ (if same then xs else drop_through 10 xs)
    by true is some rest = ap (λ n. n ∷ xs) (eqb-true b 10 is)
    by false is some rest = ap (λ (l : List ℕ). b ∷ l) (rest some)

-- else they are one line
pub one_line : (xs : List ℕ) → is_ended xs ≡ false → IsLine xs
one_line [] is = refl
one_line (b ∷ xs) is = by (b == 10) refl is (λ rest. one_line xs rest)
  where
    by : (same : Bool) → (b == 10) ≡ same → (same || is_ended xs) ≡ false → (is_ended xs ≡ false → IsLine xs) → (if same then [] else b ∷ first_line xs) ≡ b ∷ xs
    by true is some rest = absurd (cc)
    by false is some rest = ap (λ (l : List ℕ). b ∷ l) (rest some)

module _ (IsRow : List ℕ → List ℕ → Bool → Type 0) (longest : ℕ) where
  -- no lines
  pub no_front : IsFront IsRow longest false [] [] true
  no_front rest rows others last are = are

  -- the rows of lines alone
  pub front_alone : (are_last : Bool) (lines rows : List ℕ) (all : Bool) → IsFront IsRow longest are_last lines rows all → AreRows IsRow longest lines rows all
  front_alone are_last lines rows all front = rw (append-nil lines, append-nil rows, and-true all) at (front [] [] true (λ is. refl) no_lines)

  -- lines, and further ones
  pub front_more : (stop : Bool) (lines rows line row : List ℕ) (all others : Bool) → IsFront IsRow longest false lines rows all → IsFront IsRow longest stop line row others
      → IsFront IsRow longest stop (lines ++ line) (rows ++ row) (all && others)
  front_more stop lines rows line row all others first second rest next more last are =
      rw (append_assoc lines line rest, append_assoc rows row next, and_assoc all others more) (first (line ++ rest) (row ++ next) (others && more) (λ no. absurd (false≢true no)) (second rest next more last are))

  module _ (line row : List ℕ) (admitted : Bool) (is : IsLine line) (short : length line ≤ longest) (is_row : IsRow line row admitted) where
    -- a line with its line feed
    pub line_ended : IsFront IsRow longest false (line ++ 10 ∷ []) row admitted
    line_ended rest rows others last are =
        rw append_assoc (next_line (line ++ 10 ∷ rest) row rows admitted others (rw length-append (omega arith)) (rw (line_first line rest is) short)
        (rw (line_first line rest is) is_row) (rw (line_dropped line rest is) are))

    -- the last line, without one
    pub line_last : 0 < length line → IsFront IsRow longest true line row admitted
    line_last some rest rows others last are =
        rw (last refl, append-nil line) (next_line line row rows admitted others some (rw is short) (rw is is_row) (rw (none_behind line is, sym (last refl)) are))
