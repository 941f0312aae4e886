-- Multiples of the base point, as the table has them.
use Rattle.std.specs.Prelude.{ℕ, ◌<◌, List, [], get_or}
use Rattle.paseto_montgomery.specs.Residue.{residue}
use Rattle.paseto_montgomery.specs.Words.{value}
use Rattle.paseto_weierstrass_laws.specs.Field.{prime}
use Rattle.paseto_weierstrass_laws.specs.Multiples.{IsMultiple}
use Rattle.paseto_weierstrass_laws.specs.Point.{Point, base}

-- the number that six words at i are
abbrev pub words_at : List (List ℕ) → ℕ → ℕ
words_at e i = value (get_or e i []) 6

-- the point of X and Y in Montgomery's form, where Z is 1
abbrev pub entry_point : List (List ℕ) → Point
entry_point e = record { x = residue prime 6 (words_at e 0); y = residue prime 6 (words_at e 1); z = 1 }

-- [n]G
pub record IsEntry (n : ℕ) (e : List (List ℕ)) : Type 0 where
  pub x_below : words_at e 0 < prime
  pub y_below : words_at e 1 < prime
  pub multiple : IsMultiple base (entry_point e) n
