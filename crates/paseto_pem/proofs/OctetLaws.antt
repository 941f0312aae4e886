-- What comparing says of octets.
use Rattle.std.proofs.Common.{◌≡◌, ℕ, List, refl}
use Rattle.std.specs.Prelude.{Bool, true, false, nat_eq, not}
use Rattle.std.specs.Cmp.Lexicographic.{pointwise}
use Rattle.std.proofs.lemmas.Bool.Decides.{Decides-eqb}
use Rattle.std.proofs.lemmas.Slice.Eq.{slice_eq-Decides}

pub same-octets : (xs ys : List ℕ) → xs ≡ ys → pointwise nat_eq xs ys ≡ true
same-octets xs ys e = (slice_eq-Decides Decides-eqb xs ys (pointwise nat_eq xs ys) refl).1 e

not-false : (b : Bool) → false ≡ not b → b ≡ true
not-false true h = refl
not-false false h = h

pub equal-octets : (xs ys : List ℕ) → false ≡ not (pointwise nat_eq xs ys) → xs ≡ ys
equal-octets xs ys h = (slice_eq-Decides Decides-eqb xs ys (pointwise nat_eq xs ys) refl).0 (not-false (pointwise nat_eq xs ys) h)
