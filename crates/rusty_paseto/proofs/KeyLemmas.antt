-- Facts about the keys that are counted.
use Rattle.std.proofs.Common.{◌≡◌, ℕ, List, Bool, true, false, if◌then◌else◌, Some, bytes_eq, refl, ap, subst, ◌∙◌}
use Rattle.std.specs.Cmp.Lexicographic.{bytes_decides}
use Rattle.rusty_paseto.specs.PasetoBuilder.{Counting, IsSame, counted}

counted_at : (old : Counting) (key other : List ℕ) (same : Bool) → bytes_eq key other ≡ same → old.is_counted key ≡ true
    → old.is_counted other ≡ (if same then true else old.is_counted other)
counted_at old key other true same was = subst (λ at. old.is_counted at ≡ true) ((bytes_decides key other).0 same) was
counted_at old key other false same was = refl

-- a key that was counted is only repeated
pub repeated_again : (key : List ℕ) (old new : Counting) → old.is_counted key ≡ true → new ≡ record old { repeated = Some key }
    → IsSame (counted key old) new
repeated_again key old new was is = record {
  is_counted = λ other. ap (λ made. made.is_counted other) is ∙ counted_at old key other (bytes_eq key other) refl was;
  repeated = ap (λ made. made.repeated) is ∙ rw was refl;
}
