-- What a text begins with.
use Rattle.std.proofs.Common.{◌≡◌, ◌≢◌, ℕ, ◌+◌, List, ◌++◌, length, drop, Option, None, Some, Bor, MatchOption, sym, ap, ◌∙◌}
use Rattle.std.specs.Str.Pattern.{FindsTextPrefix}

-- what `strip_prefix` finds at a text
pub strip_text : (front text : List ℕ) (r : Option (Bor (List ℕ)))
    → MatchOption r (FindsTextPrefix front text None) (λ x. (n : ℕ) × FindsTextPrefix front text (Some n) × (x.now ≡ drop n text) × (length x.now + n ≡ length text))
    → MatchOption r ((rest : List ℕ) → text ≢ front ++ rest) (λ x. text ≡ front ++ x.now)
strip_text front text None h = λ rest e. h rest e
strip_text front text (Some x) h = h.1.1 ∙ ap (λ (rest : List ℕ). front ++ rest) (sym h.2)
