-- Limits on how many bytes a token and its footer have.
use Rattle.std.specs.Prelude.{ℕ, ◌*◌, ◌/◌, Bool, false, nat_lt, List, [], ◌∷◌, length, Option, Some, None}

-- so many bytes are more than the limit, where there is one
abbrev pub is_beyond : Option ℕ → ℕ → Bool
is_beyond None bytes = false
is_beyond (Some longest) bytes = nat_lt longest bytes

-- how many bytes a section of so many characters spells (RFC 4648, section 5): three for each four, without padding
abbrev pub spelled : ℕ → ℕ
spelled characters = (3 * characters) / 4

-- the sections are four, and the footer's spells more bytes than the limit, where there is one
abbrev pub has_long_footer : Option ℕ → List (List ℕ) → Bool
has_long_footer None parts = false
has_long_footer (Some longest) (_ ∷ _ ∷ _ ∷ section ∷ []) = is_beyond (Some longest) (spelled (length section))
has_long_footer (Some longest) _ = false
