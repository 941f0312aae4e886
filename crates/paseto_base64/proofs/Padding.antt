-- No symbol is the padding, so the padding of a text can be told from its symbols.
use Rattle.std.proofs.Common.{◌≡◌, ◌≢◌, ℕ, zero, suc, ◌*◌, ◌+◌, ◌/◌, ◌%◌, ◌<◌, ◌==◌, true, not, List, [], ◌∷◌, ◌++◌, All, arith, inl, inr, length, refl, replicate, slice_index, subst, sym, ◌∙◌}
use Rattle.std.proofs.lemmas.Bool.{cases_lt}
use Rattle.std.proofs.lemmas.List.{append-nil, append_assoc, append_cancel_right, drop_at, get_or_past}
use Rattle.std.proofs.lemmas.List.Elements.{All-cons, All-drop, All-nil}
use Rattle.base64.specs.Rfc4648.{encode_symbols}
use Rattle.base64.specs.Tables.{all_below}
use Rattle.base64.proofs.Tables.{all_below_at}
use Rattle.paseto_base64.specs.declared.alphabet.Alphabet.TheVariants.{Standard}
use Rattle.paseto_base64.specs.Alphabet.{symbols}

-- the character is not the padding
abbrev pub IsSymbol : ℕ → Type 0
IsSymbol character = character ≢ 61

none_is_padding : all_below (λ value. not (slice_index (symbols Standard) value == 61)) 64 ≡ true
none_is_padding = refl

is_no_padding : (character : ℕ) → not (character == 61) ≡ true → character ≢ 61
is_no_padding character h e = absurd (cc (rw e at h))

symbol : (value : ℕ) → IsSymbol (slice_index (symbols Standard) value)
symbol value = elim (cases_lt value 64) [
  | inl low ↦ is_no_padding _ (all_below_at (λ value. not (slice_index (symbols Standard) value == 61)) 64 value none_is_padding low)
  | inr high ↦ λ e. absurd (cc (sym (get_or_past (symbols Standard) value 0 high) ∙ e))
]

-- the character of a value, before others
before : (value : ℕ) (rest : List ℕ) → All IsSymbol rest → All IsSymbol (slice_index (symbols Standard) value ∷ rest)
before value rest h = All-cons IsSymbol (slice_index (symbols Standard) value) rest (symbol value) h

two : (a b : ℕ) (rest : List ℕ) → All IsSymbol rest
    → All IsSymbol (slice_index (symbols Standard) a ∷ slice_index (symbols Standard) b ∷ rest)
two a b rest h = before a (slice_index (symbols Standard) b ∷ rest) (before b rest h)

pub all_symbols : (bytes : List ℕ) → All IsSymbol (encode_symbols (symbols Standard) bytes)
unfolding encode_symbols
all_symbols [] = All-nil IsSymbol
all_symbols (a ∷ []) = two (a / 4) (a % 4 * 16) [] (All-nil IsSymbol)
all_symbols (a ∷ b ∷ []) =
    two (a / 4) (a % 4 * 16 + b / 16) (slice_index (symbols Standard) (b % 16 * 4) ∷ []) (before (b % 16 * 4) [] (All-nil IsSymbol))
all_symbols (a ∷ b ∷ c ∷ rest) =
    let end = encode_symbols (symbols Standard) rest in
    two (a / 4) (a % 4 * 16 + b / 16) (slice_index (symbols Standard) (b % 16 * 4 + c / 64) ∷ slice_index (symbols Standard) (c % 64) ∷ end)
    (two (b % 16 * 4 + c / 64) (c % 64) end (all_symbols rest))

-- symbols do not end in padding
not_ended : (front tail : List ℕ) → All IsSymbol (front ++ 61 ∷ tail) → ⊥
not_ended front tail all =
    let end : All IsSymbol (61 ∷ tail) = subst (All IsSymbol) (drop_at front (61 ∷ tail) (length front) refl) (All-drop IsSymbol (length front) _ all) in
    end 0 61 (omega arith) refl

-- behind symbols, with one character of padding less
pub one_less : (all front : List ℕ) (count : ℕ) → count < 3 → All IsSymbol all → all ++ replicate count 61 ≡ front ++ 61 ∷ []
    → (less : ℕ) × (less < 3) × (front ≡ all ++ replicate less 61)
one_less all front zero few h e = absurd (not_ended front [] (subst (All IsSymbol) (sym (append-nil all) ∙ e) h))
one_less all front (suc zero) few h e = (0, omega arith, sym (append_cancel_right all front (61 ∷ []) e) ∙ sym (append-nil all))
one_less all front (suc (suc zero)) few h e =
    (1, omega arith, sym (append_cancel_right (all ++ 61 ∷ []) front (61 ∷ []) (append_assoc all (61 ∷ []) (61 ∷ []) ∙ e)))
one_less all front (suc (suc (suc count))) few h e = absurd (omega (arith, few))

-- behind symbols, with no more of it
pub no_more : (all rest : List ℕ) (count : ℕ) → count < 3 → rest ≡ all ++ replicate count 61
    → ((front : List ℕ) → rest ≢ front ++ 61 ∷ []) → rest ≡ all
no_more all rest zero few e none = e ∙ append-nil all
no_more all rest (suc zero) few e none = absurd (none all e)
no_more all rest (suc (suc zero)) few e none = absurd (none (all ++ 61 ∷ []) (e ∙ sym (append_assoc all (61 ∷ []) (61 ∷ []))))
no_more all rest (suc (suc (suc count))) few e none = absurd (omega (arith, few))
