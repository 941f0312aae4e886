-- A text in front of others.
use Rattle.std.proofs.Common.{◌≡◌, ◌<◌, ◌≤◌, ◌-◌, List, ℕ, [], ◌∷◌, length, take, drop, get_or, String, Global, string_bytes, refl, ap, sym, ◌∙◌, arith}
use Rattle.std.proofs.lemmas.List.{take_rest}
use Rattle.std.specs.Borrow.{Bor}
use Rattle.paseto_tasks.specs.Arguments.{texts, words_of}

-- words are the first of them and the rest
first_of : (words : List (String Global)) (word : String Global) → 1 ≤ length words → word ≡ get_or words 0 word
    → words_of words ≡ string_bytes word ∷ words_of (drop 1 words)
first_of [] word some is = absurd (omega (arith, some))
first_of (other ∷ words) word some is = ap (λ (w : String Global). string_bytes w ∷ words_of words) (sym is)

-- there are no words in an empty list
pub no_words : (words : List (String Global)) → length words < 1 → words_of words ≡ []
no_words [] none = refl
no_words (word ∷ words) none = absurd (omega (arith, none))

pub word_and_rest : (words : List (String Global)) (word : String Global) → 1 ≤ length words → word ≡ get_or words 0 word
    → words_of words ≡ string_bytes word ∷ words_of (take (length words - 1) (drop 1 words))
word_and_rest words word some is =
    first_of words word some is ∙ ap (λ (rest : List (String Global)). string_bytes word ∷ words_of rest) (sym (take_rest words 1))

-- the same of texts that are borrowed
first_text : (words : List (Bor (List ℕ))) (word : Bor (List ℕ)) → 1 ≤ length words → word ≡ get_or words 0 word
    → texts words ≡ word.now ∷ texts (drop 1 words)
first_text [] word some is = absurd (omega (arith, some))
first_text (other ∷ words) word some is = ap (λ (w : Bor (List ℕ)). w.now ∷ texts words) (sym is)

pub no_texts : (words : List (Bor (List ℕ))) → length words < 1 → texts words ≡ []
no_texts [] none = refl
no_texts (word ∷ words) none = absurd (omega (arith, none))

pub text_and_rest : (words : List (Bor (List ℕ))) (word : Bor (List ℕ)) → 1 ≤ length words → word ≡ get_or words 0 word
    → texts words ≡ word.now ∷ texts (take (length words - 1) (drop 1 words))
text_and_rest words word some is =
    first_text words word some is ∙ ap (λ (rest : List (Bor (List ℕ))). word.now ∷ texts rest) (sym (take_rest words 1))

-- the same by the text in front
pub front_and_rest : (words : List (Bor (List ℕ))) (other : Bor (List ℕ)) (front : List ℕ) → 1 ≤ length words → front ≡ (get_or words 0 other).now
    → texts words ≡ front ∷ texts (take (length words - 1) (drop 1 words))
front_and_rest [] other front some is = absurd (omega (arith, some))
front_and_rest (word ∷ words) other front some is =
    ap (λ (f : List ℕ). f ∷ texts words) (sym is) ∙ ap (λ (rest : List (Bor (List ℕ))). front ∷ texts rest) (sym (take_rest (word ∷ words) 1))
