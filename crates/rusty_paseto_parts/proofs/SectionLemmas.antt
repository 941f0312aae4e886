-- Sections and their base64url.
use Rattle.std.proofs.Common.{◌≡◌, ◌≢◌, ◌↔◌, ℕ, ◌+◌, ◌*◌, ◌/◌, ◌%◌, ◌<◌, ◌==◌, Bool, true, false, not, List, [], ◌∷◌, ◌++◌, length, min, length-append, get_or, slice_index, Option, Some, Bor, refl, sym, ap, subst, ◌∙◌, arith, inl, inr}
use Rattle.std.specs.Option.{option_map_or}
use Rattle.std.specs.List.{All, list_all, join_with_byte, slice_split, onto_first}
use Rattle.std.specs.declared.result.Result.TheVariants.{Ok}
use Rattle.std.proofs.lemmas.Bool.{cases_Bool, cases_lt, eqb-false, ne_eqb}
use Rattle.std.proofs.lemmas.List.{append-nil, append_cancel_left, get_or_default, get_or_past, nil_from_length}
use Rattle.std.proofs.lemmas.List.Elements.{All-nil, All-cons, All-head, All-tail}
use Rattle.std.proofs.lemmas.List.Sums.{AllPass-from_list_all}
use Rattle.std.proofs.lemmas.List.Splits.{slice_split_none, slice_split_at, length-slice_split, join_with_byte-slice_split}
use Rattle.base64.specs.declared.engine.general_purpose.GeneralPurpose.{GeneralPurpose}
use Rattle.base64.specs.Engines.{url_safe_no_pad}
use Rattle.base64.specs.GeneralPurpose.{IsBytes, IsConsistent, decode_of, encode_of, engine_symbols}
use Rattle.base64.specs.Rfc4648.{encode_symbols}
use Rattle.base64.proofs.EngineFacts.{decode_of-encode_of, encode_of-append, encode_of-nil}
use Rattle.rusty_paseto_parts.specs.Section.{AreSections, HasNoDot, sections, base64url}

-- ---- sections

abbrev IsNotDot : ℕ → Type 0
IsNotDot c = c ≢ 46

abbrev is_dot : ℕ → Bool
is_dot c = c == 46

dot_tests : (xs : List ℕ) → HasNoDot xs → All (λ c. is_dot c ≡ false) xs
dot_tests xs dotless k d lt = ne_eqb _ 46 (dotless k d lt)

-- what a search for a dot says of the bytes before it
pub HasNoDot-from_search : (xs : List ℕ) → ((i : ℕ) → i < length xs → get_or xs i 0 ≢ 46) → HasNoDot xs
HasNoDot-from_search xs none k d lt = rw (get_or_default xs k d 0 lt) (none k lt)

pub sections-dotless : (xs : List ℕ) → HasNoDot xs → sections xs ≡ xs ∷ []
unfolding sections
sections-dotless xs dotless = slice_split_none is_dot xs (dot_tests xs dotless)

pub sections-dot : (xs ys : List ℕ) → HasNoDot xs → sections (xs ++ 46 ∷ ys) ≡ xs ∷ sections ys
unfolding sections
sections-dot xs ys dotless = slice_split_at is_dot xs 46 ys (dot_tests xs dotless) refl

pub some_section : (text : List ℕ) → 0 < length (sections text)
unfolding sections
some_section text = omega (arith, length-slice_split is_dot text)

dotless-onto_first : (x : ℕ) (parts : List (List ℕ)) → IsNotDot x → All HasNoDot parts → All HasNoDot (onto_first x parts)
dotless-onto_first x [] ne dotless = All-cons HasNoDot (x ∷ []) [] (All-cons IsNotDot x [] ne (All-nil IsNotDot)) (All-nil HasNoDot)
dotless-onto_first x (part ∷ parts) ne dotless =
    All-cons HasNoDot (x ∷ part) parts (All-cons IsNotDot x part ne (All-head HasNoDot part parts dotless)) (All-tail HasNoDot part parts dotless)

dotless-split : (text : List ℕ) → All HasNoDot (slice_split is_dot text)
dotless-split [] = All-cons HasNoDot [] [] (All-nil IsNotDot) (All-nil HasNoDot)
dotless-split (x ∷ xs) = elim (cases_Bool (x == 46)) [
  | inl dot ↦ rw dot (All-cons HasNoDot [] (slice_split is_dot xs) (All-nil IsNotDot) (dotless-split xs))
  | inr other ↦ rw other (dotless-onto_first x (slice_split is_dot xs) (eqb-false x 46 other) (dotless-split xs))
]

pub AreSections-sections : (text : List ℕ) → AreSections text (sections text)
unfolding sections
AreSections-sections text = record {
  some = some_section text;
  dotless = dotless-split text;
  joined = join_with_byte-slice_split 46 text;
}

pub sections-join : (parts : List (List ℕ)) → 0 < length parts → All HasNoDot parts → sections (join_with_byte 46 parts) ≡ parts
sections-join [] some dotless = absurd (omega arith)
sections-join (x ∷ []) some dotless = sections-dotless x (All-head HasNoDot x [] dotless)
sections-join (x ∷ y ∷ rest) some dotless =
    sections-dot x (join_with_byte 46 (y ∷ rest)) (All-head HasNoDot x (y ∷ rest) dotless)
    ∙ ap (λ parts. x ∷ parts) (sections-join (y ∷ rest) (omega arith) (All-tail HasNoDot x (y ∷ rest) dotless))

-- The sections are the only such parts.
pub are_sections : (text : List ℕ) (parts : List (List ℕ)) → (parts ≡ sections text) ↔ AreSections text parts
are_sections text parts = (
  λ e. subst (AreSections text) (sym e) (AreSections-sections text),
  λ are. sym (sections-join parts are.some are.dotless) ∙ ap sections are.joined,
)

-- the rest of a text, after its first dot, has the other sections
pub more_sections : (text first : List ℕ) (found : Option (Bor (List ℕ))) (rest : Bor (List ℕ))
    → sections text ≡ first ∷ option_map_or (λ r. sections r.now) found [] → found ≡ Some rest
    → length (sections text) ≡ length (sections rest.now) + 1
more_sections text first found rest split is =
    let whole : sections text ≡ first ∷ sections rest.now = rw is at split in
    rw whole (omega arith)

-- ---- base64url

injective_of : (e : GeneralPurpose) (a b : List ℕ) → IsConsistent e → IsBytes a → IsBytes b → encode_of e a ≡ encode_of e b → a ≡ b
injective_of e a b consistent bytes_a bytes_b same =
    let of_a : decode_of e (encode_of e a) ≡ Ok a = decode_of-encode_of e a consistent bytes_a in
    let of_b : decode_of e (encode_of e b) ≡ Ok b = decode_of-encode_of e b consistent bytes_b in
    let decoded : decode_of e (encode_of e a) ≡ decode_of e (encode_of e b) = ap (decode_of e) same in
    cc

-- Bytes of the same base64url are equal.
pub base64url-injective : (a b : List ℕ) → IsBytes a → IsBytes b → base64url a ≡ base64url b → a ≡ b
unfolding base64url
base64url-injective a b bytes_a bytes_b same = injective_of url_safe_no_pad a b refl bytes_a bytes_b same

pub base64url-nil : base64url [] ≡ []
unfolding base64url
base64url-nil = encode_of-nil url_safe_no_pad

-- a text is the base64url of all, where its rest after the base64url of a piece, 48 bytes or the last, is that of the
-- others
pub base64url_after : (all piece others rest : List ℕ) → all ≡ piece ++ others → length piece ≡ min 48 (length all)
    → (base64url piece ++ rest ≡ base64url all) ↔ (rest ≡ base64url others)
unfolding base64url
base64url_after all piece others rest parts size =
    let sum = ap length parts ∙ length-append piece others in
    let whole : base64url all ≡ base64url piece ++ base64url others = elim (cases_lt (length all) 48) [
      | inl short ↦
          let none : others ≡ [] = nil_from_length others (omega arith) in
          ap base64url (parts ∙ ap (λ (t : List ℕ). piece ++ t) none ∙ append-nil piece)
          ∙ sym (append-nil (base64url piece))
          ∙ ap (λ (t : List ℕ). base64url piece ++ t) (sym (ap base64url none ∙ base64url-nil))
      | inr long ↦
          let third : length piece % 3 ≡ 0 = omega arith in
          ap base64url parts ∙ encode_of-append url_safe_no_pad piece others third
    ] in
    (λ same. append_cancel_left (base64url piece) rest (base64url others) (same ∙ whole), λ same. ap (λ (t : List ℕ). base64url piece ++ t) same ∙ sym whole)

-- the 64 symbols
abbrev pub symbols : List ℕ
symbols = engine_symbols url_safe_no_pad

pub base64url-symbols : (bytes : List ℕ) → base64url bytes ≡ encode_symbols symbols bytes
unfolding base64url
base64url-symbols bytes = append-nil (encode_symbols symbols bytes)

one_symbol : (t : List ℕ) (i : ℕ) (rest : List ℕ) → ((k : ℕ) → IsNotDot (slice_index t k)) → HasNoDot rest → HasNoDot (slice_index t i ∷ rest)
one_symbol t i rest dotless h = All-cons IsNotDot (slice_index t i) rest (dotless i) h

two_symbols : (t : List ℕ) (i j : ℕ) (rest : List ℕ) → ((k : ℕ) → IsNotDot (slice_index t k)) → HasNoDot rest → HasNoDot (slice_index t i ∷ slice_index t j ∷ rest)
two_symbols t i j rest dotless h = one_symbol t i (slice_index t j ∷ rest) dotless (one_symbol t j rest dotless h)

dotless-encode_symbols : (t m : List ℕ) → ((k : ℕ) → IsNotDot (slice_index t k)) → HasNoDot (encode_symbols t m)
unfolding encode_symbols
dotless-encode_symbols t [] h = All-nil IsNotDot
dotless-encode_symbols t (a ∷ []) h = two_symbols t (a / 4) (a % 4 * 16) [] h (All-nil IsNotDot)
dotless-encode_symbols t (a ∷ b ∷ []) h =
    one_symbol t (a / 4) (slice_index t (a % 4 * 16 + b / 16) ∷ slice_index t (b % 16 * 4) ∷ []) h
    (two_symbols t (a % 4 * 16 + b / 16) (b % 16 * 4) [] h (All-nil IsNotDot))
dotless-encode_symbols t (a ∷ b ∷ c ∷ rest) h =
    two_symbols t (a / 4) (a % 4 * 16 + b / 16) (slice_index t (b % 16 * 4 + c / 64) ∷ slice_index t (c % 64) ∷ encode_symbols t rest) h
    (two_symbols t (b % 16 * 4 + c / 64) (c % 64) (encode_symbols t rest) h (dotless-encode_symbols t rest h))

-- a table that passes the test has no dot at any place
dotless-table : (t : List ℕ) → list_all (λ c. not (is_dot c)) t ≡ true → (k : ℕ) → IsNotDot (slice_index t k)
dotless-table t passes k = elim (cases_lt k (length t)) [
  | inl within ↦
      let test : not (is_dot (slice_index t k)) ≡ true = AllPass-from_list_all (λ c. not (is_dot c)) t passes k 0 within in
      λ is. let broken = rw is at test in cc broken
  | inr past ↦ λ is. let zero_is : 0 ≡ 46 = sym (get_or_past t k 0 past) ∙ is in cc zero_is
]

pub HasNoDot-base64url : (bytes : List ℕ) → HasNoDot (base64url bytes)
HasNoDot-base64url bytes = rw base64url-symbols (dotless-encode_symbols symbols bytes (dotless-table symbols refl))
