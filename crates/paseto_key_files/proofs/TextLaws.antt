-- The text of a wrapped key is a line.
use Rattle.std.proofs.Common.{◌≡◌, ◌≢◌, ℕ, ◌+◌, ◌-◌, ◌*◌, ◌/◌, ◌%◌, ◌==◌, ◌&&◌, Bool, true, false, not, List, [], ◌∷◌, ◌++◌, length, get_or, slice_index, zero, suc, ◌<◌, refl, sym, ap, subst, ◌∙◌, arith, inl, inr}
use Rattle.std.specs.List.{All, Any, list_all, slice_index_or}
use Rattle.std.specs.Str.Lines.{lines, lines_of_parts}
use Rattle.std.specs.Io.BufRead.{ends_with_byte}
use Rattle.std.proofs.lemmas.Bool.{cases_lt, ne_eqb}
use Rattle.std.proofs.lemmas.List.{get_or_past}
use Rattle.std.proofs.lemmas.List.Elements.{All-append, All-cons, All-nil}
use Rattle.std.proofs.lemmas.List.Splits.{slice_split_none}
use Rattle.std.proofs.lemmas.List.Sums.{AllPass-from_list_all}
use Rattle.base64.specs.Rfc4648.{encode_symbols}
use Rattle.rusty_paseto_parts.specs.Section.{base64url}
use Rattle.rusty_paseto_parts.proofs.SectionLemmas.{base64url-symbols, symbols}
use Rattle.rusty_paseto_paserk.specs.declared.header.PaserkVersion.{PaserkVersion}
use Rattle.rusty_paseto_paserk.specs.declared.header.PaserkVersion.TheVariants.{V1, V2, V3, V4}
use Rattle.rusty_paseto_paserk.specs.Header.{mark}
use Rattle.paseto_wrapping.specs.declared.header.WrappedType.{WrappedType}
use Rattle.paseto_wrapping.specs.declared.header.WrappedType.TheVariants.{LocalWrap, SecretWrap, LocalPassword, SecretPassword, Seal}
use Rattle.paseto_wrapping.specs.Header.{word}
use Rattle.paseto_wrapping.specs.Text.{writing}
use Rattle.paseto_pem.specs.Text.{HoldsPem, IsBegin}
use Rattle.paseto_key_files.specs.Line.{without_line_end}

-- ---- no line feed

abbrev IsNoFeed : ℕ → Type 0
IsNoFeed c = c ≢ 10

abbrev is_no_feed : ℕ → Bool
is_no_feed c = not (c == 10)

abbrev HasNoFeed : List ℕ → Type 0
HasNoFeed text = All IsNoFeed text

of_table : (t : List ℕ) → list_all is_no_feed t ≡ true → HasNoFeed t
of_table t passes k d within = λ is.
    let test : is_no_feed (get_or t k d) ≡ true = AllPass-from_list_all is_no_feed t passes k d within in
    let broken = rw is at test in cc broken

at_any : (t : List ℕ) → HasNoFeed t → (k : ℕ) → IsNoFeed (slice_index t k)
at_any t h k = elim (cases_lt k (length t)) [
  | inl within ↦ h k 0 within
  | inr past ↦ λ is. let zero_is : 0 ≡ 10 = sym (get_or_past t k 0 past) ∙ is in cc zero_is
]

one_symbol : (t : List ℕ) (i : ℕ) (rest : List ℕ) → ((k : ℕ) → IsNoFeed (slice_index t k)) → HasNoFeed rest → HasNoFeed (slice_index t i ∷ rest)
one_symbol t i rest feedless h = All-cons IsNoFeed (slice_index t i) rest (feedless i) h

two_symbols : (t : List ℕ) (i j : ℕ) (rest : List ℕ) → ((k : ℕ) → IsNoFeed (slice_index t k)) → HasNoFeed rest → HasNoFeed (slice_index t i ∷ slice_index t j ∷ rest)
two_symbols t i j rest feedless h = one_symbol t i (slice_index t j ∷ rest) feedless (one_symbol t j rest feedless h)

feedless-encode_symbols : (t m : List ℕ) → ((k : ℕ) → IsNoFeed (slice_index t k)) → HasNoFeed (encode_symbols t m)
unfolding encode_symbols
feedless-encode_symbols t [] h = All-nil IsNoFeed
feedless-encode_symbols t (a ∷ []) h = two_symbols t (a / 4) (a % 4 * 16) [] h (All-nil IsNoFeed)
feedless-encode_symbols t (a ∷ b ∷ []) h =
    one_symbol t (a / 4) (slice_index t (a % 4 * 16 + b / 16) ∷ slice_index t (b % 16 * 4) ∷ []) h
    (two_symbols t (a % 4 * 16 + b / 16) (b % 16 * 4) [] h (All-nil IsNoFeed))
feedless-encode_symbols t (a ∷ b ∷ c ∷ rest) h =
    two_symbols t (a / 4) (a % 4 * 16 + b / 16) (slice_index t (b % 16 * 4 + c / 64) ∷ slice_index t (c % 64) ∷ encode_symbols t rest) h
    (two_symbols t (b % 16 * 4 + c / 64) (c % 64) (encode_symbols t rest) h (feedless-encode_symbols t rest h))

feedless-base64url : (bytes : List ℕ) → HasNoFeed (base64url bytes)
feedless-base64url bytes = rw base64url-symbols (feedless-encode_symbols symbols bytes (at_any symbols (of_table symbols refl)))

feedless-mark : (version : PaserkVersion) → HasNoFeed (mark version)
feedless-mark V1 = of_table (mark V1) refl
feedless-mark V2 = of_table (mark V2) refl
feedless-mark V3 = of_table (mark V3) refl
feedless-mark V4 = of_table (mark V4) refl

feedless-word : (kind : WrappedType) → HasNoFeed (word kind)
feedless-word LocalWrap = of_table (word LocalWrap) refl
feedless-word SecretWrap = of_table (word SecretWrap) refl
feedless-word LocalPassword = of_table (word LocalPassword) refl
feedless-word SecretPassword = of_table (word SecretPassword) refl
feedless-word Seal = of_table (word Seal) refl

feedless-writing : (version : PaserkVersion) (kind : WrappedType) (payload : List ℕ) → HasNoFeed (writing version kind payload)
feedless-writing version kind payload =
    All-append IsNoFeed (mark version ++ word kind) (base64url payload)
    (All-append IsNoFeed (mark version) (word kind) (feedless-mark version) (feedless-word kind)) (feedless-base64url payload)

-- ---- no line end

and_false : (b : Bool) → (b && false) ≡ false
and_false true = refl
and_false false = refl

no_end : (text : List ℕ) → HasNoFeed text → ends_with_byte 10 text ≡ false
no_end text h =
    let other : (slice_index text (length text - 1) == 10) ≡ false = ne_eqb _ 10 (at_any text h (length text - 1)) in
    rw other (and_false _)

pub writing_is_line : (version : PaserkVersion) (kind : WrappedType) (payload : List ℕ)
    → without_line_end (writing version kind payload) ≡ writing version kind payload
writing_is_line version kind payload = rw (no_end (writing version kind payload) (feedless-writing version kind payload)) refl

-- ---- no PEM

first_byte : (version : PaserkVersion) (kind : WrappedType) (payload : List ℕ) → get_or (writing version kind payload) 0 0 ≡ 107
first_byte V1 kind payload = refl
first_byte V2 kind payload = refl
first_byte V3 kind payload = refl
first_byte V4 kind payload = refl

-- a text without a line feed is its one line
not_empty : (text : List ℕ) → get_or text 0 0 ≡ 107 → (length text == 0) ≡ false
not_empty [] first = absurd (cc first)
not_empty (c ∷ rest) first = ne_eqb (length (c ∷ rest)) 0 (λ is. cc is)

feed_tests : (text : List ℕ) → HasNoFeed text → All (λ (c : ℕ). (c == 10) ≡ false) text
feed_tests text h k d within = ne_eqb _ 10 (h k d within)

one_line : (text : List ℕ) → HasNoFeed text → get_or text 0 0 ≡ 107 → lines text ≡ text ∷ []
one_line text h first =
    ap lines_of_parts (slice_split_none (λ (c : ℕ). c == 10) text (feed_tests text h)) ∙ rw (not_empty text first) refl

only_one : (text line : List ℕ) (k : ℕ) → k < 1 → slice_index_or (text ∷ []) k line ≡ line → text ≡ line
only_one text line zero below is = is
only_one text line (suc k) below is = absurd (omega (arith, below))

no_block : (text : List ℕ) → get_or text 0 0 ≡ 107 → Any IsBegin (text ∷ []) → ⊥
no_block text first h =
    let line : text ≡ h.1 = only_one text h.1 h.0 h.2 h.3 in
    let other : 107 ≡ 45 = sym first ∙ ap (λ (l : List ℕ). get_or l 0 0) (line ∙ h.4.1) in
    cc other

pub writing_no_pem : (version : PaserkVersion) (kind : WrappedType) (payload : List ℕ) → HoldsPem (writing version kind payload) → ⊥
writing_no_pem version kind payload h =
    let text : List ℕ = writing version kind payload in
    let first : get_or text 0 0 ≡ 107 = first_byte version kind payload in
    no_block text first (subst (λ (l : List (List ℕ)). Any IsBegin l) (one_line text (feedless-writing version kind payload) first) h)
