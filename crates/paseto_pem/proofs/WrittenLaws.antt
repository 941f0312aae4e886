-- What is written is read.
use Rattle.std.proofs.Common.{◌≡◌, ◌≢◌, ℕ, zero, suc, ◌+◌, ◌-◌, ◌*◌, ◌/◌, ◌%◌, ◌<◌, ◌≤◌, ◌==◌, ◌&&◌, Bool, true, false, not, List, [], ◌∷◌, ◌++◌, append_assoc, length, get_or, replicate, slice_index, refl, sym, ap, ◌∙◌, inl, inr, arith}
use Rattle.std.specs.List.{All, concat, list_all, slice_split}
use Rattle.std.specs.Str.Lines.{lines as lines_of, lines_of_parts, strip_carriage_return}
use Rattle.std.proofs.lemmas.Bool.{cases_lt, ne_eqb}
use Rattle.std.proofs.lemmas.List.{append-nil, get_or_past}
use Rattle.std.proofs.lemmas.List.Elements.{All-append, All-cons, All-nil}
use Rattle.std.proofs.lemmas.List.Splits.{length-slice_split, slice_split_at}
use Rattle.std.proofs.lemmas.List.Sums.{AllPass-from_list_all}
use Rattle.base64.specs.Engines.{standard}
use Rattle.base64.specs.Rfc4648.{encode_symbols, padding_len}
use Rattle.paseto_pem.specs.declared.label.Label.{Label}
use Rattle.paseto_pem.specs.declared.label.Label.TheVariants.{PrivateKey, EncryptedPrivateKey, PublicKey, EcPrivateKey, RsaPrivateKey, RsaPublicKey, OpenSshPrivateKey}
use Rattle.paseto_pem.specs.Label.{begin_boundary, end_boundary}
use Rattle.paseto_pem.specs.Text.{IsBase64Line, IsPassed, IsPem, base64, lines, lines_from, pem}
use Rattle.paseto_pem.proofs.LabelLaws.{label-begins}

-- ---- no line ends

abbrev IsNoEnd : ℕ → Type 0
IsNoEnd c = (c ≢ 10) × (c ≢ 13)

abbrev is_no_end : ℕ → Bool
is_no_end c = not (c == 10) && not (c == 13)

abbrev HasNoEnd : List ℕ → Type 0
HasNoEnd text = All IsNoEnd text

of_table : (t : List ℕ) → list_all is_no_end t ≡ true → HasNoEnd t
of_table t passes k d within =
    let test : is_no_end (get_or t k d) ≡ true = AllPass-from_list_all is_no_end t passes k d within in
    (λ is. let broken = rw is at test in cc broken, λ is. let broken = rw is at test in cc broken)

at_any : (t : List ℕ) → HasNoEnd t → (k : ℕ) → IsNoEnd (slice_index t k)
at_any t h k = elim (cases_lt k (length t)) [
  | inl within ↦ h k 0 within
  | inr past ↦ (
    λ is. let zero_is : 0 ≡ 10 = sym (get_or_past t k 0 past) ∙ is in cc zero_is,
    λ is. let zero_is : 0 ≡ 13 = sym (get_or_past t k 0 past) ∙ is in cc zero_is,
  )
]

one_symbol : (t : List ℕ) (i : ℕ) (rest : List ℕ) → ((k : ℕ) → IsNoEnd (slice_index t k)) → HasNoEnd rest → HasNoEnd (slice_index t i ∷ rest)
one_symbol t i rest endless h = All-cons IsNoEnd (slice_index t i) rest (endless i) h

two_symbols : (t : List ℕ) (i j : ℕ) (rest : List ℕ) → ((k : ℕ) → IsNoEnd (slice_index t k)) → HasNoEnd rest → HasNoEnd (slice_index t i ∷ slice_index t j ∷ rest)
two_symbols t i j rest endless h = one_symbol t i (slice_index t j ∷ rest) endless (one_symbol t j rest endless h)

endless-symbols : (t m : List ℕ) → ((k : ℕ) → IsNoEnd (slice_index t k)) → HasNoEnd (encode_symbols t m)
unfolding encode_symbols
endless-symbols t [] h = All-nil IsNoEnd
endless-symbols t (a ∷ []) h = two_symbols t (a / 4) (a % 4 * 16) [] h (All-nil IsNoEnd)
endless-symbols t (a ∷ b ∷ []) h =
    one_symbol t (a / 4) (slice_index t (a % 4 * 16 + b / 16) ∷ slice_index t (b % 16 * 4) ∷ []) h
    (two_symbols t (a % 4 * 16 + b / 16) (b % 16 * 4) [] h (All-nil IsNoEnd))
endless-symbols t (a ∷ b ∷ c ∷ rest) h =
    two_symbols t (a / 4) (a % 4 * 16 + b / 16) (slice_index t (b % 16 * 4 + c / 64) ∷ slice_index t (c % 64) ∷ encode_symbols t rest) h
    (two_symbols t (b % 16 * 4 + c / 64) (c % 64) (encode_symbols t rest) h (endless-symbols t rest h))

endless-padding : (n : ℕ) → HasNoEnd (replicate n 61)
endless-padding zero = All-nil IsNoEnd
endless-padding (suc n) = All-cons IsNoEnd 61 (replicate n 61) (λ is. cc is, λ is. cc is) (endless-padding n)

endless-base64 : (octets : List ℕ) → HasNoEnd (base64 octets)
unfolding base64
endless-base64 octets =
    All-append IsNoEnd (encode_symbols standard.encode_table octets) (replicate (padding_len (length octets)) 61)
    (endless-symbols standard.encode_table octets (at_any standard.encode_table (of_table standard.encode_table refl)))
    (endless-padding (padding_len (length octets)))

endless-begin : (label : Label) → HasNoEnd (begin_boundary label)
endless-begin PrivateKey = of_table (begin_boundary PrivateKey) refl
endless-begin EncryptedPrivateKey = of_table (begin_boundary EncryptedPrivateKey) refl
endless-begin PublicKey = of_table (begin_boundary PublicKey) refl
endless-begin EcPrivateKey = of_table (begin_boundary EcPrivateKey) refl
endless-begin RsaPrivateKey = of_table (begin_boundary RsaPrivateKey) refl
endless-begin RsaPublicKey = of_table (begin_boundary RsaPublicKey) refl
endless-begin OpenSshPrivateKey = of_table (begin_boundary OpenSshPrivateKey) refl

endless-end : (label : Label) → HasNoEnd (end_boundary label)
endless-end PrivateKey = of_table (end_boundary PrivateKey) refl
endless-end EncryptedPrivateKey = of_table (end_boundary EncryptedPrivateKey) refl
endless-end PublicKey = of_table (end_boundary PublicKey) refl
endless-end EcPrivateKey = of_table (end_boundary EcPrivateKey) refl
endless-end RsaPrivateKey = of_table (end_boundary RsaPrivateKey) refl
endless-end RsaPublicKey = of_table (end_boundary RsaPublicKey) refl
endless-end OpenSshPrivateKey = of_table (end_boundary OpenSshPrivateKey) refl

-- ---- lines

parts-first : (x : List ℕ) (parts : List (List ℕ)) → 0 < length parts → lines_of_parts (x ∷ parts) ≡ strip_carriage_return x ∷ lines_of_parts parts
parts-first x [] some = absurd (omega arith)
parts-first x (y ∷ more) some = refl

no-return : (line : List ℕ) → HasNoEnd line → strip_carriage_return line ≡ line
no-return line h =
    let other : (slice_index line (length line - 1) == 13) ≡ false = ne_eqb _ 13 (at_any line h (length line - 1)).1 in
    rw other refl

-- a line that ends in LF
line-first : (line rest : List ℕ) → HasNoEnd line → lines_of (line ++ (10 ∷ rest)) ≡ line ∷ lines_of rest
line-first line rest h =
    let p = λ (b : ℕ). b == 10 in
    let front : All (λ b. (b == 10) ≡ false) line = λ k d within. ne_eqb _ 10 (h k d within).0 in
    ap lines_of_parts (slice_split_at p line 10 rest front refl)
    ∙ parts-first line (slice_split p rest) (omega (arith, length-slice_split p rest))
    ∙ ap (λ (l : List ℕ). l ∷ lines_of rest) (no-return line h)

-- a text in lines, behind the beginning of a line that has room for so many characters
record Wraps (room : ℕ) (text : List ℕ) : Type 0 where
  first : List ℕ
  body : List (List ℕ)
  short : length first ≤ room
  wide : All IsBase64Line body
  whole : first ++ concat body ≡ text
  read : (front tail : List ℕ) → HasNoEnd front
      → lines_of (front ++ (lines_from room text ++ tail)) ≡ (front ++ first) ∷ (body ++ lines_of tail)

all-tail : (x : ℕ) (xs : List ℕ) → HasNoEnd (x ∷ xs) → HasNoEnd xs
all-tail x xs h = λ k d low. h (suc k) d (omega arith)

one-end : (x : ℕ) (xs : List ℕ) → HasNoEnd (x ∷ xs) → HasNoEnd (x ∷ [])
one-end x xs h = All-cons IsNoEnd x [] (h 0 x (omega arith)) (All-nil IsNoEnd)

wraps : (room : ℕ) (text : List ℕ) → HasNoEnd text → Wraps room text
unfolding lines_from
wraps room [] h = record {
  first = [];
  body = [];
  short = omega arith;
  wide = All-nil IsBase64Line;
  whole = refl;
  read = λ front tail plain. line-first front tail plain ∙ ap (λ (l : List ℕ). l ∷ lines_of tail) (sym (append-nil front));
}
wraps zero (c ∷ text) h =
    let more : Wraps 63 text = wraps 63 text (all-tail c text h) in
    let line : List ℕ = c ∷ more.first in
    let size : IsBase64Line line = record { some = omega arith; most = omega (arith, more.short) } in
    record {
      first = [];
      body = line ∷ more.body;
      short = omega arith;
      wide = All-cons IsBase64Line line more.body size more.wide;
      whole = ap (λ (l : List ℕ). c ∷ l) more.whole;
      read = λ front tail plain.
          line-first front (c ∷ (lines_from 63 text ++ tail)) plain
          ∙ ap (λ (l : List (List ℕ)). front ∷ l) (more.read (c ∷ []) tail (one-end c text h))
          ∙ ap (λ (l : List ℕ). l ∷ (line ∷ (more.body ++ lines_of tail))) (sym (append-nil front));
    }
wraps (suc room) (c ∷ text) h =
    let more : Wraps room text = wraps room text (all-tail c text h) in
    record {
      first = c ∷ more.first;
      body = more.body;
      short = omega (arith, more.short);
      wide = more.wide;
      whole = ap (λ (l : List ℕ). c ∷ l) more.whole;
      read = λ front tail plain.
          let longer : List ℕ = front ++ (c ∷ []) in
          ap lines_of (sym (append_assoc front (c ∷ []) (lines_from room text ++ tail)))
          ∙ more.read longer tail (All-append IsNoEnd front (c ∷ []) plain (one-end c text h))
          ∙ ap (λ (l : List ℕ). l ∷ (more.body ++ lines_of tail)) (append_assoc front (c ∷ []) more.first);
    }

-- a text in lines
record InLines (text : List ℕ) : Type 0 where
  body : List (List ℕ)
  wide : All IsBase64Line body
  whole : concat body ≡ text
  read : (tail : List ℕ) → lines_of (lines text ++ tail) ≡ body ++ lines_of tail

in-lines : (text : List ℕ) → HasNoEnd text → InLines text
unfolding lines
in-lines [] h = record { body = []; wide = All-nil IsBase64Line; whole = refl; read = λ tail. refl }
in-lines (c ∷ text) h =
    let more : Wraps 63 text = wraps 63 text (all-tail c text h) in
    let line : List ℕ = c ∷ more.first in
    let size : IsBase64Line line = record { some = omega arith; most = omega (arith, more.short) } in
    record {
      body = line ∷ more.body;
      wide = All-cons IsBase64Line line more.body size more.wide;
      whole = ap (λ (l : List ℕ). c ∷ l) more.whole;
      read = λ tail. more.read (c ∷ []) tail (one-end c text h);
    }

-- the text that is written of contents is read as theirs
pub written-is-pem : (label : Label) (contents : List ℕ) → IsPem label contents (pem label contents)
written-is-pem label contents =
    let text : InLines (base64 contents) = in-lines (base64 contents) (endless-base64 contents) in
    let tail : List ℕ = end_boundary label ++ (10 ∷ []) in
    let last : lines_of tail ≡ end_boundary label ∷ [] = line-first (end_boundary label) [] (endless-end label) in
    let behind : List (List ℕ) = text.body ++ (end_boundary label ∷ []) in
    let split : lines_of (pem label contents) ≡ begin_boundary label ∷ behind =
    ap lines_of (append_assoc (begin_boundary label) (10 ∷ []) (lines (base64 contents) ++ tail))
    ∙ line-first (begin_boundary label) (lines (base64 contents) ++ tail) (endless-begin label)
    ∙ ap (λ (l : List (List ℕ)). begin_boundary label ∷ l)
    (text.read tail ∙ ap (λ (l : List (List ℕ)). text.body ++ l) last) in
    record {
      behind = behind;
      first = record { before = []; passed = All-nil IsPassed; split = split; begins = label-begins label };
      block = record { body = text.body; wide = text.wide; split = refl; told = text.whole };
    }
