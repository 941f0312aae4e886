-- A token is of one kind, since the first two of its sections are its version and its purpose; and messages of two versions
-- differ, since they have different numbers of pieces or, in versions 1 and 2, different headers.
use Rattle.std.proofs.Common.{◌≡◌, ◌≢◌, ℕ, ◌<◌, ◌^◌, Bool, List, ◌∷◌, ◌++◌, length, get_or, refl, sym, ap, ◌∙◌, arith, length-append, lit<}
use Rattle.std.specs.List.{flat_map}
use Rattle.rusty_paseto_parts.specs.Header.{header_text}
use Rattle.rusty_paseto_parts.specs.PreAuthenticationEncoding.{encoded_piece, le64, pae}
use Rattle.rusty_paseto_parts.specs.Section.{base64url, sections}
use Rattle.rusty_paseto_parts.proofs.PaeLemmas.{append_parts, le64-injective, length-le64}
use Rattle.rusty_paseto_core.specs.Framing.{IsHeader, footer_part, framing}
use Rattle.rusty_paseto_core.specs.Local.{local}
use Rattle.rusty_paseto_core.specs.Public.{header, message, public, v1_public, v2_public, v3_public, v4_public}
use Rattle.rusty_paseto_core.specs.Reading.{IsRead, Reading, header_of}
use Rattle.rusty_paseto_core.proofs.Framed.{sections-header}
use Rattle.rusty_paseto_core.specs.Kinds.{IsOfKind, MessagesApart, NeverBoth, OneKind, ReadOneKind, SameKind}

-- ---- tokens

-- a framing begins with its version and its purpose, whatever its payload and its footer
sections-begin : (version purpose header payload : List ℕ) (written : Bool) (footer : List ℕ) → IsHeader version purpose header
    → sections (framing header payload written footer)
    ≡ version ∷ purpose ∷ sections (base64url payload ++ footer_part written footer)
unfolding framing
sections-begin version purpose header payload written footer h =
    sections-header version purpose header (base64url payload) (footer_part written footer) h

same-heads : (a b c d : List ℕ) (xs ys : List (List ℕ)) → a ∷ b ∷ xs ≡ c ∷ d ∷ ys → SameKind a b c d
same-heads a b c d xs ys e = record { versions = cc; purposes = cc }

pub one_kind : OneKind
one_kind version purpose other_version other_purpose token one other =
    let first = sections-begin version purpose (header_text version purpose) one.payload one.written one.footer one.is_header in
    let second =
    sections-begin other_version other_purpose (header_text other_version other_purpose) other.payload other.written other.footer other.is_header in
    same-heads version purpose other_version other_purpose _ _
    (sym first ∙ ap sections (sym one.is_framing ∙ other.is_framing) ∙ second)

-- what is read is of the reading's kind
read-kind : (reading : Reading) (token text : List ℕ) → IsHeader reading.version reading.purpose (header_of reading)
    → IsRead reading token text → IsOfKind reading.version reading.purpose token
read-kind reading token text is_header read = record {
  is_header = is_header;
  payload = read.payload;
  written = read.written;
  footer = reading.footer;
  is_framing = read.is_framing;
}

pub read_one_kind : (first second : Reading) → IsHeader first.version first.purpose (header_of first)
    → IsHeader second.version second.purpose (header_of second) → ReadOneKind first second
read_one_kind first second own other token a b one two =
    one_kind first.version first.purpose second.version second.purpose token (read-kind first token a own one) (read-kind second token b other two)

purposes-apart : local ≢ public
purposes-apart same = let e : ◌≡◌ {A = ℕ} 5 6 = ap length same in absurd (omega (arith, e))

pub never_both : (first second : Reading) → IsHeader first.version first.purpose (header_of first)
    → IsHeader second.version second.purpose (header_of second) → first.purpose ≡ local → second.purpose ≡ public → NeverBoth first second
never_both first second own other is_local is_public token a b one two =
    purposes-apart (sym is_local ∙ (read_one_kind first second own other token a b one two).purposes ∙ is_public)

-- ---- what is signed

-- encodings of different numbers of pieces are different
counts-alike : (xs ys : List (List ℕ)) → length xs < 2 ^ 64 → length ys < 2 ^ 64 → pae xs ≡ pae ys → length xs ≡ length ys
unfolding pae
counts-alike xs ys low high e =
    le64-injective (length xs) (length ys) low high
    (append_parts (le64 (length xs)) (le64 (length ys)) (flat_map encoded_piece xs) (flat_map encoded_piece ys)
    (length-le64 (length xs) ∙ sym (length-le64 (length ys))) e).0

-- encodings that are equal have one first piece, where the first pieces are of one length
heads-alike : (a b : List ℕ) (xs ys : List (List ℕ)) → length a ≡ length b → pae (a ∷ xs) ≡ pae (b ∷ ys) → a ≡ b
unfolding pae encoded_piece
heads-alike a b xs ys size e =
    let count_a = le64 (length (a ∷ xs)) in
    let count_b = le64 (length (b ∷ ys)) in
    let bodies = (append_parts count_a count_b (flat_map encoded_piece (a ∷ xs)) (flat_map encoded_piece (b ∷ ys))
    (length-le64 (length (a ∷ xs)) ∙ sym (length-le64 (length (b ∷ ys)))) e).1 in
    let sizes : length (le64 (length a) ++ a) ≡ length (le64 (length b) ++ b) =
    omega (arith, size, length-append (le64 (length a)) a, length-append (le64 (length b)) b, length-le64 (length a), length-le64 (length b)) in
    let pieces = (append_parts (le64 (length a) ++ a) (le64 (length b) ++ b) (flat_map encoded_piece xs) (flat_map encoded_piece ys) sizes bodies).0 in
    (append_parts (le64 (length a)) (le64 (length b)) a b (length-le64 (length a) ∙ sym (length-le64 (length b))) pieces).1

headers-apart : header v1_public ≢ header v2_public
unfolding header_text
headers-apart same =
    let e : ◌≡◌ {A = ℕ} 49 50 = ap (λ (l : List ℕ). get_or l 1 0) same in absurd (omega (arith, e))

headers-size : length (header v1_public) ≡ length (header v2_public)
unfolding header_text
headers-size = refl

pub v1_v2 : MessagesApart v1_public v2_public
unfolding message
v1_v2 a b x y e = headers-apart (heads-alike (header v1_public) (header v2_public) _ _ headers-size e)

pub v1_v3 : MessagesApart v1_public v3_public
unfolding message
v1_v3 a b x y e = let n : ◌≡◌ {A = ℕ} 3 5 = counts-alike _ _ (lit< tt) (lit< tt) e in absurd (omega (arith, n))

pub v1_v4 : MessagesApart v1_public v4_public
unfolding message
v1_v4 a b x y e = let n : ◌≡◌ {A = ℕ} 3 4 = counts-alike _ _ (lit< tt) (lit< tt) e in absurd (omega (arith, n))

pub v2_v3 : MessagesApart v2_public v3_public
unfolding message
v2_v3 a b x y e = let n : ◌≡◌ {A = ℕ} 3 5 = counts-alike _ _ (lit< tt) (lit< tt) e in absurd (omega (arith, n))

pub v2_v4 : MessagesApart v2_public v4_public
unfolding message
v2_v4 a b x y e = let n : ◌≡◌ {A = ℕ} 3 4 = counts-alike _ _ (lit< tt) (lit< tt) e in absurd (omega (arith, n))

pub v3_v4 : MessagesApart v3_public v4_public
unfolding message
v3_v4 a b x y e = let n : ◌≡◌ {A = ℕ} 5 4 = counts-alike _ _ (lit< tt) (lit< tt) e in absurd (omega (arith, n))
