-- Pieces can be told from their encoding.
use Rattle.std.proofs.Common.{◌≡◌, ℕ, ◌+◌, ◌/◌, ◌%◌, ◌^◌, ◌<◌, ◌≤◌, List, [], ◌∷◌, ◌++◌, map, length, take, drop, get_or, refl, sym, ap, ◌∙◌, arith, Bor}
use Rattle.std.specs.Int.{w64, from_le_bytes, to_le_bytes}
use Rattle.std.specs.List.{All, flat_map}
use Rattle.std.proofs.lemmas.Nat.{from_le_bytes-to_le_bytes_8}
use Rattle.std.proofs.lemmas.List.{append_assoc, append-nil, map-append, take_all, take_more, take-append-drop, length-append, length-map}
use Rattle.std.proofs.lemmas.List.Elements.{All-head, All-tail}
use Rattle.std.proofs.lemmas.Grind.{flat_map-append}
use Rattle.rusty_paseto_parts.specs.PreAuthenticationEncoding.{le64, encoded_piece, pae}

-- a length in a program
abbrev pub FitsLength : List ℕ → Type 0
FitsLength piece = length piece < 2 ^ 64

pub length-le64 : (n : ℕ) → length (le64 n) ≡ 8
unfolding le64
length-le64 n = refl

-- the eight low bytes of any number
pub le64-bytes : (n : ℕ) → le64 n ≡ to_le_bytes w64 n
unfolding le64
le64-bytes n =
    let b0 : n % 2 ^ 64 % 256 ≡ n % 256 = omega arith in
    let b1 : n % 2 ^ 64 / 256 % 256 ≡ n / 256 % 256 = omega arith in
    let b2 : n % 2 ^ 64 / 65536 % 256 ≡ n / 65536 % 256 = omega arith in
    let b3 : n % 2 ^ 64 / 16777216 % 256 ≡ n / 16777216 % 256 = omega arith in
    let b4 : n % 2 ^ 64 / 4294967296 % 256 ≡ n / 4294967296 % 256 = omega arith in
    let b5 : n % 2 ^ 64 / 1099511627776 % 256 ≡ n / 1099511627776 % 256 = omega arith in
    let b6 : n % 2 ^ 64 / 281474976710656 % 256 ≡ n / 281474976710656 % 256 = omega arith in
    let b7 : n % 2 ^ 64 / 72057594037927936 % 256 ≡ n / 72057594037927936 % 256 = omega arith in
    rw (b0, b1, b2, b3, b4, b5, b6, b7) refl

pub le64-injective : (m n : ℕ) → m < 2 ^ 64 → n < 2 ^ 64 → le64 m ≡ le64 n → m ≡ n
le64-injective m n fits_m fits_n e =
    sym (from_le_bytes-to_le_bytes_8 m fits_m)
    ∙ ap (from_le_bytes w64) (sym (le64-bytes m) ∙ e ∙ le64-bytes n)
    ∙ from_le_bytes-to_le_bytes_8 n fits_n

-- lists that begin with parts of one length
pub append_parts : (a b x y : List ℕ) → length a ≡ length b → a ++ x ≡ b ++ y → (a ≡ b) × (x ≡ y)
append_parts [] [] x y len e = (refl, e)
append_parts [] (b ∷ bs) x y len e = absurd (omega arith)
append_parts (a ∷ others) [] x y len e = absurd (omega arith)
append_parts (a ∷ others) (b ∷ bs) x y len e =
    let tails : others ++ x ≡ bs ++ y = cc in
    let heads : a ≡ b = cc in
    let parts = append_parts others bs x y (omega arith) tails in
    let front : others ≡ bs = parts.0 in
    (cc (heads, front), parts.1)

-- a piece and what follows it
piece_parts : (a b x y : List ℕ) → FitsLength a → FitsLength b → encoded_piece a ++ x ≡ encoded_piece b ++ y → (a ≡ b) × (x ≡ y)
unfolding encoded_piece
piece_parts a b x y fits_a fits_b e =
    let whole : le64 (length a) ++ (a ++ x) ≡ le64 (length b) ++ (b ++ y) = simp append_assoc at e in
    let counts = append_parts (le64 (length a)) (le64 (length b)) (a ++ x) (b ++ y) (length-le64 (length a) ∙ sym (length-le64 (length b))) whole in
    append_parts a b x y (le64-injective (length a) (length b) fits_a fits_b counts.0) counts.1

pieces-injective : (xs ys : List (List ℕ)) → length xs ≡ length ys → All FitsLength xs → All FitsLength ys
    → flat_map encoded_piece xs ≡ flat_map encoded_piece ys → xs ≡ ys
pieces-injective [] [] len fits_x fits_y e = refl
pieces-injective [] (y ∷ ys) len fits_x fits_y e = absurd (omega arith)
pieces-injective (x ∷ xs) [] len fits_x fits_y e = absurd (omega arith)
pieces-injective (x ∷ xs) (y ∷ ys) len fits_x fits_y e =
    let parts = piece_parts x y (flat_map encoded_piece xs) (flat_map encoded_piece ys) (All-head FitsLength x xs fits_x) (All-head FitsLength y ys fits_y) e in
    let rest = pieces-injective xs ys (omega arith) (All-tail FitsLength x xs fits_x) (All-tail FitsLength y ys fits_y) parts.1 in
    let first : x ≡ y = parts.0 in
    cc (first, rest)

-- Lists of pieces with the same encoding are equal.
pub pae-injective : (xs ys : List (List ℕ)) → length xs < 2 ^ 64 → length ys < 2 ^ 64 → All FitsLength xs → All FitsLength ys
    → pae xs ≡ pae ys → xs ≡ ys
unfolding pae
pae-injective xs ys count_x count_y fits_x fits_y e =
    let parts = append_parts (le64 (length xs)) (le64 (length ys)) (flat_map encoded_piece xs) (flat_map encoded_piece ys) (length-le64 (length xs) ∙ sym (length-le64 (length ys))) e in
    pieces-injective xs ys (le64-injective (length xs) (length ys) count_x count_y parts.0) fits_x fits_y parts.1

-- ---- the pieces of a slice, one after another

-- the lists of a slice's pieces
abbrev pub lists : List (Bor (List ℕ)) → List (List ℕ)
lists pieces = map (λ piece. piece.now) pieces

-- the encoding after the first n pieces
unfoldable pub pae_so_far : List (Bor (List ℕ)) → ℕ → List ℕ
pae_so_far pieces n = le64 (length pieces) ++ flat_map encoded_piece (lists (take n pieces))

pub pae_so_far-start : (pieces : List (Bor (List ℕ))) → pae_so_far pieces 0 ≡ le64 (length pieces)
unfolding pae_so_far
pae_so_far-start pieces = append-nil (le64 (length pieces))

pub pae_so_far-more : (pieces : List (Bor (List ℕ))) (n : ℕ) (d : Bor (List ℕ)) → n < length pieces
    → pae_so_far pieces (n + 1) ≡ (pae_so_far pieces n ++ le64 (length (get_or pieces n d).now)) ++ (get_or pieces n d).now
unfolding pae_so_far encoded_piece
pae_so_far-more pieces n d lt = rw (take_more pieces n d lt, map-append, flat_map-append) (simp (append_assoc, append-nil))

pub pae_so_far-end : (pieces : List (Bor (List ℕ))) → pae_so_far pieces (length pieces) ≡ pae (lists pieces)
unfolding pae_so_far pae
pae_so_far-end pieces = rw (take_all (length pieces) pieces (omega arith), length-map) refl

-- what `encoded_len` counts and `parse` writes for one more piece
pub pae_so_far-counted : (pieces : List (Bor (List ℕ))) (n len mid next : ℕ) (d : Bor (List ℕ)) → n < length pieces
    → len ≡ length (pae_so_far pieces n) → mid ≡ len + 8 → next ≡ mid + length (get_or pieces n d).now
    → next ≡ length (pae_so_far pieces (n + 1))
pae_so_far-counted pieces n len mid next d lt before prefix piece =
    let p : List ℕ = (get_or pieces n d).now in
    let b : List ℕ = pae_so_far pieces n in
    let more : length (pae_so_far pieces (n + 1)) ≡ length ((b ++ le64 (length p)) ++ p) = ap length (pae_so_far-more pieces n d lt) in
    omega (arith, length-append (b ++ le64 (length p)) p, length-append b (le64 (length p)), length-le64 (length p))

pub pae_so_far-written : (pieces : List (Bor (List ℕ))) (n : ℕ) (items mid next number : List ℕ) (d : Bor (List ℕ)) → n < length pieces
    → items ≡ pae_so_far pieces n → number ≡ to_le_bytes w64 (length (get_or pieces n d).now) → mid ≡ items ++ number
    → next ≡ mid ++ (get_or pieces n d).now → next ≡ pae_so_far pieces (n + 1)
pae_so_far-written pieces n items mid next number d lt before bytes prefix piece =
    let numbers : number ≡ le64 (length (get_or pieces n d).now) = bytes ∙ sym (le64-bytes (length (get_or pieces n d).now)) in
    rw (piece, prefix, before, numbers) (sym (pae_so_far-more pieces n d lt))

-- ---- the encoding as it is absorbed

module _ (pieces : List (Bor (List ℕ))) where
  -- the number of the pieces
  pub taken-number : (number : List ℕ) → number ≡ to_le_bytes w64 (length pieces) → number ≡ pae_so_far pieces 0
  taken-number number bytes = bytes ∙ sym (pae_so_far-start pieces ∙ le64-bytes (length pieces))

  -- a piece's length, and the piece
  pub taken-piece : (n : ℕ) (number : List ℕ) (d : Bor (List ℕ)) → n < length pieces
      → number ≡ to_le_bytes w64 (length (get_or pieces n d).now)
      → (pae_so_far pieces n ++ number) ++ (get_or pieces n d).now ≡ pae_so_far pieces (n + 1)
  taken-piece n number d within bytes = pae_so_far-written pieces n _ _ _ number d within refl bytes refl refl

  -- all pieces
  pub taken-all : (n : ℕ) → n ≡ length pieces → pae_so_far pieces n ≡ pae (lists pieces)
  taken-all n all = ap (λ k. pae_so_far pieces k) all ∙ pae_so_far-end pieces

  -- no more is counted so far than in the end
  pub length-so_far-le : (n : ℕ) → length (pae_so_far pieces n) ≤ length (pae (lists pieces))
  unfolding pae_so_far pae
  length-so_far-le n =
      let whole : lists (take n pieces) ++ lists (drop n pieces) ≡ lists pieces =
      sym (map-append (λ piece. piece.now) (take n pieces) (drop n pieces)) ∙ ap lists (take-append-drop n pieces) in
      let parts : flat_map encoded_piece (lists pieces) ≡ flat_map encoded_piece (lists (take n pieces)) ++ flat_map encoded_piece (lists (drop n pieces)) =
      ap (flat_map encoded_piece) (sym whole) ∙ flat_map-append encoded_piece (lists (take n pieces)) (lists (drop n pieces)) in
      let longer = ap length parts ∙ length-append (flat_map encoded_piece (lists (take n pieces))) (flat_map encoded_piece (lists (drop n pieces))) in
      omega (
        arith,
        longer,
        length-append (le64 (length pieces)) (flat_map encoded_piece (lists (take n pieces))),
        length-append (le64 (length (lists pieces))) (flat_map encoded_piece (lists pieces)),
        length-le64 (length pieces),
        length-le64 (length (lists pieces)),
      )

  -- where one more piece cannot be counted, all of them cannot
  pub pae-too_long : (n len : ℕ) (d : Bor (List ℕ)) → n < length pieces → len ≡ length (pae_so_far pieces n)
      → 2 ^ 64 ≤ len + 8 + length (get_or pieces n d).now → 2 ^ 64 ≤ length (pae (lists pieces))
  pae-too_long n len d within counted long =
      let one_more = pae_so_far-counted pieces n len (len + 8) (len + 8 + length (get_or pieces n d).now) d within counted refl refl in
      omega (arith, one_more, length-so_far-le (n + 1))
