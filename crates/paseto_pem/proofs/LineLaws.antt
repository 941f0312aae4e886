-- Texts in lines.
use Rattle.std.proofs.Common.{◌≡◌, ℕ, zero, suc, ◌+◌, ◌-◌, ◌*◌, ◌/◌, ◌%◌, ◌<◌, ◌≤◌, ◌⊎◌, min, inl, inr, List, [], ◌∷◌, ◌++◌, length, replicate, refl, sym, ap, ◌∙◌, append_assoc, length-append, arith}
use Rattle.std.proofs.lemmas.Bool.{cases_lt}
use Rattle.std.proofs.lemmas.List.{append-nil, length-replicate, nil_from_length}
use Rattle.base64.specs.Engines.{standard}
use Rattle.base64.specs.Rfc4648.{encode_symbols, padding_len}
use Rattle.base64.proofs.EngineFacts.{encode_of-append, encode_of-nil}
use Rattle.base64.proofs.RoundTrip.{length-encode_symbols}
use Rattle.paseto_pem.specs.Text.{base64, lines, lines_from}

-- a piece that has room in the first line
lines_from-piece : (piece rest : List ℕ) (room : ℕ) → length piece ≤ room
    → lines_from room (piece ++ rest) ≡ piece ++ lines_from (room - length piece) rest
unfolding lines_from
lines_from-piece [] rest room h = ap (λ r. lines_from r rest) (omega arith)
lines_from-piece (x ∷ piece) rest zero h = absurd (omega arith)
lines_from-piece (x ∷ piece) rest (suc room) h =
    ap (λ l. x ∷ l) (lines_from-piece piece rest room (omega arith))
    ∙ ap (λ r. (x ∷ piece) ++ lines_from r rest) (omega arith)

lines_from-full : (rest : List ℕ) → lines_from 0 rest ≡ (10 ∷ []) ++ lines rest
unfolding lines_from lines
lines_from-full [] = sym (append-nil (10 ∷ []))
lines_from-full (c ∷ rest) = refl

lines_from-last : (room : ℕ) → lines_from room [] ≡ (10 ∷ []) ++ lines []
unfolding lines_from lines
lines_from-last room = sym (append-nil (10 ∷ []))

pub lines-none : lines [] ≡ []
unfolding lines
lines-none = refl

-- a piece is a line, if it is a full one or the last
pub lines-piece : (piece rest : List ℕ) → 0 < length piece → length piece ≤ 64 → (length piece ≡ 64) ⊎ (rest ≡ [])
    → lines (piece ++ rest) ≡ piece ++ ((10 ∷ []) ++ lines rest)
unfolding lines
lines-piece [] rest some most line = absurd (omega arith)
lines-piece (x ∷ piece) rest some most line =
    let behind : lines_from (63 - length piece) rest ≡ (10 ∷ []) ++ lines rest = elim line [
      | inl full ↦
          let none : 63 - length piece ≡ 0 = omega (arith, full) in
          ap (λ r. lines_from r rest) none ∙ lines_from-full rest
      | inr last ↦ rw last (lines_from-last (63 - length piece))
    ] in
    ap (λ l. x ∷ l) (lines_from-piece piece rest 63 (omega arith) ∙ ap (λ l. piece ++ l) behind)

-- some text has some lines
pub lines-some : (text : List ℕ) → 0 < length (lines text) → 0 < length text
unfolding lines
lines-some [] some = some
lines-some (c ∷ text) some = omega arith

pub length-base64 : (octets : List ℕ) → length (base64 octets) ≡ (length octets + 2) / 3 * 4
unfolding base64
length-base64 octets =
    let symbols = encode_symbols standard.encode_table octets in
    length-append symbols (replicate (padding_len (length octets)) 61)
    ∙ omega (arith, length-encode_symbols standard.encode_table octets, length-replicate {A = ℕ} (padding_len (length octets)) 61)

pub base64-nil : base64 [] ≡ []
unfolding base64
base64-nil = encode_of-nil standard

-- octets of which a piece is as many as a line tells, or all
base64-piece : (all piece rest : List ℕ) → all ≡ piece ++ rest → length piece ≡ min 48 (length all)
    → base64 all ≡ base64 piece ++ base64 rest
unfolding base64
base64-piece all piece rest parts size =
    let sum = ap length parts ∙ length-append piece rest in
    elim (cases_lt (length all) 48) [
      | inl short ↦
          let none : rest ≡ [] = nil_from_length rest (omega arith) in
          ap base64 (parts ∙ ap (λ (t : List ℕ). piece ++ t) none ∙ append-nil piece)
          ∙ sym (append-nil (base64 piece))
          ∙ ap (λ (t : List ℕ). base64 piece ++ t) (sym (ap base64 none ∙ encode_of-nil standard))
      | inr long ↦
          let third : length piece % 3 ≡ 0 = omega arith in
          ap base64 parts ∙ encode_of-append standard piece rest third
    ]

-- the lines of octets: the first, and those of the rest
pub lines-octets : (all piece rest : List ℕ) → 0 < length all → all ≡ piece ++ rest → length piece ≡ min 48 (length all)
    → lines (base64 all) ≡ (base64 piece ++ (10 ∷ [])) ++ lines (base64 rest)
lines-octets all piece rest some parts size =
    let sum = ap length parts ∙ length-append piece rest in
    let written = length-base64 piece in
    let line : (length (base64 piece) ≡ 64) ⊎ (base64 rest ≡ []) = elim (cases_lt (length all) 48) [
      | inl short ↦
          let none : rest ≡ [] = nil_from_length rest (omega arith) in
          inr (ap base64 none ∙ base64-nil)
      | inr long ↦
          let full : length piece ≡ 48 = omega arith in
          inl (written ∙ ap (λ n. (n + 2) / 3 * 4) full)
    ] in
    ap (lines) (base64-piece all piece rest parts size)
    ∙ lines-piece (base64 piece) (base64 rest) (omega arith) (omega arith) line
    ∙ sym (append_assoc (base64 piece) (10 ∷ []) (lines (base64 rest)))

-- the lines so far, once a line is written
pub pushed-line : (all piece rest old written new total : List ℕ) → all ≡ piece ++ rest → length piece ≡ min 48 (length all)
    → 0 < length all → written ≡ old ++ base64 piece → new ≡ written ++ (10 ∷ []) → old ++ lines (base64 all) ≡ total
    → new ++ lines (base64 rest) ≡ total
pushed-line all piece rest old written new total parts size some encoded ended so_far =
    let line : List ℕ = base64 piece ++ (10 ∷ []) in
    let new_is : new ≡ old ++ line = ended ∙ ap (λ l. l ++ (10 ∷ [])) encoded ∙ append_assoc old (base64 piece) (10 ∷ []) in
    ap (λ l. l ++ lines (base64 rest)) new_is ∙ append_assoc old line (lines (base64 rest))
    ∙ ap (λ l. old ++ l) (sym (lines-octets all piece rest some parts size)) ∙ so_far
