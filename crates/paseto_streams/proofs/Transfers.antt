-- What is written in turns, and what a write that fails leaves.
use Rattle.std.proofs.Common.{◌≡◌, ℕ, ◌<◌, ◌-◌, List, [], ◌∷◌, ◌++◌, length, length-append, take, drop, Option, Result, Ok, Err, OnErr, refl, sym, ap, ◌∙◌, arith}
use Rattle.std.specs.Io.{StartsWith}
use Rattle.std.specs.Io.KnownBytes.{Appends, Keeps}
use Rattle.std.proofs.KnownBytes.{Appends-kept}
use Rattle.std.proofs.lemmas.List.{take_rest, take-append-drop, append_assoc}
use Rattle.paseto_streams.specs.Output.{IsCutShort}

-- a further front of the rest is written
pub written_more : (all written rest : List ℕ) (n : ℕ) → all ≡ written ++ rest
    → all ≡ (written ++ take n rest) ++ take (length rest - n) (drop n rest)
written_more all written rest n e =
    e ∙ ap (λ l. written ++ l) (sym (take-append-drop n rest)) ∙ rw (take_rest, append_assoc)

front_of_all : (front rest : List ℕ) → StartsWith (front ++ rest) front
front_of_all [] rest = refl
front_of_all (b ∷ front) rest = ap (λ (bytes : List ℕ). b ∷ bytes) (front_of_all front rest)

-- what was written before a write that took nothing
pub cut_short : {T E : Type 0} (result : Result T E) (bytes written rest : List ℕ) (a b c : Option (List ℕ)) → Appends a b written
    → bytes ≡ written ++ rest → 0 < length rest → Keeps b c → OnErr result ((x : List ℕ) × IsCutShort bytes x × Appends a c x)
cut_short (Ok value) bytes written rest a b c whole same more kept = tt
cut_short (Err error) bytes written rest a b c whole same more kept =
    (written, record { beginning = rw same (front_of_all written rest); shorter = rw (same, length-append) (omega arith) }, Appends-kept a b c written whole kept)
