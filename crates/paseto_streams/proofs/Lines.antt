-- What a writer was given of a line.
use Rattle.std.proofs.Common.{◌≡◌, ℕ, List, [], ◌∷◌, ◌++◌, Option, Result, Ok, Err, OnOk, OnErr, is_ok, true, length, drop, get_or, refl, ap, ap₂, arith}
use Rattle.std.proofs.lemmas.Bool.{false≢true}
use Rattle.std.specs.Io.{StartsWith}
use Rattle.std.specs.Io.KnownBytes.{Appends}
use Rattle.std.proofs.KnownBytes.{Appends-nil, Appends-trans}
use Rattle.paseto_streams.specs.Output.{IsCutShort}

-- a beginning of what comes after a front
starts_after : (front rest beginning : List ℕ) → StartsWith rest beginning → StartsWith (front ++ rest) (front ++ beginning)
starts_after [] rest beginning starts = starts
starts_after (a ∷ front) rest beginning starts = ap (λ bytes. a ∷ bytes) (starts_after front rest beginning starts)

-- what holds of an answer that is Ok
pub when_ok : {T E : Type 0} {X : Type 0} (result : Result T E) → is_ok result ≡ true → OnOk result X → X
when_ok (Ok value) is holds = holds
when_ok (Err error) is holds = absurd (false≢true is)

-- what was written of the bytes: a beginning of them
abbrev pub Said : List ℕ → Option (List ℕ) → Option (List ℕ) → Type 0
Said bytes old new = (said : List ℕ) × StartsWith bytes said × Appends old new said

all_said : (bytes : List ℕ) → StartsWith bytes bytes
all_said [] = refl
all_said (b ∷ bytes) = ap (λ rest. b ∷ rest) (all_said bytes)

module _ {T E : Type 0} (old new : Option (List ℕ)) (bytes : List ℕ) where
  -- what writing the bytes whole left
  pub said_by : (result : Result T E) → OnOk result (Appends old new bytes)
      → OnErr result ((written : List ℕ) × IsCutShort bytes written × Appends old new written) → Said bytes old new
  said_by (Ok done) whole cut = (bytes, all_said bytes, whole)
  said_by (Err error) whole cut = (cut.0, cut.1.beginning, cut.2)

-- the text, and then a beginning of what ends the line
pub said_line : (text more : List ℕ) (old between new : Option (List ℕ)) → Appends old between text → Said more between new → Said (text ++ more) old new
said_line text more old between new whole said =
    (text ++ said.0, starts_after text more said.0 said.1, Appends-trans old between new text said.0 whole said.2)

-- no text at all
pub said_nothing : (bytes : List ℕ) (old : Option (List ℕ)) → Said bytes old old
said_nothing bytes old = ([], refl, Appends-nil old)

-- a beginning of a text is one of what the text begins
starts_longer : (text rest beginning : List ℕ) → StartsWith text beginning → StartsWith (text ++ rest) beginning
starts_longer text rest [] starts = refl
starts_longer [] rest (b ∷ beginning) starts = absurd (omega (arith, ap (λ (l : List ℕ). length l) starts))
starts_longer (a ∷ text) rest (b ∷ beginning) starts =
    ap₂ (λ (first : ℕ) (others : List ℕ). first ∷ others) (ap (λ (l : List ℕ). get_or l 0 0) starts)
    (starts_longer text rest beginning (ap (λ (l : List ℕ). drop 1 l) starts))

pub said_first : (text more : List ℕ) (old new : Option (List ℕ)) → Said text old new → Said (text ++ more) old new
said_first text more old new said = (said.0, starts_longer text more said.0 said.1, said.2)
