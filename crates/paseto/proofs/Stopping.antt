-- Where the lines of an input end to be checked.
use Rattle.std.proofs.Common.{◌≡◌, ◌∙◌, ◌&&◌, ℕ, Bool, false, Option, None, Some, List, [], ◌∷◌, ◌++◌, drop, length, length-append, arith, refl, sym, ap, subst}
use Rattle.std.proofs.lemmas.Bool.{false≢true}
use Rattle.std.proofs.lemmas.List.{append_assoc, take-append-drop}
use Rattle.std.proofs.KnownBytes.{Appends-trans}
use Rattle.std.specs.Io.{StartsWith}
use Rattle.std.specs.Io.KnownBytes.{Appends, Consumes}
use Rattle.paseto_tasks.specs.declared.error.ProgramError.{ProgramError}
use Rattle.paseto_streams.specs.Output.{IsCutShort}
use Rattle.paseto.specs.Each.{Begins, IsFront, RowOf, Stops}
use Rattle.paseto.specs.Each.Stops.{fails, is_long, is_endless, unwritten}

-- ---- beginnings

pub starts : (front rest : List ℕ) → StartsWith (front ++ rest) front
starts [] rest = refl
starts (b ∷ front) rest = ap (λ (bytes : List ℕ). b ∷ bytes) (starts front rest)

pub starts_whole : (bytes : List ℕ) → StartsWith bytes bytes
starts_whole [] = refl
starts_whole (b ∷ bytes) = ap (λ (rest : List ℕ). b ∷ rest) (starts_whole bytes)

-- what is behind a beginning
whole_of : (bytes front : List ℕ) → StartsWith bytes front → bytes ≡ front ++ drop (length front) bytes
whole_of bytes front begins = sym (take-append-drop (length front) bytes) ∙ ap (λ (l : List ℕ). l ++ drop (length front) bytes) begins

-- a beginning of a beginning, behind some bytes
pub starts_in : (bytes done pending front : List ℕ) → StartsWith bytes (done ++ pending) → StartsWith pending front → StartsWith bytes (done ++ front)
starts_in bytes done pending front all first =
    let rest = drop (length front) pending in
    let more = drop (length (done ++ pending)) bytes in
    let behind : (done ++ pending) ++ more ≡ (done ++ front) ++ (rest ++ more) =
    append_assoc done pending more ∙ ap (λ (l : List ℕ). done ++ (l ++ more)) (whole_of pending front first)
    ∙ ap (λ (l : List ℕ). done ++ l) (append_assoc front rest more) ∙ sym (append_assoc done front (rest ++ more)) in
    let same : bytes ≡ (done ++ front) ++ (rest ++ more) = whole_of bytes (done ++ pending) all ∙ behind in
    subst (λ (l : List ℕ). StartsWith l (done ++ front)) (sym same) (starts (done ++ front) (rest ++ more))

pub begins_in : (known : Option (List ℕ)) (done pending front : List ℕ) → Begins known (done ++ pending) → StartsWith pending front → Begins known (done ++ front)
begins_in None done pending front all first = tt
begins_in (Some bytes) done pending front all first = starts_in bytes done pending front all first

-- what was read is a beginning of the input
pub read_begins : (known new : Option (List ℕ)) (read : List ℕ) → Consumes known new read → Begins known read
read_begins None new read is = tt
read_begins (Some bytes) None read is = absurd is
read_begins (Some bytes) (Some rest) read is = subst (λ (l : List ℕ). StartsWith l read) (sym is) (starts read rest)

-- a beginning behind some bytes
starts_behind : (front rest beginning : List ℕ) → StartsWith rest beginning → StartsWith (front ++ rest) (front ++ beginning)
starts_behind [] rest beginning is = is
starts_behind (b ∷ front) rest beginning is = ap (λ (bytes : List ℕ). b ∷ bytes) (starts_behind front rest beginning is)

-- an output cut short behind another
pub cut_behind : (rows output written : List ℕ) → IsCutShort output written → IsCutShort (rows ++ output) (rows ++ written)
cut_behind rows output written cut = record {
  beginning = starts_behind rows output written cut.beginning;
  shorter = omega (arith, cut.shorter, length-append rows written, length-append rows output);
}

module _ (IsRow : RowOf) (longest : ℕ) (known before between after : Option (List ℕ)) (done rows pending : List ℕ) (all : Bool)
    (begins : Begins known (done ++ pending)) (front : IsFront IsRow longest false done rows all) (written : Appends before between rows) where
  -- where those of bytes that were read end to be checked, behind others
  pub stops_behind : (error : ProgramError) → Stops IsRow longest (Some pending) between after error → Stops IsRow longest known before after error
  stops_behind error (fails lines more others e in_front are appended failed) =
      fails (done ++ lines) (rows ++ more) (all && others) e (begins_in known done pending lines begins in_front)
      (front lines more others (λ no. absurd (false≢true no)) are) (Appends-trans before between after rows more written appended) failed
  stops_behind error (is_long lines more others long are appended) =
      is_long (done ++ lines) (rows ++ more) (all && others)
      (record {
        line = long.line;
        begins = rw (append_assoc done lines long.line) (begins_in known done pending (lines ++ long.line) begins long.begins);
        is_line = long.is_line;
        long = long.long;
      })
      (front lines more others (λ no. absurd (false≢true no)) are) (Appends-trans before between after rows more written appended)
  stops_behind error (is_endless lines rest more others in_front endless are appended) =
      is_endless (done ++ lines) rest (rows ++ more) (all && others)
      (rw (append_assoc done lines rest) (begins_in known done pending (lines ++ rest) begins in_front))
      (omega (arith, endless, ap (λ (l : List ℕ). length l) (append_assoc done lines rest), length-append done (lines ++ rest)))
      (front lines more others (λ no. absurd (false≢true no)) are) (Appends-trans before between after rows more written appended)
  stops_behind error (unwritten lines more part others in_front are cut appended) =
      unwritten (done ++ lines) (rows ++ more) (rows ++ part) (all && others) (begins_in known done pending lines begins in_front)
      (front lines more others (λ no. absurd (false≢true no)) are) (cut_behind rows more part cut)
      (Appends-trans before between after rows part written appended)
