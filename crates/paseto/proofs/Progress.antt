-- How far the lines of some bytes were checked.
use Rattle.std.proofs.Common.{◌≡◌, ◌∙◌, ◌<◌, ◌≤◌, ◌&&◌, ℕ, Bool, true, false, Option, Some, List, [], ◌∷◌, ◌++◌, length, arith, refl, sym, ap, subst}
use Rattle.std.proofs.lemmas.Bool.{false≢true}
use Rattle.std.proofs.lemmas.List.{append_assoc, append-nil}
use Rattle.std.proofs.KnownBytes.{Appends-nil, Appends-trans}
use Rattle.std.specs.Io.{StartsWith}
use Rattle.std.specs.Io.BufRead.{drop_through}
use Rattle.std.specs.Io.KnownBytes.{Appends}
use Rattle.paseto_tasks.specs.Error.{Fails}
use Rattle.paseto_tasks.specs.Input.{reading}
use Rattle.paseto_tasks.specs.declared.error.ProgramError.{ProgramError}
use Rattle.paseto_tasks.specs.declared.error.ProgramError.TheVariants.{Token}
use Rattle.paseto_tasks.specs.declared.error.token.TokenError.TheVariants.{TooLong}
use Rattle.paseto.specs.Each.{AreRows, IsFront, RowOf, Stops, StopsRow, WritesRow, WritesRows, first_line, is_ended}
use Rattle.paseto.specs.Each.Stops.{fails, is_long, unwritten}
use Rattle.paseto.specs.Each.StopsRow.{no_row, long_row, cut_row}
use Rattle.paseto_tasks.proofs.Blames.{fails_so, within_all}
use Rattle.paseto.proofs.Cuts.{first_is_line, none_behind}
use Rattle.paseto.proofs.Rows.{cut_whole, front_alone, front_more, line_ended, line_last, no_front, one_line}
use Rattle.paseto.proofs.Stopping.{cut_behind, starts, starts_in, starts_whole}

-- the lines in front of the rest are checked: the last of them has not ended where nothing is left
pub record Progress (IsRow : RowOf) (longest : ℕ) (are_last : Bool) (bytes rest : List ℕ) (before now : Option (List ℕ)) (all : Bool) : Type 0 where
  pub lines : List ℕ
  pub rows : List ℕ
  pub unended : Bool
  pub split : bytes ≡ lines ++ rest
  pub front : IsFront IsRow longest unended lines rows all
  pub written : Appends before now rows
  pub none_left : unended ≡ true → rest ≡ []
  pub only_last : unended ≡ true → are_last ≡ true

-- the first line of some bytes, with its line feed where it has ended
record FirstLine (IsRow : RowOf) (longest : ℕ) (rest : List ℕ) : Type 0 where
  line : List ℕ
  unended : Bool
  split : rest ≡ line ++ drop_through 10 rest
  starts : StartsWith rest (first_line rest)
  none_left : unended ≡ true → drop_through 10 rest ≡ []
  not_ended : unended ≡ true → is_ended rest ≡ false
  front : (row : List ℕ) (admitted : Bool) → length (first_line rest) ≤ longest → IsRow (first_line rest) row admitted → IsFront IsRow longest unended line row admitted

module _ (IsRow : RowOf) (longest : ℕ) where
  line_of : (rest : List ℕ) → 0 < length rest → FirstLine IsRow longest rest
  line_of rest some = by (is_ended rest) refl
    where
      by : (ended : Bool) → is_ended rest ≡ ended → FirstLine IsRow longest rest
      by true is = record {
        line = first_line rest ++ 10 ∷ [];
        unended = false;
        split = cut_whole rest is ∙ sym (append_assoc (first_line rest) (10 ∷ []) (drop_through 10 rest));
        starts = subst (λ (l : List ℕ). StartsWith l (first_line rest)) (sym (cut_whole rest is)) (starts (first_line rest) (10 ∷ drop_through 10 rest));
        none_left = λ no. absurd (false≢true no);
        not_ended = λ no. absurd (false≢true no);
        front = λ row admitted short is_row. line_ended IsRow longest (first_line rest) row admitted (first_is_line rest) short is_row;
      }
      by false is =
          let one = one_line rest is in
          let none = none_behind rest one in
          record {
            line = rest;
            unended = true;
            split = sym (append-nil rest) ∙ ap (λ (l : List ℕ). rest ++ l) (sym none);
            starts = subst (λ (l : List ℕ). StartsWith rest l) (sym one) (starts_whole rest);
            none_left = λ yes. none;
            not_ended = λ yes. is;
            front = λ row admitted short is_row. line_last IsRow longest rest row admitted one
                (subst (λ (l : List ℕ). length l ≤ longest) one short) (subst (λ (l : List ℕ). IsRow l row admitted) one is_row) some;
          }

  pub begun : (are_last : Bool) (bytes : List ℕ) (before : Option (List ℕ)) → Progress IsRow longest are_last bytes bytes before before true
  begun are_last bytes before = record {
    lines = [];
    rows = [];
    unended = false;
    split = refl;
    front = no_front IsRow longest;
    written = Appends-nil before;
    none_left = λ no. absurd (false≢true no);
    only_last = λ no. absurd (false≢true no);
  }

  module _ (are_last : Bool) (bytes rest : List ℕ) (before between : Option (List ℕ)) (all : Bool)
      (so_far : Progress IsRow longest are_last bytes rest before between all) where
    -- while a line is left, all in front have ended
    ended_in_front : 0 < length rest → IsFront IsRow longest false so_far.lines so_far.rows all
    ended_in_front some = by so_far.unended refl so_far.front
      where
        by : (unended : Bool) → so_far.unended ≡ unended → IsFront IsRow longest unended so_far.lines so_far.rows all → IsFront IsRow longest false so_far.lines so_far.rows all
        by true is front = absurd (omega (arith, some, ap (λ (l : List ℕ). length l) (so_far.none_left is)))
        by false is front = front

    -- one more line
    pub one_more : 0 < length rest → (is_ended rest ≡ false → are_last ≡ true) → (after : Option (List ℕ)) (admitted : Bool)
        → WritesRow IsRow longest (first_line rest) between after admitted
        → Progress IsRow longest are_last bytes (drop_through 10 rest) before after (all && admitted)
    one_more some last after admitted wrote =
        let first = line_of rest some in
        record {
          lines = so_far.lines ++ first.line;
          rows = so_far.rows ++ wrote.row;
          unended = first.unended;
          split = so_far.split ∙ ap (λ (l : List ℕ). so_far.lines ++ l) first.split ∙ sym (append_assoc so_far.lines first.line (drop_through 10 rest));
          front = front_more IsRow longest first.unended so_far.lines so_far.rows first.line wrote.row all admitted (ended_in_front some)
              (first.front wrote.row admitted wrote.short wrote.is_row);
          written = Appends-trans before between after so_far.rows wrote.row so_far.written wrote.written;
          none_left = first.none_left;
          only_last = λ yes. last (first.not_ended yes);
        }

    -- the bytes begin with those lines, and what the rest begins with
    begins_with : (front : List ℕ) → StartsWith rest front → StartsWith bytes (so_far.lines ++ front)
    begins_with front is = starts_in bytes so_far.lines rest front (subst (λ (l : List ℕ). StartsWith bytes l) so_far.split (starts_whole bytes)) is

    -- the lines in front, where nothing more is written
    alone : AreRows IsRow longest so_far.lines so_far.rows all
    alone = front_alone IsRow longest so_far.unended so_far.lines so_far.rows all so_far.front

    pub failed : (error : ProgramError) → Fails reading error → Stops IsRow longest (Some bytes) before between error
    failed error is = fails so_far.lines so_far.rows all error (subst (λ (l : List ℕ). StartsWith l so_far.lines) (sym so_far.split) (starts so_far.lines rest)) alone so_far.written is

    pub long_line : is_ended rest ≡ false → longest < length rest → Stops IsRow longest (Some bytes) before between (Token TooLong)
    long_line none long = is_long so_far.lines so_far.rows all
        (record { line = rest; begins = begins_with rest (starts_whole rest); is_line = one_line rest none; long = long }) alone so_far.written

    -- a line whose row is not written
    pub row_stops : 0 < length rest → (after : Option (List ℕ)) (error : ProgramError) → StopsRow IsRow longest (first_line rest) between after error
        → Stops IsRow longest (Some bytes) before after error
    row_stops some after error (no_row e same is) = subst (λ (now : Option (List ℕ)). Stops IsRow longest (Some bytes) before now e) (sym same) (failed e (fails_so (within_all reading) e is))
    row_stops some after error (long_row same long) =
        let first = line_of rest some in
        subst (λ (now : Option (List ℕ)). Stops IsRow longest (Some bytes) before now (Token TooLong)) (sym same)
        (is_long so_far.lines so_far.rows all
        (record { line = first_line rest; begins = begins_with (first_line rest) first.starts; is_line = first_is_line rest; long = long }) alone so_far.written)
    row_stops some after error (cut_row row part admitted short is_row cut appended) =
        let first = line_of rest some in
        unwritten (so_far.lines ++ first.line) (so_far.rows ++ row) (so_far.rows ++ part) (all && admitted)
        (begins_with first.line (subst (λ (l : List ℕ). StartsWith l first.line) (sym first.split) (starts first.line (drop_through 10 rest))))
        (front_alone IsRow longest first.unended (so_far.lines ++ first.line) (so_far.rows ++ row) (all && admitted)
        (front_more IsRow longest first.unended so_far.lines so_far.rows first.line row all admitted (ended_in_front some) (first.front row admitted short is_row)))
        (cut_behind so_far.rows row part cut) (Appends-trans before between after so_far.rows part so_far.written appended)

    -- all lines that have ended
    pub all_written : (are_last ≡ true → rest ≡ []) → WritesRows IsRow longest are_last bytes rest before between all
    all_written none = record {
      lines = so_far.lines;
      rows = so_far.rows;
      split = so_far.split;
      front = λ z more others last are. so_far.front z more others (λ yes. last (so_far.only_last yes)) are;
      written = so_far.written;
      none_left = none;
    }
