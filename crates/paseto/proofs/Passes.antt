-- How far an input was read, and its lines checked.
use Rattle.std.proofs.Common.{◌≡◌, ◌∙◌, ◌≤◌, ◌+◌, ◌^◌, ◌&&◌, ℕ, Bool, true, false, Option, None, Some, List, [], ◌++◌, length, length-append, arith, refl, sym, ap, subst}
use Rattle.std.proofs.lemmas.List.{append_assoc, append-nil}
use Rattle.std.proofs.KnownBytes.{Appends-nil, Appends-trans, Consumes-nil, Consumes-trans}
use Rattle.std.specs.Io.KnownBytes.{Appends, Consumes, IsAtEnd}
use Rattle.paseto_tasks.specs.Error.{Fails}
use Rattle.paseto_tasks.specs.Input.{reading}
use Rattle.paseto_tasks.specs.declared.error.ProgramError.{ProgramError}
use Rattle.paseto_tasks.specs.declared.error.ProgramError.TheVariants.{Token}
use Rattle.paseto_tasks.specs.declared.error.token.TokenError.TheVariants.{TooLong}
use Rattle.paseto_streams.specs.Input.{IsInput}
use Rattle.paseto.specs.Each.{Begins, ChecksAll, IsFront, RowOf, Stops, WritesRows}
use Rattle.paseto.specs.Each.Stops.{fails, is_endless}
use Rattle.paseto.proofs.Rows.{front_alone, front_more, no_front}
use Rattle.paseto.proofs.Stopping.{begins_in, read_begins, stops_behind}

-- the lines in front of the pending bytes are checked, and all these bytes counted
pub record Pass (IsRow : RowOf) (longest : ℕ) (known left : Option (List ℕ)) (pending : List ℕ) (before now : Option (List ℕ)) (total : ℕ) (all : Bool) : Type 0 where
  pub lines : List ℕ
  pub rows : List ℕ
  pub read : Consumes known left (lines ++ pending)
  pub front : IsFront IsRow longest false lines rows all
  pub written : Appends before now rows
  pub counted : total ≡ length (lines ++ pending)

-- what was read to the end is the input
read_all : (known left : Option (List ℕ)) (bytes : List ℕ) → Consumes known left bytes → IsAtEnd left → IsInput known bytes
read_all None left bytes is ended = tt
read_all (Some all) None bytes is ended = absurd is
read_all (Some all) (Some rest) bytes is ended = sym (append-nil bytes) ∙ ap (λ (l : List ℕ). bytes ++ l) (sym ended) ∙ sym is

module _ (IsRow : RowOf) (longest : ℕ) (known : Option (List ℕ)) where
  pub pass_begun : (before : Option (List ℕ)) → Pass IsRow longest known known [] before before 0 true
  pass_begun before = record {
    lines = [];
    rows = [];
    read = Consumes-nil known;
    front = no_front IsRow longest;
    written = Appends-nil before;
    counted = refl;
  }

  module _ (left : Option (List ℕ)) (pending : List ℕ) (before now : Option (List ℕ)) (total : ℕ) (all : Bool)
      (pass : Pass IsRow longest known left pending before now total all) where
    -- more bytes are read
    pub pass_more : (next : Option (List ℕ)) (piece : List ℕ) (count : ℕ) → Consumes left next piece → length piece ≡ count
        → Pass IsRow longest known next (pending ++ piece) before now (total + count) all
    pass_more next piece count more counts = record {
      lines = pass.lines;
      rows = pass.rows;
      read = subst (λ (l : List ℕ). Consumes known next l) (append_assoc pass.lines pending piece) (Consumes-trans known left next (pass.lines ++ pending) piece pass.read more);
      front = pass.front;
      written = pass.written;
      counted = omega (arith, pass.counted, counts, length-append pass.lines pending, length-append pass.lines (pending ++ piece), length-append pending piece);
    }

    -- the lines in them are checked
    pub pass_rows : (rest : List ℕ) (after : Option (List ℕ)) (others : Bool) → WritesRows IsRow longest false pending rest now after others
        → Pass IsRow longest known left rest before after total (all && others)
    pass_rows rest after others wrote =
        let same = ap (λ (l : List ℕ). pass.lines ++ l) wrote.split ∙ sym (append_assoc pass.lines wrote.lines rest) in
        record {
          lines = pass.lines ++ wrote.lines;
          rows = pass.rows ++ wrote.rows;
          read = subst (λ (l : List ℕ). Consumes known left l) same pass.read;
          front = front_more IsRow longest false pass.lines pass.rows wrote.lines wrote.rows all others pass.front wrote.front;
          written = Appends-trans before now after pass.rows wrote.rows pass.written wrote.written;
          counted = pass.counted ∙ ap (λ (l : List ℕ). length l) same;
        }

    -- the input has ended
    pub pass_ended : (next : Option (List ℕ)) → Consumes left next [] → IsAtEnd next → (rest : List ℕ) (after : Option (List ℕ)) (others : Bool)
        → WritesRows IsRow longest true pending rest now after others → ChecksAll IsRow longest known before after (all && others)
    pass_ended next none ended rest after others wrote =
        let same : pending ≡ wrote.lines = wrote.split ∙ ap (λ (l : List ℕ). wrote.lines ++ l) (wrote.none_left refl) ∙ append-nil wrote.lines in
        let whole : Consumes known next (pass.lines ++ pending) =
        subst (λ (l : List ℕ). Consumes known next l) (append-nil (pass.lines ++ pending)) (Consumes-trans known left next (pass.lines ++ pending) [] pass.read none) in
        record {
          input = pass.lines ++ wrote.lines;
          rows = pass.rows ++ wrote.rows;
          is_input = read_all known next (pass.lines ++ wrote.lines) (subst (λ (l : List ℕ). Consumes known next (pass.lines ++ l)) same whole) ended;
          are_rows = front_alone IsRow longest true (pass.lines ++ wrote.lines) (pass.rows ++ wrote.rows) (all && others)
              (front_more IsRow longest true pass.lines pass.rows wrote.lines wrote.rows all others pass.front wrote.front);
          written = Appends-trans before now after pass.rows wrote.rows pass.written wrote.written;
        }

    -- or no more is read or checked
    pub pass_stops : (after : Option (List ℕ)) (error : ProgramError) → Stops IsRow longest (Some pending) now after error → Stops IsRow longest known before after error
    pass_stops after error stops =
        stops_behind IsRow longest known before now after pass.lines pass.rows pending all (read_begins known left (pass.lines ++ pending) pass.read) pass.front pass.written error stops

    pub pass_fails : (error : ProgramError) → Fails reading error → Stops IsRow longest known before now error
    pass_fails error is = fails pass.lines pass.rows all error
        (subst (λ (l : List ℕ). Begins known l) (append-nil pass.lines)
        (begins_in known pass.lines pending [] (read_begins known left (pass.lines ++ pending) pass.read) refl)) (front_alone IsRow longest false pass.lines pass.rows all pass.front) pass.written is

    pub pass_endless : (next : Option (List ℕ)) (piece : List ℕ) (count : ℕ) → Consumes left next piece → length piece ≡ count → 2 ^ 64 ≤ total + count
        → Stops IsRow longest known before now (Token TooLong)
    pass_endless next piece count more counts beyond =
        let all_read = pass_more next piece count more counts in
        is_endless all_read.lines (pending ++ piece) all_read.rows all (read_begins known next (all_read.lines ++ (pending ++ piece)) all_read.read)
        (rw (sym all_read.counted) beyond) (front_alone IsRow longest false all_read.lines all_read.rows all all_read.front) all_read.written
