use Rattle.std.proofs.Common.{◌≡◌, ◌∷◌, ◌-◌, length, take, drop, sym, ◌∙◌}
use Rattle.paseto_tasks.specs.Arguments.{texts}
use Rattle.paseto_tasks.proofs.Fronts.{front_and_rest}
use Rattle.paseto_streams.proofs.Lines.{said_line, when_ok}
use Rattle.paseto_tasks.proofs.error.+write_pieces.Goals as goal

pub returns-then-is_ok : goal.returns-then-is_ok
returns-then-is_ok g t c =
    let whole = when_ok c.write_whole.result (sym c.is_ok.ensures.value ∙ c.if-is_ok.true) c.write_whole.ensures.whole in
    let front : texts c.args.pieces.now ≡ c.as_bytes.result.now ∷ texts (take (length c.args.pieces.now - 1) (drop 1 c.args.pieces.now)) =
    front_and_rest c.args.pieces.now _ c.as_bytes.result.now c.in-len1-up.len_at_least c.as_bytes.ensures.value in
    rw front (said_line _ _ _ _ _ whole c.write_pieces.ensures)
