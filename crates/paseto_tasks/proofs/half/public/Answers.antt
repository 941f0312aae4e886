use Rattle.std.proofs.Common.{inr}
use Rattle.std.proofs.lemmas.Result.{err_from_is_err_and}
use Rattle.paseto_keys.specs.AnyKey.{parts_of}
use Rattle.paseto_tasks.specs.Error.{nothing}
use Rattle.paseto_tasks.specs.Half.{HasHalf, HasNoHalf}
use Rattle.paseto_tasks.proofs.Halves.{half_unwritten}
use Rattle.paseto_tasks.proofs.Outputs.{line_makes}
use Rattle.paseto_tasks.proofs.half.public.Goals as goal

pub returns-in_err-to_line : goal.returns-in_err-to_line
returns-in_err-to_line c =
    let p = err_from_is_err_and c.from_residual-in_err-to_line.result c.from_residual-in_err-to_line.ensures.1 in
    rw (p.1, p.2) (record { printed = tt; refused = inr (half_unwritten (parts_of c.args.key.now) c.in_ok-half.half c.in_err-to_line.field-0.0 c.in_ok-half.ensures c.in_err-to_line.ensures.refused) })

pub returns : goal.returns
returns c =
    line_makes (HasHalf (parts_of c.args.key.now)) (HasNoHalf (parts_of c.args.key.now)) nothing _ c.with_line_feed.result c.with_line_feed.ensures.line
    c.with_line_feed.ensures.only_memory (λ line is. record {
      half = c.in_ok-half.half;
      text = c.in_ok-to_line.field-0;
      is_half = c.in_ok-half.ensures;
      is_text = c.in_ok-to_line.ensures;
      line_is = is;
    })
