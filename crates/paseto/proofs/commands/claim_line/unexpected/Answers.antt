use Rattle.std.proofs.Common.{sym}
use Rattle.serde_json.specs.View.{view}
use Rattle.rusty_paseto_claims.specs.Error.{error_text}
use Rattle.rusty_paseto_claims.specs.declared.error.PasetoClaimError.TheVariants.{Unexpected}
use Rattle.paseto.specs.Claims.{all_named}
use Rattle.paseto.proofs.Lines.{told_line, unexpected_told, untyped_told}
use Rattle.paseto.proofs.commands.claim_line.unexpected.Goals as goal

pub returns-in-Some-clause-said : goal.returns-in-Some-clause-said
returns-in-Some-clause-said c =
    unexpected_told (all_named c.args.demands.now) (view c.args.claims.now) (view c.in-Some.wanted.now) c.args.at c.args.key c.unlike_line.result c.told.result
    (sym (rw c.as_str.ensures.value at c.in-Some.ensures))
    (rw (c.as_str-in-Some.ensures.value, c.entry_or.ensures, c.as_str-in-Some-2.ensures.value) at c.unlike_line.ensures) c.told.ensures.said

pub returns-in-None-clause-said : goal.returns-in-None-clause-said
returns-in-None-clause-said c =
    untyped_told (all_named c.args.demands.now) (view c.args.claims.now) c.args.at c.args.key c.told-in-None.result (sym (rw c.as_str.ensures.value at c.in-None.ensures))
    (told_line c.format.result c.one_line_of.result (error_text (Unexpected c.args.key)) c.told-in-None.result c.format.ensures.ok c.one_line_of.ensures c.told-in-None.ensures.said)
