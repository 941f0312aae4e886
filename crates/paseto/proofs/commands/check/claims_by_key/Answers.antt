use Rattle.std.proofs.Common.{◌∙◌, ℕ, List, [], Option, ap, unwrap_or}
use Rattle.paseto_keys.specs.AnyKey.{parts_of}
use Rattle.paseto.specs.Check.{demanded}
use Rattle.paseto.proofs.KeyReads.{expected, key_gives}
use Rattle.paseto.proofs.commands.check.claims_by_key.Goals as goal

pub returns : goal.returns
returns c =
    let parser = c.reader.ensures in
    let footer = expected c.reader.result.footer ∙ ap (λ (t : Option (List ℕ)). unwrap_or t []) parser.footer in
    rw c.admitted.ensures (key_gives (parts_of c.args.key.now) (demanded c.args.demands.now).footer (demanded c.args.demands.now).assertion c.args.token.now
    c.admit.result (rw (parser.longest, footer, parser.assertion, parser.rules) at c.admit.ensures))
