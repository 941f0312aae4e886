use Rattle.std.proofs.Common.{◌≡◌, inr, string_bytes, subst}
use Rattle.std.proofs.lemmas.Result.{IfErr-weaker, IfOk-weaker}
use Rattle.paseto_keys.specs.AnyKey.{parts_of}
use Rattle.paseto_keys.specs.Line.{IsLineOf}
use Rattle.paseto.specs.Keys.{IsNoKeyLine}
use Rattle.paseto.proofs.keys.Held.open.Goals as goal

pub returns-in-Ok-clause-found : goal.returns-in-Ok-clause-found
returns-in-Ok-clause-found c =
    let said : c.as_str.result.now ≡ string_bytes c.in-Ok.line = c.as_str.ensures.value in
    IfOk-weaker c.key_of_line.result _ _ (λ key is. (string_bytes c.in-Ok.line, c.in-Ok.ensures.held, subst (λ l. IsLineOf l (parts_of key)) said is))
    c.key_of_line.ensures.found

pub returns-in-Ok-clause-refused : goal.returns-in-Ok-clause-refused
returns-in-Ok-clause-refused c =
    let said : c.as_str.result.now ≡ string_bytes c.in-Ok.line = c.as_str.ensures.value in
    IfErr-weaker c.key_of_line.result _ _ (λ fault is. inr (string_bytes c.in-Ok.line, c.in-Ok.ensures.held, subst (λ l. IsNoKeyLine c.args.name.now l fault) said is))
    c.key_of_line.ensures.refused
