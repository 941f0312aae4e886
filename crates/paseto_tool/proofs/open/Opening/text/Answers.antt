use Rattle.std.proofs.Common.{ℕ, List}
use Rattle.paseto_tool.specs.Arguments.{IsDigits}
use Rattle.std.proofs.lemmas.Result.{err_from_is_err_and}
use Rattle.paseto_tool.specs.Open.{bad_key}
use Rattle.paseto_tool.proofs.Reasons.{IfSome-all}
use Rattle.paseto_tool.proofs.open.Opening.text.Goals as goal

pub returns-in_err-key-clause-refused : goal.returns-in_err-key-clause-refused
returns-in_err-key-clause-refused g c =
    let no_digits : IsDigits c.args.self.now.key.now → ⊥ = λ digits. cc (c.in_err-key.ensures.read.1 digits) in
    let p = err_from_is_err_and c.from_residual.result c.from_residual.ensures.1 in
    rw (p.1, p.2, c.in_err-key.ensures.refused)
    (IfSome-all {X = List ℕ} _ _ (λ token. bad_key no_digits))
