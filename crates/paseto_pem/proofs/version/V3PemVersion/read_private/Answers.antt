use Rattle.std.proofs.Common.{length}
use Rattle.std.specs.Prelude.{IsTrue, ◌==◌}
use Rattle.std.proofs.lemmas.Result.{IfOk-weaker}
use Rattle.paseto_pem.specs.P384.{IsPrivateOf}
use Rattle.paseto_pem.proofs.P384Laws.{private-form}
use Rattle.paseto_pem.proofs.version.V3PemVersion.read_private.Goals as goal

pub returns-clause-form : goal.returns-clause-form
returns-clause-form c =
    IfOk-weaker c.read_private.result (λ key. IsPrivateOf c.args.label c.args.contents.now key.items) (λ key. IsTrue (length key.items == 48))
    (λ key p. private-form c.args.label c.args.contents.now key.items p) c.read_private.ensures.found
