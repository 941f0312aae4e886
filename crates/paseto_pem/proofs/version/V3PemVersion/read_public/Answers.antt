use Rattle.std.proofs.Common.{length}
use Rattle.std.specs.Prelude.{IsTrue, ◌==◌, ◌&&◌}
use Rattle.std.proofs.lemmas.Result.{IfOk-weaker}
use Rattle.rusty_paseto_parts.specs.PublicKey.{is_compressed}
use Rattle.paseto_pem.specs.P384.{IsPublicOf}
use Rattle.paseto_pem.proofs.P384Laws.{public-form}
use Rattle.paseto_pem.proofs.version.V3PemVersion.read_public.Goals as goal

pub returns-clause-form : goal.returns-clause-form
returns-clause-form c =
    IfOk-weaker c.read_public.result (λ key. IsPublicOf c.args.label c.args.contents.now key.items) (λ key. IsTrue (length key.items == 49 && is_compressed key.items))
    (λ key p. public-form c.args.label c.args.contents.now key.items p) c.read_public.ensures.found
