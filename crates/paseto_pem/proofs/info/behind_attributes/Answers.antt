use Rattle.paseto_pem.proofs.InfoLaws.{behind-none, behind-some}
use Rattle.paseto_pem.proofs.info.behind_attributes.Goals as goal

pub returns-in-Some-clause-only : goal.returns-in-Some-clause-only
returns-in-Some-clause-only c own public are split =
    behind-some c.in-Some.attributes.contents.now c.in-Some.attributes.behind.now c.args.octets.now own public c.in-Some.ensures are split

pub returns-in-None-clause-only : goal.returns-in-None-clause-only
returns-in-None-clause-only c own public are split = behind-none c.args.octets.now own public c.in-None.ensures are split
