use Rattle.rusty_paseto_paserk.specs.declared.header.PaserkVersion.TheVariants.{V1, V2, V3, V4}
use Rattle.paseto_key_files.proofs.OpeningLaws.{opens_by_key}
use Rattle.paseto_key_files.proofs.wrapping.private_by_key.Goals as goal

pub returns-in-V1 : goal.returns-in-V1
returns-in-V1 c = rw c.in-V1.is (opens_by_key V1 c.args.openers.now c.args.text.now c.private_with.result c.in-Some.opener c.in-Some.is c.private_with.ensures)

pub returns-in-V2 : goal.returns-in-V2
returns-in-V2 c = rw c.in-V2.is (opens_by_key V2 c.args.openers.now c.args.text.now c.private_with-in-V2.result c.in-Some.opener c.in-Some.is c.private_with-in-V2.ensures)

pub returns-in-V3 : goal.returns-in-V3
returns-in-V3 c = rw c.in-V3.is (opens_by_key V3 c.args.openers.now c.args.text.now c.private_with-in-V3.result c.in-Some.opener c.in-Some.is c.private_with-in-V3.ensures)

pub returns-in-V4 : goal.returns-in-V4
returns-in-V4 c = rw c.in-V4.is (opens_by_key V4 c.args.openers.now c.args.text.now c.private_with-in-V4.result c.in-Some.opener c.in-Some.is c.private_with-in-V4.ensures)
