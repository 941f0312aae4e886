use Rattle.paseto_p384.proofs.TableLaws.{table-read}
use Rattle.paseto_p384.proofs.point.table.entry.Goals as goal

pub returns : goal.returns
returns c = table-read c.args.row c.args.at c.requires.row c.requires.some c.requires.at _ _
