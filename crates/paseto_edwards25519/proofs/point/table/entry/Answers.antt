use Rattle.paseto_edwards25519.proofs.TableLaws.{table-read}
use Rattle.paseto_edwards25519.proofs.point.table.entry.Goals as goal

pub returns : goal.returns
returns c = table-read c.args.row c.args.at c.requires.row c.requires.at _ _
