use Rattle.rusty_paseto_primitives.proofs.LaneBytes.{bytes_of_lanes}
use Rattle.rusty_paseto_primitives.proofs.chacha.lanes.bytes_of.Goals as goal

pub returns : goal.returns
returns c len fits = bytes_of_lanes c.args.words len fits
