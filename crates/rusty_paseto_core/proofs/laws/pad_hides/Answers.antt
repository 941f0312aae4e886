use Rattle.rusty_paseto_core.proofs.KeystreamLaws.{pad_hides, v1_padded, v3_padded, v4_padded}
use Rattle.rusty_paseto_core.proofs.laws.pad_hides.Goals as goal

pub returns : goal.returns
returns c = record { v1 = v1_padded; v3 = v3_padded; v4 = v4_padded; hides = pad_hides }
