use Rattle.rusty_paseto_paserk.proofs.RsaLaws.{private-read, public-read}
use Rattle.rusty_paseto_paserk.proofs.laws.rsa_keys_are_read.Goals as goal

pub returns : goal.returns
returns c = record { private = private-read; public = public-read }
