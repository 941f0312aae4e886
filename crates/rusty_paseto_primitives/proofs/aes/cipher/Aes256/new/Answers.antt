use Rattle.rusty_paseto_primitives.specs.Aes.Cipher.{IsKeyed}
use Rattle.rusty_paseto_primitives.proofs.aes.cipher.Aes256.new.Goals as goal

pub returns : goal.returns
unfolding IsKeyed
returns c = c.key_expansion.ensures
