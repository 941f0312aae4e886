use Rattle.paseto_pem.proofs.RsaLaws.{public-size-answer}
use Rattle.paseto_pem.proofs.rsa.other_public_size.Goals as goal

pub returns : goal.returns
returns c =
    public-size-answer c.other_modulus.result c.in_ok-whole_element.field-0.now c.args.key.now c.in_ok-whole_element.ensures c.other_modulus.ensures
