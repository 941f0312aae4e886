use Rattle.std.proofs.Common.{List, ℕ, sym, subst}
use Rattle.rusty_paseto_paserk.proofs.RsaLaws.{found-form, one-secret, refused-form}
use Rattle.rusty_paseto_paserk.specs.Rsa.{IsSecretForm}
use Rattle.rusty_paseto_paserk.specs.declared.header.PaserkType.TheVariants.{Secret}
use Rattle.rusty_paseto_paserk.proofs.rsa.rsa_private_key_from_paserk.Goals as goal

pub returns-in_err-private_key_of : goal.returns-in_err-private_key_of
returns-in_err-private_key_of c =
    refused-form Secret IsSecretForm c.args.text.now c.in_ok-octets.octets c.in_ok-octets.ensures c.from_residual-in_err-private_key_of.result
    c.in_err-private_key_of.field-0.0 c.from_residual-in_err-private_key_of.ensures.1 c.in_err-private_key_of.ensures.refused

pub returns-in-Ok : goal.returns-in-Ok
returns-in-Ok c =
    let octets = c.in_ok-octets.octets.items in
    let form = subst (λ (k : List ℕ). IsSecretForm octets k) (sym c.in-Ok.ensures.same) c.in_ok-private_key_of.ensures.found in
    found-form Secret IsSecretForm c.args.text.now c.in_ok-octets.octets c.in_ok-octets.ensures c.in-Ok.key
    (λ other is. one-secret octets c.in-Ok.key other form is) form
