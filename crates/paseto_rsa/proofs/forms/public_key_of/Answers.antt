use Rattle.std.proofs.Common.{sym, ◌∙◌, subst, arith}
use Rattle.rusty_paseto_primitives.specs.Bytes.{IsBytes}
use Rattle.paseto_rsa.specs.Forms.{IsPublic}
use Rattle.paseto_rsa.specs.PrivateKey.{private_numbers}
use Rattle.paseto_rsa.proofs.PublicLaws.{rsa_public-is, rsa_public-public}
use Rattle.paseto_rsa.proofs.forms.public_key_of.Goals as goal

pub returns : goal.returns
returns c =
    let found = c.in_ok-private.ensures in
    let k = private_numbers c.in_ok-private.private found.0 in
    let key = c.args.key.now in
    let bytes : IsBytes key = λ i. omega (arith, c.type_inv.key i) in
    let range = found.1.0.public in
    let is = c.write_public.ensures ∙ sym (rsa_public-is k key bytes range found.1.1) in (
      record { numbers = k; in_range = found.1.0; read = found.1.1 },
      subst IsPublic (sym is) (rsa_public-public k key bytes range found.1.1),
      is,
    )
