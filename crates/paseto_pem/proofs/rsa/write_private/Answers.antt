use Rattle.std.proofs.Common.{refl}
use Rattle.paseto_pem.specs.Rsa.{IsPrivateForm}
use Rattle.paseto_pem.specs.declared.label.Label.TheVariants.{PrivateKey}
use Rattle.paseto_pem.proofs.WrittenKeys.{rsa_private_is_read}
use Rattle.paseto_pem.proofs.rsa.write_private.Goals as goal

pub returns : goal.returns
returns c =
    let contents = c.in_ok-from_slice.field-0.items in
    let form : IsPrivateForm PrivateKey contents c.args.key.now = record {
      is_private = refl;
      is_key = c.is_private_key.ensures.0 c.if-not-is_private_key.false;
      written = c.in_ok-from_slice.ensures.items;
    } in
    record { ok = (form, rsa_private_is_read PrivateKey contents c.args.key.now form); refused = tt }
