use Rattle.std.proofs.Common.{ap₂, refl, ◌∙◌}
use Rattle.paseto_p384.specs.P384.{IsPrivate}
use Rattle.paseto_pem.specs.Info.{private_key_info}
use Rattle.paseto_pem.specs.P384.{IsPrivateForm}
use Rattle.paseto_pem.specs.declared.label.Label.TheVariants.{PrivateKey}
use Rattle.paseto_pem.proofs.WrittenKeys.{curve_private_is_read}
use Rattle.paseto_pem.proofs.p384.write_private.Goals as goal

pub write_ec-requires : goal.write_ec-requires
unfolding IsPrivate
write_ec-requires c = c.in-Some.ensures.0.0

pub returns : goal.returns
returns c =
    let contents = c.in_ok-write_private_info.field-0.items in
    let written = c.in_ok-write_private_info.ensures ∙ ap₂ private_key_info c.algorithm.ensures (c.deref.ensures.value ∙ c.in_ok-inner.ensures.0) in
    let form : IsPrivateForm PrivateKey contents c.args.key.now = record {
      is_private = refl;
      xy = c.in-Some.xy;
      point = c.in-Some.ensures;
      written = written;
    } in
    record { ok = (form, curve_private_is_read PrivateKey contents c.args.key.now form); refused = tt }
