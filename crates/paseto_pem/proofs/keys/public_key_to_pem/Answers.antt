use Rattle.paseto_pem.specs.declared.label.Label.TheVariants.{PublicKey}
use Rattle.paseto_pem.proofs.KeyLaws.{written-key}
use Rattle.paseto_pem.proofs.keys.public_key_to_pem.Goals as goal

pub returns : goal.returns
returns g c =
    written-key g.V.PemVersion.is_public_written g.V.PemVersion.is_public_fault PublicKey c.args.key.now c.as_bytes.result.now c.deref.result.now c.in_ok-contents.contents.items
    c.write_text.result c.write_text.ensures.bytes c.in_ok-contents.ensures.ok c.deref.ensures.value c.as_bytes.ensures.bytes
    c.write_text.ensures.ok c.write_text.ensures.err
