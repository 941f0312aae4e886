use Rattle.std.proofs.Common.{◌∙◌}
use Rattle.paseto_keys.proofs.Generated.{new_ed25519}
use Rattle.paseto_keys.proofs.generation.new_ed25519.Goals as goal

pub returns : goal.returns
returns g c =
    let bytes = c.as_bytes.ensures.bytes in
    new_ed25519 c.args.version c.in-Ok.private _ _ c.in-Ok.ensures.ok.0 c.as_bytes.ensures.len (c.in-Ok.ensures.ok.2 ∙ c.in-Ok.ensures.ok.1)
    c.private_key.result (rw bytes at c.private_key.ensures.ok) c.private_key.ensures.err
