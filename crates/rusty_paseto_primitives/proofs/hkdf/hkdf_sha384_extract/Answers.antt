use Rattle.std.proofs.Common.{◌≡◌, ℕ, List, [], ◌∷◌, refl, ◌∙◌}
use Rattle.rusty_paseto_primitives.specs.Hkdf.{hkdf_extract}
use Rattle.rusty_paseto_primitives.specs.Hmac.{hmac, key_block}
use Rattle.rusty_paseto_primitives.proofs.hkdf.hkdf_sha384_extract.Goals as goal

-- the empty salt and 48 zeros have the same block
hmac-salt : (salt material : List ℕ) → hmac salt material ≡ hkdf_extract salt material
unfolding hkdf_extract hmac key_block
hmac-salt [] material = refl
hmac-salt (b ∷ salt) material = refl

pub returns : goal.returns
returns c = c.hmac_sha384.ensures ∙ hmac-salt c.args.salt.now c.args.material.now
