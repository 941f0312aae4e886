use Rattle.std.proofs.Common.{[], ◌∙◌, refl}
use Rattle.paseto_argon2.specs.Derivation.{seed}
use Rattle.paseto_argon2.proofs.derivation.seed.Goals as goal

pub returns : goal.returns
unfolding seed
returns c =
    let h0 = c.new-hasher.ensures.message in
    let h1 = c.update.ensures.message [] _ [] h0 in
    let h2 = c.update-2.ensures.message [] _ _ h1 in
    let h3 = c.update-3.ensures.message [] _ _ h2 in
    let h4 = c.update-4.ensures.message [] _ _ h3 in
    let h5 = c.update-5.ensures.message [] _ _ h4 in
    let h6 = c.update-6.ensures.message [] _ _ h5 in
    let h7 = c.update_with_length.ensures.message _ h6 in
    let h8 = c.update_with_length-2.ensures.message _ h7 in
    let h9 = c.update_with_length-3.ensures.message _ h8 in
    let h10 = c.update_with_length-4.ensures.message _ h9 in
    c.finalize_into.ensures [] _ _ h10
    ∙ rw (
      c.to_le_bytes.ensures,
      c.to_le_bytes-2.ensures,
      c.to_le_bytes-3.ensures,
      c.to_le_bytes-4.ensures,
      c.to_le_bytes-5.ensures,
      c.to_le_bytes-6.ensures,
    ) refl
