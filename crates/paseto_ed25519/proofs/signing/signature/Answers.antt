use Rattle.std.proofs.Common.{◌+◌, ◌*◌, ◌%◌, ◌++◌, ℕ, ◌∙◌, ap, ap₂}
use Rattle.paseto_edwards_laws.specs.Edwards25519.{base, order}
use Rattle.paseto_ed25519.specs.Ed25519.{challenge, signed}
use Rattle.paseto_edwards25519.specs.Curve.{multiple}
use Rattle.paseto_edwards25519.specs.Encoding.{encoded}
use Rattle.paseto_edwards25519.specs.Residue.{residue}
use Rattle.paseto_edwards25519.specs.Scalar.{bytes32, number32}
use Rattle.paseto_ed25519.proofs.signing.signature.Goals as goal

pub returns : goal.returns
unfolding signed
returns c =
    let r : ℕ = residue c.args.r in
    let n : ℕ = number32 c.args.scalar.now in
    let commitment = c.encoded_multiple-commitment.ensures ∙ ap (λ m. encoded (multiple m base)) c.to_bytes.ensures.number in
    let challenged = c.challenge-k.ensures ∙ ap (λ b. challenge b c.args.public.now c.args.message.now) commitment in
    let response = c.to_bytes-2.ensures.value ∙ ap (λ m. bytes32 m) (c.multiply_add.ensures ∙ ap (λ k. (r + k * n) % order) challenged) in
    c.joined.ensures ∙ ap₂ (λ a b. a ++ b) commitment response
