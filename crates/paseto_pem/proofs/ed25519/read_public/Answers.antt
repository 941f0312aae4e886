use Rattle.std.proofs.Common.{length, inr, sym, ap, ◌∙◌}
use Rattle.paseto_pem.specs.Info.{public_key_info}
use Rattle.paseto_pem.specs.Ed25519.{IsPublicFault, IsPublicOf}
use Rattle.paseto_pem.specs.Algorithm.{ed25519}
use Rattle.paseto_pem.proofs.Ed25519Laws.{public-one, refused-public}
use Rattle.paseto_pem.proofs.KeyLaws.{refused-contents}
use Rattle.paseto_pem.proofs.ed25519.read_public.Goals as goal

pub returns-in_err-key : goal.returns-in_err-key
returns-in_err-key c =
    let error = c.in_err-key.field-0.0 in
    refused-contents IsPublicOf IsPublicFault c.args.label c.args.contents.now error c.from_residual.result c.from_residual.ensures.1
    (inr (inr (c.in-PublicKey.is, c.in_err-key.ensures.refused)))
    (λ key p. absurd (refused-public c.args.label c.args.contents.now key error c.in_err-key.ensures.refused p))

pub returns : goal.returns
returns c =
    let known = c.in_ok-key.ensures.found in
    let made = c.in_ok-from_slice.ensures.items in
    let written = known.1 ∙ ap (public_key_info ed25519) (sym made) in
    record {
      found = record { is_public = c.in-PublicKey.is; size = ap length made ∙ known.0; written = written };
      read = λ key p. public-one c.args.label c.args.contents.now c.in_ok-from_slice.field-0.items key written p;
      refused = tt;
    }
