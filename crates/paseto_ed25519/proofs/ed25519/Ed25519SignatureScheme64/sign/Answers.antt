use Rattle.std.proofs.Common.{sym, ◌∙◌, refl, subst}
use Rattle.paseto_ed25519.specs.Ed25519.{Ed25519Verifies, IsSigned, partner}
use Rattle.paseto_ed25519.proofs.SigningLaws.{IfOk_then, nonce-is, public-is, signed-is}
use Rattle.paseto_ed25519.proofs.ed25519.Ed25519SignatureScheme64.sign.Goals as goal

pub returns-clause-ok : goal.returns-clause-ok
returns-clause-ok c =
    let private = c.args.private.now in
    let message = c.args.message.now in
    let front = c.split_at.ensures.front in
    let scalar = c.expanded-secret.ensures.scalar in
    let prefix = c.expanded-secret.ensures.prefix in
    let own = sym (public-is private _ _ _ front scalar c.encoded_multiple.ensures) ∙ c.if-not-same_bytes.ensures.0 refl ∙ c.split_at.ensures.back in
    IfOk_then c.sign.result c.sign.ensures.ok (λ signature h.
    let made = signed-is private message _ _ _ _ signature front c.split_at.ensures.back scalar prefix h.1 in
    let signed : IsSigned private message = (own, (λ none. h.0 (nonce-is private message _ _ front prefix ∙ none))) in
    (subst (λ s. Ed25519Verifies (partner private) message s) (sym made) (c.signed_verifies.ensures private message signed), made))
