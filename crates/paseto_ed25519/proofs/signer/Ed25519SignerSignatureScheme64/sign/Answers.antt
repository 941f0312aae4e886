use Rattle.std.proofs.Common.{sym, ◌∙◌, ap, drop, refl, subst, take}
use Rattle.paseto_ed25519.specs.Ed25519.{Ed25519Verifies, IsOwn, IsSigned, partner}
use Rattle.paseto_ed25519.proofs.SigningLaws.{IfOk_then, nonce-is, signed-is}
use Rattle.paseto_ed25519.proofs.signer.Ed25519SignerSignatureScheme64.sign.Goals as goal

pub returns-clause-ok : goal.returns-clause-ok
returns-clause-ok c =
    let private = c.args.private.now in
    let message = c.args.message.now in
    let same = c.if-not-same_bytes.ensures.0 refl in
    let kept = c.as_bytes-own.ensures.bytes in
    let front = c.split_at.ensures.front ∙ ap (λ b. take 32 b) (sym same) in
    let back = c.split_at.ensures.back ∙ ap (λ b. drop 32 b) (sym same) in
    let own = subst (λ b. IsOwn b) (sym (same ∙ kept)) c.self.invariant in
    IfOk_then c.sign-2.result c.sign-2.ensures.ok (λ signature h.
    let made = signed-is private message _ _ _ _ signature front back c.expanded.ensures.scalar c.expanded.ensures.prefix h.1 in
    let signed : IsSigned private message = (own, (λ none. h.0 (nonce-is private message _ _ front c.expanded.ensures.prefix ∙ none))) in (
      subst (λ s. Ed25519Verifies (partner private) message s) (sym made) (c.signed_verifies.ensures private message signed),
      made,
    ))
