use Rattle.std.proofs.Common.{◌≡◌, List, ℕ, drop, length, take, sym, ◌∙◌, ap, ap₂, arith, length-drop}
use Rattle.sha2.specs.Sha512.{sha512}
use Rattle.paseto_x25519.specs.Agreement.{x25519}
use Rattle.paseto_wrapping.specs.declared.family.Family.TheVariants.{Sodium}
use Rattle.paseto_wrapping.specs.Sealing.{IsOpener, own_secret}
use Rattle.paseto_wrapping.proofs.Sealings.{open_cut, open_length, open_unshared}
use Rattle.paseto_wrapping.proofs.sealing.x25519.open.Goals as goal

pub returns-then-payload-ne-SEALED_LENGTH : goal.returns-then-payload-ne-SEALED_LENGTH
returns-then-payload-ne-SEALED_LENGTH c =
    open_length Sodium c.args.version c.requires c.args.private.now c.args.payload.now c.if-payload-ne-SEALED_LENGTH.true

pub returns-in_default-shared_secret : goal.returns-in_default-shared_secret
returns-in_default-shared_secret c =
    let private : List ℕ = c.args.private.now in
    let half : length (drop 32 private) ≡ 32 = omega (arith, length-drop 32 private, c.if-private-ne-PRIVATE_LENGTH.false) in
    let own = rw (c.array_of.ensures, c.split_at-3.ensures.back) at c.in-Ok.ensures.ok in
    let opener : IsOpener Sodium private = (c.if-private-ne-PRIVATE_LENGTH.false, (half, own.1), own.2) in
    let secret : c.secret_from_ed25519-secret.result ≡ own_secret Sodium private =
    c.secret_from_ed25519-secret.ensures ∙ ap (λ (s : List ℕ). take 32 (sha512 s)) (c.array_of-2.ensures ∙ c.split_at-3.ensures.front) in
    let epk = c.array_of-3.ensures ∙ rw c.split_at.ensures.back at c.split_at-2.ensures.front in
    let none = ap (λ (s : List ℕ). x25519 s c.array_of-3.result) (sym secret) ∙ c.in_default-shared_secret.ensures.err.1 in
    open_unshared Sodium c.args.version c.requires private c.args.payload.now _ epk c.if-payload-ne-SEALED_LENGTH.false opener tt
    (λ xk h. h.1 (h.0 ∙ none))

pub returns : goal.returns
returns c =
    let private : List ℕ = c.args.private.now in
    let half : length (drop 32 private) ≡ 32 = omega (arith, length-drop 32 private, c.if-private-ne-PRIVATE_LENGTH.false) in
    let own = rw (c.array_of.ensures, c.split_at-3.ensures.back) at c.in-Ok.ensures.ok in
    let opener : IsOpener Sodium private = (c.if-private-ne-PRIVATE_LENGTH.false, (half, own.1), own.2) in
    let secret : c.secret_from_ed25519-secret.result ≡ own_secret Sodium private =
    c.secret_from_ed25519-secret.ensures ∙ ap (λ (s : List ℕ). take 32 (sha512 s)) (c.array_of-2.ensures ∙ c.split_at-3.ensures.front) in
    let back = c.split_at.ensures.back in
    let epk = rw back at c.split_at-2.ensures.front in
    let body = rw back at c.split_at-2.ensures.back in
    let xk = c.in-Ok-shared_secret.ensures.ok.0 ∙ ap₂ (λ (s p : List ℕ). x25519 s p) secret c.array_of-3.ensures in
    open_cut Sodium c.args.version c.requires private c.args.payload.now _ _ _ _ _ (λ i. omega (arith, c.type_inv.payload i))
    c.if-payload-ne-SEALED_LENGTH.false opener (sym c.split_at.ensures.front) (sym epk) (sym body) own.0 (xk, c.in-Ok-shared_secret.ensures.ok.1)
    c.opened.result c.opened.ensures.ok c.opened.ensures.err
