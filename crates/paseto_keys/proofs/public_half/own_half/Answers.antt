use Rattle.std.proofs.Common.{◌≡◌, List, ℕ, length, take, drop, ap, ◌∙◌}
use Rattle.paseto_ed25519.specs.Ed25519.{partner}
use Rattle.paseto_keys.proofs.HalfLaws.{rest_of}
use Rattle.paseto_keys.proofs.public_half.own_half.Goals as goal

pub returns-clause-ok : goal.returns-clause-ok
returns-clause-ok g c =
    let private = c.args.private.now in
    let size : length private ≡ 64 = c.as_bytes.ensures.len in
    let half : c.from_slice-half.result ≡ partner private =
    c.from_slice-half.ensures ∙ ap (λ (l : List ℕ). take 32 (drop 32 l)) c.as_bytes.ensures.bytes ∙ rest_of private size in
    (c.in-Ok.ensures.ok.1, c.in_ok-copy_of.ensures ∙ c.from.ensures ∙ half)
