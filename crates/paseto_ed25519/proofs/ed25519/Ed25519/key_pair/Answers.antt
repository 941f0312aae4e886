use Rattle.std.proofs.Common.{◌≡◌, ℕ, List, ◌++◌, length, take, drop, sym, ◌∙◌, ap}
use Rattle.std.proofs.lemmas.List.{drop_at, take_at}
use Rattle.paseto_ed25519.specs.Ed25519.{ed25519_public}
use Rattle.paseto_ed25519.proofs.ed25519.Ed25519.key_pair.Goals as goal

front : (seed public : List ℕ) → length seed ≡ 32 → take 32 (seed ++ public) ≡ seed
front seed public e = take_at seed public 32 e

back : (seed public : List ℕ) → length seed ≡ 32 → drop 32 (seed ++ public) ≡ public
back seed public e = drop_at seed public 32 e

pub returns-clause-ok : goal.returns-clause-ok
returns-clause-ok g c =
    let seed = c.in_ok-seed.seed in
    let public = c.public_key-public.result in
    let whole = c.from.ensures ∙ c.joined.ensures ∙ ap (λ s. s ++ public) c.as_bytes-2.ensures.bytes in
    let first = ap (take 32) whole ∙ front seed public c.as_bytes-2.ensures.len in
    let second = ap (drop 32) whole ∙ back seed public c.as_bytes-2.ensures.len in
    let made = c.public_key-public.ensures ∙ ap ed25519_public c.as_bytes.ensures.bytes in
    (rw first c.in_ok-seed.ensures.given, c.from-2.ensures ∙ made ∙ ap ed25519_public (sym first), second ∙ sym c.from-2.ensures)
