-- The payload of a sealed token, written piece by piece.
use Rattle.std.proofs.Common.{◌≡◌, ℕ, List, ◌++◌, length, take, drop, refl}
use Rattle.std.proofs.lemmas.List.{take_at, drop_at}
use Rattle.rusty_paseto_core.specs.Context.{Binding}
use Rattle.rusty_paseto_core.specs.Local.{Design}
use Rattle.rusty_paseto_core.specs.Local.Sealing.{sealed_payload, tag_of}

pub written_payload : (design : Design) (binding : Binding) (nonce text front ciphertext whole : List ℕ) → length nonce ≡ 32
    → front ≡ nonce ++ text
    → ciphertext ≡ take 32 front ++ design.apply_keystream binding.key nonce (drop 32 front)
    → whole ≡ ciphertext ++ tag_of design binding nonce (drop 32 ciphertext)
    → whole ≡ sealed_payload design binding nonce text
unfolding sealed_payload
written_payload design binding nonce text front ciphertext whole size ef em ew =
    let m : ciphertext ≡ nonce ++ design.apply_keystream binding.key nonce text =
    rw (em, ef, take_at nonce text 32 size, drop_at nonce text 32 size) refl in
    rw (ew, m, drop_at nonce (design.apply_keystream binding.key nonce text) 32 size) refl
