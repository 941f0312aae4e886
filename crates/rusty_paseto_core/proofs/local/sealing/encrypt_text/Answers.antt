use Rattle.std.proofs.Common.{◌≡◌, [], ℕ, List, length, drop, ◌-◌, refl, arith, length-drop}
use Rattle.std.proofs.lemmas.List.{append-nil, drop_all, take_rest}
use borrow.Rule.Slice.PartMut.{post_of}
use Rattle.rusty_paseto_core.proofs.local.sealing.encrypt_text.Goals as goal

pub returns : goal.returns
returns g c key nonce split =
    let payload : List ℕ = c.args.payload.now in
    let rest : post_of 32 (length payload - 32) payload ≡ [] =
    drop_all (length payload - 32) (drop 32 payload) (omega (arith, length-drop 32 payload)) in
    rw (rest, append-nil, c.apply_keystream.ensures key nonce split, take_rest payload 32) refl
