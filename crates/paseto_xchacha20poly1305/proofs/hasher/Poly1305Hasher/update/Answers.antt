use Rattle.std.proofs.Common.{◌≡◌, ℕ, ◌-◌, ◌/◌, [], length, drop, arith, refl, length-drop}
use Rattle.std.proofs.lemmas.List.{drop_all, append-nil, take_at}
use borrow.Rule.Slice.PartMut.{post_of}
use Rattle.paseto_xchacha20poly1305.proofs.Hashing.{Holds-long, Holds-short}
use Rattle.paseto_xchacha20poly1305.proofs.hasher.Poly1305Hasher.update.Goals as goal

pub returns-then-data-room : goal.returns-then-data-room
returns-then-data-room c = λ key message held.
    Holds-short c.args.self.now _ key message c.args.data.now _ _ held (omega arith) (omega arith) c.copy_from_slice.ensures.after
    refl refl refl refl refl

pub returns : goal.returns
returns c = λ key message held.
    let s = c.args.self.now in
    let d = c.args.data.now in
    let rest = c.split_at.result.1.now in
    let room : ℕ = 16 - s.held in
    let q : ℕ = length rest / 16 in
    let tail = c.split_at-2.result.1.now in
    let none : post_of s.held room s.buffer ≡ [] = drop_all room (drop s.held s.buffer) (omega (arith, length-drop s.held s.buffer)) in
    Holds-long s _ key message d _ c.split_at-2.result.0.now tail room q _ held (omega arith) (omega arith)
    (rw (none, append-nil, c.copy_from_slice-2.ensures.after, c.split_at.ensures.front) refl)
    c.after_blocks-filled.ensures (omega (arith, c.split_at.ensures.back_len))
    (rw (← c.split_at.ensures.back) c.split_at-2.ensures.front) c.after_blocks-self.ensures
    (rw (← c.split_at.ensures.back) c.split_at-2.ensures.back) refl refl refl
    (rw c.zero_padded-self.ensures (take_at tail _ (length tail) refl))
