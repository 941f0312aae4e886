use Rattle.std.proofs.Common.{◌≡◌, ℕ, ◌-◌, ◌/◌, [], length, drop, arith, refl, length-drop}
use Rattle.std.proofs.lemmas.List.{drop_all, append-nil, take_at}
use borrow.Rule.Slice.PartMut.{post_of}
use Rattle.rusty_paseto_primitives.proofs.Blake2Hashers.{Holds_long, Holds_short}
use Rattle.rusty_paseto_primitives.proofs.blake2.hasher.Blake2b.update.Goals as goal

pub returns-then-data-room-clause-message : goal.returns-then-data-room-clause-message
returns-then-data-room-clause-message c = λ key n message held.
    Holds_short c.args.self.now _ key message c.args.data.now _ n _ _ held (omega arith) refl (omega arith) c.copy_from_slice.ensures.after refl refl refl refl

pub returns-clause-message : goal.returns-clause-message
returns-clause-message c = λ key n message held.
    let s = c.args.self.now in
    let d = c.args.data.now in
    let rest = c.split_at.result.1.now in
    let room : ℕ = 128 - s.held in
    let q : ℕ = (length rest - 1) / 128 in
    let tail = c.split_at-2.result.1.now in
    let none : post_of s.held room s.buffer ≡ [] = drop_all room (drop s.held s.buffer) (omega (arith, length-drop s.held s.buffer)) in
    Holds_long s _ key message d _ c.split_at-2.result.0.now tail n room q c.take_blocks.new.self held (omega arith) (omega arith)
    (rw (none, append-nil, c.copy_from_slice-2.ensures.after, c.split_at.ensures.front) refl) c.take_blocks.ensures
    (omega (arith, c.split_at.ensures.back_len)) (rw (← c.split_at.ensures.back) c.split_at-2.ensures.front) c.take_blocks-2.ensures
    (rw (← c.split_at.ensures.back) c.split_at-2.ensures.back) refl refl
    (rw c.zero_padded-self.ensures (take_at tail _ (length tail) refl))
