use Rattle.std.proofs.Common.{◌≡◌, ℕ, ◌+◌, ◌/◌, ◌%◌, ◌^◌, length, ap, ap₂, ◌∙◌, arith}
use Rattle.std.specs.Int.{w128, to_le_bytes}
use Rattle.paseto_xchacha20poly1305.specs.Hasher.{Holds}
use Rattle.paseto_xchacha20poly1305.specs.Limbs.{value}
use Rattle.paseto_xchacha20poly1305.specs.Tag.{absorbed, clamped, poly1305, prime}
use Rattle.paseto_xchacha20poly1305.proofs.Hashing.{absorbed-short, absorbed-whole}
use Rattle.paseto_xchacha20poly1305.proofs.hasher.Poly1305Hasher.finalize.Goals as goal
use Rattle.paseto_xchacha20poly1305.proofs.hasher.Poly1305Hasher.finalize.Goals.{then-self-eq0, else-self-eq0}

pub returns : goal.returns
unfolding Holds poly1305
returns c = λ key message held.
    let number : value c.if-self-eq0.last % prime ≡ absorbed (clamped key) 0 message ((length message + 15) / 16) =
    elim c.if-self-eq0.branch [
      | then-self-eq0 w ↦ rw w.last-is (absorbed-whole c.args.self key message held (omega arith))
      | else-self-eq0 w ↦ rw w.last-is
          (absorbed-short c.args.self key message _ held (λ e. omega arith) w.after_short_block-last.ensures)
    ] in
    c.to_le_bytes.ensures ∙ ap (to_le_bytes w128)
    (c.finished.ensures ∙ ap₂ (λ (n s : ℕ). (n + s) % 2 ^ 128) number held.1)
