use Rattle.std.proofs.Common.{ℕ, ◌+◌, ◌*◌, List, refl, arith}
use Rattle.paseto_argon2.proofs.Registers.{words_elsewhere}
use Rattle.paseto_argon2.proofs.block.row_at.Goals as goal

pub returns : goal.returns
returns c =
    let b : List ℕ = c.args.bytes.now in
    let i : ℕ = c.args.i in
    rw (
      words_elsewhere b _ (2 * (8 * i)) (16 * i + 0) (16 * i + 1) c.register_at.ensures (omega arith) (omega arith),
      words_elsewhere b _ (2 * (8 * i + 1)) (16 * i + 2) (16 * i + 3) c.register_at-2.ensures (omega arith) (omega arith),
      words_elsewhere b _ (2 * (8 * i + 2)) (16 * i + 4) (16 * i + 5) c.register_at-3.ensures (omega arith) (omega arith),
      words_elsewhere b _ (2 * (8 * i + 3)) (16 * i + 6) (16 * i + 7) c.register_at-4.ensures (omega arith) (omega arith),
      words_elsewhere b _ (2 * (8 * i + 4)) (16 * i + 8) (16 * i + 9) c.register_at-5.ensures (omega arith) (omega arith),
      words_elsewhere b _ (2 * (8 * i + 5)) (16 * i + 10) (16 * i + 11) c.register_at-6.ensures (omega arith) (omega arith),
      words_elsewhere b _ (2 * (8 * i + 6)) (16 * i + 12) (16 * i + 13) c.register_at-7.ensures (omega arith) (omega arith),
      words_elsewhere b _ (2 * (8 * i + 7)) (16 * i + 14) (16 * i + 15) c.register_at-8.ensures (omega arith) (omega arith),
    ) refl
