use Rattle.std.proofs.Common.{rules, ◌≡◌, ◌-◌, ◌/◌, ◌%◌, ◌^◌, if◌then◌else◌, slice_index, refl, arith}
use Rattle.rusty_paseto_primitives.specs.Blake2.Block.{work_vector}
use Rattle.rusty_paseto_primitives.proofs.blake2.lanes.work_vectors.Goals as goal

pub returns : goal.returns
unfolding work_vector
returns c values e =
    let flag : c.if-is_last.flag ≡ (if c.args.is_last then 2 ^ 64 - 1 else 0) = search rules in
    let first : slice_index c.args.offsets 0 % 2 ^ 64 ≡ slice_index c.args.offsets 0 = omega arith in
    let second : slice_index c.args.offsets 1 % 2 ^ 64 ≡ slice_index c.args.offsets 1 = omega arith in
    let first_high : slice_index c.args.offsets 0 / 2 ^ 64 ≡ 0 = omega arith in
    let second_high : slice_index c.args.offsets 1 / 2 ^ 64 ≡ 0 = omega arith in
    rw (e, flag, first, second, first_high, second_high) refl
