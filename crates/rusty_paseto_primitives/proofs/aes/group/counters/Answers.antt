use Rattle.std.proofs.Common.{◌≡◌, ◌+◌, ◌%◌, ◌^◌, refl, arith}
use Rattle.rusty_paseto_primitives.proofs.aes.group.counters.Goals as goal

pub returns : goal.returns
returns c =
    let first : (c.args.start + 0) % 2 ^ 128 ≡ c.args.start = omega arith in
    rw (
      c.counter.ensures,
      c.counter-2.ensures,
      c.counter-3.ensures,
      c.counter-4.ensures,
      c.counter-5.ensures,
      c.counter-6.ensures,
      c.counter-7.ensures,
      c.counter-8.ensures,
      first,
    ) refl
