use Rattle.std.proofs.Common.{ℕ, ◌-◌, ◌*◌, length, arith, refl}
use Rattle.rusty_paseto_parts.proofs.SixteenLemmas.{rest_read}
use Rattle.rusty_paseto_parts.proofs.section.read_into.Goals as goal

pub returns-in-Ok-clause-spelled : goal.returns-in-Ok-clause-spelled
returns-in-Ok-clause-spelled c =
    let n : ℕ = c.read_sixteens-count.result in
    rest_read c.args.text.now c.read_sixteens-count.new.bytes c.decode_slice_unchecked.new.output n c.in-Ok.len _ (length c.args.text.now - 16 * n)
    c.read_sixteens-count.ensures.spelled (omega arith) (omega (arith, c.in-Ok.ensures.ok.2)) (λ i. let f = c.type_inv.text i in omega arith) refl c.in-Ok.ensures.ok.0
