use Rattle.std.proofs.Common.{refl, arith}
use Rattle.rusty_paseto_primitives.specs.Aes.State.{row_product}
use Rattle.rusty_paseto_primitives.proofs.AesBytes.{product_by_one, product_by_two, product_by_three}
use Rattle.rusty_paseto_primitives.proofs.aes.state.mixed_column.Goals as goal

pub returns-clause-row_0 : goal.returns-clause-row_0
unfolding row_product
returns-clause-row_0 c =
    rw (
      c.xtimes-double_0.ensures,
      c.xtimes-double_1.ensures,
      product_by_two c.args.a0 (omega arith),
      product_by_three c.args.a1 (omega arith),
      product_by_one c.args.a2 (omega arith),
      product_by_one c.args.a3 (omega arith),
    ) refl

pub returns-clause-row_1 : goal.returns-clause-row_1
unfolding row_product
returns-clause-row_1 c =
    rw (
      c.xtimes-double_1.ensures,
      c.xtimes-double_2.ensures,
      product_by_one c.args.a0 (omega arith),
      product_by_two c.args.a1 (omega arith),
      product_by_three c.args.a2 (omega arith),
      product_by_one c.args.a3 (omega arith),
    ) refl

pub returns-clause-row_2 : goal.returns-clause-row_2
unfolding row_product
returns-clause-row_2 c =
    rw (
      c.xtimes-double_2.ensures,
      c.xtimes-double_3.ensures,
      product_by_one c.args.a0 (omega arith),
      product_by_one c.args.a1 (omega arith),
      product_by_two c.args.a2 (omega arith),
      product_by_three c.args.a3 (omega arith),
    ) refl

pub returns-clause-row_3 : goal.returns-clause-row_3
unfolding row_product
returns-clause-row_3 c =
    rw (
      c.xtimes-double_0.ensures,
      c.xtimes-double_3.ensures,
      product_by_three c.args.a0 (omega arith),
      product_by_one c.args.a1 (omega arith),
      product_by_one c.args.a2 (omega arith),
      product_by_two c.args.a3 (omega arith),
    ) refl
