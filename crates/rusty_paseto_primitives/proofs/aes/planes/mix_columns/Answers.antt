use Rattle.std.proofs.Common.{ℕ, List, ◌∙◌}
use Rattle.rusty_paseto_primitives.specs.Aes.Planes.{doubled, turned}
use Rattle.rusty_paseto_primitives.specs.Aes.State.{add_round_key, mix_columns}
use Rattle.rusty_paseto_primitives.proofs.AesMixColumns.{IsBytes-both, mix_columns-is}
use Rattle.rusty_paseto_primitives.proofs.AesSteps.{planes-agree}
use Rattle.rusty_paseto_primitives.proofs.aes.planes.mix_columns.Goals as goal

pub returns : goal.returns
returns c s bytes e =
    let next : ℕ → List ℕ = λ j. turned 1 (s j) in
    let both : ℕ → List ℕ = λ j. add_round_key (s j) (next j) in
    let en = c.turned_one-next.ensures s e in
    let eb = c.sum-both.ensures s next e en in
    let ed = c.sum.ensures (λ j. doubled (both j)) next (c.doubled.ensures both (λ j. IsBytes-both (s j) (bytes j)) eb) en in
    c.sum-2.ensures (λ j. add_round_key (doubled (both j)) (next j)) (λ j. turned 2 (both j)) ed (c.turned_two.ensures both eb)
    ∙ planes-agree (λ j. add_round_key (add_round_key (doubled (both j)) (next j)) (turned 2 (both j))) (λ j. mix_columns (s j))
    (λ j. mix_columns-is (s j) (bytes j))
