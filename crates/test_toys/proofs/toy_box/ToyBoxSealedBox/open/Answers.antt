use Rattle.std.proofs.Common.{List, ℕ, sym, ap, ◌∙◌, arith}
use Rattle.test_toys.specs.ToyBox.{toy_tag}
use Rattle.test_toys.proofs.ToyOpening.{too_short, too_long, other_tag, own_tag, alike, apart}
use Rattle.test_toys.proofs.toy_box.ToyBoxSealedBox.open.Goals as goal
use Rattle.test_toys.proofs.toy_box.ToyBoxSealedBox.open.Goals.{then-boxed-lt-TAG_LENGTH-via-then-boxed-lt-TAG_LENGTH, then-boxed-lt-TAG_LENGTH-via-else-boxed-lt-TAG_LENGTH+then-boxed}

pub returns-then-boxed-lt-TAG_LENGTH : goal.returns-then-boxed-lt-TAG_LENGTH
returns-then-boxed-lt-TAG_LENGTH c =
    elim c.then-boxed-lt-TAG_LENGTH.branch [
      | then-boxed-lt-TAG_LENGTH-via-then-boxed-lt-TAG_LENGTH w ↦
          too_short c.args.key.now c.args.nonce.now c.args.data.now c.args.boxed.now (omega arith)
      | then-boxed-lt-TAG_LENGTH-via-else-boxed-lt-TAG_LENGTH+then-boxed w ↦
          too_long c.args.key.now c.args.nonce.now c.args.data.now c.args.boxed.now (omega arith)
    ]

pub returns-then-ne : goal.returns-then-ne
returns-then-ne c =
    let own = c.as_slice.ensures ∙ c.in_ok-own.ensures
    ∙ ap (λ (m : List ℕ). toy_tag c.args.key.now c.args.nonce.now c.args.data.now m) c.split_at.ensures.front in
    other_tag c.args.key.now c.args.nonce.now c.args.data.now c.args.boxed.now
    (λ same. apart c.ne.result _ _ c.ne.ensures c.if-ne.true (own ∙ same ∙ sym c.split_at.ensures.back))

pub returns : goal.returns
returns c =
    let own = c.as_slice.ensures ∙ c.in_ok-own.ensures
    ∙ ap (λ (m : List ℕ). toy_tag c.args.key.now c.args.nonce.now c.args.data.now m) c.split_at.ensures.front in
    let found = alike c.ne.result _ _ c.ne.ensures c.if-ne.false in
    let message = c.in_ok-to_vec.ensures.items_if_clones_equal (λ x y same. same) ∙ c.split_at.ensures.front in
    rw message
    (own_tag c.args.key.now c.args.nonce.now c.args.data.now c.args.boxed.now (omega arith) (omega arith)
    (λ i. let fits = c.type_inv.boxed i in omega arith) (sym own ∙ found ∙ c.split_at.ensures.back))
