use Rattle.std.proofs.Common.{◌≡◌, ◌∙◌, ℕ, ◌-◌, List, [], ap, arith}
use Rattle.rusty_paseto_primitives.specs.Pbkdf2.{block, mixed}
use Rattle.rusty_paseto_primitives.proofs.Pbkdf2Iterations.{more_mixed, more_output}
use Rattle.rusty_paseto_primitives.proofs.pbkdf2.block.Goals as goal

pub iterations-init : goal.iterations-init
unfolding mixed
iterations-init c = λ password held.
    let first = c.first_output-output.ensures password held in (first, first)

pub iterations-preserved : goal.iterations-preserved
iterations-preserved c = λ password held.
    let salt : List ℕ = c.args.salt.now in
    let number : ℕ = c.args.number in
    let done : ℕ = c.iterations._done in
    let before = c.iterations.invariant password held in
    let made = c.code_of-output.ensures password [] held ∙ more_output password salt number done c.iterations.output (omega arith) before.0 in
    (made, c.mix.ensures ∙ more_mixed password salt number done c.iterations.key c.code_of-output.result (omega arith) before.1 made)

pub returns : goal.returns
unfolding block
returns c = λ password held.
    let all : c.iterations._done - 1 ≡ c.args.iterations - 1 = omega arith in
    (c.iterations.invariant password held).1 ∙ ap (λ (n : ℕ). mixed password c.args.salt.now c.args.number n) all
