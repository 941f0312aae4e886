use Rattle.std.proofs.Common.{ℕ, ◌≡◌, ◌+◌, ◌*◌, ◌++◌, List, length, take, ap, ◌∙◌, arith}
use Rattle.std.proofs.lemmas.List.{length-take-le}
use Rattle.std.proofs.lemmas.Slice.{take-put_mid}
use Rattle.paseto_argon2.proofs.variable_hash.write_front.Goals as goal

pub returns : goal.returns
returns c =
    let k : ℕ = c.args.k in
    let size : length (take 32 c.args.link.now) ≡ 32 = length-take-le 32 c.args.link.now (omega arith) in
    let written = c.copy_from_slice.ensures.after in
    let long = ap length written ∙ size in
    take-put_mid (32 * k) _ c.args.output.now _ (32 * (k + 1)) (omega (arith, long)) (omega arith)
    ∙ ap (λ (ys : List ℕ). take (32 * k) c.args.output.now ++ ys) written
