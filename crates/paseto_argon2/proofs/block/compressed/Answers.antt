use Rattle.std.proofs.Common.{List, ℕ}
use Rattle.paseto_argon2.specs.Block.{columns_permuted, compressed, rows_permuted, transposed, xored}
use Rattle.paseto_argon2.proofs.block.compressed.Goals as goal

pub returns : goal.returns
unfolding compressed columns_permuted
returns c a b ea eb =
    let r : List ℕ = xored a b in
    let q : List ℕ = rows_permuted r in
    let er = c.xored-r.ensures a b ea eb in
    let ez = c.columns_permuted-columns.ensures q (c.rows_permuted.ensures r er) in
    c.xored.ensures (transposed (rows_permuted (transposed q))) r (c.transposed.ensures (rows_permuted (transposed q)) ez) er
