use Rattle.std.proofs.Common.{◌∙◌}
use Rattle.rusty_paseto_primitives.specs.Blake2.Block.{rounds, words}
use Rattle.rusty_paseto_primitives.proofs.Blake2Rows.{state_words-rounds}
use Rattle.rusty_paseto_primitives.proofs.blake2.rows.twelve_rounds.Goals as goal

pub returns : goal.returns
unfolding rounds
returns c =
    let v = c.args.v in
    let m = words c.args.block.now in
    let em = c.pairs_of-m.ensures in
    let e0 = c.columns_of-v.ensures in
    let e1 = c.round-v.ensures (rounds v m 0) m e0 em in
    let e2 = c.round-v-2.ensures (rounds v m 1) m e1 em in
    let e3 = c.round-v-3.ensures (rounds v m 2) m e2 em in
    let e4 = c.round-v-4.ensures (rounds v m 3) m e3 em in
    let e5 = c.round-v-5.ensures (rounds v m 4) m e4 em in
    let e6 = c.round-v-6.ensures (rounds v m 5) m e5 em in
    let e7 = c.round-v-7.ensures (rounds v m 6) m e6 em in
    let e8 = c.round-v-8.ensures (rounds v m 7) m e7 em in
    let e9 = c.round-v-9.ensures (rounds v m 8) m e8 em in
    let e10 = c.round-v-10.ensures (rounds v m 9) m e9 em in
    let e11 = c.round-v-11.ensures (rounds v m 10) m e10 em in
    let e12 = c.round-v-12.ensures (rounds v m 11) m e11 em in
    c.words_of.ensures (rounds v m 12) e12 ∙ state_words-rounds v m 11
