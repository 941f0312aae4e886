use Rattle.std.proofs.Common.{ℕ, List, slice_index}
use Rattle.rusty_paseto_primitives.specs.Blake2.Block.{compress, rounds, words, work_vector}
use Rattle.rusty_paseto_primitives.proofs.blake2.lanes.compress.Goals as goal

pub returns : goal.returns
unfolding compress rounds
returns c values blocks e em =
    let v : ℕ → List ℕ = λ j. work_vector (values j) (slice_index c.args.offsets j) c.args.is_last in
    let m : ℕ → List ℕ = λ j. words (blocks j) in
    let e0 = c.work_vectors-v.ensures values e in
    let e1 = c.round-v.ensures (λ j. rounds (v j) (m j) 0) m e0 em in
    let e2 = c.round-v-2.ensures (λ j. rounds (v j) (m j) 1) m e1 em in
    let e3 = c.round-v-3.ensures (λ j. rounds (v j) (m j) 2) m e2 em in
    let e4 = c.round-v-4.ensures (λ j. rounds (v j) (m j) 3) m e3 em in
    let e5 = c.round-v-5.ensures (λ j. rounds (v j) (m j) 4) m e4 em in
    let e6 = c.round-v-6.ensures (λ j. rounds (v j) (m j) 5) m e5 em in
    let e7 = c.round-v-7.ensures (λ j. rounds (v j) (m j) 6) m e6 em in
    let e8 = c.round-v-8.ensures (λ j. rounds (v j) (m j) 7) m e7 em in
    let e9 = c.round-v-9.ensures (λ j. rounds (v j) (m j) 8) m e8 em in
    let e10 = c.round-v-10.ensures (λ j. rounds (v j) (m j) 9) m e9 em in
    let e11 = c.round-v-11.ensures (λ j. rounds (v j) (m j) 10) m e10 em in
    let e12 = c.round-v-12.ensures (λ j. rounds (v j) (m j) 11) m e11 em in
    c.folded.ensures values (λ j. rounds (v j) (m j) 12) e e12
