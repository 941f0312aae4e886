use Rattle.std.proofs.Common.{◌≡◌, ℕ, ◌-◌, List, sym, ◌∙◌, arith}
use Rattle.rusty_paseto_primitives.specs.Aes.Cipher.{cipher, rounds}
use Rattle.rusty_paseto_primitives.specs.Aes.KeySchedule.{round_key}
use Rattle.rusty_paseto_primitives.specs.Aes.Planes.{planes}
use Rattle.rusty_paseto_primitives.specs.Aes.State.{mix_columns, shift_rows, sub_bytes}
use Rattle.rusty_paseto_primitives.proofs.AesBlocks.{IsBytes-shift_rows, IsBytes-sub_bytes, rounds_more}
use Rattle.rusty_paseto_primitives.proofs.AesGroups.{IsBytes-rounds}
use Rattle.rusty_paseto_primitives.proofs.AesSteps.{planes-agree}
use Rattle.rusty_paseto_primitives.proofs.aes.group.encrypted.Goals as goal

pub rounds-init : goal.rounds-init
unfolding rounds
rounds-init c w s hw hs hk e = c.sum-state.ensures s (λ j. round_key w 0) e (hk 0 (omega arith))

pub rounds-preserved : goal.rounds-preserved
rounds-preserved c w s hw hs hk e =
    let n : ℕ = c.rounds.round in
    let before : ℕ → List ℕ = λ j. rounds w (s j) (n - 1) in
    let substituted = c.sub_bytes.ensures before (λ j. IsBytes-rounds w (s j) (n - 1) hw (hs j)) (c.rounds.invariant w s hw hs hk e) in
    let shifted = c.shift_rows.ensures (λ j. sub_bytes (before j)) substituted in
    let mixed = c.mix_columns.ensures (λ j. shift_rows (sub_bytes (before j)))
    (λ j. IsBytes-shift_rows (sub_bytes (before j)) (IsBytes-sub_bytes (before j))) shifted in
    c.sum-state-in-rounds.ensures (λ j. mix_columns (shift_rows (sub_bytes (before j)))) (λ j. round_key w n) mixed (hk n (omega arith))
    ∙ planes-agree _ _ (λ j. sym (rounds_more w (s j) n (omega arith)))

pub returns : goal.returns
unfolding cipher
returns c w s hw hs hk e =
    let all : c.rounds.round ≡ 14 = omega arith in
    let before : ℕ → List ℕ = λ j. rounds w (s j) 13 in
    let state : c.rounds.state ≡ planes before = rw all at c.rounds.invariant w s hw hs hk e in
    let substituted = c.sub_bytes-2.ensures before (λ j. IsBytes-rounds w (s j) 13 hw (hs j)) state in
    let shifted = c.shift_rows-2.ensures (λ j. sub_bytes (before j)) substituted in
    c.sum.ensures (λ j. shift_rows (sub_bytes (before j))) (λ j. round_key w 14) shifted (hk 14 (omega arith))
