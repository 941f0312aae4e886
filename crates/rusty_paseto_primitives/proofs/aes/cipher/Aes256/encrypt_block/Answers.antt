use Rattle.std.proofs.Common.{◌≡◌, ◌-◌, ℕ, List, ap, sym, ◌∙◌, arith}
use Rattle.rusty_paseto_primitives.specs.Aes.Cipher.{IsKeyed, aes256, cipher, rounds}
use Rattle.rusty_paseto_primitives.specs.Aes.KeySchedule.{round_key}
use Rattle.rusty_paseto_primitives.specs.Aes.State.{add_round_key, mix_columns, shift_rows, sub_bytes}
use Rattle.rusty_paseto_primitives.proofs.AesBlocks.{rounds_more}
use Rattle.rusty_paseto_primitives.proofs.aes.cipher.Aes256.encrypt_block.Goals as goal

pub rounds-init : goal.rounds-init
unfolding rounds
rounds-init c = c.with_round_key-state.ensures

pub rounds-preserved : goal.rounds-preserved
rounds-preserved c =
    let w : List ℕ = c.args.self.now.schedule in
    let substituted = c.sub_bytes.ensures ∙ ap sub_bytes c.rounds.invariant in
    let shifted = c.shift_rows.ensures ∙ ap shift_rows substituted in
    let mixed = c.mix_columns-mixed.ensures ∙ ap mix_columns shifted in
    c.with_round_key-state-in-rounds.ensures ∙ ap (λ s. add_round_key s (round_key w c.rounds.round)) mixed
    ∙ sym (rounds_more w c.args.block.now c.rounds.round (omega arith))

pub returns : goal.returns
unfolding IsKeyed aes256 cipher
returns c = λ key keyed.
    let w : List ℕ = c.args.self.now.schedule in
    let block : List ℕ = c.args.block.now in
    let all : c.rounds.round ≡ 14 = omega arith in
    let state = c.rounds.invariant ∙ ap (λ n. rounds w block (n - 1)) all in
    let shifted = c.shift_rows-2.ensures ∙ ap shift_rows (c.sub_bytes-2.ensures ∙ ap sub_bytes state) in
    c.with_round_key.ensures ∙ ap (λ s. add_round_key s (round_key w 14)) shifted ∙ ap (λ v. cipher v block) keyed
