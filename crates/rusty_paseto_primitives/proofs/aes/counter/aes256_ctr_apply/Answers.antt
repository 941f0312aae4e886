use Rattle.std.proofs.Common.{rules, ◌/◌, List, ℕ, length, refl}
use Rattle.rusty_paseto_primitives.specs.Bytes.{IsBytes}
use Rattle.rusty_paseto_primitives.proofs.AesBlocks.{IsBytes-key_expansion}
use Rattle.rusty_paseto_primitives.proofs.AesStream.{xored_by_groups}
use Rattle.rusty_paseto_primitives.proofs.aes.counter.aes256_ctr_apply.Goals as goal

pub returns : goal.returns
returns c =
    let w : List ℕ = c.key_expansion.result in
    let bytes : IsBytes c.args.key.now = λ i. search rules in
    let hw : IsBytes w = rw c.key_expansion.ensures (IsBytes-key_expansion c.args.key.now bytes) in
    xored_by_groups c.args.key.now c.args.counter.now w c.args.data.now c.apply_groups.new.data c.apply_rest.new.data
    c.from_be_bytes-start.result (length c.args.data.now / 128) c.key_expansion.ensures c.from_be_bytes-start.ensures refl
    (c.apply_groups.ensures w hw c.round_keys-keys.ensures) (c.apply_rest.ensures w hw c.round_keys-keys.ensures)
