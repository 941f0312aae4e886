use Rattle.std.proofs.Common.{◌≡◌, ◌≢◌, ℕ, ◌<◌, length, get_or, take, sym, ◌∙◌, ap, below_more, arith}
use Rattle.std.specs.Prelude.{bit_xor}
use Rattle.std.proofs.lemmas.List.{ext_get_or, get_or-set_other, get_or-set_same, get_or-take, length-set, length-take-le}
use Rattle.paseto_rsa.specs.Mask.{xor_octets}
use Rattle.paseto_rsa.proofs.MaskLaws.{get_or-xor, length-xor}
use Rattle.paseto_rsa.proofs.mask.mixed.Goals as goal

pub octets-preserved : goal.octets-preserved
octets-preserved c =
    let i : ℕ = c.octets.i in
    let before = c.octets.invariant in
    let within : i < length c.octets.octets = omega (arith, before.size) in
    record {
      size = length-set c.octets.octets i _ ∙ before.size;
      done =
          below_more _ _
          (λ k h. let other : k ≢ i = omega arith in get_or-set_other c.octets.octets i k _ 0 other ∙ before.done k h)
          (get_or-set_same c.octets.octets i _ 0 within);
    }

pub returns : goal.returns
returns c =
    let block = c.args.block.now in
    let mask = take 207 c.args.mask.now in
    let size = c.octets.invariant.size in
    let short : length mask ≡ 207 = length-take-le 207 c.args.mask.now (omega arith) in
    let same : length block ≡ length mask = omega arith in
    ext_get_or 0 c.octets.octets (xor_octets block mask) (size ∙ sym (length-xor block mask same ∙ c.requires.size))
    (λ k h.
    let within : k < 207 = omega (arith, size) in
    c.octets.invariant.done k (omega arith)
    ∙ ap (bit_xor (get_or block k 0)) (sym (get_or-take 207 c.args.mask.now k 0 within))
    ∙ sym (get_or-xor block mask k same (omega arith)))
