use Rattle.std.proofs.Common.{◌≡◌, ℕ, ◌+◌, ◌-◌, ◌*◌, ◌++◌, List, length, take, refl, sym, ◌∙◌, ap, ap₂, subst, add-one, rules, arith}
use Rattle.std.proofs.lemmas.List.{take_all}
use Rattle.std.proofs.lemmas.Slice.{overwrites, take-put_mid}
use Rattle.paseto_rsa.specs.Mask.{mgf1_blocks}
use Rattle.paseto_rsa.proofs.MaskLaws.{blocks-more, blocks-none}
use Rattle.paseto_rsa.proofs.mask.joined_digests.Goals as goal

pub digests-init : goal.digests-init
digests-init c = record { size = refl; joined = sym (blocks-none c.args.seed.now) }

pub digests-preserved : goal.digests-preserved
digests-preserved c =
    let i : ℕ = c.digests.i in
    let size : length c.copy_from_slice.new.self ≡ 48 = search rules in
    record {
      size = search (rules, overwrites);
      joined =
          take-put_mid (48 * i) (48 * i + 48 - 48 * i) c.digests.octets c.copy_from_slice.new.self (48 * (i + 1)) (omega (arith, size)) (omega (arith, c.digests.invariant.size))
          ∙ ap₂ (λ (a b : List ℕ). a ++ b) c.digests.invariant.joined (c.copy_from_slice.ensures.after ∙ c.block.ensures)
          ∙ sym (ap (mgf1_blocks c.args.seed.now) (add-one i) ∙ blocks-more c.args.seed.now i);
    }

pub returns : goal.returns
returns c =
    let all : c.digests.i ≡ 5 = omega arith in
    sym (take_all 240 c.digests.octets (omega (arith, c.digests.invariant.size)))
    ∙ subst (λ (i : ℕ). take (48 * i) c.digests.octets ≡ mgf1_blocks c.args.seed.now i) all c.digests.invariant.joined
