use Rattle.std.proofs.Common.{◌≡◌, ℕ, suc, ◌+◌, ◌-◌, ◌*◌, List, [], ◌∷◌, ◌++◌, length, ap, ◌∙◌, arith, refl}
use Rattle.rusty_paseto_primitives.specs.Hkdf.{expansion_block, hkdf_expand}
use Rattle.rusty_paseto_primitives.specs.Hmac.{hmac}
use Rattle.rusty_paseto_primitives.proofs.HkdfLengths.{length-expansion_block}
use Rattle.rusty_paseto_primitives.proofs.JoinedBlocks.{filled_all, filled_more, filled_none, previous_block}
use Rattle.rusty_paseto_primitives.proofs.hkdf.hkdf_sha384_expand.Goals as goal

pub fill-init : goal.fill-init
fill-init c = filled_none (expansion_block c.args.prk.now c.args.info.now) c.args.out.now

pub fill-preserved : goal.fill-preserved
unfolding expansion_block
fill-preserved c =
    let prk : List ℕ = c.args.prk.now in
    let info : List ℕ = c.args.info.now in
    let out : List ℕ = c.fill.out in
    let i : ℕ = c.fill.i in
    let size : ℕ = length c.args.out.now in
    let blocks : ℕ → List ℕ = expansion_block prk info in
    let whole = length-expansion_block prk info in
    let previous = previous_block blocks out size i whole refl c.fill.invariant (omega arith) in
    let block : c.expansion_block-block.result ≡ expansion_block prk info (suc i) =
    c.expansion_block-block.ensures ∙ rw c.saturating_sub.ensures (ap (λ (front : List ℕ). hmac prk (front ++ info ++ (i + 1) ∷ [])) previous) in
    rw c.copy_from_slice.ensures.after (filled_more blocks out c.expansion_block-block.result size i (c.min-end.result - 48 * i)
    whole c.fill.invariant (omega arith) block (omega arith) (omega arith) (λ less. omega arith))

pub returns : goal.returns
unfolding hkdf_expand
returns c =
    filled_all (expansion_block c.args.prk.now c.args.info.now) c.fill.out (length c.args.out.now) c.fill.i c.fill.invariant (omega arith)
