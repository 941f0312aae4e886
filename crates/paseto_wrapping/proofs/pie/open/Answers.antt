use Rattle.std.proofs.Common.{◌≡◌, ◌∙◌, ℕ, List, ap, drop, sym, take, arith}
use Rattle.paseto_wrapping.specs.Family.{family_of, tag_length}
use Rattle.paseto_wrapping.proofs.Pies.{open_cut, open_short}
use Rattle.paseto_wrapping.proofs.pie.open.Goals as goal

pub returns-then-payload-tag_length : goal.returns-then-payload-tag_length
returns-then-payload-tag_length c =
    let width : c.tag_length-tag_length.result ≡ tag_length (family_of c.args.version) = rw c.of.ensures at c.tag_length-tag_length.ensures in
    open_short c.args.version c.args.kind c.args.wrapping_key.now c.args.payload.now (omega arith)

pub returns : goal.returns
returns c =
    let width : c.tag_length-tag_length.result ≡ tag_length (family_of c.args.version) = rw c.of.ensures at c.tag_length-tag_length.ensures in
    let width_of = tag_length (family_of c.args.version) in
    let payload : List ℕ = c.args.payload.now in
    let front : c.split_at.result.0.now ≡ take width_of payload = rw width at c.split_at.ensures.front in
    let back : c.split_at.result.1.now ≡ drop width_of payload = rw width at c.split_at.ensures.back in
    let nonce : c.array_of-nonce.result ≡ take 32 (drop width_of payload) = c.array_of-nonce.ensures ∙ c.split_at-2.ensures.front ∙ ap (take 32) back in
    let body : c.split_at-2.result.1.now ≡ drop 32 (drop width_of payload) = c.split_at-2.ensures.back ∙ ap (drop 32) back in
    open_cut c.args.version c.args.kind c.args.wrapping_key.now c.args.payload.now _ _ _ (λ i. omega (arith, c.type_inv.payload i)) (omega arith)
    (sym front) (sym nonce) (sym body) c.open_parts.result c.open_parts.ensures.ok c.open_parts.ensures.err
