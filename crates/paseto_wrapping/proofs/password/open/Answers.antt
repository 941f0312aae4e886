use Rattle.std.proofs.Common.{◌≡◌, arith}
use Rattle.paseto_wrapping.specs.Family.{family_of}
use Rattle.paseto_wrapping.specs.Password.{shortest}
use Rattle.paseto_wrapping.proofs.Protected.{open_costly, open_cut, open_invalid, open_long, open_short}
use Rattle.paseto_wrapping.proofs.password.open.Goals as goal

pub returns-then-payload-shortest : goal.returns-then-payload-shortest
returns-then-payload-shortest c =
    let least : c.shortest.result ≡ shortest (family_of c.args.version) = rw c.of-family.ensures at c.shortest.ensures in
    open_short c.args.version c.args.kind c.args.password.now c.args.most c.args.payload.now (omega arith)

pub returns-then-password-ge-TOO_LONG : goal.returns-then-password-ge-TOO_LONG
returns-then-password-ge-TOO_LONG c =
    let least : c.shortest.result ≡ shortest (family_of c.args.version) = rw c.of-family.ensures at c.shortest.ensures in
    open_long c.args.version c.args.kind c.args.password.now c.args.most c.args.payload.now (omega arith) (λ short. absurd (omega arith))

pub returns-then-not-is_allowed : goal.returns-then-not-is_allowed
returns-then-not-is_allowed c =
    open_invalid c.args.version c.args.kind c.args.password.now c.args.most c.args.payload.now _ _ _ _ _ _ c.read-cost.result
    (λ i. omega (arith, c.type_inv.payload i)) (omega arith) (rw c.of-family.ensures at c.cut-parts.ensures.parts) c.cut-parts.ensures.front
    (rw c.of-family.ensures at c.read-cost.ensures.told) (rw c.of-family.ensures at c.read-cost.ensures.alone)
    (λ allowed. let yes = (rw c.of-family.ensures at c.is_allowed.ensures).1 allowed in cc)

pub returns-then-not-is_within : goal.returns-then-not-is_within
returns-then-not-is_within c =
    open_costly c.args.version c.args.kind c.args.password.now c.args.most c.args.payload.now _ _ _ _ _ _ c.read-cost.result
    (λ i. omega (arith, c.type_inv.payload i)) (omega arith) (rw c.of-family.ensures at c.cut-parts.ensures.parts) c.cut-parts.ensures.front
    (rw c.of-family.ensures at c.read-cost.ensures.told) (rw c.of-family.ensures at c.read-cost.ensures.alone)
    ((rw c.of-family.ensures at c.is_allowed.ensures).0 c.if-not-is_allowed.false)
    (λ within. let yes = (rw c.of-family.ensures at c.is_within.ensures).1 within in cc)

pub returns : goal.returns
returns c =
    open_cut c.args.version c.args.kind c.args.password.now c.args.most c.args.payload.now _ _ _ _ _ _ c.read-cost.result
    (λ i. omega (arith, c.type_inv.payload i)) (omega arith) (rw c.of-family.ensures at c.cut-parts.ensures.parts) c.cut-parts.ensures.front
    (rw c.of-family.ensures at c.read-cost.ensures.told) (rw c.of-family.ensures at c.read-cost.ensures.alone)
    ((rw c.of-family.ensures at c.is_allowed.ensures).0 c.if-not-is_allowed.false, (rw c.of-family.ensures at c.is_within.ensures).0 c.if-not-is_within.false)
    c.open_parts.result c.open_parts.ensures.ok c.open_parts.ensures.err
