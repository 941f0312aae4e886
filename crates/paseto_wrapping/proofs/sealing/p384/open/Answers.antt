use Rattle.std.proofs.Common.{sym, ◌∙◌, arith}
use Rattle.paseto_wrapping.specs.declared.family.Family.TheVariants.{Nist}
use Rattle.paseto_wrapping.proofs.Sealings.{open_cut, open_length, open_pointless, point_fault}
use Rattle.paseto_wrapping.proofs.sealing.p384.open.Goals as goal

pub returns-then-payload-ne-SEALED_LENGTH : goal.returns-then-payload-ne-SEALED_LENGTH
returns-then-payload-ne-SEALED_LENGTH c =
    open_length Nist c.args.version c.requires c.args.private.now c.args.payload.now c.if-payload-ne-SEALED_LENGTH.true

pub returns-in-Ok-shared_secret : goal.returns-in-Ok-shared_secret
returns-in-Ok-shared_secret c =
    let back = c.split_at.ensures.back in
    let epk = rw back at c.split_at-2.ensures.front in
    let body = rw back at c.split_at-2.ensures.back in
    let shared = rw c.array_of.ensures at c.in-Ok-shared_secret.ensures.ok in
    open_cut Nist c.args.version c.requires c.args.private.now c.args.payload.now _ _ _ _ _ (λ i. omega (arith, c.type_inv.payload i))
    c.if-payload-ne-SEALED_LENGTH.false shared.0 (sym c.split_at.ensures.front) (sym epk) (sym body) c.in-Ok.ensures.ok.1 shared.1
    c.opened.result c.opened.ensures.ok c.opened.ensures.err

pub returns-in-Err-InvalidPoint : goal.returns-in-Err-InvalidPoint
returns-in-Err-InvalidPoint c =
    let epk = c.array_of.ensures ∙ rw c.split_at.ensures.back at c.split_at-2.ensures.front in
    open_pointless c.args.version c.requires c.args.private.now c.args.payload.now _ epk c.if-payload-ne-SEALED_LENGTH.false
    (point_fault _ _ _ c.in-Err-InvalidPoint.field-0-is c.in-Err-InvalidPoint.ensures.err)
