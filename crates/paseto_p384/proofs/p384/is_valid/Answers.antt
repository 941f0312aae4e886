use Rattle.std.proofs.Common.{sym, ◌∙◌, ap}
use Rattle.std.proofs.lemmas.Bool.{false≢true}
use Rattle.paseto_montgomery.specs.Octets.{os2ip}
use Rattle.paseto_p384.specs.Point.{coordinates}
use Rattle.paseto_p384.proofs.DecodingLaws.{decoded-is_point}
use Rattle.paseto_p384.proofs.Validity.{valid-length, valid-none, valid-some}
use Rattle.paseto_p384.proofs.p384.is_valid.Goals as goal

pub returns-then-public-ne-PUBLIC_LENGTH : goal.returns-then-public-ne-PUBLIC_LENGTH
returns-then-public-ne-PUBLIC_LENGTH c message h =
    ((λ v. absurd (false≢true v)), (λ v. absurd (c.if-public-ne-PUBLIC_LENGTH.true (valid-length _ _ _ v))))

pub accepts-requires : goal.accepts-requires
accepts-requires c = decoded-is_point c.args.public.now (coordinates c.in-Some.q) (sym c.in-Some.ensures)

pub returns-in-Some : goal.returns-in-Some
returns-in-Some c message hash =
    let r = c.from_octets.ensures ∙ ap os2ip c.split_at.ensures.front in
    let s = c.from_octets-in-Some.ensures ∙ ap os2ip c.split_at.ensures.back in
    let decided = valid-some c.args.public.now message c.args.signature.now (coordinates c.in-Some.q) _ _ _ c.if-public-ne-PUBLIC_LENGTH.false c.in-Some.ensures hash r s in
    ((λ h. decided.0 (c.accepts.ensures.0 h)), (λ h. c.accepts.ensures.1 (decided.1 h)))

pub returns-in-None : goal.returns-in-None
returns-in-None c message h =
    ((λ v. absurd (false≢true v)), (λ v. absurd (valid-none _ _ _ c.in-None.ensures v)))
