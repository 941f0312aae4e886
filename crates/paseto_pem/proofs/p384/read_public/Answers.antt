use Rattle.std.proofs.Common.{List, ℕ, inr, sym, subst, ◌∙◌}
use Rattle.paseto_pem.specs.P384.{IsPoint, IsPublicFault, IsPublicOf, IsSpelled, p384}
use Rattle.paseto_pem.proofs.InfoLaws.{public-unique}
use Rattle.paseto_pem.proofs.KeyLaws.{refused-contents}
use Rattle.paseto_pem.proofs.P384Laws.{no-public, public-one}
use Rattle.paseto_pem.proofs.p384.read_public.Goals as goal

pub returns-in_err-octets : goal.returns-in_err-octets
returns-in_err-octets c =
    let error = c.in_err-octets.field-0.0 in
    let refused = c.in_err-octets.ensures.refused in
    refused-contents IsPublicOf IsPublicFault c.args.label c.args.contents.now error c.from_residual.result c.from_residual.ensures.1
    (inr (inr (c.in-PublicKey.is, refused)))
    (λ key p. absurd (no-public c.args.label c.args.contents.now key error refused p))

pub returns-in_default-public_of : goal.returns-in_default-public_of
returns-in_default-public_of c =
    let octets = c.in_ok-octets.octets.now in
    let found = c.in_ok-octets.ensures.found in
    let none : (key : List ℕ) → ¬ IsPublicOf c.args.label c.args.contents.now key = λ key p.
    let same = (public-unique p384 p384 octets p.octets c.args.contents.now found p.written).1 in
    c.in_default-public_of.ensures key p.xy p.point (subst (λ (o : List ℕ). IsSpelled o key p.xy) (sym same) p.spelled) in
    record { found = tt; read = none; refused = inr (inr (c.in-PublicKey.is, (octets, found, c.in_default-public_of.ensures))) }

pub returns : goal.returns
returns c =
    let octets = c.in_ok-octets.octets.now in
    let known = c.in-Some.ensures in
    let made = c.in_ok-from_slice.ensures.items in
    record {
      found = record {
        is_public = c.in-PublicKey.is;
        xy = known.0;
        point = subst (λ (k : List ℕ). IsPoint k known.0) (sym made) known.1;
        octets = octets;
        written = c.in_ok-octets.ensures.found;
        spelled = subst (λ (k : List ℕ). IsSpelled octets k known.0) (sym made) known.2;
      };
      read = λ key p.
          let same = (public-unique p384 p384 octets p.octets c.args.contents.now c.in_ok-octets.ensures.found p.written).1 in
          let spelled = subst (λ (o : List ℕ). IsSpelled o key p.xy) (sym same) p.spelled in
          made ∙ public-one octets c.in-Some.key key known.0 p.xy known.1 p.point known.2 spelled;
      refused = tt;
    }
