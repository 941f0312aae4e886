use Rattle.std.proofs.Common.{List, ℕ, inl, inr, sym, subst, ◌∙◌}
use Rattle.std.proofs.lemmas.Bool.{false≢true}
use Rattle.paseto_pem.specs.Info.{lent}
use Rattle.paseto_pem.specs.P384.{AreHalves, IsNumber, IsPointOf, IsPrivateFault, IsPrivateOf}
use Rattle.paseto_pem.proofs.KeyLaws.{refused-contents}
use Rattle.paseto_pem.proofs.P384Laws.{form-unique, no-form, no-number, number-fault, number-one, point-size}
use Rattle.paseto_pem.proofs.p384.read_private.Goals as goal

pub returns-in_err-key : goal.returns-in_err-key
returns-in_err-key c =
    let error = c.in_err-key.field-0.0 in
    let refused = c.in_err-key.ensures.refused in
    refused-contents IsPrivateOf IsPrivateFault c.args.label c.args.contents.now error c.from_residual.result c.from_residual.ensures.1
    (inr (inl refused))
    (λ key p. absurd (no-form c.args.label c.args.contents.now p.number p.rest p.public error refused p.form))

pub returns-in_default : goal.returns-in_default
returns-in_default c =
    let number = c.in_ok-key.key.number.now in
    let rest = c.in_ok-key.key.rest.now in
    let public = lent c.in_ok-key.key.public in
    let form = c.in_ok-key.ensures.found in
    let none : (key xy : List ℕ) → IsNumber number key → ¬ IsPointOf key xy = λ key xy is point.
    let same = c.without_zero-number.ensures.only key (point-size key xy point) is in
    c.in_default.ensures xy (subst (λ (k : List ℕ). IsPointOf k xy) same point) in
    record {
      found = tt;
      read = λ key p. absurd (no-number c.args.label c.args.contents.now number rest key public form none p);
      refused = inr (inr (number, rest, public, form, none));
    }

pub returns-then-not-branch : goal.returns-then-not-branch
returns-then-not-branch c =
    let number = c.in_ok-key.key.number.now in
    let made = c.without_zero-number.result.now in
    let told = c.without_zero-number.ensures.told in
    let rest = c.in_ok-key.key.rest.now in
    let public = lent c.in_ok-key.key.public in
    let form = c.in_ok-key.ensures.found in
    let other : ¬ AreHalves rest public c.in-Some.xy = λ halves. false≢true (sym c.if-not-branch.true ∙ c.in_ok-are_halves.ensures.1 halves) in
    record {
      found = tt;
      read = λ key p.
          absurd (number-fault c.args.label c.args.contents.now number made rest key c.in-Some.xy public form told c.in-Some.ensures other p);
      refused = inr (inr (number, made, rest, public, c.in-Some.xy, form, told, c.in-Some.ensures, other));
    }

pub returns : goal.returns
returns c =
    let label = c.args.label in
    let contents = c.args.contents.now in
    let number = c.in_ok-key.key.number.now in
    let read = c.without_zero-number.result.now in
    let told = c.without_zero-number.ensures.told in
    let rest = c.in_ok-key.key.rest.now in
    let public = lent c.in_ok-key.key.public in
    let form = c.in_ok-key.ensures.found in
    let made = c.in_ok-from_slice.ensures.items in
    record {
      found = record {
        xy = c.in-Some.xy;
        point = subst (λ (k : List ℕ). IsPointOf k c.in-Some.xy) (sym made) c.in-Some.ensures;
        number = number;
        told = subst (λ (k : List ℕ). IsNumber number k) (sym made) told;
        rest = rest;
        public = public;
        form = form;
        halves = c.in_ok-are_halves.ensures.0 c.if-not-branch.false;
      };
      read = λ key p.
          let same = (form-unique label contents number p.number rest p.rest public p.public form p.form).0 in
          let also = subst (λ (o : List ℕ). IsNumber o key) (sym same) p.told in
          made ∙ number-one number read key (point-size read c.in-Some.xy c.in-Some.ensures) (point-size key p.xy p.point) told also;
      refused = tt;
    }
