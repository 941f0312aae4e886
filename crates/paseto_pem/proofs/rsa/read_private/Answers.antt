use Rattle.std.proofs.Common.{ap, inl, inr, sym, subst, List, ℕ, ◌∙◌}
use Rattle.std.proofs.lemmas.Bool.{false≢true}
use Rattle.paseto_rsa.specs.Keys.{IsPrivate, rsa_public}
use Rattle.paseto_pem.specs.Algorithm.{rsa}
use Rattle.paseto_pem.specs.Info.{IsHalf, lent, private_key_info}
use Rattle.paseto_pem.specs.Rsa.{IsPrivateFault, IsPrivateOf}
use Rattle.paseto_pem.proofs.KeyLaws.{refused-contents}
use Rattle.paseto_pem.proofs.RsaLaws.{form-unique, no-form, no-half, no-inner, pair-fault}
use Rattle.paseto_pem.proofs.rsa.read_private.Goals as goal

pub returns-in_err-pair : goal.returns-in_err-pair
returns-in_err-pair c =
    let error = c.in_err-pair.field-0.0 in
    let refused = c.in_err-pair.ensures.refused in
    refused-contents IsPrivateOf IsPrivateFault c.args.label c.args.contents.now error c.from_residual.result c.from_residual.ensures.1
    (inr (inl refused))
    (λ key p. absurd (no-form c.args.label c.args.contents.now p.inner p.public error refused p.form))

pub returns-in_default : goal.returns-in_default
returns-in_default c =
    let inner = c.in_ok-pair.pair.inner.now in
    let public = lent c.in_ok-pair.pair.public in
    let form = c.in_ok-pair.ensures.found in
    let none = rw c.in_default.is at c.in_ok-key.ensures in
    record {
      found = tt;
      read = λ key p. absurd (no-inner c.args.label c.args.contents.now inner key public form none p);
      refused = inr (inr (inner, public, form, pair-fault inner public c.inner_refusal.result c.inner_refusal.ensures));
    }

pub returns-then-not-is_own_half : goal.returns-then-not-is_own_half
returns-then-not-is_own_half c =
    let inner = c.in_ok-pair.pair.inner.now in
    let public = lent c.in_ok-pair.pair.public in
    let form = c.in_ok-pair.ensures.found in
    let known = rw c.in-Some.is at c.in_ok-key.ensures in
    let other : ¬ IsHalf public (rsa_public (private_key_info rsa inner)) =
    λ half. false≢true (sym c.if-not-is_own_half.true ∙ c.is_own_half.ensures.1 half) in
    record {
      found = tt;
      read = λ key p. absurd (no-half c.args.label c.args.contents.now inner key public form other p);
      refused = inr (inr (inner, public, form, (subst (λ (k : List ℕ). IsPrivate k) known.0 known.1, other)));
    }

pub returns : goal.returns
returns c =
    let label = c.args.label in
    let contents = c.args.contents.now in
    let inner = c.in_ok-pair.pair.inner.now in
    let public = lent c.in_ok-pair.pair.public in
    let form = c.in_ok-pair.ensures.found in
    let known = rw c.in-Some.is at c.in_ok-key.ensures in
    let half : IsHalf public (rsa_public (private_key_info rsa inner)) = c.is_own_half.ensures.0 c.if-not-is_own_half.false in
    record {
      found = record {
        inner = inner;
        public = public;
        form = form;
        written = known.0;
        is_key = known.1;
        half = subst (λ (k : List ℕ). IsHalf public (rsa_public k)) (sym known.0) half;
      };
      read = λ key p. known.0 ∙ ap (private_key_info rsa) (form-unique label contents inner p.inner public p.public form p.form).0 ∙ sym p.written;
      refused = tt;
    }
