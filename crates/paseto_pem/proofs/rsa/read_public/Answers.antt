use Rattle.std.proofs.Common.{inl, inr, refl, sym, subst, ◌∙◌}
use Rattle.std.proofs.lemmas.Bool.{false≢true}
use Rattle.paseto_rsa.specs.Forms.{IsPublic}
use Rattle.paseto_pem.specs.Rsa.{IsHeld, IsPublicFault, IsPublicOf}
use Rattle.paseto_pem.proofs.KeyLaws.{refused-contents}
use Rattle.paseto_pem.proofs.RsaLaws.{held-fault, held-one}
use Rattle.paseto_pem.proofs.rsa.read_public.Goals as goal

pub returns-in_err-key : goal.returns-in_err-key
returns-in_err-key c =
    let error = c.in_err-key.field-0.0 in
    refused-contents IsPublicOf IsPublicFault c.args.label c.args.contents.now error c.from_residual.result c.from_residual.ensures.1
    (inr (inl c.in_err-key.ensures.refused))
    (λ key p. absurd (held-fault c.args.label c.args.contents.now key error c.in_err-key.ensures.refused p.held))

pub returns-then-not-is_public_key : goal.returns-then-not-is_public_key
returns-then-not-is_public_key c =
    let held = c.in_ok-key.key.now in
    let found = c.in_ok-key.ensures.found in
    record {
      found = tt;
      read = λ key p.
          let same = held-one c.args.label c.args.contents.now held key found p.held in
          absurd (false≢true (c.if-not-is_public_key.ensures.valid.1 (subst IsPublic (sym same) p.is_key)));
      refused = inr (inr (held, found, (λ q. false≢true (c.if-not-is_public_key.ensures.valid.1 q)), c.public_refusal.ensures));
    }

pub returns : goal.returns
returns c =
    let held = c.in_ok-key.key.now in
    let found = c.in_ok-key.ensures.found in
    let items = c.in_ok-from_slice.ensures.items in
    record {
      found = record {
        held = subst (IsHeld c.args.label c.args.contents.now) (sym items) found;
        is_key = subst IsPublic (sym items) (c.if-not-is_public_key.ensures.valid.0 refl);
      };
      read = λ key p. items ∙ held-one c.args.label c.args.contents.now held key found p.held;
      refused = tt;
    }
