use Rattle.std.proofs.Common.{◌≡◌, length, refl, rules, arith}
use Rattle.std.specs.Bool.{one_answer}
use Rattle.std.proofs.lemmas.Bool.{false≢true}
use Rattle.paseto_rsa.specs.Forms.{IsPublic}
use Rattle.paseto_rsa.proofs.DecidedLaws.{public-decides}
use Rattle.paseto_rsa.proofs.forms.is_public_key.Goals as goal

pub returns-in-None-clause-valid : goal.returns-in-None-clause-valid
returns-in-None-clause-valid c =
    (λ no. absurd (false≢true no), λ key. absurd (c.in-None.ensures key.n key.e key.in_range key.read))

pub returns-then-key-ne-PUBLIC_KEY-clause-decided : goal.returns-then-key-ne-PUBLIC_KEY-clause-decided
returns-then-key-ne-PUBLIC_KEY-clause-decided c =
    one_answer _ _ (λ no. absurd (false≢true no), λ p. absurd (c.if-key-ne-PUBLIC_KEY.true p.size))
    (public-decides c.args.key.now (λ i. omega (arith, c.type_inv.key i)))

pub returns-in-Some-clause-decided : goal.returns-in-Some-clause-decided
returns-in-Some-clause-decided c =
    let found = c.in-Some.ensures in
    let size : length c.args.key.now ≡ 270 = search rules in
    let is : IsPublic c.args.key.now = record { size = size; n = _; e = _; in_range = found.0; read = found.1 } in
    one_answer _ _ (λ yes. is, λ p. refl) (public-decides c.args.key.now (λ i. omega (arith, c.type_inv.key i)))

pub returns-in-None-clause-decided : goal.returns-in-None-clause-decided
returns-in-None-clause-decided c =
    one_answer _ _ (λ no. absurd (false≢true no), λ p. absurd (c.in-None.ensures p.n p.e p.in_range p.read))
    (public-decides c.args.key.now (λ i. omega (arith, c.type_inv.key i)))
