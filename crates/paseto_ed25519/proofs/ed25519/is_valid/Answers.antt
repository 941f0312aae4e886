use Rattle.std.proofs.Common.{◌∙◌, refl}
use Rattle.std.proofs.lemmas.Bool.{false≢true}
use Rattle.paseto_ed25519.proofs.Validity.{valid-below, valid-length, valid-sum}
use Rattle.paseto_ed25519.proofs.ed25519.is_valid.Goals as goal

pub returns-then-public-ne-HALF_LENGTH : goal.returns-then-public-ne-HALF_LENGTH
returns-then-public-ne-HALF_LENGTH c =
    ((λ h. absurd (false≢true h)), (λ h. absurd (c.if-public-ne-HALF_LENGTH.true (valid-length _ _ _ h))))

pub returns-then-not-is_reduced : goal.returns-then-not-is_reduced
returns-then-not-is_reduced c =
    let back = c.array-s.ensures ∙ c.split_at.ensures.back in
    ((λ h. absurd (false≢true h)), (λ h. c.if-not-is_reduced.ensures.1 (valid-below _ _ _ _ back h)))

pub returns : goal.returns
returns c =
    let front = c.array-r.ensures ∙ c.split_at.ensures.front in
    let back = c.array-s.ensures ∙ c.split_at.ensures.back in
    let challenged = c.to_bytes.ensures.number ∙ c.challenge.ensures in
    let sum = valid-sum c.args.public.now c.args.message.now c.args.signature.now _ _ _
    c.if-public-ne-HALF_LENGTH.false front back challenged (c.if-not-is_reduced.ensures.0 refl) in
    ((λ h. sum.0 (c.is_sum.ensures.0 h)), (λ h. c.is_sum.ensures.1 (sum.1 h)))
