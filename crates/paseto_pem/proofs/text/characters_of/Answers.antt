use Rattle.std.proofs.Common.{sym, ◌∙◌}
use Rattle.std.proofs.lemmas.Bool.{false≢true}
use Rattle.paseto_pem.specs.Text.{IsBase64Line}
use Rattle.paseto_pem.proofs.BlockLaws.{all-of, not-all, one-more}
use Rattle.paseto_pem.proofs.text.characters_of.Goals as goal

pub each-preserved : goal.each-preserved
each-preserved c =
    one-more IsBase64Line c.args.body.now c.each.index _ _ _ c.each-test.true c.each.invariant.0 c.each.invariant.1
    (c.is_base64_line.ensures.0 c.if-not-is_base64_line.false) c.in_ok-push_str.ensures.bytes

pub returns : goal.returns
returns c = all-of IsBase64Line c.args.body.now c.each.index _ c.each-test.false c.each.invariant.0 c.each.invariant.1

pub returns-then-not-is_base64_line : goal.returns-then-not-is_base64_line
returns-then-not-is_base64_line c =
    not-all IsBase64Line c.args.body.now c.each.index _ c.each-test.true
    (λ this. false≢true (sym c.if-not-is_base64_line.true ∙ c.is_base64_line.ensures.1 this))
