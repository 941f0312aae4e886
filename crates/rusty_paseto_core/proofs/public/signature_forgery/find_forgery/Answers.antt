use Rattle.std.proofs.Common.{◌≡◌}
use Rattle.std.proofs.lemmas.Option.{slice_get-get_or}
use Rattle.rusty_paseto_core.specs.Public.SignatureForgery.{IsFreshlySigned, IsSigned, signed_case, signed_cases}
use Rattle.rusty_paseto_core.proofs.Issued.{all_fresh, more_fresh, none_fresh}
use Rattle.rusty_paseto_core.proofs.SignatureForgeries.{forgery_answer, freshly_signed, issued_answer, issued_fault, issued_there, refused_answer, signed_spelling, token_fault}
use Rattle.rusty_paseto_core.proofs.public.signature_forgery.find_forgery.Goals as goal

pub returns-in_err-own : goal.returns-in_err-own
returns-in_err-own g c =
    let valid = g.V.Verifies.valid in
    let refused = g.V.Verifies.refused in
    let design = g.V.PublicSuite.public_design in
    let issued = signed_cases design c.args.key.now c.args.issued.now in
    let case = signed_case design c.args.key.now c.args.token in
    let error = c.in_err-own.field-0.0 in
    refused_answer valid refused design issued case error c.from_residual.result c.from_residual.ensures.1
    (token_fault valid refused design issued case error c.in_err-own.ensures.err)

pub each-init : goal.each-init
each-init g c =
    none_fresh (signed_case g.V.PublicSuite.public_design c.args.key.now) c.args.issued.now
    (IsFreshlySigned g.V.Verifies.valid g.V.Verifies.refused g.V.PublicSuite.public_design c.in_ok-own.own.message c.in_ok-own.own.signature.items)

pub each-preserved : goal.each-preserved
each-preserved g c =
    let valid = g.V.Verifies.valid in
    let refused = g.V.Verifies.refused in
    let design = g.V.PublicSuite.public_design in
    let key = c.args.key.now in
    let message = c.in_ok-own.own.message in
    let signature = c.in_ok-own.own.signature.items in
    let other = c.in_ok-other.other in
    let differ : ((other.message ≡ message) × (other.signature.items ≡ signature)) → ⊥ =
    λ both. let yes = c.is_same.ensures.1 both in let no = c.if-is_same.false in cc in
    more_fresh (signed_case design key) c.args.issued.now (IsFreshlySigned valid refused design message signature) c.each.one-index _
    (slice_get-get_or c.args.issued.now c.each.one-index _ c.each-test.true) c.each.invariant
    (freshly_signed valid refused design g.met.V.PublicSuite.public_lawful.is_header message signature _ other
    c.in_ok-other.ensures.ok differ)

pub returns-in_err-other : goal.returns-in_err-other
returns-in_err-other g c =
    let valid = g.V.Verifies.valid in
    let refused = g.V.Verifies.refused in
    let design = g.V.PublicSuite.public_design in
    let key = c.args.key.now in
    let issued = c.args.issued.now in
    let case = signed_case design key c.args.token in
    let error = c.in_err-other.field-0.0 in
    let own : IsSigned valid refused design case c.in_ok-own.own = c.in_ok-own.ensures.ok in
    refused_answer valid refused design (signed_cases design key issued) case error c.from_residual-in_err-other.result
    c.from_residual-in_err-other.ensures.1
    (issued_fault valid refused design key issued case c.in_ok-own.own.message c.in_ok-own.own.signature.items c.each.one-index _ error
    (slice_get-get_or issued c.each.one-index _ c.each-test.true) (own.content, own.verifies) c.each.invariant c.in_err-other.ensures.err)

pub returns-then-is_same : goal.returns-then-is_same
returns-then-is_same g c =
    let valid = g.V.Verifies.valid in
    let refused = g.V.Verifies.refused in
    let design = g.V.PublicSuite.public_design in
    let key = c.args.key.now in
    let issued = c.args.issued.now in
    let case = signed_case design key c.args.token in
    let both = c.is_same.ensures.0 c.if-is_same.true in
    issued_answer valid refused design (signed_cases design key issued) case
    (issued_there valid refused design key issued case c.each.one-index _ (slice_get-get_or issued c.each.one-index _ c.each-test.true)
    (signed_spelling valid refused design g.met.V.PublicSuite.public_lawful.is_header _ case
    c.in_ok-other.other c.in_ok-own.own c.in_ok-other.ensures.ok c.in_ok-own.ensures.ok both.0 both.1))

pub returns : goal.returns
returns g c =
    let valid = g.V.Verifies.valid in
    let refused = g.V.Verifies.refused in
    let design = g.V.PublicSuite.public_design in
    let key = c.args.key.now in
    let issued = c.args.issued.now in
    forgery_answer valid refused design (signed_cases design key issued) (signed_case design key c.args.token) c.in_ok-own.own c.in_ok-own.ensures.ok
    (all_fresh (signed_case design key) issued (IsFreshlySigned valid refused design c.in_ok-own.own.message c.in_ok-own.own.signature.items) c.each.one-index c.each-test.false c.each.invariant)
