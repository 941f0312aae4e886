use Rattle.std.proofs.Common.{◌≡◌, inl, refl, subst, sym, Ok, Some}
use Rattle.std.proofs.lemmas.Option.{slice_get_read}
use Rattle.std.specs.List.{All}
use Rattle.rusty_paseto_core.specs.Local.Opened.{case_in, content_in, covered_in}
use Rattle.rusty_paseto_core.specs.Local.Forgery.{IsForgeryAnswer, IsFresh, IsSpelling}
use Rattle.rusty_paseto_core.specs.Local.TagCollision.{Case, Opens, case_of, cases}
use Rattle.rusty_paseto_core.proofs.Forgeries.{forgery_answer, fresh_of, is_spelling, issued_answer, issued_fault, issued_there, refused_answer, token_fault}
use Rattle.rusty_paseto_core.proofs.Issued.{all_fresh, more_fresh, none_fresh}
use Rattle.rusty_paseto_core.proofs.local.forgery.find_forgery.Goals as goal

pub returns-in_err-own : goal.returns-in_err-own
returns-in_err-own g c =
    let design = g.V.LocalSuite.design in
    let issued = cases c.args.issued.now in
    let case : Case = case_of c.args.token in
    let error = c.in_err-own.field-0.0 in
    refused_answer design issued case error c.from_residual.result c.from_residual.ensures.1
    (token_fault design issued case error c.in_err-own.ensures.err)

pub returns-in_err-found : goal.returns-in_err-found
returns-in_err-found g c =
    refused_answer g.V.LocalSuite.design (cases c.args.issued.now) (case_of c.args.token) c.in_err-found.field-0.0
    c.from_residual-in_err-found.result c.from_residual-in_err-found.ensures.1 (inl c.in_err-found.ensures.err)

pub each-init : goal.each-init
each-init g c = none_fresh case_of c.args.issued.now (IsFresh g.V.LocalSuite.design c.args.token.key.now c.in_ok-found.found.message)

pub each-preserved : goal.each-preserved
each-preserved g c =
    let design = g.V.LocalSuite.design in
    let own = c.in_ok-own.own in
    let other = c.in_ok-other.other in
    let message = c.in_ok-found.found.message in
    let asked = c.one-item.result in
    let differ : (((content_in other).nonce ≡ (content_in own).nonce) × (covered_in design other ≡ covered_in design own)) → ⊥ =
    λ both. let yes = c.is_same.ensures.1 both in let no = c.if-is_same.false in cc in
    let fresh : IsFresh design (case_in own).binding.key message (case_in other) =
    fresh_of design g.met.V.LocalSuite.lawful own other message c.in_ok-other.ensures.ok.1 c.in_ok-found.ensures.message c.in_ok-found.ensures.fits differ in
    more_fresh case_of c.args.issued.now (IsFresh design c.args.token.key.now message) c.each.one-index asked
    (slice_get_read c.args.issued.now _ c.each.one-index asked refl c.each-test.true c.one-item.is) c.each.invariant
    (subst (λ (x : Case). IsFresh design c.args.token.key.now message x) c.in_ok-other.ensures.ok.0
    (subst (λ (x : Case). IsFresh design x.binding.key message (case_in other)) c.in_ok-own.ensures.ok.0 fresh))

pub returns-in_err-other : goal.returns-in_err-other
returns-in_err-other g c =
    let design = g.V.LocalSuite.design in
    let issued = c.args.issued.now in
    let case : Case = case_of c.args.token in
    let error = c.in_err-other.field-0.0 in
    let opens : Opens design case =
    subst (Opens design) c.in_ok-own.ensures.ok.0 (content_in c.in_ok-own.own, c.in_ok-own.ensures.ok.1.opens) in
    refused_answer design (cases issued) case error c.from_residual-in_err-other.result c.from_residual-in_err-other.ensures.1
    (issued_fault design issued case c.args.token.key.now c.in_ok-found.found.message c.each.one-index c.one-item.result error
    (slice_get_read issued _ c.each.one-index c.one-item.result refl c.each-test.true c.one-item.is) opens c.each.invariant c.in_err-other.ensures.err)

pub returns-then-is_same : goal.returns-then-is_same
returns-then-is_same g c =
    let design = g.V.LocalSuite.design in
    let issued = c.args.issued.now in
    let own = c.in_ok-own.own in
    let other = c.in_ok-other.other in
    let both = c.is_same.ensures.0 c.if-is_same.true in
    let spelling : IsSpelling design (case_in other) (case_in own) =
    is_spelling design g.met.V.LocalSuite.lawful (case_in other) (case_in own) (content_in other) (content_in own) c.in_ok-other.ensures.ok.1.opens c.in_ok-own.ensures.ok.1.opens both.0 both.1 in
    issued_answer design (cases issued) (case_of c.args.token)
    (issued_there design issued (case_of c.args.token) c.each.one-index c.one-item.result
    (slice_get_read issued _ c.each.one-index c.one-item.result refl c.each-test.true c.one-item.is)
    (subst (λ (x : Case). IsSpelling design x (case_of c.args.token)) c.in_ok-other.ensures.ok.0
    (subst (λ (x : Case). IsSpelling design (case_in other) x) c.in_ok-own.ensures.ok.0 spelling)))

pub returns : goal.returns
returns g c =
    let design = g.V.LocalSuite.design in
    let issued = c.args.issued.now in
    let own = c.in_ok-own.own in
    let found = c.in_ok-found.found in
    subst (λ (x : Case). IsForgeryAnswer design (cases issued) x (Ok (Some found))) c.in_ok-own.ensures.ok.0
    (forgery_answer design (cases issued) own found c.in_ok-own.ensures.ok.1 c.in_ok-found.ensures.nonce c.in_ok-found.ensures.message
    c.in_ok-found.ensures.fits c.in_ok-found.ensures.tag
    (subst (λ (x : Case). All (IsFresh design x.binding.key found.message) (cases issued)) (sym c.in_ok-own.ensures.ok.0)
    (all_fresh case_of issued (IsFresh design c.args.token.key.now found.message) c.each.one-index c.each-test.false c.each.invariant)))
