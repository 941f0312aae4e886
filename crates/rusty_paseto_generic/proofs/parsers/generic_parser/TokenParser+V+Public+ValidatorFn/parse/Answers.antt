use Rattle.std.proofs.Common.{refl}
use Rattle.std.proofs.lemmas.Result.{err_from_is_err_and}
use Rattle.rusty_paseto_generic.proofs.ParseLemmas.{is_assertion_in, parse_answer}
use Rattle.rusty_paseto_generic.proofs.parsers.generic_parser.TokenParser+V+Public+ValidatorFn.parse.Goals as goal

pub returns-in_err-check_length : goal.returns-in_err-check_length
returns-in_err-check_length g c =
    let p = err_from_is_err_and c.from_residual.result c.from_residual.ensures.1 in
    record {
      long = λ is. rw (p.1, p.2, c.in_err-check_length.ensures.err.0) refl;
      answer = λ is. absurd (cc (is, c.in_err-check_length.ensures.err.1));
    }

pub returns : goal.returns
returns g c =
    let taken = is_assertion_in _ _ c.signed_assertion-assertion.result c.signed_assertion-assertion.ensures.bound c.signed_assertion-assertion.ensures.none in
    let answer = rw taken at c.verify-opened.ensures in
    record {
      long = λ is. absurd (cc (is, c.in_ok-check_length.ensures.ok));
      answer = λ is. parse_answer _ _ _ c.verify-opened.result _ answer (rw c.times.ensures at c.parse_opened.ensures);
    }
