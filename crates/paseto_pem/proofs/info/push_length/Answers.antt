use Rattle.std.proofs.Common.{sym, ap, ◌∙◌, ◌++◌}
use Rattle.paseto_der.proofs.ElementLaws.{der-one, der-short, der-two}
use Rattle.paseto_pem.proofs.info.push_length.Goals as goal

pub returns-then-length-lt128 : goal.returns-then-length-lt128
returns-then-length-lt128 c =
    c.in_ok-extend_from_slice.ensures.items
    ∙ ap (λ d. c.args.out.now.items ++ d) (sym (der-short c.args.length c.if-length-lt128.true))

pub returns-then-length-lt256 : goal.returns-then-length-lt256
returns-then-length-lt256 c =
    c.in_ok-extend_from_slice-2.ensures.items
    ∙ ap (λ d. c.args.out.now.items ++ d) (sym (der-one c.args.length c.if-length-lt128.false c.if-length-lt256.true))

pub returns : goal.returns
returns c =
    c.in_ok-extend_from_slice-3.ensures.items
    ∙ ap (λ d. c.args.out.now.items ++ d) (sym (der-two c.args.length c.if-length-lt256.false))
