use Rattle.std.proofs.Common.{sym, ◌∙◌}
use Rattle.std.proofs.lemmas.Option.{IfSome_then}
use Rattle.paseto.proofs.SecondLine.{like_locked}
use Rattle.paseto.proofs.keys.is_paserk.Goals as goal

pub returns : goal.returns
returns c =
    let found = c.wrapped_header_of.result in
    rw c.is_some-2.ensures
    (like_locked found c.args.text.now (c.header_of.ensures.none (sym c.is_some.ensures ∙ c.if-is_some.false))
    (IfSome_then found c.wrapped_header_of.ensures.found (λ x is. (x.0, x.1, (x.2.now, is)))) c.wrapped_header_of.ensures.none)
