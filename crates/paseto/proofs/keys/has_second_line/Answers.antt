use Rattle.std.proofs.Common.{inl, sym, ◌∙◌}
use Rattle.paseto.proofs.SecondLine.{by_beginning}
use Rattle.paseto.proofs.keys.has_second_line.Goals as goal

pub returns-then-contains : goal.returns-then-contains
returns-then-contains c = inl (rw c.as_bytes.ensures.value at (sym c.contains.ensures.value ∙ c.if-contains.true))

pub returns-then-holds_pem : goal.returns-then-holds_pem
returns-then-holds_pem c =
    by_beginning c.is_paserk.result c.args.text.now c.args.line.now
    (rw c.as_bytes.ensures.value at (sym c.contains.ensures.value ∙ c.if-contains.false)) (c.holds_pem.ensures.0 c.if-holds_pem.true) c.is_paserk.ensures
