use Rattle.std.proofs.Common.{inl, string_bytes}
use Rattle.paseto.proofs.keys.Held.line.Goals as goal

pub returns-in-Ok-clause-refused : goal.returns-in-Ok-clause-refused
returns-in-Ok-clause-refused c =
    let opens = c.in-Ok.ensures in
    inl (
      string_bytes c.in-Ok.line,
      (opens.0, opens.1, opens.2, opens.3, opens.4.found),
      rw c.as_str.ensures.value at c.if-has_second_line.ensures,
      c.about.ensures.name,
      c.about.ensures.error,
    )

pub returns-in-Ok-2-clause-held : goal.returns-in-Ok-2-clause-held
returns-in-Ok-2-clause-held c =
    let opens = c.in-Ok.ensures in
    ((opens.0, opens.1, opens.2, opens.3, opens.4.found), rw c.as_str.ensures.value at c.if-has_second_line.ensures)
