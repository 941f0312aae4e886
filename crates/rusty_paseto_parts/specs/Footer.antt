-- What a contract sees of a footer.
use Rattle.std.specs.Prelude.{ℕ, List}
use Rattle.rusty_paseto_parts.specs.declared.texts.footer.Footer.{Footer}

-- the bytes of its text, in UTF-8
abbrev pub footer_text : Footer → List ℕ
footer_text a = a.text.now
