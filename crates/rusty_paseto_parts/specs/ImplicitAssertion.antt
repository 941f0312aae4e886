-- What a contract sees of an implicit assertion.
use Rattle.std.specs.Prelude.{ℕ, List}
use Rattle.rusty_paseto_parts.specs.declared.texts.implicit_assertion.ImplicitAssertion.{ImplicitAssertion}

-- the bytes of its text, in UTF-8
abbrev pub assertion_text : ImplicitAssertion → List ℕ
assertion_text a = a.text.now
