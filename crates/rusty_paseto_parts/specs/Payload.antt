-- What a contract sees of a payload.
use Rattle.std.specs.Prelude.{ℕ, List}
use Rattle.rusty_paseto_parts.specs.declared.texts.payload.Payload.{Payload}

-- the bytes of its text, in UTF-8
abbrev pub payload_text : Payload → List ℕ
payload_text a = a.text.now
