-- What the errors of rings are made of.
use Rattle.std.specs.Prelude.{Option, Some, None}
use Rattle.rusty_paseto_generic.specs.Blame.{cipher_blame, parser_blame}
use Rattle.rusty_paseto_generic.specs.Error.Parser.{cause_of as parser_cause_of}
use Rattle.rusty_paseto_generic.specs.declared.blame.Blame.{Blame}
use Rattle.rusty_paseto_generic.specs.declared.blame.Blame.TheVariants as Side
use Rattle.rusty_paseto_parts.specs.declared.error.PasetoError.{PasetoError}
use Rattle.rusty_paseto.specs.declared.error.KeyRingError.{KeyRingError}
use Rattle.rusty_paseto.specs.declared.error.KeyRingError.TheVariants.{Untrusted, Token, Memory}
use Rattle.rusty_paseto.specs.declared.error.KeyRingParserError.{KeyRingParserError}
use Rattle.rusty_paseto.specs.declared.error.KeyRingParserError.TheVariants.{Ring, Parser, Memory as NoMemory}

-- why the token was not read or opened, where it was not
abbrev pub ring_cause_of : KeyRingError → Option PasetoError
ring_cause_of (Untrusted source) = Some source
ring_cause_of (Token source) = Some source
ring_cause_of _ = None

-- the same where claims were asked for
abbrev pub cause_of : KeyRingParserError → Option PasetoError
cause_of (Ring source) = ring_cause_of source
cause_of (Parser source) = parser_cause_of source
cause_of _ = None

-- on which side the fault of a ring's refusal lies: a token is foreign that names no key of the ring, or was not opened
-- under the one that it names
abbrev pub ring_blame : KeyRingError → Blame
ring_blame (Untrusted source) = cipher_blame source
ring_blame (Token source) = cipher_blame source
ring_blame (Memory _) = Side.Memory
ring_blame _ = Side.Foreign

-- the same where claims were asked for
abbrev pub parsing_blame : KeyRingParserError → Blame
parsing_blame (Ring source) = ring_blame source
parsing_blame (Parser source) = parser_blame source
parsing_blame (NoMemory _) = Side.Memory
