-- What an error says beside its cause.
use Rattle.std.specs.Prelude.{ℕ, List, ◌++◌, Option, Some, None, codes}
use Rattle.rusty_paseto_core.specs.declared.PasetoError.{PasetoError}
use Rattle.rusty_paseto_parts.specs.Error.{error_text}

-- the text of an error, where it has one, and behind a colon that of its cause, where it has one
abbrev pub explained_text : Option (List ℕ) → Option PasetoError → Option (List ℕ)
explained_text (Some text) (Some cause) = Some (text ++ (codes ": " ++ error_text cause))
explained_text text None = text
explained_text None (Some cause) = None
