-- What a signature scheme means, said of a public key, a message and a signature, or of a private key and a message.
use Rattle.std.specs.Prelude.{ℕ, List}
use Rattle.rusty_paseto_parts.specs.declared.error.PasetoError.{PasetoError}

-- whether a signature is valid for a public key and a message
abbrev pub Validity : Type 1
Validity = List ℕ → List ℕ → List ℕ → Type 0

-- the errors that may be answered for a public key, a message and a signature that is not valid
abbrev pub Refusal : Type 1
Refusal = List ℕ → List ℕ → List ℕ → PasetoError → Type 0

-- the errors that may be answered for a private key and a message
abbrev pub Declining : Type 1
Declining = List ℕ → List ℕ → PasetoError → Type 0
