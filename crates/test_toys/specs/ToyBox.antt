-- What the toy sealed box makes of a key, a nonce, data and a message.
use Rattle.std.specs.Prelude.{ℕ, List, [], ◌∷◌, ◌++◌, Some, None, length, nat_le, if◌then◌else◌}
use Rattle.rusty_paseto_primitives.specs.Blake2.Keyed.{blake2b}
use Rattle.rusty_paseto_parts.specs.PreAuthenticationEncoding.{pae}
use Rattle.rusty_paseto_core.specs.Local.SealedBox.{BoxSealing}

-- the tag of a message: 16 bytes
abbrev pub toy_tag : List ℕ → List ℕ → List ℕ → List ℕ → List ℕ
toy_tag key nonce associated message = blake2b key 16 (pae (nonce ∷ associated ∷ message ∷ []))

-- the message as it is, and its tag behind it; there is none for a message of more than 4,096 bytes
unfoldable pub toy_sealing : BoxSealing
toy_sealing key nonce associated message =
    if nat_le (length message) 4096 then Some (message ++ toy_tag key nonce associated message) else None
