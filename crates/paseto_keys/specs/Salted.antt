-- When the scheme of version 1 makes no signature, where the salt was drawn before.
use Rattle.std.specs.Prelude.{◌≡◌, ◌⊎◌, ℕ, List, length}
use Rattle.rusty_paseto_parts.specs.declared.error.PasetoError.TheVariants.{KeyRejected, RsaCipher}
use Rattle.rusty_paseto_core.specs.Public.Scheme.{Declining}
use Rattle.paseto_rsa.specs.Keys.{IsPrivate}
use Rattle.paseto_rsa.specs.RsaPss.{HasNoSignature}

-- what is answered for what is no private key, or where what a private key makes of the message with a salt is not valid
abbrev pub IsUnsigned : Declining
IsUnsigned private message error =
    ((¬ IsPrivate private) × (error ≡ KeyRejected))
    ⊎ (IsPrivate private × (error ≡ RsaCipher) × ((salt : List ℕ) × (length salt ≡ 48) × HasNoSignature private message salt))
