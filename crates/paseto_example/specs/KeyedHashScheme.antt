-- What the keyed hash holds valid, and the errors that it answers.
use Rattle.std.specs.Prelude.{◌≡◌, ◌≢◌, ◌⊎◌, ℕ, List, drop, length}
use Rattle.rusty_paseto_parts.specs.declared.error.PasetoError.TheVariants.{InvalidKey, InvalidSignature, KeyRejected}
use Rattle.rusty_paseto_core.specs.Public.Scheme.{Declining, Refusal, Validity}
use Rattle.rusty_paseto_primitives.specs.Blake2.Keyed.{blake2b}

-- the public key of a private key: what follows its first 32 bytes
abbrev pub partner : List ℕ → List ℕ
partner private = drop 32 private

-- a signature is valid where the public key has 32 bytes and it is the message's hash under that key
abbrev pub IsValid : Validity
IsValid public message signature = (length public ≡ 32) × (signature ≡ blake2b public 64 message)

-- a public key of another length, or else another signature
abbrev pub IsRefused : Refusal
IsRefused public message signature error =
    ((length public ≢ 32) × (error ≡ InvalidKey)) ⊎ ((length public ≡ 32) × (error ≡ InvalidSignature))

-- a private key of another length
abbrev pub IsDeclined : Declining
IsDeclined private message error = (length private ≢ 64) × (error ≡ KeyRejected)
