-- What the toy signature schemes hold valid, and the errors that they answer.
use Rattle.std.specs.Prelude.{◌≡◌, ◌⊎◌, ℕ, List, [], length, slice_index}
use Rattle.rusty_paseto_parts.specs.declared.error.PasetoError.TheVariants.{InvalidKey, InvalidSignature, KeyRejected}
use Rattle.rusty_paseto_core.specs.Public.Scheme.{Declining, Refusal, Validity}
use Rattle.test_toys.specs.ToySignature.{toy_signature}

-- a signature of `size` bytes is valid where it is the one that the toy makes
abbrev pub toy_valid : ℕ → Validity
toy_valid size public message signature = signature ≡ toy_signature size public message

-- a signature that is not valid
abbrev pub toy_refused : Refusal
toy_refused public message signature error = error ≡ InvalidSignature

-- no private key at all
abbrev pub toy_declined : Declining
toy_declined private message error = (private ≡ []) × (error ≡ KeyRejected)

-- a public key of version 3: 49 bytes, of which the first is 2
abbrev pub IsToyKey : List ℕ → Type 0
IsToyKey public = (length public ≡ 49) × (slice_index public 0 ≡ 2)

-- nothing is valid under what is no public key of version 3
abbrev pub toy_valid_v3 : Validity
toy_valid_v3 public message signature = IsToyKey public × toy_valid 96 public message signature

-- a signature that is not valid, or what is no public key of version 3
abbrev pub toy_refused_v3 : Refusal
toy_refused_v3 public message signature error =
    (IsToyKey public × (error ≡ InvalidSignature)) ⊎ ((¬ IsToyKey public) × (error ≡ InvalidKey))
