-- When a payload is the sealed one of a text, and which fault is answered where it is of none.
use Rattle.std.specs.Prelude.{◌≡◌, ℕ, ◌+◌, ◌-◌, ◌≤◌, List, take, drop, length, IsUtf8}
use Rattle.rusty_paseto_parts.specs.Error.{IsUtf8Fault}
use Rattle.rusty_paseto_parts.specs.declared.error.PasetoError.{PasetoError}
use Rattle.rusty_paseto_parts.specs.declared.error.PasetoError.TheVariants.{IncorrectSize, Cryption, Utf8Error}
use Rattle.rusty_paseto_core.specs.Context.{Binding}
use Rattle.rusty_paseto_core.specs.Local.{Design, IsNonce, local}
use Rattle.rusty_paseto_core.specs.Local.Sealing.{sealed_payload, tag_of}
use Rattle.rusty_paseto_core.specs.Reading.{Reading}

-- the payload is, under some nonce, the sealed one of the text
pub record IsSealedPayload (design : Design) (binding : Binding) (payload text : List ℕ) : Type 0 where
  pub nonce : List ℕ
  pub is_nonce : IsNonce nonce
  pub is_sealed : payload ≡ sealed_payload design binding nonce text

-- the parts of a payload: the nonce, the ciphertext and the tag
abbrev pub nonce_in : List ℕ → List ℕ
nonce_in payload = take 32 payload

abbrev pub ciphertext_in : Design → List ℕ → List ℕ
ciphertext_in design payload = drop 32 (take (length payload - design.tag_length) payload)

abbrev pub tag_in : Design → List ℕ → List ℕ
tag_in design payload = drop (length payload - design.tag_length) payload

-- the payload has room for a nonce and a tag
abbrev pub HasRoom : Design → List ℕ → Type 0
HasRoom design payload = 32 + design.tag_length ≤ length payload

-- the payload ends in the tag of its pieces
abbrev pub HasTag : Design → Binding → List ℕ → Type 0
HasTag design binding payload =
    tag_in design payload ≡ tag_of design binding (nonce_in payload) (ciphertext_in design payload)

-- what the payload holds, plaintext
abbrev pub plaintext : Design → Binding → List ℕ → List ℕ
plaintext design binding payload =
    design.apply_keystream binding.key (nonce_in payload) (ciphertext_in design payload)

-- the payload ends in its tag, and what it holds is this text
pub record HoldsText (design : Design) (binding : Binding) (payload text : List ℕ) : Type 0 where
  pub room : HasRoom design payload
  pub tag : HasTag design binding payload
  pub text_is : plaintext design binding payload ≡ text
  pub utf8 : IsUtf8 text

-- the error is the first fault of a sealed payload, in this order: its length, its tag, its text
abbrev pub IsSealedFault : Design → Binding → List ℕ → PasetoError → Type 0
IsSealedFault design binding payload IncorrectSize = ¬ HasRoom design payload
IsSealedFault design binding payload Cryption =
    HasRoom design payload × (¬ HasTag design binding payload)
IsSealedFault design binding payload (Utf8Error source) =
    HasRoom design payload × HasTag design binding payload
    × (¬ IsUtf8 (plaintext design binding payload))
    × IsUtf8Fault (plaintext design binding payload) source
IsSealedFault design binding payload _ = ⊥

-- how a version's local tokens are read: opened under a key, a footer and an implicit assertion
abbrev pub opening : Design → Binding → Reading
opening design binding = record {
  version = design.version;
  purpose = local;
  footer = binding.footer;
  Carries = IsSealedPayload design binding;
  IsPayloadFault = IsSealedFault design binding;
}
