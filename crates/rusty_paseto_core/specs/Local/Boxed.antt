-- Local tokens of version 2, whose payload is a nonce and a sealed box (PASETO specification,
-- "Version 2"). There is no payload of a text where the box has no sealing of it.
use Rattle.std.specs.Prelude.{◌≡◌, ℕ, ◌≤◌, Bool, List, [], ◌∷◌, ◌++◌, take, drop, length, codes, Option, Some, None, option_map, IsUtf8}
use Rattle.rusty_paseto_primitives.specs.Blake2.Keyed.{blake2b}
use Rattle.rusty_paseto_parts.specs.Header.{header_text}
use Rattle.rusty_paseto_parts.specs.PreAuthenticationEncoding.{pae}
use Rattle.rusty_paseto_parts.specs.Error.{IsUtf8Fault}
use Rattle.rusty_paseto_parts.specs.declared.error.PasetoError.{PasetoError}
use Rattle.rusty_paseto_parts.specs.declared.error.PasetoError.TheVariants.{IncorrectSize, ChaChaCipherError, Utf8Error}
use Rattle.rusty_paseto_core.specs.Context.{Binding}
use Rattle.rusty_paseto_core.specs.Framing.{framing}
use Rattle.rusty_paseto_core.specs.Local.{local}
use Rattle.rusty_paseto_core.specs.Local.SealedBox.{BoxSealing, IsBoxNonce, IsOpening}
use Rattle.rusty_paseto_core.specs.Reading.{Reading}

-- the text of the version
abbrev pub v2 : List ℕ
v2 = codes "v2"

-- the header that begins the version's local tokens
abbrev pub header : List ℕ
header = header_text v2 local

-- ---- sealing

-- the token's nonce: the hash of the text under its seed
abbrev pub token_nonce : List ℕ → List ℕ → List ℕ
token_nonce seed text = blake2b seed 24 text

-- what is bound to the text, and not encrypted: the header, the nonce and the footer
abbrev pub associated : List ℕ → List ℕ → List ℕ
associated nonce footer = pae (header ∷ nonce ∷ footer ∷ [])

-- the box of a text, where there is one
abbrev pub box_of : BoxSealing → Binding → List ℕ → List ℕ → Option (List ℕ)
box_of box binding nonce text = box binding.key nonce (associated nonce binding.footer) text

-- the payload of a sealed token: the nonce and the text's box
abbrev pub boxed_payload : BoxSealing → Binding → List ℕ → List ℕ → Option (List ℕ)
boxed_payload box binding nonce text = option_map (λ boxed. nonce ++ boxed) (box_of box binding nonce text)

-- the sealing of a text, with its footer's section or without
abbrev pub boxed_sealing : BoxSealing → Binding → List ℕ → Bool → List ℕ → Option (List ℕ)
boxed_sealing box binding nonce written text =
    option_map (λ payload. framing header payload written binding.footer)
    (boxed_payload box binding nonce text)

-- ---- opening

-- the payload is, under some nonce, that of the text
pub record IsBoxedPayload (box : BoxSealing) (binding : Binding) (payload text : List ℕ) : Type 0 where
  pub nonce : List ℕ
  pub is_nonce : IsBoxNonce nonce
  pub is_boxed : boxed_payload box binding nonce text ≡ Some payload

-- the parts of a payload: the nonce and the box
abbrev pub nonce_in : List ℕ → List ℕ
nonce_in payload = take 24 payload

abbrev pub box_in : List ℕ → List ℕ
box_in payload = drop 24 payload

-- the payload has room for a nonce
abbrev pub HasRoom : List ℕ → Type 0
HasRoom payload = 24 ≤ length payload

-- what a box finds in the payload: a message, or none
abbrev pub IsFound : BoxSealing → Binding → List ℕ → Option (List ℕ) → Type 0
IsFound box binding payload found = IsOpening (box_of box binding (nonce_in payload)) (box_in payload) found

-- the payload's box is that of this text
pub record HoldsBoxed (box : BoxSealing) (binding : Binding) (payload text : List ℕ) : Type 0 where
  pub room : HasRoom payload
  pub is_box : IsFound box binding payload (Some text)
  pub utf8 : IsUtf8 text

-- the error is the first fault of a payload, in this order: its length, its box, its text
abbrev pub IsBoxedFault : BoxSealing → Binding → List ℕ → PasetoError → Type 0
IsBoxedFault box binding payload IncorrectSize = ¬ HasRoom payload
IsBoxedFault box binding payload ChaChaCipherError = HasRoom payload × IsFound box binding payload None
IsBoxedFault box binding payload (Utf8Error source) =
    HasRoom payload × ((message : List ℕ) × IsFound box binding payload (Some message)
    × (¬ IsUtf8 message) × IsUtf8Fault message source)
IsBoxedFault box binding payload _ = ⊥

-- how the version's local tokens are read: opened by a box under a key and a footer
abbrev pub box_opening : BoxSealing → Binding → Reading
box_opening box binding = record {
  version = v2;
  purpose = local;
  footer = binding.footer;
  Carries = IsBoxedPayload box binding;
  IsPayloadFault = IsBoxedFault box binding;
}
