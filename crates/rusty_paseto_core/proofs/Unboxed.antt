-- Boxed payloads: what opening by a box reads is boxed, and a boxed payload is of one text and has no
-- fault.
use Rattle.std.proofs.Common.{◌≡◌, ℕ, List, [], ◌∷◌, ◌++◌, Bool, refl, sym, subst, arith, Option, Some, None, Result, Ok, Err, IfOk, String, Global, length, length-append}
use Rattle.std.proofs.lemmas.List.{length-take-le, take_at, drop_at, take-append-drop}
use Rattle.std.proofs.lemmas.List.Elements.{All-cons, All-nil}
use Rattle.std.specs.Prelude.{option_map}
use Rattle.std.specs.String.{string_bytes}
use Rattle.rusty_paseto_primitives.specs.Bytes.{IsBytes}
use Rattle.rusty_paseto_primitives.proofs.ByteLists.{IsBytes-append, IsBytes-take}
use Rattle.rusty_paseto_parts.specs.Header.{header_text}
use Rattle.rusty_paseto_parts.specs.declared.error.PasetoError.{PasetoError}
use Rattle.rusty_paseto_parts.specs.declared.error.PasetoError.TheVariants.{IncorrectSize, ChaChaCipherError, Utf8Error}
use Rattle.rusty_paseto_core.specs.Context.{Binding}
use Rattle.rusty_paseto_core.specs.Framing.{IsHeader, framing}
use Rattle.rusty_paseto_core.specs.HeaderLaws.{IsHeader-known}
use Rattle.rusty_paseto_core.specs.Local.{local}
use Rattle.rusty_paseto_core.specs.Local.Boxed.{HasRoom, HoldsBoxed, IsBoxedFault, IsFound, associated, box_in, box_of, box_opening, header, nonce_in, v2}
use Rattle.rusty_paseto_core.specs.Local.SealedBox.{BoxSealing, IsAsked, IsBoxNonce, IsLawfulBox, IsOpening}
use Rattle.rusty_paseto_core.specs.Reading.{CarriesText}
use Rattle.rusty_paseto_core.proofs.EncodingBytes.{IsBytes-known, IsBytes-pae}
use Rattle.rusty_paseto_core.proofs.ReadingLaws.{IsLawfulReading}

header_bytes : IsBytes header
unfolding header_text
header_bytes = IsBytes-known header refl

is_header : IsHeader v2 local header
is_header = IsHeader-known v2 local refl refl

-- what a box found, in the words of the payload
pub found_opening : (box : BoxSealing) (binding : Binding) (payload nonce encoding boxed : List ℕ) (found : Option (List ℕ))
    → nonce ≡ nonce_in payload → encoding ≡ associated nonce binding.footer → boxed ≡ box_in payload
    → IsOpening (box binding.key nonce encoding) boxed found
    → IsFound box binding payload found
found_opening box binding payload nonce encoding boxed found en ee eb opening = rw (eb, ee, en) at opening

-- a payload with its box
pub payload_parts : (nonce payload : List ℕ) (found : Option (List ℕ)) → option_map (λ boxed. nonce ++ boxed) found ≡ Some payload
    → (boxed : List ℕ) × (found ≡ Some boxed) × (payload ≡ nonce ++ boxed)
payload_parts nonce payload None same = absurd (cc)
payload_parts nonce payload (Some boxed) same = (boxed, refl, cc)

-- the framing of a payload that there is
pub sealing_parts : (footer : List ℕ) (written : Bool) (token : List ℕ) (found : Option (List ℕ))
    → option_map (λ payload. framing header payload written footer) found ≡ Some token
    → (payload : List ℕ) × (found ≡ Some payload) × (token ≡ framing header payload written footer)
sealing_parts footer written token None same = absurd (cc)
sealing_parts footer written token (Some payload) same = (payload, refl, cc)

module _ (box : BoxSealing) (law : IsLawfulBox box) (binding : Binding) (key_size : length binding.key ≡ 32)
    (key_bytes : IsBytes binding.key) (footer_bytes : IsBytes binding.footer) where
  -- the box is asked with a key, a nonce and bytes
  pub asked : (nonce : List ℕ) → IsBoxNonce nonce → IsAsked binding.key nonce (associated nonce binding.footer)
  asked nonce is_nonce = record {
    key_size = key_size;
    key_bytes = key_bytes;
    is_nonce = is_nonce;
    associated_bytes = IsBytes-pae (header ∷ nonce ∷ binding.footer ∷ [])
        (All-cons IsBytes header (nonce ∷ binding.footer ∷ []) header_bytes
        (All-cons IsBytes nonce (binding.footer ∷ []) is_nonce.bytes (All-cons IsBytes binding.footer [] footer_bytes (All-nil IsBytes))));
  }

  -- the nonce and the box of a boxed payload
  module _ (payload text : List ℕ) (carried : CarriesText (box_opening box binding) payload text) where
    parts : (boxed : List ℕ) × (box_of box binding carried.carries.nonce text ≡ Some boxed) × (payload ≡ carried.carries.nonce ++ boxed)
    parts = payload_parts carried.carries.nonce payload (box_of box binding carried.carries.nonce text) carried.carries.is_boxed

    carries-IsBytes : IsBytes payload
    carries-IsBytes =
        let nonce = carried.carries.is_nonce in
        subst IsBytes (sym parts.2)
        (IsBytes-append carried.carries.nonce parts.0 nonce.bytes
        (law.bytes _ _ _ text parts.0 (asked carried.carries.nonce nonce) carried.bytes parts.1))

    carries-HoldsBoxed : HoldsBoxed box binding payload text
    carries-HoldsBoxed =
        let nonce = carried.carries.is_nonce in
        subst (λ p. HoldsBoxed box binding p text) (sym parts.2) (record {
          room = omega (arith, length-append carried.carries.nonce parts.0, nonce.size);
          is_box = rw (take_at carried.carries.nonce parts.0 24 nonce.size, drop_at carried.carries.nonce parts.0 24 nonce.size) (carried.bytes, parts.1);
          utf8 = carried.utf8;
        })

  pub in-IsNonce : (payload : List ℕ) → IsBytes payload → HasRoom payload → IsBoxNonce (nonce_in payload)
  in-IsNonce payload bytes room = record { size = length-take-le 24 payload room; bytes = IsBytes-take 24 payload bytes }

  -- what a payload holds is what it carries
  HoldsBoxed-carries : (payload text : List ℕ) → IsBytes payload → HoldsBoxed box binding payload text
      → CarriesText (box_opening box binding) payload text
  HoldsBoxed-carries payload text bytes holds =
      let whole : nonce_in payload ++ box_in payload ≡ payload = take-append-drop 24 payload in
      record {
        utf8 = holds.utf8;
        bytes = holds.is_box.0;
        carries = record {
          nonce = nonce_in payload;
          is_nonce = in-IsNonce payload bytes holds.room;
          is_boxed = rw (holds.is_box.1, whole) refl;
        };
      }

  -- a payload of bytes holds one message
  one_message : (payload first second : List ℕ) → IsBytes payload → HasRoom payload → IsFound box binding payload (Some first)
      → IsFound box binding payload (Some second) → first ≡ second
  one_message payload first second bytes room a b =
      law.injective _ _ _ first second (box_in payload) (asked (nonce_in payload) (in-IsNonce payload bytes room)) a.0 b.0 a.1 b.1

  HoldsBoxed-fault : (payload text : List ℕ) (error : PasetoError) → IsBytes payload → HoldsBoxed box binding payload text
      → IsBoxedFault box binding payload error → ⊥
  HoldsBoxed-fault payload text IncorrectSize bytes holds fault = fault holds.room
  HoldsBoxed-fault payload text ChaChaCipherError bytes holds fault = fault.1 text holds.is_box.0 holds.is_box.1
  HoldsBoxed-fault payload text (Utf8Error _) bytes holds fault =
      let same = one_message payload text fault.1.0 bytes holds.room holds.is_box fault.1.1 in
      fault.1.2 (rw (← same) holds.utf8)
  HoldsBoxed-fault payload text _ bytes holds fault = fault

  pub box_opening-lawful : IsLawfulReading (box_opening box binding)
  box_opening-lawful = record {
    is_header = is_header;
    footer_bytes = footer_bytes;
    payload_bytes = carries-IsBytes;
    one_text = λ payload first second a b.
        let holds = carries-HoldsBoxed payload first a in
        one_message payload first second (carries-IsBytes payload first a) holds.room holds.is_box (carries-HoldsBoxed payload second b).is_box;
    no_fault = λ payload text error carried fault.
        HoldsBoxed-fault payload text error (carries-IsBytes payload text carried) (carries-HoldsBoxed payload text carried) fault;
  }

  -- an answer by what the payload holds is one by what it carries
  pub boxed_carries : (payload : List ℕ) → IsBytes payload → (answer : Result (String Global) PasetoError)
      → IfOk answer (λ found. HoldsBoxed box binding payload (string_bytes found))
      → IfOk answer (λ found. CarriesText (box_opening box binding) payload (string_bytes found))
  boxed_carries payload bytes (Ok found) holds = HoldsBoxed-carries payload (string_bytes found) bytes holds
  boxed_carries payload bytes (Err error) holds = tt
