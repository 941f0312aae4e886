-- Signed payloads: what verifying reads is signed, and a signed payload is of one text and has no fault.
use Rattle.std.proofs.Common.{◌≡◌, ℕ, ◌-◌, List, ◌++◌, sym, ◌∙◌, subst, arith, inl, inr, Result, Ok, Err, IfOk, String, Global, length, take, drop, length-append, length-drop}
use Rattle.std.proofs.lemmas.List.{take_at, drop_at, take-append-drop}
use Rattle.std.specs.Str.{IsUtf8}
use Rattle.std.specs.String.{string_bytes}
use Rattle.rusty_paseto_primitives.specs.Bytes.{IsBytes}
use Rattle.rusty_paseto_primitives.proofs.ByteLists.{IsBytes-append, IsBytes-take, IsBytes-drop}
use Rattle.rusty_paseto_parts.specs.declared.error.PasetoError.{PasetoError}
use Rattle.rusty_paseto_core.specs.Context.{Binding}
use Rattle.rusty_paseto_core.specs.Framing.{IsHeader}
use Rattle.rusty_paseto_core.specs.Public.{PublicDesign, header, public}
use Rattle.rusty_paseto_core.specs.Public.Scheme.{Refusal, Validity}
use Rattle.rusty_paseto_core.specs.Public.Verifying.{HasRoom, HasSignature, HoldsSigned, IsSignedFault, signature_in, text_in, verification}
use Rattle.rusty_paseto_core.specs.Reading.{CarriesText}
use Rattle.rusty_paseto_core.proofs.ReadingLaws.{IsLawfulReading}

-- the parts of a text and a signature, joined
module _ (design : PublicDesign) (text signature : List ℕ) (size : length signature ≡ design.signature_length) where
  length_rest : length (text ++ signature) - design.signature_length ≡ length text
  length_rest = omega (arith, length-append text signature, size)

  text-joined : text_in design (text ++ signature) ≡ text
  text-joined = take_at text signature _ (sym length_rest)

  signature-joined : signature_in design (text ++ signature) ≡ signature
  signature-joined = drop_at text signature _ (sym length_rest)

  room-joined : HasRoom design (text ++ signature)
  room-joined = omega (arith, length-append text signature, size)

-- a payload that ends in a valid signature holds what stands before it
pub holds_signed : (valid : Validity) (design : PublicDesign) (binding : Binding) (payload kept : List ℕ) (size : ℕ)
    → HasRoom design payload → HasSignature valid design binding payload
    → size ≡ design.signature_length → kept ≡ take (length payload - size) payload → IsUtf8 kept
    → HoldsSigned valid design binding payload kept
holds_signed valid design binding payload kept size room signed own kept_is utf8 =
    record { room = room; is_valid = signed; text_is = rw (← own) (sym kept_is); utf8 = utf8 }

module _ (valid : Validity) (refused : Refusal) (design : PublicDesign) (binding : Binding) where
  -- what a payload holds is what it carries
  HoldsSigned-carries : (payload text : List ℕ) → IsBytes payload → HoldsSigned valid design binding payload text
      → CarriesText (verification valid refused design binding) payload text
  HoldsSigned-carries payload text bytes holds =
      let end = length payload - design.signature_length in
      let whole : take end payload ++ drop end payload ≡ payload = take-append-drop end payload in
      let text_bytes : IsBytes (take end payload) = IsBytes-take end payload bytes in
      record {
        utf8 = holds.utf8;
        bytes = rw holds.text_is at text_bytes;
        carries = record {
          signature = signature_in design payload;
          size = omega (arith, length-drop end payload, holds.room);
          bytes = IsBytes-drop end payload bytes;
          is_valid = rw holds.text_is at holds.is_valid;
          is_signed = rw (← holds.text_is) (sym whole);
        };
      }

  -- and the other way
  carries-HoldsSigned : (payload text : List ℕ) → CarriesText (verification valid refused design binding) payload text
      → HoldsSigned valid design binding payload text
  carries-HoldsSigned payload text carried =
      let signature = carried.carries.signature in
      let size = carried.carries.size in
      let same = text-joined design text signature size in
      subst (λ p. HoldsSigned valid design binding p text) (sym carried.carries.is_signed) (record {
        room = room-joined design text signature size;
        is_valid = rw (same, signature-joined design text signature size) carried.carries.is_valid;
        text_is = same;
        utf8 = carried.utf8;
      })

  HoldsSigned-fault : (payload text : List ℕ) (error : PasetoError) → HoldsSigned valid design binding payload text
      → IsSignedFault valid refused design binding payload error → ⊥
  HoldsSigned-fault payload text error holds (inl short) = short.0 holds.room
  HoldsSigned-fault payload text error holds (inr (inl refusal)) = refusal.1 holds.is_valid
  HoldsSigned-fault payload text error holds (inr (inr no_text)) = no_text.2 (rw holds.text_is holds.utf8)

  pub verification-lawful : IsHeader design.version public (header design) → IsBytes binding.footer
      → IsLawfulReading (verification valid refused design binding)
  verification-lawful is_header footer_bytes = record {
    is_header = is_header;
    footer_bytes = footer_bytes;
    payload_bytes = λ payload text carried. subst IsBytes (sym carried.carries.is_signed)
        (IsBytes-append text carried.carries.signature carried.bytes carried.carries.bytes);
    one_text = λ payload first second a b. sym (carries-HoldsSigned payload first a).text_is ∙ (carries-HoldsSigned payload second b).text_is;
    no_fault = λ payload text error carried fault. HoldsSigned-fault payload text error (carries-HoldsSigned payload text carried) fault;
  }

  -- an answer by what the payload holds is one by what it carries
  pub signed_carries : (payload : List ℕ) → IsBytes payload → (answer : Result (String Global) PasetoError)
      → IfOk answer (λ found. HoldsSigned valid design binding payload (string_bytes found))
      → IfOk answer (λ found. CarriesText (verification valid refused design binding) payload (string_bytes found))
  signed_carries payload bytes (Ok found) holds = HoldsSigned-carries payload (string_bytes found) bytes holds
  signed_carries payload bytes (Err error) holds = tt
