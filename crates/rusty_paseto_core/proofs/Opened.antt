-- Sealed payloads: each has the parts that opening reads, what opening reads is sealed, and a sealed
-- payload is of one text and has no fault.
use Rattle.std.proofs.Common.{◌≡◌, ℕ, ◌-◌, List, ◌++◌, length, sym, ap, ◌∙◌, subst, arith, Result, Ok, Err, IfOk, IfErr, inr, ◌⊎◌, String, Global}
use Rattle.std.proofs.lemmas.List.{length-take-le}
use Rattle.std.specs.Prelude.{IsUtf8}
use Rattle.std.specs.String.{string_bytes}
use Rattle.rusty_paseto_parts.specs.Error.{IsMemory}
use Rattle.rusty_paseto_primitives.specs.Bytes.{IsBytes}
use Rattle.rusty_paseto_primitives.proofs.ByteLists.{IsBytes-append, IsBytes-take, IsBytes-drop}
use Rattle.rusty_paseto_parts.specs.declared.error.PasetoError.{PasetoError}
use Rattle.rusty_paseto_parts.specs.declared.error.PasetoError.TheVariants.{IncorrectSize, Cryption, Utf8Error}
use Rattle.rusty_paseto_core.specs.Context.{Binding}
use Rattle.rusty_paseto_core.specs.Local.{Design, IsNonce, IsLawful}
use Rattle.rusty_paseto_core.specs.Local.Opening.{HasRoom, HasTag, HoldsText, IsSealedFault, ciphertext_in, nonce_in, opening, tag_in, plaintext}
use Rattle.rusty_paseto_core.specs.Local.Sealing.{sealed_payload, tag_of}
use Rattle.rusty_paseto_core.specs.Reading.{CarriesText}
use Rattle.rusty_paseto_core.proofs.Parts.{length-parts, nonce-parts, ciphertext-parts, tag-parts, parts-payload}
use Rattle.rusty_paseto_core.proofs.ReadingLaws.{IsLawfulReading}

module _ (design : Design) (law : IsLawful design) (binding : Binding) where
  -- what a sealed payload holds
  module _ (nonce text : List ℕ) (is_nonce : IsNonce nonce) where
    ciphertext : List ℕ
    ciphertext = design.apply_keystream binding.key nonce text

    tag : List ℕ
    tag = tag_of design binding nonce ciphertext

    tag_length : length tag ≡ design.tag_length
    unfolding tag
    tag_length = law.length_tag _ _

    sealed-HasRoom : HasRoom design (sealed_payload design binding nonce text)
    unfolding sealed_payload tag ciphertext
    sealed-HasRoom = omega (arith, length-parts nonce ciphertext tag design.tag_length is_nonce.size tag_length)

    pub nonce_in-sealed : nonce_in (sealed_payload design binding nonce text) ≡ nonce
    unfolding sealed_payload tag ciphertext
    nonce_in-sealed = nonce-parts nonce ciphertext tag design.tag_length is_nonce.size tag_length

    ciphertext_in-sealed : ciphertext_in design (sealed_payload design binding nonce text) ≡ design.apply_keystream binding.key nonce text
    unfolding sealed_payload tag ciphertext
    ciphertext_in-sealed = ciphertext-parts nonce ciphertext tag design.tag_length is_nonce.size tag_length

    pub tag_in-sealed : tag_in design (sealed_payload design binding nonce text) ≡ tag_of design binding nonce (design.apply_keystream binding.key nonce text)
    unfolding sealed_payload tag ciphertext
    tag_in-sealed = tag-parts nonce ciphertext tag design.tag_length is_nonce.size tag_length

    sealed-HasTag : HasTag design binding (sealed_payload design binding nonce text)
    sealed-HasTag = rw (nonce_in-sealed, ciphertext_in-sealed) tag_in-sealed

    plaintext-sealed : plaintext design binding (sealed_payload design binding nonce text) ≡ text
    plaintext-sealed =
        ap (λ (n : List ℕ). design.apply_keystream binding.key n (ciphertext_in design (sealed_payload design binding nonce text))) nonce_in-sealed
        ∙ ap (λ (m : List ℕ). design.apply_keystream binding.key nonce m) ciphertext_in-sealed
        ∙ law.applied_twice binding.key nonce text

    sealed-IsBytes : IsBytes text → IsBytes (sealed_payload design binding nonce text)
    unfolding sealed_payload tag ciphertext
    sealed-IsBytes bytes =
        IsBytes-append (nonce ++ ciphertext) tag
        (IsBytes-append nonce ciphertext is_nonce.bytes (law.bytes_applied binding.key nonce text bytes))
        (law.bytes_tag _ _)

    sealed-HoldsText : IsUtf8 text → HoldsText design binding (sealed_payload design binding nonce text) text
    sealed-HoldsText utf8 = record { room = sealed-HasRoom; tag = sealed-HasTag; text_is = plaintext-sealed; utf8 = utf8 }

  -- a payload with its tag is a sealed one
  payload-sealed : (payload : List ℕ) → HasRoom design payload → HasTag design binding payload
      → sealed_payload design binding (nonce_in payload) (plaintext design binding payload) ≡ payload
  unfolding sealed_payload
  payload-sealed payload room tagged =
      rw (law.applied_twice binding.key (nonce_in payload) (ciphertext_in design payload), ← tagged)
      (parts-payload payload design.tag_length room)

  -- what a payload holds is what it carries
  pub HoldsText-carries : (payload text : List ℕ) → IsBytes payload → HoldsText design binding payload text
      → CarriesText (opening design binding) payload text
  HoldsText-carries payload text bytes holds =
      let nonce_size = length-take-le 32 payload (omega (arith, holds.room)) in
      let text_bytes : IsBytes (plaintext design binding payload) =
      law.bytes_applied _ _ _ (IsBytes-drop 32 _ (IsBytes-take (length payload - design.tag_length) payload bytes)) in
      record {
        utf8 = holds.utf8;
        bytes = subst IsBytes holds.text_is text_bytes;
        carries = record {
          nonce = nonce_in payload;
          is_nonce = record { size = nonce_size; bytes = IsBytes-take 32 payload bytes };
          is_sealed = sym (payload-sealed payload holds.room holds.tag)
              ∙ ap (λ (t : List ℕ). sealed_payload design binding (nonce_in payload) t) holds.text_is;
        };
      }

  -- and the other way
  pub carries-HoldsText : (payload text : List ℕ) → CarriesText (opening design binding) payload text → HoldsText design binding payload text
  carries-HoldsText payload text carried =
      let own = carried.carries in
      subst (λ p. HoldsText design binding p text) (sym own.is_sealed) (sealed-HoldsText own.nonce text own.is_nonce carried.utf8)

  HoldsText-fault : (payload text : List ℕ) (error : PasetoError) → HoldsText design binding payload text
      → IsSealedFault design binding payload error → ⊥
  HoldsText-fault payload text IncorrectSize holds fault = fault holds.room
  HoldsText-fault payload text Cryption holds fault = fault.1 holds.tag
  HoldsText-fault payload text (Utf8Error _) holds fault = fault.2 (rw holds.text_is holds.utf8)
  HoldsText-fault payload text _ holds fault = fault

  pub opening-lawful : IsBytes binding.footer → IsLawfulReading (opening design binding)
  opening-lawful footer_bytes = record {
    is_header = law.is_header;
    footer_bytes = footer_bytes;
    payload_bytes = λ payload text carried. subst IsBytes (sym carried.carries.is_sealed)
        (sealed-IsBytes carried.carries.nonce text carried.carries.is_nonce carried.bytes);
    one_text = λ payload first second a b. sym (carries-HoldsText payload first a).text_is ∙ (carries-HoldsText payload second b).text_is;
    no_fault = λ payload text error carried fault. HoldsText-fault payload text error (carries-HoldsText payload text carried) fault;
  }

  -- an answer by what the payload holds is one by what it carries
  pub opened_carries : (payload : List ℕ) → IsBytes payload → (answer : Result (String Global) PasetoError)
      → IfOk answer (λ found. HoldsText design binding payload (string_bytes found))
      → IfOk answer (λ found. CarriesText (opening design binding) payload (string_bytes found))
  opened_carries payload bytes (Ok found) holds = HoldsText-carries payload (string_bytes found) bytes holds
  opened_carries payload bytes (Err error) holds = tt

  -- a failed allocation aside, which does not come here
  pub sealed_fault : (payload : List ℕ) (answer : Result (String Global) PasetoError) → IfErr answer (IsSealedFault design binding payload)
      → IfErr answer (λ error. IsMemory error ⊎ IsSealedFault design binding payload error)
  sealed_fault payload (Ok found) fault = tt
  sealed_fault payload (Err error) fault = inr fault
