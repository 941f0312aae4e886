-- The tag of a payload, as it is compared, and the text, as it is plaintext in place.
use Rattle.std.proofs.Common.{◌≡◌, ◌↔◌, ℕ, ◌+◌, ◌-◌, ◌≤◌, List, Bool, IsTrue, length, take, drop, refl, sym, ap, ◌∙◌, arith, length-drop}
use Rattle.std.specs.Str.{IsUtf8}
use Rattle.std.specs.List.{copy_within}
use Rattle.std.proofs.lemmas.List.{drop-take}
use Rattle.std.proofs.lemmas.List.Edits.{take-paste}
use Rattle.rusty_paseto_core.specs.Context.{Binding}
use Rattle.rusty_paseto_core.specs.Local.{Design}
use Rattle.rusty_paseto_core.specs.Local.Sealing.{tag_of}
use Rattle.rusty_paseto_core.specs.Local.Opening.{nonce_in, ciphertext_in, tag_in, HasRoom, HasTag, HoldsText}

-- the ciphertext, cut from the front first
pub ciphertext_slice : (payload : List ℕ) (end : ℕ) → 32 ≤ end → take (end - 32) (drop 32 payload) ≡ drop 32 (take end payload)
ciphertext_slice payload end low =
    let e : 32 + (end - 32) ≡ end = omega arith in
    sym (drop-take 32 (end - 32) payload) ∙ ap (λ (n : ℕ). drop 32 (take n payload)) e

-- what is left of a payload whose ciphertext text was copied to its front
pub kept_ciphertext : (payload : List ℕ) (end : ℕ) → 32 ≤ end → end ≤ length payload
    → take (end - 32) (copy_within payload 32 end 0) ≡ drop 32 (take end payload)
kept_ciphertext payload end low high =
    let e : end - 32 ≡ 0 + (end - 32) = omega arith in
    ap (λ (n : ℕ). take n (copy_within payload 32 end 0)) e
    ∙ take-paste payload 0 (drop 32 payload) (end - 32) (omega arith) (omega (arith, length-drop 32 payload)) ∙ ciphertext_slice payload end low

module _ (design : Design) (binding : Binding) (payload : List ℕ) (width : ℕ) (own : width ≡ design.tag_length) (room : HasRoom design payload) where
  pub tag_decides : (same : Bool) (nonce written found : List ℕ) → nonce ≡ take 32 payload
      → written ≡ tag_of design binding nonce (take (length payload - width - 32) (drop 32 payload))
      → found ≡ drop (length payload - width) payload
      → (IsTrue same ↔ (written ≡ found))
      → IsTrue same ↔ HasTag design binding payload
  tag_decides same nonce written found en ew ef decides =
      let w : written ≡ tag_of design binding (nonce_in payload) (ciphertext_in design payload) =
      rw (ew, en, ciphertext_slice payload (length payload - width) (omega arith), own) refl in
      let f : found ≡ tag_in design payload = rw (ef, own) refl in (
        λ yes. sym f ∙ sym (decides.0 yes) ∙ w,
        λ tagged. decides.1 (w ∙ sym tagged ∙ sym f),
      )

  pub holds_text : (key nonce ciphertext text : List ℕ) → HasTag design binding payload → key ≡ binding.key → nonce ≡ take 32 payload
      → ciphertext ≡ drop 32 (take (length payload - width) payload)
      → text ≡ design.apply_keystream key nonce ciphertext → IsUtf8 text → HoldsText design binding payload text
  holds_text key nonce ciphertext text tagged ek en em et utf8 =
      record { room = room; tag = tagged; text_is = rw (et, ek, en, em, own) refl; utf8 = utf8 }
