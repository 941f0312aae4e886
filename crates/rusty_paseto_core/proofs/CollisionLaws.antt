-- What a collision of tags shows.
use Rattle.std.proofs.Common.{◌≡◌, ℕ, ◌<◌, ◌≤◌, ◌^◌, List, [], ◌∷◌, ◌++◌, Bool, true, false, if◌then◌else◌, length, refl, sym, ap, subst, ◌∙◌, arith, length-append, inl, inr, lit≤}
use Rattle.std.proofs.lemmas.List.Elements.{All-cons, All-nil}
use Rattle.std.specs.List.{All, flat_map}
use Rattle.rusty_paseto_primitives.specs.Collision.{IsHmacCollision}
use Rattle.rusty_paseto_primitives.specs.Hkdf.{hkdf}
use Rattle.rusty_paseto_primitives.specs.Hmac.{hmac}
use Rattle.rusty_paseto_primitives.proofs.HkdfLengths.{length-hkdf_expand}
use Rattle.rusty_paseto_primitives.proofs.HmacCollisions.{cases_lists, codes_collide}
use Rattle.rusty_paseto_parts.specs.PreAuthenticationEncoding.{encoded_piece, le64, pae}
use Rattle.rusty_paseto_parts.proofs.PaeLemmas.{FitsLength, pae-injective}
use Rattle.rusty_paseto_core.specs.Context.{Binding}
use Rattle.rusty_paseto_core.specs.Local.{Design, IsLawful, header}
use Rattle.rusty_paseto_core.specs.Local.Sealing.{pieces}
use Rattle.rusty_paseto_core.specs.Local.TagCollision.{Case, CollisionsShow, Content, IsTagOfTwo, Covered, encoding, tag_key, covered}
use Rattle.rusty_paseto_core.specs.Local.V1.{v1}
use Rattle.rusty_paseto_core.specs.Local.V1Laws.{v1-IsLawful}
use Rattle.rusty_paseto_core.specs.Local.V3.{v3}
use Rattle.rusty_paseto_core.specs.Local.V3Laws.{v3-IsLawful}

-- ---- encodings that fit into memory

pieces_fit : (parts : List (List ℕ)) → length (flat_map encoded_piece parts) < 2 ^ 64 → All FitsLength parts
unfolding encoded_piece
pieces_fit [] fits = All-nil FitsLength
pieces_fit (part ∷ parts) fits =
    let size = length-append (le64 (length part) ++ part) (flat_map encoded_piece parts) in
    let own = length-append (le64 (length part)) part in
    All-cons FitsLength part parts (omega (arith, size, own)) (pieces_fit parts (omega (arith, size)))

pub encoding_fits : (parts : List (List ℕ)) → length (pae parts) < 2 ^ 64 → All FitsLength parts
unfolding pae
encoding_fits parts fits =
    pieces_fit parts (omega (arith, length-append (le64 (length parts)) (flat_map encoded_piece parts)))

few_of : (binds : Bool) (front nonce ciphertext footer assertion : List ℕ)
    → length (front ∷ nonce ∷ ciphertext ∷ footer ∷ (if binds then assertion ∷ [] else [])) < 2 ^ 64
few_of true front nonce ciphertext footer assertion = lit≤ tt
few_of false front nonce ciphertext footer assertion = lit≤ tt

few : (design : Design) (binding : Binding) (nonce ciphertext : List ℕ) → length (pieces design binding nonce ciphertext) < 2 ^ 64
few design binding nonce ciphertext = few_of design.binds_assertion (header design) nonce ciphertext binding.footer binding.assertion

-- equal encodings that fit are of equal pieces
pieces_alike : (design : Design) (one other : Binding) (nonce ciphertext other_nonce other_ciphertext : List ℕ)
    → length (pae (pieces design one nonce ciphertext)) < 2 ^ 64 → length (pae (pieces design other other_nonce other_ciphertext)) < 2 ^ 64
    → pae (pieces design one nonce ciphertext) ≡ pae (pieces design other other_nonce other_ciphertext)
    → pieces design one nonce ciphertext ≡ pieces design other other_nonce other_ciphertext
pieces_alike design one other nonce ciphertext other_nonce other_ciphertext fits other_fits same =
    pae-injective (pieces design one nonce ciphertext) (pieces design other other_nonce other_ciphertext)
    (few design one nonce ciphertext) (few design other other_nonce other_ciphertext)
    (encoding_fits _ fits) (encoding_fits _ other_fits) same

-- ---- two keys, or two encodings, or a split

covered_alike : (key other_key text other_text footer other_footer : List ℕ) (assertion other_assertion : List (List ℕ))
    → key ≡ other_key → text ≡ other_text → footer ≡ other_footer → assertion ≡ other_assertion
    → (let one : Covered = record { key = key; text = text; footer = footer; assertion = assertion } in one)
    ≡ record { key = other_key; text = other_text; footer = other_footer; assertion = other_assertion }
covered_alike key other_key text other_text footer other_footer assertion other_assertion a b c d = rw (a, b, c, d) refl

module _ (design : Design) (law : IsLawful design) where
  -- one apply_keystream of two texts
  text_alike : (key nonce text other_text : List ℕ) → design.apply_keystream key nonce text ≡ design.apply_keystream key nonce other_text → text ≡ other_text
  text_alike key nonce text other_text same =
      sym (law.applied_twice key nonce text) ∙ ap (design.apply_keystream key nonce) same ∙ law.applied_twice key nonce other_text

  module _ (first second : Case) (one other : Content) (fits : length (encoding design first one) < 2 ^ 64)
      (messages : encoding design first one ≡ encoding design second other) where
    ciphertext : Case → Content → List ℕ
    ciphertext case content = design.apply_keystream case.binding.key content.nonce content.text

    parts_alike : pieces design first.binding one.nonce (ciphertext first one) ≡ pieces design second.binding other.nonce (ciphertext second other)
    unfolding ciphertext
    parts_alike =
        pieces_alike design first.binding second.binding one.nonce (ciphertext first one) other.nonce (ciphertext second other) fits
        (subst (λ (m : List ℕ). length m < 2 ^ 64) messages fits) messages

    -- what is encoded alike has one nonce
    pub nonces_alike : one.nonce ≡ other.nonce
    nonces_alike = let parts = parts_alike in cc

    -- what is encoded alike under one key is covered alike
    pub encoded_alike : first.binding.key ≡ second.binding.key → covered design first one ≡ covered design second other
    unfolding ciphertext
    encoded_alike keys =
        let parts = parts_alike in
        let texts : design.apply_keystream first.binding.key one.nonce one.text ≡ design.apply_keystream second.binding.key other.nonce other.text = cc in
        let own : design.apply_keystream first.binding.key one.nonce one.text ≡ design.apply_keystream first.binding.key one.nonce other.text =
        texts ∙ ap (λ (k : List ℕ). design.apply_keystream k other.nonce other.text) (sym keys)
        ∙ ap (λ (n : List ℕ). design.apply_keystream first.binding.key n other.text) (sym nonces_alike) in
        covered_alike _ _ _ _ _ _ _ _ keys (text_alike first.binding.key one.nonce one.text other.text own) (cc) (cc)

  pub collisions_show_tag : CollisionsShow design (IsTagOfTwo design)
  collisions_show_tag openings found c =
      let share = c.share in
      let key = tag_key design c.first share.one in
      let other_key = tag_key design c.second share.other in
      let one_tag : design.tag key found.first ≡ design.tag other_key found.second =
      ap (design.tag key) c.first_encoding ∙ share.tag ∙ ap (design.tag other_key) (sym c.second_encoding) in
      elim (cases_lists key other_key) [
        | inr keys ↦ inl (record { apart = inl keys; tag = one_tag })
        | inl keys ↦
            elim (cases_lists found.first found.second) [
              | inr messages ↦ inl (record { apart = inr messages; tag = one_tag })
              | inl messages ↦ inr (
                keys,
                messages,
                record {
                  apart = λ same. share.apart (encoded_alike c.first c.second share.one share.other
                      (subst (λ (m : List ℕ). length m < 2 ^ 64) c.first_encoding c.first_fits)
                      (sym c.first_encoding ∙ messages ∙ c.second_encoding) same);
                  one_key = keys ∙ ap (design.authentication_key c.second.binding.key) (sym share.nonce);
                },
              )
            ]
      ]

-- ---- the versions with HMAC

shown : (key message other_key other_message : List ℕ) (design : Design) → length key ≡ length other_key → length key ≤ 128
    → ((k m : List ℕ) → design.tag k m ≡ hmac k m)
    → IsTagOfTwo design key message other_key other_message → IsHmacCollision key message other_key other_message
shown key message other_key other_message design size fits is_hmac two =
    codes_collide key message other_key other_message size fits two.apart (sym (is_hmac key message) ∙ two.tag ∙ is_hmac other_key other_message)

hmac_shows : (design : Design) → IsLawful design → (n : ℕ) → n ≤ 128 → ((key nonce : List ℕ) → length (design.authentication_key key nonce) ≡ n)
    → ((k m : List ℕ) → design.tag k m ≡ hmac k m) → CollisionsShow design IsHmacCollision
hmac_shows design law n small size is_hmac openings found c =
    let key = tag_key design c.first c.share.one in
    let other_key = tag_key design c.second c.share.other in
    let one = size c.first.binding.key c.share.one.nonce in
    let other = size c.second.binding.key c.share.other.nonce in
    elim (collisions_show_tag design law openings found c) [
      | inl two ↦ inl (shown key found.first other_key found.second design (one ∙ sym other) (omega arith) is_hmac two)
      | inr split ↦ inr split
    ]

v1_key : (key nonce : List ℕ) → length (v1.authentication_key key nonce) ≡ 32
unfolding v1 hkdf
v1_key key nonce = length-hkdf_expand _ _ 32

v1_tag : (key message : List ℕ) → v1.tag key message ≡ hmac key message
unfolding v1
v1_tag key message = refl

v3_key : (key nonce : List ℕ) → length (v3.authentication_key key nonce) ≡ 48
unfolding v3 hkdf
v3_key key nonce = length-hkdf_expand _ _ 48

v3_tag : (key message : List ℕ) → v3.tag key message ≡ hmac key message
unfolding v3
v3_tag key message = refl

pub v1_shows : CollisionsShow v1 IsHmacCollision
v1_shows = hmac_shows v1 v1-IsLawful 32 (lit≤ tt) v1_key v1_tag

pub v3_shows : CollisionsShow v3 IsHmacCollision
v3_shows = hmac_shows v3 v3-IsLawful 48 (lit≤ tt) v3_key v3_tag
