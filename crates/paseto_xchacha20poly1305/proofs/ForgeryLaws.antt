-- A forgery of the box is one of Poly1305: what a tag covers determines the data and the ciphertext.
use Rattle.std.proofs.Common.{◌≡◌, ℕ, ◌+◌, ◌-◌, ◌%◌, ◌^◌, ◌<◌, ◌≤◌, List, ◌++◌, Some, length, replicate, slice_index, refl, sym, ap, ◌∙◌, arith, append_assoc, length-append}
use Rattle.std.proofs.lemmas.List.{length-replicate}
use Rattle.std.proofs.lemmas.Nat.{from_le_bytes-to_le_bytes_8}
use Rattle.std.specs.Int.{from_le_bytes, to_le_bytes, w64}
use Rattle.std.specs.List.{slice_index_or}
use Rattle.rusty_paseto_parts.proofs.PaeLemmas.{append_parts}
use Rattle.rusty_paseto_core.specs.Local.BoxForgery.{BoxOpens, IsFreshBox}
use Rattle.rusty_paseto_core.specs.Local.Boxed.{associated, box_of}
use Rattle.rusty_paseto_core.specs.Local.TagCollision.{Case}
use Rattle.rusty_paseto_core.proofs.Unboxed.{payload_parts}
use Rattle.paseto_xchacha20poly1305.specs.Forgery.{ForgeriesAreTags, IsUntagged}
use Rattle.paseto_xchacha20poly1305.specs.Sealing.{box_sealing, padded, tagged_data, text_tag, xored_text}
use Rattle.paseto_xchacha20poly1305.specs.SealingLaws.{box_sealing-parts, length-xored_text}

-- ---- what is tagged

length-padded : (xs : List ℕ) → length (padded xs) ≡ length xs + (16 - length xs % 16) % 16
length-padded xs = length-append xs (replicate ((16 - length xs % 16) % 16) 0) ∙ ap (λ (n : ℕ). length xs + n) (length-replicate ((16 - length xs % 16) % 16) 0)

padded-alike : (xs ys : List ℕ) → length xs ≡ length ys → padded xs ≡ padded ys → xs ≡ ys
padded-alike xs ys size e = (append_parts xs ys _ _ size e).0

-- lengths that are padded alike, and have one lowest byte
length-alike : (m n : ℕ) → m + (16 - m % 16) % 16 ≡ n + (16 - n % 16) % 16 → m % 256 ≡ n % 256 → m ≡ n
length-alike m n e f = omega (arith, e, f)

tagged-alike : (a b c e : List ℕ) → length c < 2 ^ 64 → length e < 2 ^ 64 → tagged_data a c ≡ tagged_data b e → (a ≡ b) × (c ≡ e)
unfolding tagged_data
tagged-alike a b c e low high same =
    let la = to_le_bytes w64 (length a) in
    let lb = to_le_bytes w64 (length b) in
    let lc = to_le_bytes w64 (length c) in
    let le = to_le_bytes w64 (length e) in
    let grouped : (padded a ++ padded c) ++ (la ++ lc) ≡ (padded b ++ padded e) ++ (lb ++ le) =
    append_assoc (padded a) (padded c) (la ++ lc) ∙ same ∙ sym (append_assoc (padded b) (padded e) (lb ++ le)) in
    let left = length-append (padded a ++ padded c) (la ++ lc) in
    let right = length-append (padded b ++ padded e) (lb ++ le) in
    let tail_left : length (la ++ lc) ≡ 16 = refl in
    let tail_right : length (lb ++ le) ≡ 16 = refl in
    let fronts : length (padded a ++ padded c) ≡ length (padded b ++ padded e) = omega (arith, left, right, tail_left, tail_right, ap length grouped) in
    let parts = append_parts (padded a ++ padded c) (padded b ++ padded e) (la ++ lc) (lb ++ le) fronts grouped in
    let sizes = append_parts la lb lc le refl parts.1 in
    let second : length c ≡ length e =
    sym (from_le_bytes-to_le_bytes_8 (length c) low) ∙ ap (from_le_bytes w64) sizes.1 ∙ from_le_bytes-to_le_bytes_8 (length e) high in
    let lowest : length a % 256 ≡ length b % 256 = ap (λ (l : List ℕ). slice_index l 0) sizes.0 in
    let pad_c = length-padded c in
    let pad_e = length-padded e in
    let pad_second : length (padded c) ≡ length (padded e) =
    pad_c ∙ ap (λ (n : ℕ). n + (16 - n % 16) % 16) second ∙ sym pad_e in
    let pad_first : length (padded a) ≡ length (padded b) =
    omega (arith, fronts, length-append (padded a) (padded c), length-append (padded b) (padded e), pad_second) in
    let first : length a ≡ length b = length-alike (length a) (length b) (sym (length-padded a) ∙ pad_first ∙ length-padded b) lowest in
    let halves = append_parts (padded a) (padded b) (padded c) (padded e) pad_first parts.0 in
    (padded-alike a b first halves.0, padded-alike c e second halves.1)

-- ---- forgeries

-- a token that opens holds the box of its content
boxed : (one : Case) (p : BoxOpens box_sealing one)
    → (whole : List ℕ) × (box_of box_sealing one.binding p.0.nonce p.0.text ≡ Some whole)
boxed one p =
    let own = p.1.read.carried.carries in
    let parts = payload_parts own.nonce p.1.read.payload (box_of box_sealing one.binding own.nonce p.0.text) own.is_boxed in
    (parts.0, ap (λ (n : List ℕ). box_of box_sealing one.binding n p.0.text) (sym p.1.nonce) ∙ parts.1)

untagged : (key nonce encoding text sealing : List ℕ) (one : Case) → length text ≤ 274877906880
    → xored_text key nonce text ++ text_tag key nonce encoding (xored_text key nonce text) ≡ sealing
    → IsFreshBox box_sealing key encoding sealing one → IsUntagged key nonce (tagged_data encoding (xored_text key nonce text)) one
untagged key nonce encoding text sealing one short sealed fresh = record {
  opens = fresh.opens;
  apart = λ p keys nonces tagged.
      let data_ = associated p.0.nonce one.binding.footer in
      let b = boxed one p in
      let own = box_sealing-parts one.binding.key p.0.nonce data_ p.0.text b.0 b.1 in
      let low : length (xored_text one.binding.key p.0.nonce p.0.text) < 2 ^ 64 =
      omega (arith, length-xored_text one.binding.key p.0.nonce p.0.text, own.0) in
      let high : length (xored_text key nonce text) < 2 ^ 64 = omega (arith, length-xored_text key nonce text, short) in
      let parts = tagged-alike data_ encoding (xored_text one.binding.key p.0.nonce p.0.text) (xored_text key nonce text) low high tagged in
      let same : b.0 ≡ sealing =
      sym own.1 ∙ ap (λ (x : List ℕ). x ++ text_tag one.binding.key p.0.nonce data_ x) parts.1
      ∙ ap (λ (k : List ℕ). xored_text key nonce text ++ text_tag k p.0.nonce data_ (xored_text key nonce text)) keys
      ∙ ap (λ (n : List ℕ). xored_text key nonce text ++ text_tag key n data_ (xored_text key nonce text)) nonces
      ∙ ap (λ (d : List ℕ). xored_text key nonce text ++ text_tag key nonce d (xored_text key nonce text)) parts.0 ∙ sealed in
      fresh.apart p keys parts.0 (b.1 ∙ ap (λ (l : List ℕ). Some l) same);
}

pub forgeries_are_tags : ForgeriesAreTags
unfolding text_tag
forgeries_are_tags issued case found f =
    let key = case.binding.key in
    let own = box_sealing-parts key found.nonce found.encoding f.content.text found.sealing.items f.sealing in
    record {
      ciphertext = xored_text key found.nonce f.content.text;
      tag = text_tag key found.nonce found.encoding (xored_text key found.nonce f.content.text);
      sealing = sym own.1;
      is_tag = refl;
      fresh = λ k d low. untagged key found.nonce found.encoding f.content.text found.sealing.items (slice_index_or issued k d) own.0 own.1 (f.fresh k d low);
    }
