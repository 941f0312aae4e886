-- A payload in three parts: a nonce of 32 bytes, a ciphertext and a tag of known length.
use Rattle.std.proofs.Common.{◌≡◌, ℕ, ◌+◌, ◌-◌, ◌≤◌, List, ◌++◌, length, take, drop, arith, append_assoc, length-append}
use Rattle.std.proofs.lemmas.List.{take_at, drop_at, take-append-drop, take-take}

module _ (nonce ciphertext tag : List ℕ) (width : ℕ) (nonce_length : length nonce ≡ 32) (tag_length : length tag ≡ width) where
  pub length-parts : length (nonce ++ ciphertext ++ tag) ≡ 32 + length ciphertext + width
  length-parts = omega (arith, length-append (nonce ++ ciphertext) tag, length-append nonce ciphertext)

  front : take (length (nonce ++ ciphertext ++ tag) - width) (nonce ++ ciphertext ++ tag) ≡ nonce ++ ciphertext
  front = take_at (nonce ++ ciphertext) tag _ (omega (arith, length-parts, length-append nonce ciphertext))

  pub nonce-parts : take 32 (nonce ++ ciphertext ++ tag) ≡ nonce
  nonce-parts = rw append_assoc (take_at nonce (ciphertext ++ tag) 32 nonce_length)

  pub ciphertext-parts : drop 32 (take (length (nonce ++ ciphertext ++ tag) - width) (nonce ++ ciphertext ++ tag)) ≡ ciphertext
  ciphertext-parts = rw front (drop_at nonce ciphertext 32 nonce_length)

  pub tag-parts : drop (length (nonce ++ ciphertext ++ tag) - width) (nonce ++ ciphertext ++ tag) ≡ tag
  tag-parts = drop_at (nonce ++ ciphertext) tag _ (omega (arith, length-parts, length-append nonce ciphertext))

-- a payload is its parts, joined
pub parts-payload : (payload : List ℕ) (width : ℕ) → 32 + width ≤ length payload
    → take 32 payload ++ drop 32 (take (length payload - width) payload) ++ drop (length payload - width) payload ≡ payload
parts-payload payload width room =
    let end : ℕ = length payload - width in
    let first : take 32 (take end payload) ≡ take 32 payload = take-take 32 end payload (omega arith) in
    let whole : take 32 (take end payload) ++ drop 32 (take end payload) ≡ take end payload = take-append-drop 32 (take end payload) in
    let joined : take 32 payload ++ drop 32 (take end payload) ≡ take end payload = rw first at whole in
    rw joined (take-append-drop end payload)
