-- Two equal codes, of two keys of one length or of two messages, show a collision of SHA-384.
use Rattle.std.proofs.Common.{◌≡◌, ◌≢◌, ◌⊎◌, inl, inr, ℕ, ◌-◌, ◌≤◌, List, [], ◌∷◌, ◌++◌, length, take, drop, replicate, bit_xor, refl, sym, ap, ap₂, ◌∙◌, arith, length-append}
use Rattle.std.proofs.lemmas.Bool.{cases_Bool}
use Rattle.std.proofs.lemmas.Bool.Decides.{nat_tests}
use Rattle.std.proofs.lemmas.List.{take_at, drop_at, length-replicate, length-map}
use Rattle.std.proofs.lemmas.Slice.Eq.{bytes_eq-Decides}
use Rattle.std.specs.Int.Bits.{xor_assoc, xor_self, xor_zero_r}
use Rattle.std.specs.Str.{bytes_eq}
use Rattle.rusty_paseto_primitives.specs.Collision.{IsHmacCollision}
use Rattle.rusty_paseto_primitives.specs.Hmac.{hmac, inner_input, inner_key, key_block, outer_input, outer_key, short_key, with_pad}

-- two lists are equal or not
pub cases_lists : (xs ys : List ℕ) → (xs ≡ ys) ⊎ (xs ≢ ys)
cases_lists xs ys =
    let decides = bytes_eq-Decides xs ys in
    elim (cases_Bool (bytes_eq xs ys)) [ inl equal ↦ inl (decides.0 equal) | inr other ↦ inr (λ same. let equal = decides.1 same in cc) ]

with_pad-twice : (pad : ℕ) (block : List ℕ) → with_pad pad (with_pad pad block) ≡ block
with_pad-twice pad [] = refl
with_pad-twice pad (b ∷ block) =
    ap₂ ◌∷◌ (xor_assoc b pad pad ∙ ap (bit_xor b) (xor_self pad) ∙ xor_zero_r b) (with_pad-twice pad block)

with_pad-injective : (pad : ℕ) (first second : List ℕ) → with_pad pad first ≡ with_pad pad second → first ≡ second
with_pad-injective pad first second same = sym (with_pad-twice pad first) ∙ ap (with_pad pad) same ∙ with_pad-twice pad second

short_key-fits : (key : List ℕ) → length key ≤ 128 → short_key key ≡ key
short_key-fits key fits = grind (arith, nat_tests)

key_block-fits : (key : List ℕ) → length key ≤ 128 → key_block key ≡ key ++ replicate (128 - length key) 0
unfolding key_block
key_block-fits key fits = rw (short_key-fits key fits) refl

length-key_block : (key : List ℕ) → length key ≤ 128 → length (key_block key) ≡ 128
length-key_block key fits =
    let zeros : ℕ = 128 - length key in
    ap length (key_block-fits key fits) ∙ length-append key (replicate zeros 0) ∙ omega (arith, length-replicate {A = ℕ} zeros 0)

key_block-injective : (first second : List ℕ) → length first ≡ length second → length first ≤ 128
    → key_block first ≡ key_block second → first ≡ second
key_block-injective first second size fits same =
    let a = sym (key_block-fits first fits) in
    let b = key_block-fits second (omega arith) in
    sym (take_at first (replicate (128 - length first) 0) (length first) refl)
    ∙ ap (take (length first)) (a ∙ same ∙ b)
    ∙ take_at second (replicate (128 - length second) 0) (length first) (sym size)

-- joined lists are equal in both parts, where the first have one length
parts_alike : (a b x y : List ℕ) → length a ≡ length b → a ++ x ≡ b ++ y → (a ≡ b) × (x ≡ y)
parts_alike a b x y size same = (
  sym (take_at a x (length a) refl) ∙ ap (take (length a)) same ∙ take_at b y (length a) (sym size),
  sym (drop_at a x (length a) refl) ∙ ap (drop (length a)) same ∙ drop_at b y (length a) (sym size),
)

module _ (key message other_key other_message : List ℕ) (size : length key ≡ length other_key) (fits : length key ≤ 128) where
  blocks : length (key_block key) ≡ length (key_block other_key)
  blocks = length-key_block key fits ∙ sym (length-key_block other_key (omega arith))

  padded : (pad : ℕ) → length (with_pad pad (key_block key)) ≡ length (with_pad pad (key_block other_key))
  padded pad = simp length-map blocks

  inner_alike : inner_input key message ≡ inner_input other_key other_message → (key ≡ other_key) × (message ≡ other_message)
  inner_alike same =
      let parts = parts_alike (inner_key key) (inner_key other_key) message other_message (padded 0x36) same in
      (key_block-injective key other_key size fits (with_pad-injective 0x36 _ _ parts.0), parts.1)

  -- where the codes are equal, and the keys or the messages are not, two lists are found that have one digest
  pub codes_collide : (key ≢ other_key) ⊎ (message ≢ other_message) → hmac key message ≡ hmac other_key other_message
      → IsHmacCollision key message other_key other_message
  unfolding hmac
  codes_collide apart same =
      elim (cases_lists (outer_input key message) (outer_input other_key other_message)) [
        | inr outer ↦ inr (record { apart = outer; digest = same })
        | inl outer ↦
            let digests = parts_alike (outer_key key) (outer_key other_key) _ _ (padded 0x5c) outer in
            inl (record {
              apart = λ inner.
                  let alike = inner_alike inner in
                  elim apart [ inl keys ↦ keys alike.0 | inr messages ↦ messages alike.1 ];
              digest = digests.1;
            })
      ]
