-- Encryption by a keystream: what it hides, and what two texts under one key and nonce show.
use Rattle.std.specs.Prelude.{◌≡◌, ℕ, List, [], ◌∷◌, Some, bit_xor, length, replicate, take}
use Rattle.rusty_paseto_core.specs.Context.{Binding}
use Rattle.rusty_paseto_core.specs.Local.{Design, IsNonce}
use Rattle.rusty_paseto_core.specs.Local.Opening.{ciphertext_in}
use Rattle.rusty_paseto_core.specs.Local.Sealing.{sealed_payload}
use Rattle.rusty_paseto_core.specs.Local.SealedBox.{BoxSealing}

-- the exclusive or of two lists, number by number, as far as both reach
unfoldable pub xor_lists : List ℕ → List ℕ → List ℕ
xor_lists [] ys = []
xor_lists (x ∷ xs) [] = []
xor_lists (x ∷ xs) (y ∷ ys) = bit_xor x y ∷ xor_lists xs ys

-- the keystream of a key and a nonce, as long as n zeros
abbrev pub pad : Design → List ℕ → List ℕ → ℕ → List ℕ
pad design key nonce n = design.apply_keystream key nonce (replicate n 0)

-- a ciphertext is the exclusive or of the text and of a keystream that depends on the key, the nonce and the length alone
abbrev pub IsPadded : Design → Type 0
IsPadded design = (key nonce text : List ℕ)
    → design.apply_keystream key nonce text ≡ xor_lists (pad design key nonce (length text)) text

-- the exclusive or of two ciphertexts under one key and one nonce is that of their texts, as far as both reach
abbrev pub NonceReuseShows : Design → Type 0
NonceReuseShows design = (key nonce a b : List ℕ)
    → xor_lists (design.apply_keystream key nonce a) (design.apply_keystream key nonce b) ≡ xor_lists a b

-- the same of the payloads of tokens, whatever their footers and assertions
abbrev pub PayloadsShow : Design → Type 0
PayloadsShow design = (first second : Binding) (nonce a b : List ℕ) → first.key ≡ second.key → IsNonce nonce
    → xor_lists (ciphertext_in design (sealed_payload design first nonce a)) (ciphertext_in design (sealed_payload design second nonce b))
    ≡ xor_lists a b

-- and of boxes under one key and one nonce, whatever data they bind
abbrev pub BoxesShow : BoxSealing → Type 0
BoxesShow box = (key nonce data_a data_b a b boxed_a boxed_b : List ℕ)
    → box key nonce data_a a ≡ Some boxed_a → box key nonce data_b b ≡ Some boxed_b
    → xor_lists (take (length a) boxed_a) (take (length b) boxed_b) ≡ xor_lists a b

-- exactly one keystream of its length makes the ciphertext of the text
pub record OneKeystream (text ciphertext : List ℕ) : Type 0 where
  pub keystream : List ℕ
  pub size : length keystream ≡ length text
  pub makes : xor_lists keystream text ≡ ciphertext
  pub alone : (other : List ℕ) → length other ≡ length text → xor_lists other text ≡ ciphertext → other ≡ keystream

-- each ciphertext is that of each text of its length, under exactly one keystream
abbrev pub PadHides : Type 0
PadHides = (text ciphertext : List ℕ) → length text ≡ length ciphertext → OneKeystream text ciphertext

-- two ciphertexts under one keystream are those of any two other texts of the same lengths and the same exclusive or, under
-- another keystream: the exclusive or is all that they show
abbrev pub ReuseHides : Type 0
ReuseHides = (keystream a b c d : List ℕ) → length a ≡ length keystream → length b ≡ length keystream
    → length c ≡ length keystream → length d ≡ length keystream → xor_lists a b ≡ xor_lists c d
    → (other : List ℕ) × (length other ≡ length keystream) × (xor_lists other c ≡ xor_lists keystream a)
    × (xor_lists other d ≡ xor_lists keystream b)
