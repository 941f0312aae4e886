-- What a sealed box means: what it makes of a key, a nonce, data and a message, and what it opens to.
use Rattle.std.specs.Prelude.{◌≡◌, ◌≢◌, ℕ, List, length, Option, Some, None}
use Rattle.rusty_paseto_primitives.specs.Bytes.{IsBytes}

-- what a box makes of a key, a nonce, data and a message: its sealing, where there is one
abbrev pub BoxSealing : Type 0
BoxSealing = List ℕ → List ℕ → List ℕ → List ℕ → Option (List ℕ)

-- what was found is the message whose sealing these bytes are, or it is none and no message has that
-- sealing
abbrev pub IsOpening : (List ℕ → Option (List ℕ)) → List ℕ → Option (List ℕ) → Type 0
IsOpening sealing boxed (Some message) = IsBytes message × (sealing message ≡ Some boxed)
IsOpening sealing boxed None = (message : List ℕ) → IsBytes message → sealing message ≢ Some boxed

-- a nonce is 24 bytes
pub record IsBoxNonce (nonce : List ℕ) : Type 0 where
  pub size : length nonce ≡ 24
  pub bytes : IsBytes nonce

-- a box is asked with a key of 32 bytes, a nonce of 24 and some bytes of data
pub record IsAsked (key nonce associated : List ℕ) : Type 0 where
  pub key_size : length key ≡ 32
  pub key_bytes : IsBytes key
  pub is_nonce : IsBoxNonce nonce
  pub associated_bytes : IsBytes associated

-- what each box has, where it is asked so: a sealing is that of one message only, and the sealing of
-- bytes is bytes
pub record IsLawfulBox (sealing : BoxSealing) : Type 0 where
  pub injective : (key nonce associated first second boxed : List ℕ) → IsAsked key nonce associated
      → IsBytes first → IsBytes second
      → sealing key nonce associated first ≡ Some boxed → sealing key nonce associated second ≡ Some boxed
      → first ≡ second
  pub bytes : (key nonce associated message boxed : List ℕ) → IsAsked key nonce associated → IsBytes message
      → sealing key nonce associated message ≡ Some boxed → IsBytes boxed
