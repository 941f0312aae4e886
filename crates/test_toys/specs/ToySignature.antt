-- The signature of the toy signature schemes, and the public key of a private key.
use Rattle.std.specs.Prelude.{ℕ, zero, suc, List, [], ◌∷◌, ◌++◌, take}
use Rattle.rusty_paseto_primitives.specs.Blake2.Keyed.{blake2b}

-- the first n blocks of a signature, joined: block n is the hash of the byte n and the message
unfoldable pub toy_blocks : List ℕ → List ℕ → ℕ → List ℕ
toy_blocks key message zero = []
toy_blocks key message (suc n) = toy_blocks key message n ++ blake2b key 64 (n ∷ message)

-- the signature of `size` bytes, up to 256: the front of four blocks, under the hash of the public key
abbrev pub toy_signature : ℕ → List ℕ → List ℕ → List ℕ
toy_signature size public message = take size (toy_blocks (blake2b [] 32 public) message 4)

-- the public key of a private key: 32 bytes
abbrev pub toy_partner : List ℕ → List ℕ
toy_partner private = blake2b [] 32 private

-- the public key of a private key of version 3: 49 bytes, of which the first is 2
abbrev pub toy_partner_v3 : List ℕ → List ℕ
toy_partner_v3 private = 2 ∷ blake2b [] 48 private
