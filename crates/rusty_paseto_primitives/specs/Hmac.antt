-- HMAC (RFC 2104) with SHA-384 on lists of bytes: a block of the hash has 128 bytes, and its output 48.
use Rattle.std.specs.Prelude.{ℕ, ◌-◌, if◌then◌else◌, nat_lt, List, ◌++◌, length, map, replicate, bit_xor}
use Rattle.sha2.specs.Sha512.{sha384}
use Rattle.sha2.specs.Hashers.{Holds384}
use Rattle.rusty_paseto_primitives.specs.declared.hmac.HmacSha384.{HmacSha384}

-- the key that is padded: one that is longer than a block is hashed first (2)
abbrev pub short_key : List ℕ → List ℕ
short_key key = if nat_lt 128 (length key) then sha384 key else key

-- that key, padded by zeros to a block (2, step 1)
unfoldable pub key_block : List ℕ → List ℕ
key_block key = short_key key ++ replicate (128 - length (short_key key)) 0

-- each byte of a block, mixed with the byte of a pad
abbrev pub with_pad : ℕ → List ℕ → List ℕ
with_pad pad block = map (λ b. bit_xor b pad) block

-- the block of the key with ipad, the byte 0x36 repeated (2, step 2)
abbrev pub inner_key : List ℕ → List ℕ
inner_key key = with_pad 0x36 (key_block key)

-- the block of the key with opad, the byte 0x5c repeated (2, step 5)
abbrev pub outer_key : List ℕ → List ℕ
outer_key key = with_pad 0x5c (key_block key)

-- what is hashed first: the message behind the inner key (2, step 3)
abbrev pub inner_input : List ℕ → List ℕ → List ℕ
inner_input key message = inner_key key ++ message

-- what is hashed second: the first digest behind the outer key (2, step 6)
abbrev pub outer_input : List ℕ → List ℕ → List ℕ
outer_input key message = outer_key key ++ sha384 (inner_input key message)

-- HMAC-SHA384 of a key and a message of any lengths, in 48 bytes (2, steps 4 and 7)
unfoldable pub hmac : List ℕ → List ℕ → List ℕ
hmac key message = sha384 (outer_input key message)

-- what a contract sees of a hasher that takes a message in piece by piece: made for this key, it
-- holds the message
unfoldable pub Holds : HmacSha384 → List ℕ → List ℕ → Type 0
Holds s key message = Holds384 s.inner (inner_input key message) × Holds384 s.outer (outer_key key)
