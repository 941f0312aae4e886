-- The counter mode of AES with a key of 256 bits (SP 800-38A, section 6.5).
use Rattle.std.specs.Prelude.{ℕ, ◌+◌, ◌%◌, ◌^◌, List}
use Rattle.std.specs.Int.{w128, from_be_bytes, to_be_bytes}
use Rattle.rusty_paseto_primitives.specs.Keystream.{stream_of_blocks}
use Rattle.rusty_paseto_primitives.specs.Aes.Cipher.{aes256}

-- the counter block of block number n: the start block as one number of 128 bits, high byte first, which
-- goes up by one a block, modulo 2 ^ 128 (appendix B.1)
abbrev pub counter_block : List ℕ → ℕ → List ℕ
counter_block start n = to_be_bytes w128 ((from_be_bytes w128 start + n) % 2 ^ 128)

-- the byte at each place of the keystream of a key of 32 bytes and a start block of 16
unfoldable pub aes256_ctr_stream : List ℕ → List ℕ → ℕ → ℕ
aes256_ctr_stream key start = stream_of_blocks 16 (λ n. aes256 key (counter_block start n))
