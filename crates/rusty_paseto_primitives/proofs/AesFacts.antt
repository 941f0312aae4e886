-- The published vectors of AES, so that a wrong constant or step in a definition does not check.
use Rattle.std.proofs.Common.{◌≡◌, List, [], ◌∷◌, ℕ, replicate, refl}
use Rattle.rusty_paseto_primitives.specs.Aes.Cipher.{aes256, cipher, rounds}
use Rattle.rusty_paseto_primitives.specs.Aes.Counter.{counter_block}
use Rattle.rusty_paseto_primitives.specs.Aes.Field.{affine, inverse, inverse_below, product, product_of_bits, sub_byte, xtimes}
use Rattle.rusty_paseto_primitives.specs.Aes.KeySchedule.{expanded, key_expansion, key_word_step, next_word, rot_word, sub_word, word, xor_word}
use Rattle.rusty_paseto_primitives.specs.Aes.State.{add_round_key, mix_columns, row_product, shift_rows, sub_bytes}
use Rattle.rusty_paseto_primitives.proofs.ChaChaFacts.{counting_key}

-- FIPS 197, section 4.2
pub product_vector : product 0x57 0x83 ≡ 0xc1
unfolding xtimes product_of_bits product
product_vector = refl

-- FIPS 197, section 4.2
pub product_by_x_vector : product 0x57 0x13 ≡ 0xfe
unfolding xtimes product_of_bits product
product_by_x_vector = refl

pub inverse_vector : inverse 0x53 ≡ 0xca
unfolding xtimes product_of_bits product inverse_below inverse
inverse_vector = refl

-- FIPS 197, section 5.1.1, table 4
pub sub_byte_vector : sub_byte 0x53 ≡ 0xed
unfolding xtimes product_of_bits product inverse_below inverse affine sub_byte
sub_byte_vector = refl

pub sub_byte_zero_vector : sub_byte 0x00 ≡ 0x63
unfolding xtimes product_of_bits product inverse_below inverse affine sub_byte
sub_byte_zero_vector = refl

pub sub_byte_one_vector : sub_byte 0x01 ≡ 0x7c
unfolding xtimes product_of_bits product inverse_below inverse affine sub_byte
sub_byte_one_vector = refl

-- FIPS 197, appendix C.3
pub aes256_vector : aes256 counting_key (
    0x00 ∷ 0x11 ∷ 0x22 ∷ 0x33 ∷ 0x44 ∷ 0x55 ∷ 0x66 ∷ 0x77 ∷ 0x88 ∷ 0x99 ∷ 0xaa ∷ 0xbb ∷ 0xcc ∷ 0xdd ∷ 0xee ∷ 0xff ∷ []) ≡
    0x8e ∷ 0xa2 ∷ 0xb7 ∷ 0xca ∷ 0x51 ∷ 0x67 ∷ 0x45 ∷ 0xbf ∷ 0xea ∷ 0xfc ∷ 0x49 ∷ 0x90 ∷ 0x4b ∷ 0x49 ∷ 0x60 ∷ 0x89 ∷ []
unfolding xtimes product_of_bits product inverse_below inverse affine sub_byte row_product sub_bytes shift_rows mix_columns add_round_key
    word sub_word rot_word xor_word key_word_step next_word expanded key_expansion rounds cipher aes256
aes256_vector = refl

-- the key and the start block of SP 800-38A, appendix F.5.5
abbrev counter_mode_key : List ℕ
counter_mode_key =
    0x60 ∷ 0x3d ∷ 0xeb ∷ 0x10 ∷ 0x15 ∷ 0xca ∷ 0x71 ∷ 0xbe ∷ 0x2b ∷ 0x73 ∷ 0xae ∷ 0xf0 ∷ 0x85 ∷ 0x7d ∷ 0x77 ∷ 0x81
    ∷ 0x1f ∷ 0x35 ∷ 0x2c ∷ 0x07 ∷ 0x3b ∷ 0x61 ∷ 0x08 ∷ 0xd7 ∷ 0x2d ∷ 0x98 ∷ 0x10 ∷ 0xa3 ∷ 0x09 ∷ 0x14 ∷ 0xdf ∷ 0xf4 ∷ []

abbrev counter_mode_start : List ℕ
counter_mode_start =
    0xf0 ∷ 0xf1 ∷ 0xf2 ∷ 0xf3 ∷ 0xf4 ∷ 0xf5 ∷ 0xf6 ∷ 0xf7 ∷ 0xf8 ∷ 0xf9 ∷ 0xfa ∷ 0xfb ∷ 0xfc ∷ 0xfd ∷ 0xfe ∷ 0xff ∷ []

-- its first and second output block; the second counter block carries into the byte before the last
pub first_block_vector : aes256 counter_mode_key (counter_block counter_mode_start 0) ≡
    0x0b ∷ 0xdf ∷ 0x7d ∷ 0xf1 ∷ 0x59 ∷ 0x17 ∷ 0x16 ∷ 0x33 ∷ 0x5e ∷ 0x9a ∷ 0x8b ∷ 0x15 ∷ 0xc8 ∷ 0x60 ∷ 0xc5 ∷ 0x02 ∷ []
unfolding xtimes product_of_bits product inverse_below inverse affine sub_byte row_product sub_bytes shift_rows mix_columns add_round_key
    word sub_word rot_word xor_word key_word_step next_word expanded key_expansion rounds cipher aes256
first_block_vector = refl

pub second_block_vector : aes256 counter_mode_key (counter_block counter_mode_start 1) ≡
    0x5a ∷ 0x6e ∷ 0x69 ∷ 0x9d ∷ 0x53 ∷ 0x61 ∷ 0x19 ∷ 0x06 ∷ 0x54 ∷ 0x33 ∷ 0x86 ∷ 0x3c ∷ 0x8f ∷ 0x65 ∷ 0x7b ∷ 0x94 ∷ []
unfolding xtimes product_of_bits product inverse_below inverse affine sub_byte row_product sub_bytes shift_rows mix_columns add_round_key
    word sub_word rot_word xor_word key_word_step next_word expanded key_expansion rounds cipher aes256
second_block_vector = refl

-- after the greatest counter block comes the block of zeros
pub counter_wraps : counter_block (replicate 16 0xff) 1 ≡ replicate 16 0
counter_wraps = refl
