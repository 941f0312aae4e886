-- What the box makes of a key, a nonce, data and a message (RFC 8439, section 2.8, on the keystream of
-- draft-irtf-cfrg-xchacha, section 2).
use Rattle.std.specs.Prelude.{ℕ, ◌-◌, ◌%◌, List, ◌++◌, Some, None, length, replicate, nat_le, if◌then◌else◌}
use Rattle.std.specs.Int.{w64, to_le_bytes}
use Rattle.rusty_paseto_primitives.specs.Keystream.{xored, xored_from}
use Rattle.rusty_paseto_primitives.specs.ChaCha.Stream.{xchacha20_stream}
use Rattle.rusty_paseto_core.specs.Local.SealedBox.{BoxSealing}
use Rattle.paseto_xchacha20poly1305.specs.Tag.{poly1305}

-- zeros behind some bytes, up to a multiple of 16
abbrev pub padded : List ℕ → List ℕ
padded bytes = bytes ++ replicate ((16 - length bytes % 16) % 16) 0

-- what the tag is made of
unfoldable pub tagged_data : List ℕ → List ℕ → List ℕ
tagged_data associated text =
    padded associated ++ (padded text ++ (to_le_bytes w64 (length associated) ++ to_le_bytes w64 (length text)))

-- the first 32 bytes of the keystream
unfoldable pub one_time_key : List ℕ → List ℕ → List ℕ
one_time_key key nonce = xored (xchacha20_stream key nonce) (replicate 32 0)

-- the bytes under the keystream from its block 1 on
unfoldable pub xored_text : List ℕ → List ℕ → List ℕ → List ℕ
xored_text key nonce bytes = xored_from (xchacha20_stream key nonce) 64 bytes

-- the tag of xored text
unfoldable pub text_tag : List ℕ → List ℕ → List ℕ → List ℕ → List ℕ
text_tag key nonce associated text = poly1305 (one_time_key key nonce) (tagged_data associated text)

-- the xored message and its tag behind it; there is none for a message of 2 ^ 32 blocks or more
unfoldable pub box_sealing : BoxSealing
box_sealing key nonce associated message =
    if nat_le (length message) 274877906880
    then Some (xored_text key nonce message ++ text_tag key nonce associated (xored_text key nonce message))
    else None
