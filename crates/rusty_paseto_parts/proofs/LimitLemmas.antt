-- Limits on how many bytes a token and its footer have.
use Rattle.std.proofs.Common.{◌≡◌, ℕ, ◌+◌, ◌*◌, ◌/◌, false, List, length, Option, None, refl, arith}
use Rattle.std.proofs.lemmas.List.{append-nil}
use Rattle.base64.proofs.RoundTrip.{length-encode_symbols}
use Rattle.base64.specs.Engines.{url_safe_no_pad}
use Rattle.base64.specs.Rfc4648.{encode_symbols}
use Rattle.rusty_paseto_parts.specs.Limit.{is_beyond, spelled}
use Rattle.rusty_paseto_parts.specs.Section.{base64url}

-- where there is no limit, nothing is beyond it
pub unlimited : (longest : Option ℕ) (bytes : ℕ) → longest ≡ None → is_beyond longest bytes ≡ false
unlimited longest bytes none = rw none refl

-- the characters of a section tell how many bytes it spells
pub spelled_length : (bytes : List ℕ) → spelled (length (base64url bytes)) ≡ length bytes
unfolding base64url
spelled_length bytes =
    let size : length (encode_symbols url_safe_no_pad.encode_table bytes) ≡ (4 * length bytes + 2) / 3 = length-encode_symbols _ bytes in
    rw (append-nil, size) (omega arith)
