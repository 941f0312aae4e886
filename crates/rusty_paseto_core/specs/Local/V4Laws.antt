-- What version 4 has of what every local version has.
use Rattle.std.proofs.Common.{◌≡◌, ◌≤◌, true, refl, lit≤, codes}
use Rattle.rusty_paseto_primitives.proofs.Xored.{length-xored, xored-xored, IsBytes-xored}
use Rattle.rusty_paseto_primitives.proofs.StreamBlocks.{xchacha20_stream-lt}
use Rattle.rusty_paseto_primitives.proofs.Blake2Lengths.{length-blake2b, IsBytes-blake2b}
use Rattle.rusty_paseto_core.specs.Local.{IsLawful, local}
use Rattle.rusty_paseto_core.specs.HeaderLaws.{IsHeader-known}
use Rattle.rusty_paseto_core.specs.Local.V4.{v4, encryption_key, stream_nonce}

pub v4-version : v4.version ≡ codes "v4"
unfolding v4
v4-version = refl

pub v4-short_tag : v4.tag_length ≤ 48
unfolding v4
v4-short_tag = lit≤ tt

pub v4-binds_assertion : v4.binds_assertion ≡ true
unfolding v4
v4-binds_assertion = refl

pub v4-IsLawful : IsLawful v4
unfolding v4
v4-IsLawful = record {
  length_applied = λ key nonce bytes. length-xored _ bytes;
  applied_twice = λ key nonce bytes. xored-xored _ bytes;
  bytes_applied = λ key nonce bytes h. IsBytes-xored _ bytes (xchacha20_stream-lt (encryption_key key nonce) (stream_nonce key nonce)) h;
  length_tag = λ key message. length-blake2b key 32 message (lit≤ tt);
  bytes_tag = λ key message. IsBytes-blake2b key 32 message;
  is_header = IsHeader-known (codes "v4") local refl refl;
  nonce = λ seed text h. h;
}
