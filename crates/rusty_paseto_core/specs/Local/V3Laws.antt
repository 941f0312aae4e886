-- What version 3 has of what every local version has.
use Rattle.std.proofs.Common.{◌≡◌, ◌≤◌, true, refl, lit≤, codes}
use Rattle.rusty_paseto_primitives.proofs.AesBlocks.{aes256_ctr_stream-lt}
use Rattle.rusty_paseto_primitives.proofs.ByteLists.{IsBytes-take}
use Rattle.rusty_paseto_primitives.proofs.HkdfLengths.{IsBytes-hkdf}
use Rattle.rusty_paseto_primitives.proofs.HmacLengths.{length-hmac, IsBytes-hmac}
use Rattle.rusty_paseto_primitives.proofs.Xored.{length-xored, xored-xored, IsBytes-xored}
use Rattle.rusty_paseto_core.specs.Local.{IsLawful, local}
use Rattle.rusty_paseto_core.specs.HeaderLaws.{IsHeader-known}
use Rattle.rusty_paseto_core.specs.Local.V3.{v3, counter, encryption_key, split}

pub v3-version : v3.version ≡ codes "v3"
unfolding v3
v3-version = refl

pub v3-short_tag : v3.tag_length ≤ 48
unfolding v3
v3-short_tag = lit≤ tt

pub v3-binds_assertion : v3.binds_assertion ≡ true
unfolding v3
v3-binds_assertion = refl

pub v3-IsLawful : IsLawful v3
unfolding v3
v3-IsLawful = record {
  length_applied = λ key nonce bytes. length-xored _ bytes;
  applied_twice = λ key nonce bytes. xored-xored _ bytes;
  bytes_applied = λ key nonce bytes h. IsBytes-xored _ bytes
      (λ i. aes256_ctr_stream-lt (encryption_key key nonce) (counter key nonce) i (IsBytes-take 32 (split key nonce) (IsBytes-hkdf _ key _ 48))) h;
  length_tag = length-hmac;
  bytes_tag = IsBytes-hmac;
  is_header = IsHeader-known (codes "v3") local refl refl;
  nonce = λ seed text h. h;
}
