-- What version 1 has of what every local version has.
use Rattle.std.proofs.Common.{◌≡◌, ◌≤◌, false, refl, lit≤, arith, codes}
use Rattle.std.proofs.lemmas.List.{length-take-le}
use Rattle.rusty_paseto_primitives.specs.Hmac.{hmac}
use Rattle.rusty_paseto_primitives.proofs.AesBlocks.{aes256_ctr_stream-lt}
use Rattle.rusty_paseto_primitives.proofs.ByteLists.{IsBytes-take}
use Rattle.rusty_paseto_primitives.proofs.HkdfLengths.{IsBytes-hkdf}
use Rattle.rusty_paseto_primitives.proofs.HmacLengths.{length-hmac, IsBytes-hmac}
use Rattle.rusty_paseto_primitives.proofs.Xored.{length-xored, xored-xored, IsBytes-xored}
use Rattle.rusty_paseto_core.specs.Local.{IsLawful, local}
use Rattle.rusty_paseto_core.specs.HeaderLaws.{IsHeader-known}
use Rattle.rusty_paseto_core.specs.Local.V1.{v1, counter, encryption_key, salt}

pub v1-version : v1.version ≡ codes "v1"
unfolding v1
v1-version = refl

pub v1-short_tag : v1.tag_length ≤ 48
unfolding v1
v1-short_tag = lit≤ tt

pub v1-binds_assertion : v1.binds_assertion ≡ false
unfolding v1
v1-binds_assertion = refl

pub v1-IsLawful : IsLawful v1
unfolding v1
v1-IsLawful = record {
  length_applied = λ key nonce bytes. length-xored _ bytes;
  applied_twice = λ key nonce bytes. xored-xored _ bytes;
  bytes_applied = λ key nonce bytes h. IsBytes-xored _ bytes
      (λ i. aes256_ctr_stream-lt (encryption_key key nonce) (counter nonce) i (IsBytes-hkdf (salt nonce) key _ 32)) h;
  length_tag = length-hmac;
  bytes_tag = IsBytes-hmac;
  is_header = IsHeader-known (codes "v1") local refl refl;
  nonce = λ seed text h. record {
    size = length-take-le 32 (hmac seed text) (omega (arith, length-hmac seed text));
    bytes = IsBytes-take 32 (hmac seed text) (IsBytes-hmac seed text);
  };
}
