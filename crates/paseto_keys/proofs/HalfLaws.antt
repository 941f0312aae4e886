-- The bytes of public halves.
use Rattle.std.proofs.Common.{◌≡◌, ℕ, ◌+◌, ◌%◌, ◌<◌, ◌==◌, ◌&&◌, ◌||◌, zero, suc, List, length, ◌-◌, take, drop, IsTrue, rules, slice_index, refl, sym, ap, ◌∙◌, arith}
use Rattle.std.proofs.lemmas.List.{take_rest}
use Rattle.std.proofs.Math.Nat.{mod-lt}
use Rattle.rusty_paseto_parts.specs.PublicKey.{is_compressed}
use Rattle.paseto_p384.specs.P384.{p384_public}
use Rattle.paseto_p384.specs.Encoding.{encoded}
use Rattle.paseto_weierstrass_laws.specs.Field.{inverse, times}
use Rattle.paseto_weierstrass_laws.specs.Point.{Point}

two_or_three : (m : ℕ) → m < 2 → IsTrue ((2 + m) == 2 || (2 + m) == 3)
two_or_three zero small = search rules
two_or_three (suc zero) small = search rules
two_or_three (suc (suc m)) small = absurd (omega (arith, small))

first_octet : (octets : List ℕ) (n : ℕ) → slice_index octets 0 ≡ 2 + n % 2 → IsTrue (is_compressed octets)
first_octet octets n is = rw is (two_or_three (n % 2) (mod-lt n (search rules)))

compressed_point : (p : Point) → IsTrue (is_compressed (encoded p))
unfolding encoded
compressed_point p = first_octet (encoded p) (times p.y (inverse p.z)) refl

-- the public key of a private key of P-384 is a compressed point
pub compressed : (private : List ℕ) → IsTrue (is_compressed (p384_public private))
unfolding p384_public
compressed private = search compressed_point

-- octets of a point's length and form are a public key
pub is_public : (octets : List ℕ) → length octets ≡ 49 → IsTrue (is_compressed octets) → IsTrue (length octets == 49 && is_compressed octets)
is_public octets size point = rw size point

-- the last 32 bytes of 64
pub rest_of : (bytes : List ℕ) → length bytes ≡ 64 → take 32 (drop 32 bytes) ≡ drop 32 bytes
rest_of bytes size = ap (λ (n : ℕ). take (n - 32) (drop 32 bytes)) (sym size) ∙ take_rest bytes 32
