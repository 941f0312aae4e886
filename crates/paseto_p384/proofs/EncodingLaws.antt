-- The cases of decoding.
use Rattle.std.proofs.Common.{◌≡◌, ◌≢◌, ◌≤◌, ℕ, ◌+◌, ◌/◌, ◌%◌, ◌<◌, List, ◌∷◌, ◌++◌, drop, slice_index, ap₂, arith}
use Rattle.std.specs.Prelude.{None, Some, IsTrue, ◌==◌, ◌||◌}
use Rattle.std.proofs.lemmas.Bool.Decides.{nat_tests}
use Rattle.rusty_paseto_parts.specs.PublicKey.{is_compressed}
use Rattle.paseto_montgomery.specs.Octets.{i2osp, os2ip}
use Rattle.paseto_p384.specs.Encoding.{affine, decoded, encoded, point_at, right_side, signed}
use Rattle.paseto_weierstrass_laws.specs.Field.{inverse, minus, power, prime, times}
use Rattle.paseto_weierstrass_laws.specs.Group.{IsPoint, Same}
use Rattle.paseto_weierstrass_laws.specs.Point.{Point}
use Rattle.paseto_weierstrass_laws.proofs.PointLaws.{same-quotient}

pub encoded-is : (p : Point) (x y z : ℕ) → z ≡ inverse p.z → x ≡ times p.x z → y ≡ times p.y z
    → (2 + y % 2) ∷ i2osp x 48 ≡ encoded p
unfolding encoded
encoded-is p x y z e f g = cc

pub affine-is : (p : Point) (x y z : ℕ) → z ≡ inverse p.z → x ≡ times p.x z → y ≡ times p.y z
    → i2osp x 48 ++ i2osp y 48 ≡ affine p
unfolding affine
affine-is p x y z e f g = cc

-- coordinates of the same point have one encoding
pub same-encoded : (p q : Point) → IsPoint p → Same p q → encoded q ≡ encoded p
unfolding encoded
same-encoded p q h s =
    let x = same-quotient p.x p.z q.x q.z s.ratio h.x_below s.below s.nonzero s.x s.z in
    let y = same-quotient p.y p.z q.y q.z s.ratio h.y_below s.below s.nonzero s.y s.z in
    ap₂ (λ a b. (2 + b % 2) ∷ i2osp a 48) x y

pub signed-same : (odd y : ℕ) → y % 2 ≡ odd → y ≡ signed odd y
unfolding signed
signed-same odd y h = grind (arith, nat_tests)

pub signed-other : (odd y : ℕ) → y % 2 ≢ odd → minus 0 y ≡ signed odd y
unfolding signed
signed-other odd y h = grind (arith, nat_tests)

pub point_at-none : (odd x y : ℕ) → y ≡ power (right_side x) ((prime + 1) / 4) → times y y ≢ right_side x → None ≡ point_at odd x
unfolding point_at
point_at-none odd x y e h = rw (← e) (grind (arith, nat_tests))

pub point_at-some : (odd x y : ℕ) → y ≡ power (right_side x) ((prime + 1) / 4) → times y y ≡ right_side x
    → Some (record { x = x; y = signed odd y; z = 1 }) ≡ point_at odd x
unfolding point_at
point_at-some odd x y e h = rw (← e, h) (grind (arith, nat_tests))

pub decoded-first : (octets : List ℕ) → slice_index octets 0 / 2 ≢ 1 → None ≡ decoded octets
unfolding decoded
decoded-first octets h = grind (arith, nat_tests)

pub decoded-above : (octets : List ℕ) (x : ℕ) → slice_index octets 0 / 2 ≡ 1 → x ≡ os2ip (drop 1 octets) → prime ≤ x → None ≡ decoded octets
unfolding decoded
decoded-above octets x h e above = rw (← e) (grind (arith, nat_tests))

pub decoded-at : (octets : List ℕ) (x : ℕ) → slice_index octets 0 / 2 ≡ 1 → x ≡ os2ip (drop 1 octets) → x < prime
    → point_at (slice_index octets 0 % 2) x ≡ decoded octets
unfolding decoded
decoded-at octets x h e below = rw (← e) (grind (arith, nat_tests))

first-compressed : (n : ℕ) → n < 2 → IsTrue (2 + n == 2 || 2 + n == 3)
first-compressed n h = grind (arith, nat_tests)

-- the first octet is one that a compressed point begins with
pub encoded-compressed : (p : Point) → IsTrue (is_compressed (encoded p))
unfolding encoded
encoded-compressed p =
    let y = times p.y (inverse p.z) in
    let below : y % 2 < 2 = grind arith in
    first-compressed (y % 2) below
