-- The formulas of RFC 8032, section 5.1.4.
use Rattle.std.specs.Prelude.{ℕ}
use Rattle.paseto_edwards_laws.specs.Extended.{Extended}
use Rattle.paseto_edwards25519.specs.Curve.{twice_d}
use Rattle.paseto_edwards25519.specs.Extended.{factored}
use Rattle.paseto_edwards25519.specs.Field.{minus, plus, times}

-- the sum of two points
unfoldable pub added : Extended → Extended → Extended
added p q =
    let a = times (minus p.y p.x) (minus q.y q.x) in
    let b = times (plus p.y p.x) (plus q.y q.x) in
    let c = times (times p.t twice_d) q.t in
    let zz = times p.z q.z in
    let dd = plus zz zz in
    factored (minus b a) (minus dd c) (plus dd c) (plus b a)

-- the double of a point, by the formulas of its own
unfoldable pub doubled : ℕ → ℕ → ℕ → Extended
doubled x y z =
    let a = times x x in
    let b = times y y in
    let zz = times z z in
    let h = plus a b in
    let g = minus a b in
    factored (minus h (times (plus x y) (plus x y))) (plus (plus zz zz) g) g h
