-- The order of the base point of edwards25519: the prover computes [L]B.
use Rattle.std.proofs.Common.{◌≡◌, ◌≢◌, ℕ, ◌%◌, ◌↔◌, refl, ap, lit<, suc-ne-zero}
use Rattle.paseto_primes.proofs.OrderOfEdwards25519.{is-prime}
use Rattle.paseto_primes.specs.Element.{minus, plus, times}
use Rattle.paseto_edwards_laws.specs.Edwards25519.{base, d, order, prime}
use Rattle.paseto_edwards_laws.specs.Extended.{added, doubled, of_affine}
use Rattle.paseto_edwards_laws.specs.Group.{neutral}
use Rattle.paseto_edwards_laws.specs.Multiples.{multiple_of}
use Rattle.paseto_edwards_laws.proofs.CurveLaws.{base-point, curve}
use Rattle.paseto_edwards_laws.proofs.ExtendedLaws.{affine-stands}
use Rattle.paseto_edwards_laws.proofs.LadderLaws.{multiple, multiple-stands, neutral-stands, step}
use Rattle.paseto_edwards_laws.proofs.MultipleLaws.{divided-neutral, neutral-multiples}

order-x : (multiple prime d 253 order (of_affine prime base)).x ≡ 0
unfolding multiple step added doubled of_affine plus minus times
order-x = refl

order-y : (multiple prime d 253 order (of_affine prime base)).y ≡ (multiple prime d 253 order (of_affine prime base)).z
unfolding multiple step added doubled of_affine plus minus times
order-y = refl

pub order-neutral : multiple_of prime d order base ≡ neutral
order-neutral =
    neutral-stands prime d curve (multiple prime d 253 order (of_affine prime base)) (multiple_of prime d order base)
    (multiple-stands prime d curve 253 order (of_affine prime base) base (lit< tt) (affine-stands prime d curve base base-point)) order-x order-y

base-not_neutral : base ≢ neutral
base-not_neutral e = suc-ne-zero _ (ap (λ a. a.x) e)

pub base-multiples : (n : ℕ) → (multiple_of prime d n base ≡ neutral) ↔ (n % order ≡ 0)
base-multiples n = (
  λ e. neutral-multiples prime d curve order n base base-point order-neutral is-prime base-not_neutral e,
  λ e. divided-neutral prime d curve order n base base-point order-neutral e,
)
