-- Keys of Ed25519 as keys of X25519 (RFC 7748, section 4.1).
use Rattle.std.specs.Prelude.{◌≡◌, ℕ, ◌%◌, ◌^◌, List, Option, None, Some}
use Rattle.paseto_edwards_laws.specs.Edwards25519.{prime}
use Rattle.paseto_edwards_laws.specs.Group.{Affine}
use Rattle.paseto_edwards25519.specs.Curve.{HasSmallOrder}
use Rattle.paseto_edwards25519.specs.Encoding.{decoded}
use Rattle.paseto_edwards25519.specs.Extended.{inverse}
use Rattle.paseto_edwards25519.specs.Field.{minus, plus, times}
use Rattle.paseto_edwards25519.specs.Scalar.{bytes32, number32}
use Rattle.paseto_x25519.specs.declared.conversion.ConversionError.{ConversionError}
use Rattle.paseto_x25519.specs.declared.conversion.ConversionError.TheVariants.{InvalidPoint, SmallOrder}

-- y of the point that a public key of Ed25519 is: all but the sign of x (RFC 8032, section 5.1.3, step 1)
abbrev pub y_of : List ℕ → ℕ
y_of public = number32 public % 2 ^ 255 % prime

-- u = (1 + y) / (1 - y)
unfoldable pub montgomery : List ℕ → List ℕ
montgomery public = bytes32 (times (plus 1 (y_of public)) (inverse (minus 1 (y_of public))))

-- a point, if it is one, is of small order
abbrev pub IsSmall : Option Affine → Type 0
IsSmall None = ⊥
IsSmall (Some a) = HasSmallOrder a

abbrev pub IsOfSmallOrder : List ℕ → Type 0
IsOfSmallOrder public = IsSmall (decoded public)

-- why a public key is not taken
abbrev pub IsConversionFault : List ℕ → ConversionError → Type 0
IsConversionFault public InvalidPoint = decoded public ≡ None
IsConversionFault public SmallOrder = IsOfSmallOrder public
