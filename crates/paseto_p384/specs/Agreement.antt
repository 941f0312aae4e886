-- What two parties agree on (SEC 1, section 3.3.1; SP 800-56A, section 5.7.1.2).
use Rattle.std.specs.Prelude.{◌≡◌, ℕ, List, Option, None, option_map}
use Rattle.paseto_montgomery.specs.Octets.{i2osp, os2ip}
use Rattle.paseto_weierstrass_laws.specs.Field.{inverse, times}
use Rattle.paseto_weierstrass_laws.specs.Multiples.{multiple_of}
use Rattle.paseto_weierstrass_laws.specs.Point.{Point}
use Rattle.paseto_p384.specs.Encoding.{decoded}
use Rattle.paseto_p384.specs.P384.{IsPrivate}
use Rattle.paseto_p384.specs.declared.agreement.AgreementError.{AgreementError}
use Rattle.paseto_p384.specs.declared.agreement.AgreementError.TheVariants.{InvalidPoint, InvalidPrivateKey}

-- the coordinate x of the point (X / Z, Y / Z), in 48 octets (SEC 1, section 2.3.5)
unfoldable pub x_of : Point → List ℕ
x_of p = i2osp (times p.x (inverse p.z)) 48

-- what a private key d and the other party's public key give: the coordinate x of [d]Q, where the public key is a point Q
abbrev pub p384_shared : List ℕ → List ℕ → Option (List ℕ)
p384_shared private public = option_map (λ q. x_of (multiple_of (os2ip private) q)) (decoded public)

-- why they give nothing
abbrev pub IsAgreementFault : List ℕ → List ℕ → AgreementError → Type 0
IsAgreementFault private public InvalidPrivateKey = ¬ IsPrivate private
IsAgreementFault private public InvalidPoint = IsPrivate private × (decoded public ≡ None)
