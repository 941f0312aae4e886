-- The second signature that each signature has: ECDSA takes n - s for s (SEC 1, section 4.1.4).
use Rattle.std.specs.Prelude.{◌≢◌, ℕ, ◌-◌, List, ◌++◌, take, drop}
use Rattle.rusty_paseto_primitives.specs.Bytes.{IsBytes}
use Rattle.rusty_paseto_core.specs.Context.{Binding}
use Rattle.rusty_paseto_core.specs.Public.{v3_public}
use Rattle.rusty_paseto_core.specs.Public.Verifying.{verification}
use Rattle.rusty_paseto_core.specs.Reading.{IsRead}
use Rattle.paseto_montgomery.specs.Octets.{i2osp, os2ip}
use Rattle.paseto_weierstrass_laws.specs.Curve.{order}
use Rattle.paseto_p384.specs.P384.{IsRefused, P384Verifies}

-- the signature (r, n - s) of the signature (r, s)
abbrev pub twin : List ℕ → List ℕ
twin signature = take 48 signature ++ i2osp (order - os2ip (drop 48 signature)) 48

-- it is valid for the same key and message, and is another one
abbrev pub HasATwin : Type 0
HasATwin = (public message signature : List ℕ) → P384Verifies public message signature
    → P384Verifies public message (twin signature) × (twin signature ≢ signature)

-- a token of version 3 that verifies has another one, which verifies as the same text
abbrev pub TokensHaveATwin : Type 0
TokensHaveATwin = (binding : Binding) (token text : List ℕ) → IsBytes binding.footer
    → IsRead (verification P384Verifies IsRefused v3_public binding) token text
    → (other : List ℕ) × (other ≢ token) × IsRead (verification P384Verifies IsRefused v3_public binding) other text
