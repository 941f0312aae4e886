-- The versions by their numbers, as C names them.
use Rattle.std.specs.Prelude.{◌≡◌, ℕ}
use Rattle.rusty_paseto_paserk.specs.declared.header.PaserkVersion.{PaserkVersion}
use Rattle.rusty_paseto_paserk.specs.declared.header.PaserkVersion.TheVariants.{V1, V2, V3, V4}

-- the number of a version
abbrev pub number_of : PaserkVersion → ℕ
number_of V1 = 1
number_of V2 = 2
number_of V3 = 3
number_of V4 = 4

-- the number is that of a version of which something holds
abbrev pub OfVersion : ℕ → (PaserkVersion → Type 0) → Type 0
OfVersion number Holds = (version : PaserkVersion) × (number ≡ number_of version) × Holds version
