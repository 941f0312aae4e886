-- Keys that are wrapped, put under a password or sealed.
use Rattle.std.specs.Prelude.{ℕ, List}
use Rattle.rusty_paseto_paserk.specs.declared.header.PaserkVersion.{PaserkVersion}
use Rattle.paseto_wrapping.specs.declared.header.WrappedType.{WrappedType}
use Rattle.paseto_wrapping.specs.declared.header.WrappedType.TheVariants.{Seal}
use Rattle.paseto_wrapping.specs.declared.cost.PasswordCost.{PasswordCost}
use Rattle.paseto_wrapping.specs.Family.{family_of}
use Rattle.paseto_wrapping.specs.Keys.{IsWrappedForm}
use Rattle.paseto_wrapping.specs.Password.{IsProtected}
use Rattle.paseto_wrapping.specs.Pie.{IsPie}
use Rattle.paseto_wrapping.specs.Reading.{InText, WrapsForm}
use Rattle.paseto_wrapping.specs.Sealing.{SealsFor}

-- a cost with one lane
abbrev pub cost_of : ℕ → ℕ → ℕ → PasswordCost
cost_of iterations memory passes =
    record { iterations = iterations; memory = memory; passes = passes; lanes = 1 }

-- the cost that a text may ask for at most
abbrev pub most : PasswordCost
most = record { iterations = 10000000; memory = 1073741824; passes = 32; lanes = 16 }

-- the text holds the key under a wrapping key
abbrev pub IsWrapped : WrappedType → List ℕ → List ℕ → List ℕ → PaserkVersion → Type 0
IsWrapped kind wrapping_key text key version = InText version kind (IsPie version kind wrapping_key) text key

-- the text holds the key under a password, by a cost within a bound
abbrev pub IsUnder : WrappedType → List ℕ → PasswordCost → List ℕ → List ℕ → PaserkVersion → Type 0
IsUnder kind password most text key version =
    InText version kind (IsProtected version kind password most) text key

-- the text holds octets that were wrapped for a private key, under a wrapping key
abbrev pub IsPrivateWrapped : WrappedType → List ℕ → List ℕ → List ℕ → PaserkVersion → Type 0
IsPrivateWrapped kind wrapping_key text key version =
    WrapsForm (IsWrappedForm version) (InText version kind (IsPie version kind wrapping_key)) text key

-- the same under a password, by a cost within a bound
abbrev pub IsPrivateUnder : WrappedType → List ℕ → PasswordCost → List ℕ → List ℕ → PaserkVersion → Type 0
IsPrivateUnder kind password most text key version =
    WrapsForm (IsWrappedForm version) (InText version kind (IsProtected version kind password most)) text key

-- the text seals the key for whoever has a private key
abbrev pub IsSealedFor : List ℕ → List ℕ → List ℕ → PaserkVersion → Type 0
IsSealedFor private text key version = InText version Seal (SealsFor (family_of version) version private) text key
