-- The text of a key is of one version and one type (PASERK specification, "PASERK Message Format").
use Rattle.std.specs.Prelude.{◌≡◌, ℕ, List, ◌++◌}
use Rattle.rusty_paseto_paserk.specs.Header.{header}
use Rattle.rusty_paseto_paserk.specs.declared.header.PaserkVersion.{PaserkVersion}
use Rattle.rusty_paseto_paserk.specs.declared.header.PaserkType.{PaserkType}

-- what begins as keys of two versions and types begins as one of the same version and type
abbrev pub OneKeyKind : Type 0
OneKeyKind = (version other_version : PaserkVersion) (kind other_kind : PaserkType) (a b : List ℕ)
    → header version kind ++ a ≡ header other_version other_kind ++ b → (version ≡ other_version) × (kind ≡ other_kind)
