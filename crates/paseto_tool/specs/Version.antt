-- The versions whose local tokens the program seals and opens.
use Rattle.std.specs.Prelude.{ℕ, List, Option, IsSome, IsTrue, codes}
use Rattle.rusty_paseto_core.specs.Local.{Design}
use Rattle.rusty_paseto_core.specs.Local.V1.{v1}
use Rattle.rusty_paseto_core.specs.Local.V3.{v3}
use Rattle.rusty_paseto_core.specs.Local.V4.{v4}
use Rattle.paseto_tool.specs.declared.version.Version.{Version}
use Rattle.paseto_tool.specs.declared.version.Version.TheVariants.{V1, V3, V4}

-- the word VERSION
abbrev pub version_word : Version → List ℕ
version_word V1 = codes "v1"
version_word V3 = codes "v3"
version_word V4 = codes "v4"

-- what the version means
abbrev pub design_of : Version → Design
design_of V1 = v1
design_of V3 = v3
design_of V4 = v4

-- an implicit assertion is given only where the tokens are bound to it
abbrev pub IsBound : Design → Option (List ℕ) → Type 0
IsBound design assertion = IsSome assertion → IsTrue design.binds_assertion
