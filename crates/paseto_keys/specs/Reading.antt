-- How tokens are read under a key, whatever its type and its version.
use Rattle.std.specs.Prelude.{ℕ, List}
use Rattle.rusty_paseto_core.specs.Context.{Binding}
use Rattle.rusty_paseto_core.specs.Local.Boxed.{box_opening}
use Rattle.rusty_paseto_core.specs.Local.Opening.{opening}
use Rattle.rusty_paseto_core.specs.Local.V1.{v1}
use Rattle.rusty_paseto_core.specs.Local.V3.{v3}
use Rattle.rusty_paseto_core.specs.Local.V4.{v4}
use Rattle.rusty_paseto_core.specs.Public.{v1_public, v2_public, v3_public, v4_public}
use Rattle.rusty_paseto_core.specs.Public.Verifying.{verification}
use Rattle.rusty_paseto_core.specs.Reading.{Reading}
use Rattle.paseto_ed25519.specs.Ed25519.{Ed25519Verifies, IsRefused}
use Rattle.paseto_p384.specs.P384.{P384Verifies, IsRefused as IsRefusedByP384}
use Rattle.paseto_rsa.specs.RsaPss.{RsaPssVerifies, IsRefused as IsRefusedByRsa}
use Rattle.paseto_xchacha20poly1305.specs.Sealing.{box_sealing}
use Rattle.rusty_paseto_paserk.specs.declared.header.PaserkType.{PaserkType}
use Rattle.rusty_paseto_paserk.specs.declared.header.PaserkType.TheVariants.{Local, Public}
use Rattle.rusty_paseto_paserk.specs.declared.header.PaserkVersion.{PaserkVersion}
use Rattle.rusty_paseto_paserk.specs.declared.header.PaserkVersion.TheVariants.{V1, V2, V3, V4}
use Rattle.paseto_keys.specs.AnyKey.{KeyParts, binding}

-- how a version's tokens are read: opened, or verified. The last line is that of local keys of version 1; private keys,
-- which read nothing, fall to it too
abbrev pub reading_of : PaserkType → PaserkVersion → Binding → Reading
reading_of Local V2 = box_opening box_sealing
reading_of Local V3 = opening v3
reading_of Local V4 = opening v4
reading_of Public V1 = verification RsaPssVerifies IsRefusedByRsa v1_public
reading_of Public V2 = verification Ed25519Verifies IsRefused v2_public
reading_of Public V3 = verification P384Verifies IsRefusedByP384 v3_public
reading_of Public V4 = verification Ed25519Verifies IsRefused v4_public
reading_of _ _ = opening v1

-- the same under a key, with a footer and an implicit assertion
abbrev pub reading_by : KeyParts → List ℕ → List ℕ → Reading
reading_by key footer assertion = reading_of key.kind key.version (binding key.bytes footer assertion)
