-- The id of a key of any version and type.
use Rattle.std.specs.Prelude.{◌≡◌, ℕ, List, Result, IfOk, IfErr, String, string_bytes}
use Rattle.std.specs.Global.{Global}
use Rattle.paseto_rsa.specs.Forms.{IsPublic as IsRsaPublic}
use Rattle.paseto_rsa.specs.Keys.{IsPrivate as IsRsaPrivate}
use Rattle.rusty_paseto_paserk.specs.Error.{IsMemory}
use Rattle.rusty_paseto_paserk.specs.Id.{IdentifiesSecret, id_of}
use Rattle.rusty_paseto_paserk.specs.Rsa.{Writes, public_id, secret_id}
use Rattle.rusty_paseto_paserk.specs.declared.error.PaserkError.{PaserkError}
use Rattle.rusty_paseto_paserk.specs.declared.header.PaserkType.{PaserkType}
use Rattle.rusty_paseto_paserk.specs.declared.header.PaserkType.TheVariants.{Local, Secret, Public}
use Rattle.rusty_paseto_paserk.specs.declared.header.PaserkVersion.{PaserkVersion}
use Rattle.rusty_paseto_paserk.specs.declared.header.PaserkVersion.TheVariants.{V1, V2, V3, V4}
use Rattle.paseto_keys.specs.AnyKey.{KeyParts}

-- the answer is the id, or that memory was refused
abbrev pub IsTheId : PaserkType → PaserkVersion → List ℕ → Result (String Global) PaserkError → Type 0
IsTheId kind version bytes answer = IfOk answer (λ id. string_bytes id ≡ id_of version kind bytes) × IfErr answer IsMemory

-- the answer for a key
abbrev pub IdentifiesIn : PaserkType → PaserkVersion → List ℕ → Result (String Global) PaserkError → Type 0
IdentifiesIn Local version = IsTheId Local version
IdentifiesIn Secret V1 = Writes IsRsaPrivate secret_id
IdentifiesIn Secret V2 = IdentifiesSecret V2 64
IdentifiesIn Secret V3 = IdentifiesSecret V3 48
IdentifiesIn Secret V4 = IdentifiesSecret V4 64
IdentifiesIn Public V1 = Writes IsRsaPublic public_id
IdentifiesIn Public V2 = IsTheId Public V2
IdentifiesIn Public V3 = IsTheId Public V3
IdentifiesIn Public V4 = IsTheId Public V4

abbrev pub Identifies : KeyParts → Result (String Global) PaserkError → Type 0
Identifies key answer = IdentifiesIn key.kind key.version key.bytes answer
