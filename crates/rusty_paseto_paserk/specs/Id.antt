-- The id of a key (PASERK specification, "PASERK IDs"): a hash of 33 bytes of the id's own header and the key's text.
use Rattle.std.specs.Prelude.{◌≡◌, ℕ, List, [], ◌++◌, length, take, Result, IfOk, IfErr, string_bytes}
use Rattle.std.specs.declared.alloc.Global.{Global}
use Rattle.std.specs.declared.string.String.{String}
use Rattle.sha2.specs.Sha512.{sha384}
use Rattle.rusty_paseto_primitives.specs.Blake2.Keyed.{blake2b}
use Rattle.rusty_paseto_parts.specs.Section.{base64url}
use Rattle.rusty_paseto_paserk.specs.declared.header.PaserkVersion.{PaserkVersion}
use Rattle.rusty_paseto_paserk.specs.declared.header.PaserkVersion.TheVariants.{V1, V2, V3, V4}
use Rattle.rusty_paseto_paserk.specs.declared.header.PaserkType.{PaserkType}
use Rattle.rusty_paseto_paserk.specs.declared.header.PaserkType.TheVariants.{Secret}
use Rattle.rusty_paseto_paserk.specs.declared.error.PaserkError.{PaserkError}
use Rattle.rusty_paseto_paserk.specs.Header.{id_header}
use Rattle.rusty_paseto_paserk.specs.Text.{IsLengthFault, writing}

-- the hash of a version: SHA-384 cut to 33 bytes in versions 1 and 3, BLAKE2b of 33 bytes in versions 2 and 4
abbrev pub hash : PaserkVersion → List ℕ → List ℕ
hash V1 message = take 33 (sha384 message)
hash V2 message = blake2b [] 33 message
hash V3 message = take 33 (sha384 message)
hash V4 message = blake2b [] 33 message

-- the id of the key of this text
unfoldable pub id_of_text : PaserkVersion → PaserkType → List ℕ → List ℕ
id_of_text version kind text = id_header version kind ++ base64url (hash version (id_header version kind ++ text))

-- the id of a key
abbrev pub id_of : PaserkVersion → PaserkType → List ℕ → List ℕ
id_of version kind key = id_of_text version kind (writing version kind key)

-- the answer for a private key is its id, where it has the length of the version's private keys
pub record IdentifiesSecret (version : PaserkVersion) (n : ℕ) (key : List ℕ) (answer : Result (String Global) PaserkError) : Type 0 where
  pub ok : IfOk answer (λ id. (length key ≡ n) × (string_bytes id ≡ id_of version Secret key))
  pub refused : IfErr answer (IsLengthFault n key)
