-- What two keys show that have one id (PASERK specification, "PASERK IDs").
use Rattle.std.specs.Prelude.{◌≡◌, ◌≢◌, ℕ, List, ◌++◌}
use Rattle.base64.specs.GeneralPurpose.{IsBytes}
use Rattle.rusty_paseto_paserk.specs.Header.{id_header}
use Rattle.rusty_paseto_paserk.specs.Id.{hash, id_of}
use Rattle.rusty_paseto_paserk.specs.Text.{writing}
use Rattle.rusty_paseto_paserk.specs.declared.header.PaserkVersion.{PaserkVersion}
use Rattle.rusty_paseto_paserk.specs.declared.header.PaserkType.{PaserkType}

-- what the hash of an id is of: the id's header and the key's text
abbrev pub hashed : PaserkVersion → PaserkType → List ℕ → List ℕ
hashed version kind key = id_header version kind ++ writing version kind key

-- two lists are different and have one hash: BLAKE2b of 33 bytes in versions 2 and 4, and the first 33 bytes of SHA-384 in
-- versions 1 and 3
pub record IsHashCollision (version : PaserkVersion) (first second : List ℕ) : Type 0 where
  pub apart : first ≢ second
  pub one_hash : hash version first ≡ hash version second

-- two keys with one id are of one version and one type, and if they are different, what is hashed of them is a collision
abbrev pub IdsShow : Type 0
IdsShow = (version other_version : PaserkVersion) (kind other_kind : PaserkType) (first second : List ℕ)
    → IsBytes first → IsBytes second → id_of version kind first ≡ id_of other_version other_kind second
    → (version ≡ other_version) × (kind ≡ other_kind)
    × (first ≢ second → IsHashCollision version (hashed version kind first) (hashed version kind second))
