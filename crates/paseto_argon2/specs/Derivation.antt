-- Argon2id (RFC 9106, section 3.2).
use Rattle.std.specs.Prelude.{ℕ, ◌*◌, ◌/◌, List, ◌++◌, length}
use Rattle.paseto_argon2.specs.Block.{block_bytes}
use Rattle.paseto_argon2.specs.Filling.{Setting, final_block}
use Rattle.paseto_argon2.specs.VariableHash.{hash, le32, variable_hash}
use Rattle.paseto_argon2.specs.declared.allowed.Parameters.{Parameters}

-- H_0, of the password P, the salt S, the secret K, the associated data X, the parameters, and the length t of the
-- output. 0x13 is the version, and 2 says that this is Argon2id
unfoldable pub seed : List ℕ → List ℕ → List ℕ → List ℕ → Parameters → ℕ → List ℕ
seed password salt secret associated parameters t =
    hash 64 (le32 parameters.lanes ++ le32 t ++ le32 parameters.memory ++ le32 parameters.passes ++ le32 0x13 ++ le32 2
    ++ le32 (length password) ++ password ++ le32 (length salt) ++ salt
    ++ le32 (length secret) ++ secret ++ le32 (length associated) ++ associated)

-- what the filling of the memory depends on: m' = 4 * p * floor (m / (4 * p)) blocks are filled
abbrev pub setting : List ℕ → Parameters → Setting
setting h parameters = record {
  seed = h;
  lanes = parameters.lanes;
  segment = parameters.memory / (4 * parameters.lanes);
  passes = parameters.passes;
}

-- the output of t bytes
unfoldable pub argon2id : List ℕ → List ℕ → List ℕ → List ℕ → Parameters → ℕ → List ℕ
argon2id password salt secret associated parameters t =
    variable_hash t (block_bytes (final_block (setting (seed password salt secret associated parameters t) parameters)))
