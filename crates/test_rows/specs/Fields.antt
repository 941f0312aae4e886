-- What a field of a row says.
use Rattle.std.specs.Prelude.{◌≡◌, ◌≢◌, ℕ, List, [], Ok, codes}
use Rattle.hex.specs.Hex.{decode_of}

-- `-` says no bytes, and any other field those of its hexadecimal digits
pub record Says (field bytes : List ℕ) : Type 0 where
  pub nothing : field ≡ codes "-" → bytes ≡ []
  pub digits : field ≢ codes "-" → decode_of field ≡ Ok bytes
