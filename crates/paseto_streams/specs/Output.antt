-- What a write that fails leaves of an output.
use Rattle.std.specs.Prelude.{ℕ, ◌<◌, List, length}
use Rattle.std.specs.Io.{StartsWith}

-- a beginning of the output, and not all of it
pub record IsCutShort (output written : List ℕ) : Type 0 where
  pub beginning : StartsWith output written
  pub shorter : length written < length output
