-- Lists of bytes.
use Rattle.std.specs.Prelude.{ℕ, zero, suc, ◌<◌, List, [], ◌++◌, slice_index}

-- each element is below 256
abbrev pub IsBytes : List ℕ → Type 0
IsBytes b = (i : ℕ) → slice_index b i < 256

-- blocks 1 to n, joined
unfoldable pub joined : (ℕ → List ℕ) → ℕ → List ℕ
joined block zero = []
joined block (suc n) = joined block n ++ block (suc n)
