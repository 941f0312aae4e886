-- The variable-length hash function H' (RFC 9106, section 3.3), over BLAKE2b without a key.
use Rattle.std.specs.Prelude.{ℕ, zero, suc, ◌+◌, ◌-◌, ◌*◌, ◌/◌, List, [], ◌++◌, nat_le, take, if◌then◌else◌}
use Rattle.std.specs.Int.{w32, to_le_bytes}
use Rattle.rusty_paseto_primitives.specs.Blake2.Keyed.{blake2b}

-- H^(n) of a message: BLAKE2b without a key, of n bytes
abbrev pub hash : ℕ → List ℕ → List ℕ
hash n message = blake2b [] n message

-- a number in four bytes, the low one first
abbrev pub le32 : ℕ → List ℕ
le32 n = to_le_bytes w32 n

-- V_(k + 1), from V_1: each is the hash of the one before it
unfoldable pub linked : List ℕ → ℕ → List ℕ
linked v zero = v
linked v (suc k) = hash 64 (linked v k)

-- W_1 to W_k, one after another: W_i is the first half of V_i
unfoldable pub fronts : List ℕ → ℕ → List ℕ
fronts v zero = []
fronts v (suc k) = fronts v k ++ take 32 (linked v k)

-- how many V_i give their first half: r
abbrev pub front_count : ℕ → ℕ
front_count t = (t + 31) / 32 - 2

-- H'^(t)(a)
unfoldable pub variable_hash : ℕ → List ℕ → List ℕ
variable_hash t a =
    if nat_le t 64 then hash t (le32 t ++ a) else (let r = front_count t in
    let v = hash 64 (le32 t ++ a) in
    fronts v r ++ hash (t - 32 * r) (linked v (r - 1)))
