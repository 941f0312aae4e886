-- Lists of bytes stay so as they are joined and cut.
use Rattle.std.proofs.Common.{ℕ, zero, suc, ◌+◌, ◌<◌, List, [], ◌∷◌, ◌++◌, take, drop, arith}
use Rattle.std.proofs.lemmas.List.{get_or-drop}
use Rattle.std.specs.Int.{byte_at}
use Rattle.rusty_paseto_primitives.specs.Bytes.{IsBytes}

pub IsBytes_cons : (x : ℕ) (xs : List ℕ) → x < 256 → IsBytes xs → IsBytes (x ∷ xs)
IsBytes_cons x xs head tail zero = head
IsBytes_cons x xs head tail (suc i) = tail i

pub IsBytes-nil : IsBytes []
IsBytes-nil i = omega arith

pub IsBytes-append : (xs ys : List ℕ) → IsBytes xs → IsBytes ys → IsBytes (xs ++ ys)
IsBytes-append [] ys front back = back
IsBytes-append (x ∷ xs) ys front back = IsBytes_cons x (xs ++ ys) (front 0) (IsBytes-append xs ys (λ i. front (suc i)) back)

pub IsBytes-take : (n : ℕ) (xs : List ℕ) → IsBytes xs → IsBytes (take n xs)
IsBytes-take zero xs all = IsBytes-nil
IsBytes-take (suc n) [] all = IsBytes-nil
IsBytes-take (suc n) (x ∷ xs) all = IsBytes_cons x (take n xs) (all 0) (IsBytes-take n xs (λ i. all (suc i)))

pub IsBytes-drop : (n : ℕ) (xs : List ℕ) → IsBytes xs → IsBytes (drop n xs)
IsBytes-drop n xs all i = rw (get_or-drop n xs i 0) (all (n + i))

pub byte_at-lt : (i n : ℕ) → byte_at i n < 256
byte_at-lt zero n = omega arith
byte_at-lt (suc i) n = omega arith
