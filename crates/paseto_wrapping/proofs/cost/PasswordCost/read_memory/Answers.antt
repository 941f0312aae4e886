use Rattle.std.proofs.Common.{◌≡◌, ◌++◌, ◌∙◌, List, ℕ, length, take, drop, ap, arith, append_assoc, length-drop, refl}
use Rattle.std.specs.Int.{w32, w64, to_be_bytes, from_be_bytes}
use Rattle.std.proofs.lemmas.List.{take-append-drop, length-take-le}
use Rattle.std.proofs.lemmas.Nat.{be_bytes_4, be_bytes_8}
use Rattle.rusty_paseto_primitives.specs.Bytes.{IsBytes}
use Rattle.rusty_paseto_primitives.proofs.ByteLists.{IsBytes-drop, IsBytes-take}
use Rattle.paseto_wrapping.specs.Password.{cost_bytes}
use Rattle.paseto_wrapping.proofs.cost.PasswordCost.read_memory.Goals as goal

joined : (a b c x y z : List ℕ) → a ≡ x → b ≡ y → c ≡ z → a ++ b ++ c ≡ x ++ y ++ z
joined a b c x y z p q r = rw (p, q, r) refl

numbers : (bytes : List ℕ) (memory passes lanes : ℕ) → IsBytes bytes → length bytes ≡ 16
    → memory ≡ from_be_bytes w64 (take 8 bytes) → passes ≡ from_be_bytes w32 (take 4 (drop 8 bytes)) → lanes ≡ from_be_bytes w32 (drop 4 (drop 8 bytes))
    → to_be_bytes w64 memory ++ to_be_bytes w32 passes ++ to_be_bytes w32 lanes ≡ bytes
numbers bytes memory passes lanes all size m p l =
    let rest : IsBytes (drop 8 bytes) = IsBytes-drop 8 bytes all in
    let first : length (take 8 bytes) ≡ 8 = length-take-le 8 bytes (omega arith) in
    let back : length (drop 8 bytes) ≡ 8 = omega (arith, length-drop 8 bytes) in
    let second : length (take 4 (drop 8 bytes)) ≡ 4 = length-take-le 4 (drop 8 bytes) (omega arith) in
    let third : length (drop 4 (drop 8 bytes)) ≡ 4 = omega (arith, length-drop 4 (drop 8 bytes)) in
    let em : to_be_bytes w64 memory ≡ take 8 bytes = be_bytes_8 (take 8 bytes) memory first (IsBytes-take 8 bytes all) m in
    let ep : to_be_bytes w32 passes ≡ take 4 (drop 8 bytes) = be_bytes_4 (take 4 (drop 8 bytes)) passes second (IsBytes-take 4 (drop 8 bytes) rest) p in
    let el : to_be_bytes w32 lanes ≡ drop 4 (drop 8 bytes) = be_bytes_4 (drop 4 (drop 8 bytes)) lanes third (IsBytes-drop 4 (drop 8 bytes) rest) l in
    joined _ _ _ _ _ _ em ep el ∙ append_assoc (take 8 bytes) (take 4 (drop 8 bytes)) (drop 4 (drop 8 bytes))
    ∙ ap (λ (r : List ℕ). take 8 bytes ++ r) (take-append-drop 4 (drop 8 bytes)) ∙ take-append-drop 8 bytes

pub returns-clause-told : goal.returns-clause-told
unfolding cost_bytes
returns-clause-told c =
    let memory = rw (c.array_of.ensures, c.split_at.ensures.front) at c.from_be_bytes.ensures in
    let passes = rw (c.array_of-2.ensures, c.split_at-2.ensures.front, c.split_at.ensures.back) at c.from_be_bytes-2.ensures in
    let lanes = rw (c.array_of-3.ensures, c.split_at-2.ensures.back, c.split_at.ensures.back) at c.from_be_bytes-3.ensures in
    numbers c.args.bytes.now _ _ _ (λ i. omega (arith, c.type_inv.bytes i)) c.requires memory passes lanes
