-- The links of the variable-length hash.
use Rattle.std.proofs.Common.{◌≡◌, ℕ, zero, suc, ◌+◌, ◌-◌, ◌*◌, ◌<◌, ◌≤◌, true, false, nat_le, List, [], ◌++◌, length, take, drop, refl, ap, ◌∙◌, arith, add-one, length-drop}
use Rattle.std.proofs.lemmas.List.{append-nil, drop_all}
use Rattle.std.proofs.lemmas.Bool.Decides.{nat_tests}
use Rattle.paseto_argon2.specs.VariableHash.{front_count, fronts, hash, le32, linked, variable_hash}
use borrow.Rule.Slice.PartMut.{post_of, put_mid}

-- one more link
pub linked_more : (v before : List ℕ) (k : ℕ) → 0 < k → before ≡ linked v (k - 1) → hash 64 before ≡ linked v (k + 1 - 1)
unfolding linked
linked_more v before zero some e = absurd (omega (arith, some))
linked_more v before (suc k) some e =
    let next : suc (suc k - 1) ≡ suc k + 1 - 1 = omega arith in
    ap (hash 64) e ∙ ap (linked v) next

-- the fronts of the first link, and of one more
pub fronts_one : (before v out : List ℕ) → take (32 * (0 + 1)) out ≡ take (32 * 0) before ++ take 32 v → take (32 * 1) out ≡ fronts v 1
unfolding fronts linked
fronts_one before v out e = e

pub fronts_more : (before out v link : List ℕ) (k : ℕ) → take (32 * k) before ≡ fronts v k → 0 < k → link ≡ linked v (k + 1 - 1)
    → take (32 * (k + 1)) out ≡ take (32 * k) before ++ take 32 link → take (32 * (k + 1)) out ≡ fronts v (k + 1)
unfolding fronts
fronts_more before out v link k held some el e =
    let last : k + 1 - 1 ≡ k = omega arith in
    e ∙ rw (held, el, last, add-one) refl

-- the fronts, and the last hash behind them
pub whole_output : (t : ℕ) (v link out ys : List ℕ) (r w : ℕ) → length out ≡ t → w ≡ t - 32 * r → link ≡ linked v (r - 1)
    → take (32 * r) out ≡ fronts v r → ys ≡ hash w link → put_mid (32 * r) w out ys ≡ fronts v r ++ hash (t - 32 * r) (linked v (r - 1))
whole_output t v link out ys r w len ew el held ey =
    let none : post_of (32 * r) w out ≡ [] = drop_all w (drop (32 * r) out) (omega (arith, length-drop (32 * r) out)) in
    rw (none, append-nil, held, ey, ew, el) refl

-- the two cases of the hash
pub variable_hash-short : (t : ℕ) (a : List ℕ) → t ≤ 64 → variable_hash t a ≡ hash t (le32 t ++ a)
unfolding variable_hash
variable_hash-short t a short = let test : nat_le t 64 ≡ true = grind (arith, nat_tests) in rw test refl

pub variable_hash-long : (t : ℕ) (a : List ℕ) → 64 < t
    → variable_hash t a ≡ fronts (hash 64 (le32 t ++ a)) (front_count t) ++ hash (t - 32 * front_count t) (linked (hash 64 (le32 t ++ a)) (front_count t - 1))
unfolding variable_hash
variable_hash-long t a long = let test : nat_le t 64 ≡ false = grind (arith, nat_tests) in rw test refl
