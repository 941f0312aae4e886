-- The table holds multiples of the base point: the prover computes them.
use Rattle.std.proofs.Common.{◌≡◌, ℕ, zero, suc, ◌+◌, ◌-◌, ◌*◌, ◌^◌, ◌<◌, Bool, true, false, List, [], ◌∷◌, length, get_or, nat_eq, nat_lt, if◌then◌else◌, eqb-true, ltb-true, refl, sym, ◌∙◌, ap, subst, arith, lit<, mod-lt, pow-add, pow-suc}
use Rattle.std.proofs.Math.Nat.{pow-zero}
use Rattle.std.proofs.lemmas.List.{get_or_default}
use Rattle.paseto_montgomery.specs.Residue.{residue}
use Rattle.paseto_montgomery.specs.Words.{value, weight}
use Rattle.paseto_primes.proofs.IdentityLaws.{if-both}
use Rattle.paseto_weierstrass_laws.specs.Field.{prime, times}
use Rattle.paseto_weierstrass_laws.specs.Group.{cubic}
use Rattle.paseto_weierstrass_laws.specs.Multiples.{IsMultiple}
use Rattle.paseto_weierstrass_laws.specs.Point.{Point, base, point_add, point_double}
use Rattle.paseto_weierstrass_laws.proofs.Formulas.{summing}
use Rattle.paseto_weierstrass_laws.proofs.MultipleLaws.{multiple-add, multiple-double, multiple-of_same, multiple-one}
use Rattle.paseto_weierstrass_laws.proofs.Plane.{IsPlane, plane_point}
use Rattle.paseto_weierstrass_laws.proofs.PointLaws.{base-is_point, plane-is_point, same_of_across}
use Rattle.paseto_p384.specs.Table.{IsEntry, entry_point, words_at}
use Rattle.paseto_p384.specs.declared.point.table.TheConstants.{TABLE}

-- what is computed of an entry, which is to be the point q
check_entry : List (List ℕ) → Point → Bool
check_entry e q =
    let x = residue prime 6 (words_at e 0) in
    let y = residue prime 6 (words_at e 1) in
    if nat_lt (words_at e 0) prime then
    (if nat_lt (words_at e 1) prime then
    (if nat_eq (times (times y y) 1) (cubic x 1) then
    (if nat_eq (times q.x 1) (times x q.z) then nat_eq (times q.y 1) (times y q.z) else false) else false) else false) else false

check_row : Point → Point → List (List (List ℕ)) → Bool
check_row b q [] = true
check_row b q (e ∷ es) = if check_entry e q then check_row b (point_add q b) es else false

doublings : ℕ → Point → Point
doublings zero b = b
doublings (suc k) b = point_double (doublings k b)

check_rows : Point → List (List (List (List ℕ))) → Bool
check_rows b [] = true
check_rows b (r ∷ rs) = if check_row b b r then check_rows (doublings 16 b) rs else false

table-checked : check_rows base TABLE ≡ true
unfolding check_rows check_row check_entry doublings residue value weight summing
table-checked = refl

residue-below : (x : ℕ) → residue prime 6 x < prime
unfolding residue
residue-below x = mod-lt _ (lit< tt)

entry-sound : (e : List (List ℕ)) (q : Point) (n : ℕ) → IsMultiple base q n → check_entry e q ≡ true → IsEntry n e
unfolding check_entry
entry-sound e q n q_is h =
    let x = residue prime 6 (words_at e 0) in
    let y = residue prime 6 (words_at e 1) in
    let h1 = if-both (nat_lt (words_at e 0) prime) _ h in
    let h2 = if-both (nat_lt (words_at e 1) prime) _ h1.1 in
    let h3 = if-both (nat_eq (times (times y y) 1) (cubic x 1)) _ h2.1 in
    let h4 = if-both (nat_eq (times q.x 1) (times x q.z)) _ h3.1 in
    let on : IsPlane x y = record {
      x_below = residue-below (words_at e 0);
      y_below = residue-below (words_at e 1);
      on_curve = eqb-true _ _ h3.0;
    } in
    let same = same_of_across q (plane_point x y) q_is.point (plane-is_point x y on) (eqb-true _ _ h4.0) (eqb-true _ _ h4.1) in
    record {
      x_below = ltb-true (words_at e 0) prime h1.0;
      y_below = ltb-true (words_at e 1) prime h2.0;
      multiple = multiple-of_same base q (entry_point e) n base-is_point q_is same;
    }

next_entry : (n j w : ℕ) → n + w + j * w ≡ n + suc j * w
next_entry n j w = omega arith

row-sound : (b q : Point) (w n : ℕ) → IsMultiple base b w → IsMultiple base q n
    → (es : List (List (List ℕ))) → check_row b q es ≡ true → (j : ℕ) → j < length es → IsEntry (n + j * w) (get_or es j [])
unfolding check_row
row-sound b q w n b_is q_is [] h j below = absurd (omega arith)
row-sound b q w n b_is q_is (e ∷ es) h zero below =
    let none : n + 0 * w ≡ n = omega arith in
    rw none (entry-sound e q n q_is (if-both (check_entry e q) (check_row b (point_add q b) es) h).0)
row-sound b q w n b_is q_is (e ∷ es) h (suc j) below =
    rw (← next_entry n j w) (row-sound b (point_add q b) w (n + w) b_is (multiple-add base q b n w base-is_point q_is b_is) es
    (if-both (check_entry e q) (check_row b (point_add q b) es) h).1 j (omega arith))

doublings-give : (b : Point) (w : ℕ) → IsMultiple base b w → (k : ℕ) → IsMultiple base (doublings k b) (2 ^ k * w)
unfolding doublings
doublings-give b w b_is zero =
    let one : 2 ^ 0 * w ≡ w = ap (λ p. p * w) (pow-zero 2) ∙ omega arith in
    rw one b_is
doublings-give b w b_is (suc k) =
    let more : 2 ^ suc k * w ≡ 2 * (2 ^ k * w) = ap (λ p. p * w) (pow-suc 2 k) ∙ omega arith in
    rw more (multiple-double base (doublings k b) (2 ^ k * w) base-is_point (doublings-give b w b_is k))

first_row : (j w : ℕ) → w + j * w ≡ suc j * (w * 2 ^ (16 * 0))
first_row j w = omega (arith, pow-zero 2)

later_row : (j w m : ℕ) → j * (2 ^ 16 * w * 2 ^ (16 * m)) ≡ j * (w * 2 ^ (16 * suc m))
later_row j w m =
    let shifted : 16 * suc m ≡ 16 * m + 16 = omega arith in
    let split : 2 ^ (16 * suc m) ≡ 2 ^ (16 * m) * 2 ^ 16 = ap (λ n. 2 ^ n) shifted ∙ pow-add 2 (16 * m) 16 in
    rw split (ap (λ n. j * n) (omega arith))

rows-sound : (b : Point) (w : ℕ) → IsMultiple base b w
    → (rs : List (List (List (List ℕ)))) → check_rows b rs ≡ true → (m j : ℕ) → m < length rs → j < length (get_or rs m [])
    → IsEntry (suc j * (w * 2 ^ (16 * m))) (get_or (get_or rs m []) j [])
unfolding check_rows
rows-sound b w b_is [] h m j hm hj = absurd (omega arith)
rows-sound b w b_is (r ∷ rs) h zero j hm hj =
    rw (← first_row j w)
    (row-sound b b w w b_is b_is r (if-both (check_row b b r) (check_rows (doublings 16 b) rs) h).0 j hj)
rows-sound b w b_is (r ∷ rs) h (suc m) j hm hj =
    rw (← later_row (suc j) w m)
    (rows-sound (doublings 16 b) (2 ^ 16 * w) (doublings-give b w b_is 16) rs
    (if-both (check_row b b r) (check_rows (doublings 16 b) rs) h).1 m j (omega arith) hj)

-- entry j of row m is [(j + 1) * 2 ^ (16 * m)]G
table-entry : (m j : ℕ) → m < length TABLE → j < length (get_or TABLE m [])
    → IsEntry (suc j * 2 ^ (16 * m)) (get_or (get_or TABLE m []) j [])
table-entry m j hm hj =
    let once : suc j * (1 * 2 ^ (16 * m)) ≡ suc j * 2 ^ (16 * m) = omega arith in
    subst (λ n. IsEntry n (get_or (get_or TABLE m []) j [])) once
    (rows-sound base 1 (multiple-one base base-is_point) TABLE table-checked m j hm hj)

full : List (List (List (List ℕ))) → Bool
full [] = true
full (r ∷ rs) = if nat_eq (length r) 15 then full rs else false

full-sound : (rs : List (List (List (List ℕ)))) → full rs ≡ true → (m : ℕ) → m < length rs → length (get_or rs m []) ≡ 15
unfolding full
full-sound [] h m below = absurd (omega arith)
full-sound (r ∷ rs) h zero below = eqb-true _ _ (if-both (nat_eq (length r) 15) (full rs) h).0
full-sound (r ∷ rs) h (suc m) below = full-sound rs (if-both (nat_eq (length r) 15) (full rs) h).1 m (omega arith)

table-full : full TABLE ≡ true
unfolding full
table-full = refl

table-length : length TABLE ≡ 24
table-length = refl

-- the same by the multiple, whatever stands past the ends
pub table-read : (m at : ℕ) → m < 24 → 0 < at → at < 16 → (others : List (List (List ℕ))) (other : List (List ℕ))
    → IsEntry (at * 2 ^ (16 * m)) (get_or (get_or TABLE m others) (at - 1) other)
table-read m at hm some hat others other =
    let j : ℕ = at - 1 in
    let next : suc j ≡ at = omega arith in
    let hm' : m < length TABLE = omega (arith, table-length) in
    let row_length : length (get_or TABLE m []) ≡ 15 = full-sound TABLE table-full m hm' in
    let hj : j < length (get_or TABLE m []) = omega (arith, row_length) in
    subst (λ r. IsEntry (at * 2 ^ (16 * m)) (get_or r j other)) (sym (get_or_default TABLE m others [] hm'))
    (subst (λ e. IsEntry (at * 2 ^ (16 * m)) e) (sym (get_or_default (get_or TABLE m []) j other [] hj))
    (subst (λ n. IsEntry (n * 2 ^ (16 * m)) (get_or (get_or TABLE m []) j [])) next (table-entry m j hm' hj)))
