-- The table holds multiples of the base point: the kernel computes them.
use Rattle.std.proofs.Common.{◌≡◌, ℕ, zero, suc, ◌+◌, ◌*◌, ◌^◌, ◌%◌, ◌<◌, Bool, true, false, true≢false, ◌≢◌, List, [], ◌∷◌, length, get_or, nat_eq, nat_lt, if◌then◌else◌, eqb-true, ltb-true, refl, sym, ◌∙◌, ap, ap₂, subst, arith, lit<, mod-eq_of_lt, mod-lt, pow-add, pow-suc}
use Rattle.std.proofs.Math.Nat.{pow-zero}
use Rattle.std.proofs.lemmas.List.{get_or_default}
use Rattle.paseto_edwards_laws.specs.Group.{Affine}
use Rattle.paseto_edwards_laws.specs.Extended.{Extended, Stands}
use Rattle.paseto_primes.proofs.DivisorLaws.{cancel}
use Rattle.paseto_edwards_laws.specs.Edwards25519.{base, base_x, base_y, d, prime}
use Rattle.paseto_primes.proofs.FieldOfEdwards25519.{is-prime}
use Rattle.paseto_edwards_laws.proofs.CurveLaws.{base-point}
use Rattle.paseto_edwards25519.specs.Curve.{base_t, multiple, sum}
use Rattle.paseto_edwards25519.specs.Extended.{affine, between, extended, flat}
use Rattle.paseto_edwards25519.specs.Field.{minus, plus, times}
use Rattle.paseto_edwards25519.specs.Table.{IsEntry, whole}
use Rattle.paseto_edwards25519.specs.declared.point.table.TheConstants.{TABLE}
use Rattle.paseto_edwards25519.proofs.CurveLaws.{Gives, added-gives, base-gives, doubled-gives, flat-gives, identity-gives, multiple-none, multiple-once, stands, stands-affine}
use Rattle.paseto_edwards25519.proofs.Formulas.{added, doubled}
use Rattle.paseto_edwards25519.proofs.MultipleLaws.{multiple-next, multiple-twice}

-- what is computed of an entry, which is to be the point of q
check_entry : List ℕ → Extended → Bool
check_entry e q =
    let r = between (whole e 0) (whole e 2) 1 (whole e 4) in
    if nat_lt (whole e 0) prime then
    (if nat_lt (whole e 2) prime then
    (if nat_lt (whole e 4) prime then
    (if nat_eq (times r.x q.z) (q.x % prime) then
    (if nat_eq (times r.y q.z) (q.y % prime) then nat_eq r.t (times r.x r.y) else false) else false) else false) else false) else false

check_row : Extended → Extended → List (List ℕ) → Bool
check_row b q [] = true
check_row b q (e ∷ es) = if check_entry e q then check_row b (added q b) es else false

twice : Extended → Extended
twice q = doubled q.x q.y q.z

doublings : ℕ → Extended → Extended
doublings zero b = b
doublings (suc k) b = twice (doublings k b)

check_rows : Extended → List (List (List ℕ)) → Bool
check_rows b [] = true
check_rows b (r ∷ rs) = if check_row b (extended 0 1 1 0) r then check_rows (doublings 16 b) rs else false

table-checked : check_rows (extended base_x base_y 1 base_t) TABLE ≡ true
unfolding check_rows check_row check_entry between doublings twice doubled added plus minus times
table-checked = refl

both : (a b : Bool) → (if a then b else false) ≡ true → (a ≡ true) × (b ≡ true)
both true b h = (refl, h)
both false b h = absurd (true≢false (sym h))

same-coordinate : (x z c n : ℕ) → z % prime ≢ 0 → x < prime → c < prime → times x z ≡ n → n ≡ (c * z) % prime → x ≡ c
unfolding times
same-coordinate x z c n unit x_low c_low e f =
    let turned_x : z * x ≡ x * z = omega arith in
    let turned_c : c * z ≡ z * c = omega arith in
    sym (mod-eq_of_lt x_low)
    ∙ cancel prime z x c is-prime unit (ap (λ k. k % prime) turned_x ∙ e ∙ f ∙ ap (λ k. k % prime) turned_c)
    ∙ mod-eq_of_lt c_low

times-low : (x y : ℕ) → times x y < prime
unfolding times
times-low x y = mod-lt (x * y) (lit< tt)

between-low : (m s z k : ℕ) → ((between m s z k).x < prime) × ((between m s z k).y < prime)
unfolding between
between-low m s z k = (times-low _ _, times-low _ _)

between-z : (m s z k : ℕ) → (between m s z k).z ≡ z
unfolding between
between-z m s z k = refl

same-coordinates : (r : Extended) (x y z t : ℕ) → x ≡ r.x → y ≡ r.y → z ≡ r.z → t ≡ r.t → extended x y z t ≡ r
same-coordinates r x y z t x_is y_is z_is t_is = rw (x_is, y_is, z_is, t_is) refl

entry-sound : (e : List ℕ) (q : Extended) (n : ℕ) → Gives q (multiple n base) → check_entry e q ≡ true → IsEntry n e
unfolding check_entry
entry-sound e q n q_is h =
    let m : ℕ = whole e 0 in
    let s : ℕ = whole e 2 in
    let k : ℕ = whole e 4 in
    let a : Affine = multiple n base in
    let r : Extended = between m s 1 k in
    let qa : Stands prime d q a = subst (λ b. Stands prime d q b) q_is.is q_is.on_curve in
    let h1 = both (nat_lt m prime) _ h in
    let h2 = both (nat_lt s prime) _ h1.1 in
    let h3 = both (nat_lt k prime) _ h2.1 in
    let h4 = both (nat_eq (times r.x q.z) (q.x % prime)) _ h3.1 in
    let h5 = both (nat_eq (times r.y q.z) (q.y % prime)) _ h4.1 in
    let low : (r.x < prime) × (r.y < prime) = between-low m s 1 k in
    let x_is : r.x ≡ a.x = same-coordinate r.x q.z a.x (q.x % prime) qa.unit low.0 qa.point.x_low (eqb-true _ _ h4.0) qa.x_is in
    let y_is : r.y ≡ a.y = same-coordinate r.y q.z a.y (q.y % prime) qa.unit low.1 qa.point.y_low (eqb-true _ _ h5.0) qa.y_is in
    let t_is : r.t ≡ times a.x a.y = eqb-true _ _ h5.1 ∙ ap₂ times x_is y_is in
    let same : extended a.x a.y 1 (times a.x a.y) ≡ r =
    same-coordinates r a.x a.y 1 (times a.x a.y) (sym x_is) (sym y_is) (sym (between-z m s 1 k)) (sym t_is) in
    record {
      difference_low = ltb-true m prime h1.0;
      total_low = ltb-true s prime h2.0;
      scaled_low = ltb-true k prime h3.0;
      stands = subst (λ c. Stands prime d c a) same (stands-affine a qa.point);
    }

next_entry : (n j w : ℕ) → n + w + j * w ≡ n + suc j * w
next_entry n j w = omega arith

row-sound : (b q : Extended) (w n : ℕ) → Gives b (multiple w base) → Gives q (multiple n base)
    → (es : List (List ℕ)) → check_row b q es ≡ true → (j : ℕ) → j < length es → IsEntry (n + j * w) (get_or es j [])
unfolding check_row
row-sound b q w n b_is q_is [] h j below = absurd (omega arith)
row-sound b q w n b_is q_is (e ∷ es) h zero below =
    let none : n + 0 * w ≡ n = omega arith in
    rw none (entry-sound e q n q_is (both (check_entry e q) (check_row b (added q b) es) h).0)
row-sound b q w n b_is q_is (e ∷ es) h (suc j) below =
    let made : Gives (added q b) (sum (affine q) (affine b)) = added-gives q b q_is.on_curve b_is.on_curve in
    let next : Gives (added q b) (multiple (n + w) base) = record {
      on_curve = made.on_curve;
      is = multiple-next n w base (affine q) (affine b) (affine (added q b)) base-point made.is q_is.is b_is.is;
    } in
    rw (← next_entry n j w) (row-sound b (added q b) w (n + w) b_is next es
    (both (check_entry e q) (check_row b (added q b) es) h).1 j (omega arith))

twice-gives : (q : Extended) (w : ℕ) → Gives q (multiple w base) → Gives (twice q) (multiple (2 * w) base)
unfolding twice
twice-gives q w q_is =
    let kept : Gives (flat q.x q.y q.z) (affine q) = flat-gives q.x q.y q.z q.t q_is.on_curve in
    let made : Gives (doubled q.x q.y q.z) (sum (affine (flat q.x q.y q.z)) (affine (flat q.x q.y q.z))) =
    doubled-gives q.x q.y q.z kept.on_curve in
    record {
      on_curve = made.on_curve;
      is = multiple-twice w base (affine (flat q.x q.y q.z)) (affine (twice q)) base-point made.is (kept.is ∙ q_is.is);
    }

doublings-give : (b : Extended) (w : ℕ) → Gives b (multiple w base) → (k : ℕ) → Gives (doublings k b) (multiple (2 ^ k * w) base)
unfolding doublings
doublings-give b w b_is zero =
    let one : 2 ^ 0 * w ≡ w = ap (λ p. p * w) (pow-zero 2) ∙ omega arith in
    rw one b_is
doublings-give b w b_is (suc k) =
    let more : 2 ^ suc k * w ≡ 2 * (2 ^ k * w) = ap (λ p. p * w) (pow-suc 2 k) ∙ omega arith in
    rw more (twice-gives (doublings k b) (2 ^ k * w) (doublings-give b w b_is k))

first_row : (j w : ℕ) → 0 + j * w ≡ j * (w * 2 ^ (16 * 0))
first_row j w = omega (arith, pow-zero 2)

later_row : (j w m : ℕ) → j * (2 ^ 16 * w * 2 ^ (16 * m)) ≡ j * (w * 2 ^ (16 * suc m))
later_row j w m =
    let shifted : 16 * suc m ≡ 16 * m + 16 = omega arith in
    let split : 2 ^ (16 * suc m) ≡ 2 ^ (16 * m) * 2 ^ 16 = ap (λ n. 2 ^ n) shifted ∙ pow-add 2 (16 * m) 16 in
    rw split (ap (λ n. j * n) (omega arith))

none-gives : Gives (extended 0 1 1 0) (multiple 0 base)
none-gives = record { on_curve = identity-gives.on_curve; is = identity-gives.is ∙ sym (multiple-none base) }

rows-sound : (b : Extended) (w : ℕ) → Gives b (multiple w base)
    → (rs : List (List (List ℕ))) → check_rows b rs ≡ true → (m j : ℕ) → m < length rs → j < length (get_or rs m [])
    → IsEntry (j * (w * 2 ^ (16 * m))) (get_or (get_or rs m []) j [])
unfolding check_rows
rows-sound b w b_is [] h m j hm hj = absurd (omega arith)
rows-sound b w b_is (r ∷ rs) h zero j hm hj =
    rw (← first_row j w)
    (row-sound b (extended 0 1 1 0) w 0 b_is none-gives r (both (check_row b (extended 0 1 1 0) r) (check_rows (doublings 16 b) rs) h).0 j hj)
rows-sound b w b_is (r ∷ rs) h (suc m) j hm hj =
    rw (← later_row j w m)
    (rows-sound (doublings 16 b) (2 ^ 16 * w) (doublings-give b w b_is 16) rs
    (both (check_row b (extended 0 1 1 0) r) (check_rows (doublings 16 b) rs) h).1 m j (omega arith) hj)

one-gives : Gives (extended base_x base_y 1 base_t) (multiple 1 base)
one-gives = record { on_curve = base-gives.on_curve; is = base-gives.is ∙ sym (multiple-once base base-point) }

-- entry j of row m is [j * 2 ^ (16 * m)]B
table-entry : (m j : ℕ) → m < length TABLE → j < length (get_or TABLE m [])
    → IsEntry (j * 2 ^ (16 * m)) (get_or (get_or TABLE m []) j [])
table-entry m j hm hj =
    let once : j * (1 * 2 ^ (16 * m)) ≡ j * 2 ^ (16 * m) = omega arith in
    subst (λ n. IsEntry n (get_or (get_or TABLE m []) j [])) once
    (rows-sound (extended base_x base_y 1 base_t) 1 one-gives TABLE table-checked m j hm hj)

full : List (List (List ℕ)) → Bool
full [] = true
full (r ∷ rs) = if nat_eq (length r) 16 then full rs else false

full-sound : (rs : List (List (List ℕ))) → full rs ≡ true → (m : ℕ) → m < length rs → length (get_or rs m []) ≡ 16
unfolding full
full-sound [] h m below = absurd (omega arith)
full-sound (r ∷ rs) h zero below = eqb-true _ _ (both (nat_eq (length r) 16) (full rs) h).0
full-sound (r ∷ rs) h (suc m) below = full-sound rs (both (nat_eq (length r) 16) (full rs) h).1 m (omega arith)

table-full : full TABLE ≡ true
unfolding full
table-full = refl

table-length : length TABLE ≡ 16
table-length = refl

-- the same, whatever stands past the ends
pub table-read : (m j : ℕ) → m < 16 → j < 16 → (others : List (List ℕ)) (other : List ℕ)
    → IsEntry (j * 2 ^ (16 * m)) (get_or (get_or TABLE m others) j other)
table-read m j hm hj others other =
    let hm' : m < length TABLE = omega (arith, table-length) in
    let row_length : length (get_or TABLE m []) ≡ 16 = full-sound TABLE table-full m hm' in
    let hj' : j < length (get_or TABLE m []) = omega (arith, row_length) in
    subst (λ r. IsEntry (j * 2 ^ (16 * m)) (get_or r j other)) (sym (get_or_default TABLE m others [] hm'))
    (subst (λ e. IsEntry (j * 2 ^ (16 * m)) e) (sym (get_or_default (get_or TABLE m []) j other [] hj'))
    (table-entry m j hm' hj'))

-- an entry as a sum reads it
pub entry-gives : (n : ℕ) (e : List ℕ) (m s w k : ℕ) → IsEntry n e → m ≡ whole e 0 % prime → s ≡ whole e 2 % prime → w ≡ 1
    → k ≡ whole e 4 % prime → Gives (between m s w k) (multiple n base)
entry-gives n e m s w k entry m_is s_is w_is k_is =
    rw (m_is ∙ mod-eq_of_lt entry.difference_low, s_is ∙ mod-eq_of_lt entry.total_low, w_is, k_is ∙ mod-eq_of_lt entry.scaled_low)
    (stands (between (whole e 0) (whole e 2) 1 (whole e 4)) (multiple n base) entry.stands)
