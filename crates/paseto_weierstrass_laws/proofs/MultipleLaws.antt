-- Multiples of points: n-fold sums, sums of multiples of two points, and double and add.
use Rattle.std.proofs.Common.{◌≡◌, ℕ, zero, suc, ◌+◌, ◌*◌, ◌/◌, ◌%◌, ◌^◌, ◌<◌, inl, inr, sym, subst, arith, add-suc, add-zero, mod-lt, pow-suc}
use Rattle.std.proofs.Math.Nat.{pow-zero}
use Rattle.paseto_weierstrass_laws.specs.Group.{IsPoint, Same}
use Rattle.paseto_weierstrass_laws.specs.Multiples.{IsMultiple, IsSum, joint_multiple, multiple_of, point_add_by}
use Rattle.paseto_weierstrass_laws.specs.Point.{Point, neutral, point_add, point_double}
use Rattle.paseto_weierstrass_laws.proofs.FieldLaws.{bit_cases}
use Rattle.paseto_weierstrass_laws.proofs.GroupLaws.{sum-associates}
use Rattle.paseto_weierstrass_laws.proofs.PointLaws.{neutral-is_point, same-is_point, same_refl, same_sym, same_trans}
use Rattle.paseto_weierstrass_laws.proofs.SumLaws.{double-same, sum-is_point, sum-neutral, sum-neutral_first, sum-same, sum-same_first, sum_comm}

pub multiple-is_point : (n : ℕ) (p : Point) → IsPoint p → IsPoint (multiple_of n p)
unfolding multiple_of
multiple-is_point zero p h = neutral-is_point
multiple-is_point (suc n) p h = sum-is_point (multiple_of n p) p (multiple-is_point n p h) h

-- [m + n]P = [m]P + [n]P
pub multiple-plus : (m n : ℕ) (p : Point) → IsPoint p → Same (multiple_of (m + n) p) (point_add (multiple_of m p) (multiple_of n p))
unfolding multiple_of
multiple-plus m zero p h = rw (add-zero m) (sum-neutral (multiple_of m p) (multiple-is_point m p h))
multiple-plus m (suc n) p h =
    let hm = multiple-is_point m p h in
    let hn = multiple-is_point n p h in
    let hmn = multiple-is_point (m + n) p h in
    rw (add-suc m n) (same_trans (sum-is_point (multiple_of (m + n) p) p hmn h)
    (sum-same_first (multiple_of (m + n) p) (point_add (multiple_of m p) (multiple_of n p)) p hmn h (multiple-plus m n p h))
    (sum-associates (multiple_of m p) (multiple_of n p) p hm hn h))

-- ---- points that are a multiple of another

pub multiple-of_same : (g p q : Point) (n : ℕ) → IsPoint g → IsMultiple g p n → Same p q → IsMultiple g q n
multiple-of_same g p q n hg h s = record { point = same-is_point h.point s; same = same_trans (multiple-is_point n g hg) h.same s }

pub multiple-itself : (n : ℕ) (g : Point) → IsPoint g → IsMultiple g (multiple_of n g) n
multiple-itself n g hg = record { point = multiple-is_point n g hg; same = same_refl (multiple_of n g) (multiple-is_point n g hg) }

pub multiple-add : (g p q : Point) (m n : ℕ) → IsPoint g → IsMultiple g p m → IsMultiple g q n → IsMultiple g (point_add p q) (m + n)
multiple-add g p q m n hg h k =
    let hm = multiple-is_point m g hg in
    let hn = multiple-is_point n g hg in
    record {
      point = sum-is_point p q h.point k.point;
      same = same_trans (multiple-is_point (m + n) g hg) (multiple-plus m n g hg)
          (sum-same (multiple_of m g) p (multiple_of n g) q hm h.point hn k.point h.same k.same);
    }

pub multiple-double : (g p : Point) (n : ℕ) → IsPoint g → IsMultiple g p n → IsMultiple g (point_double p) (2 * n)
multiple-double g p n hg h =
    let twice : n + n ≡ 2 * n = omega arith in
    rw (double-same p h.point) (subst (IsMultiple g (point_add p p)) twice (multiple-add g p p n n hg h h))

pub multiple-neutral : (g : Point) → IsMultiple g neutral 0
unfolding multiple_of
multiple-neutral g = record { point = neutral-is_point; same = same_refl neutral neutral-is_point }

pub multiple-one : (g : Point) → IsPoint g → IsMultiple g g 1
unfolding multiple_of
multiple-one g hg = record { point = hg; same = same_sym hg (sum-is_point neutral g neutral-is_point hg) (sum-neutral_first g hg) }

-- [m]([n]P) = [m * n]P
pub multiple-times : (g p : Point) (m n : ℕ) → IsPoint g → IsMultiple g p n → IsMultiple g (multiple_of m p) (m * n)
unfolding multiple_of
multiple-times g p zero n hg h =
    let none : 0 ≡ 0 * n = omega arith in
    subst (IsMultiple g neutral) none (multiple-neutral g)
multiple-times g p (suc m) n hg h =
    let more : m * n + n ≡ suc m * n = omega arith in
    subst (IsMultiple g (point_add (multiple_of m p) p)) more
    (multiple-add g (multiple_of m p) p (m * n) n hg (multiple-times g p m n hg h) h)

-- what the same number gives is the same
pub multiples-same : (g p q : Point) (n : ℕ) → IsPoint g → IsMultiple g p n → IsMultiple g q n → Same p q
multiples-same g p q n hg h k = same_trans h.point (same_sym (multiple-is_point n g hg) h.point h.same) k.same

-- ---- sums of multiples of two points

-- sums of two sums
exchanged : (p q r s : Point) → IsPoint p → IsPoint q → IsPoint r → IsPoint s
    → Same (point_add (point_add p q) (point_add r s)) (point_add (point_add p r) (point_add q s))
exchanged p q r s hp hq hr hs =
    let pq = sum-is_point p q hp hq in
    let qr = sum-is_point q r hq hr in
    let rs = sum-is_point r s hr hs in
    let pr = sum-is_point p r hp hr in
    let qs = sum-is_point q s hq hs in
    let q_rs = sum-is_point q (point_add r s) hq rs in
    let r_qs = sum-is_point r (point_add q s) hr qs in
    let turn : Same (point_add q (point_add r s)) (point_add r (point_add q s)) =
    same_trans q_rs (same_sym (sum-is_point (point_add q r) s qr hs) q_rs (sum-associates q r s hq hr hs))
    (rw (sum_comm q r hq hr) (sum-associates r q s hr hq hs)) in
    let from = sum-is_point (point_add p q) (point_add r s) pq rs in
    let last = sum-is_point (point_add p r) (point_add q s) pr qs in
    same_trans from (sum-associates p q (point_add r s) hp hq rs)
    (same_trans (sum-is_point p (point_add q (point_add r s)) hp q_rs)
    (sum-same p p (point_add q (point_add r s)) (point_add r (point_add q s)) hp hp q_rs r_qs (same_refl p hp) turn)
    (same_sym last (sum-is_point p (point_add r (point_add q s)) hp r_qs) (sum-associates p r (point_add q s) hp hr qs)))

-- sums of points that are the same as others
pub sum-made : (p q s t : Point) (m n : ℕ) → IsPoint p → IsPoint q → IsMultiple p s m → IsMultiple q t n → IsSum p q (point_add s t) m n
sum-made p q s t m n hp hq hs ht = record {
  point = sum-is_point s t hs.point ht.point;
  same = sum-same (multiple_of m p) s (multiple_of n q) t (multiple-is_point m p hp) hs.point (multiple-is_point n q hq) ht.point hs.same ht.same;
}

pub sum-of_same : (p q s t : Point) (m n : ℕ) → IsPoint p → IsPoint q → IsSum p q s m n → Same s t → IsSum p q t m n
sum-of_same p q s t m n hp hq h e = record {
  point = same-is_point h.point e;
  same = same_trans (sum-is_point (multiple_of m p) (multiple_of n q) (multiple-is_point m p hp) (multiple-is_point n q hq)) h.same e;
}

pub sum-first : (p q s : Point) (m : ℕ) → IsPoint p → IsPoint q → IsMultiple p s m → IsSum p q s m 0
unfolding multiple_of
sum-first p q s m hp hq h =
    let hm = multiple-is_point m p hp in
    let sum = sum-is_point (multiple_of m p) neutral hm neutral-is_point in
    record { point = h.point; same = same_trans sum (same_sym hm sum (sum-neutral (multiple_of m p) hm)) h.same }

pub sum-second : (p q s : Point) (n : ℕ) → IsPoint p → IsPoint q → IsMultiple q s n → IsSum p q s 0 n
unfolding multiple_of
sum-second p q s n hp hq h =
    let hn = multiple-is_point n q hq in
    let sum = sum-is_point neutral (multiple_of n q) neutral-is_point hn in
    record { point = h.point; same = same_trans sum (same_sym hn sum (sum-neutral_first (multiple_of n q) hn)) h.same }

pub sum-plus : (p q s t : Point) (a b c d : ℕ) → IsPoint p → IsPoint q → IsSum p q s a b → IsSum p q t c d
    → IsSum p q (point_add s t) (a + c) (b + d)
sum-plus p q s t a b c d hp hq hs ht =
    let ha = multiple-is_point a p hp in
    let hb = multiple-is_point b q hq in
    let hc = multiple-is_point c p hp in
    let hd = multiple-is_point d q hq in
    let hac = multiple-is_point (a + c) p hp in
    let hbd = multiple-is_point (b + d) q hq in
    let ab = sum-is_point (multiple_of a p) (multiple_of b q) ha hb in
    let cd = sum-is_point (multiple_of c p) (multiple_of d q) hc hd in
    let ac = sum-is_point (multiple_of a p) (multiple_of c p) ha hc in
    let bd = sum-is_point (multiple_of b q) (multiple_of d q) hb hd in
    let split = sum-same (multiple_of (a + c) p) (point_add (multiple_of a p) (multiple_of c p))
    (multiple_of (b + d) q) (point_add (multiple_of b q) (multiple_of d q)) hac ac hbd bd (multiple-plus a c p hp) (multiple-plus b d q hq) in
    let swap = exchanged (multiple_of a p) (multiple_of c p) (multiple_of b q) (multiple_of d q) ha hc hb hd in
    record {
      point = sum-is_point s t hs.point ht.point;
      same = same_trans (sum-is_point (multiple_of (a + c) p) (multiple_of (b + d) q) hac hbd) split
          (same_trans (sum-is_point (point_add (multiple_of a p) (multiple_of c p)) (point_add (multiple_of b q) (multiple_of d q)) ac bd) swap
          (sum-same (point_add (multiple_of a p) (multiple_of b q)) s (point_add (multiple_of c p) (multiple_of d q)) t ab hs.point cd ht.point hs.same ht.same));
    }

pub sum-double : (p q s : Point) (m n : ℕ) → IsPoint p → IsPoint q → IsSum p q s m n → IsSum p q (point_double s) (2 * m) (2 * n)
sum-double p q s m n hp hq h =
    let first : m + m ≡ 2 * m = omega arith in
    let second : n + n ≡ 2 * n = omega arith in
    rw (double-same s h.point)
    (subst (λ l. IsSum p q (point_add s s) (2 * m) l) second
    (subst (λ k. IsSum p q (point_add s s) k (n + n)) first (sum-plus p q s s m n m n hp hq h h)))

-- where the second point is a multiple of the first
pub sum-one_point : (p q s : Point) (d m n : ℕ) → IsPoint p → IsMultiple p q d → IsSum p q s m n → IsMultiple p s (m + n * d)
sum-one_point p q s d m n hp hq h =
    let hm = multiple-is_point m p hp in
    let hn = multiple-is_point n q hq.point in
    let sum = multiple-add p (multiple_of m p) (multiple_of n q) m (n * d) hp (multiple-itself m p hp) (multiple-times p q n d hp hq) in
    multiple-of_same p (point_add (multiple_of m p) (multiple_of n q)) s (m + n * d) hp sum h.same

pub sum-add_by : (p q s : Point) (m n i j : ℕ) → IsPoint p → IsPoint q → IsSum p q s m n → i < 2 → j < 2
    → IsSum p q (point_add_by s p q i j) (m + i) (n + j)
unfolding point_add_by
sum-add_by p q s m n i j hp hq h hi hj =
    let one = multiple-one p hp in
    let other = multiple-one q hq in
    let at : (k l : ℕ) → i ≡ k → j ≡ l → IsSum p q (point_add_by s p q k l) (m + k) (n + l) → IsSum p q (point_add_by s p q i j) (m + i) (n + j) =
    λ k l e f made. subst (λ a. IsSum p q (point_add_by s p q a j) (m + a) (n + j)) (sym e)
    (subst (λ b. IsSum p q (point_add_by s p q k b) (m + k) (n + b)) (sym f) made) in
    elim (bit_cases i hi) [
      | inl i0 ↦ elim (bit_cases j hj) [
        | inl j0 ↦ at 0 0 i0 j0 (rw (add-zero m, add-zero n) h)
        | inr j1 ↦ at 0 1 i0 j1 (sum-plus p q s q m n 0 1 hp hq h (sum-second p q q 1 hp hq other))
      ]
      | inr i1 ↦ elim (bit_cases j hj) [
        | inl j0 ↦ at 1 0 i1 j0 (sum-plus p q s p m n 1 0 hp hq h (sum-first p q p 1 hp hq one))
        | inr j1 ↦ at 1 1 i1 j1 (sum-plus p q s (point_add p q) m n 1 1 hp hq h (sum-made p q p q 1 1 hp hq one other))
      ]
    ]

sum-none : (p q : Point) → IsPoint p → IsPoint q → IsSum p q neutral 0 0
sum-none p q hp hq = sum-first p q neutral 0 hp hq (multiple-neutral p)

-- double and add over two numbers
pub joint-sum : (p q : Point) (n k l : ℕ) → IsPoint p → IsPoint q → k < 2 ^ n → l < 2 ^ n → IsSum p q (joint_multiple p q n k l) k l
unfolding joint_multiple
joint-sum p q zero k l hp hq hk hl =
    let k0 : 0 ≡ k = omega (arith, pow-zero 2) in
    let l0 : 0 ≡ l = omega (arith, pow-zero 2) in
    subst (λ b. IsSum p q neutral k b) l0 (subst (λ a. IsSum p q neutral a 0) k0 (sum-none p q hp hq))
joint-sum p q (suc n) k l hp hq hk hl =
    let before = joint-sum p q n (k / 2) (l / 2) hp hq (omega (arith, pow-suc 2 n)) (omega (arith, pow-suc 2 n)) in
    let twice = sum-double p q (joint_multiple p q n (k / 2) (l / 2)) (k / 2) (l / 2) hp hq before in
    let whole_k : 2 * (k / 2) + k % 2 ≡ k = omega arith in
    let whole_l : 2 * (l / 2) + l % 2 ≡ l = omega arith in
    let s = point_add_by (point_double (joint_multiple p q n (k / 2) (l / 2))) p q (k % 2) (l % 2) in
    subst (λ b. IsSum p q s k b) whole_l (subst (λ a. IsSum p q s a (2 * (l / 2) + l % 2)) whole_k
    (sum-add_by p q (point_double (joint_multiple p q n (k / 2) (l / 2))) (2 * (k / 2)) (2 * (l / 2)) (k % 2) (l % 2) hp hq twice
    (mod-lt k (omega arith)) (mod-lt l (omega arith))))
