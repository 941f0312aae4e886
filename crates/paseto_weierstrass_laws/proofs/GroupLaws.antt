-- Three points may be added from either end.
use Rattle.std.proofs.Common.{◌≡◌, ◌≢◌, ◌⊎◌, ℕ, inl, inr, sym, ◌∙◌, ap, subst}
use Rattle.paseto_weierstrass_laws.specs.Field.{minus, plus}
use Rattle.paseto_weierstrass_laws.specs.Group.{IsPoint, Same}
use Rattle.paseto_weierstrass_laws.specs.Line.{line_x, line_y}
use Rattle.paseto_weierstrass_laws.specs.Point.{Point, neutral, point_add}
use Rattle.paseto_weierstrass_laws.proofs.Associativity.{Three, both-sums, mirrored, on_line, right-slope, same-slopes}
use Rattle.paseto_weierstrass_laws.proofs.FieldLaws.{zero_or_not}
use Rattle.paseto_weierstrass_laws.proofs.Lines.{IsSlope, line, line-is_plane, line-sum, opposite, opposite-sum, opposite-twice, plus-swapped, same_plane, slope, swapped}
use Rattle.paseto_weierstrass_laws.proofs.Plane.{IsPlane, plane_point}
use Rattle.paseto_weierstrass_laws.proofs.PointLaws.{at_infinity, in_plane, kind, neutral-is_point, plane-is_point, same_refl, same_sym, same_trans}
use Rattle.paseto_weierstrass_laws.proofs.SumLaws.{sum-is_point, sum-neutral, sum-neutral_first, sum-same, sum-same_first, sum_comm}

abbrev pub Associates : Point → Point → Point → Type 0
Associates p q r = Same (point_add (point_add p q) r) (point_add p (point_add q r))

-- from the other end
turned : (p q r : Point) → IsPoint p → IsPoint q → IsPoint r → Associates r q p → Associates p q r
turned p q r hp hq hr e =
    let pq = sum-is_point p q hp hq in
    let qr = sum-is_point q r hq hr in
    let rq = sum-is_point r q hr hq in
    let qp = sum-is_point q p hq hp in
    rw (sum_comm (point_add p q) r pq hr, sum_comm p (point_add q r) hp qr, sum_comm p q hp hq, sum_comm q r hq hr)
    (same_sym (sum-is_point (point_add r q) p rq hp) (sum-is_point r (point_add q p) hr qp) e)

-- from points to the same points
transfer : (p p' q q' r r' : Point) → IsPoint p → IsPoint p' → IsPoint q → IsPoint q' → IsPoint r → IsPoint r'
    → Same p p' → Same q q' → Same r r' → Associates p q r → Associates p' q' r'
transfer p p' q q' r r' hp hp' hq hq' hr hr' s t u e =
    let pq = sum-is_point p q hp hq in
    let pq' = sum-is_point p' q' hp' hq' in
    let qr = sum-is_point q r hq hr in
    let qr' = sum-is_point q' r' hq' hr' in
    let left = sum-same (point_add p q) (point_add p' q') r r' pq pq' hr hr' (sum-same p p' q q' hp hp' hq hq' s t) u in
    let right = sum-same p p' (point_add q r) (point_add q' r') hp hp' qr qr' s (sum-same q q' r r' hq hq' hr hr' t u) in
    let hleft = sum-is_point (point_add p q) r pq hr in
    let hleft' = sum-is_point (point_add p' q') r' pq' hr' in
    same_trans hleft' (same_sym hleft hleft' left) (same_trans hleft e right)

neutral-first : (q r : Point) → IsPoint q → IsPoint r → Associates neutral q r
neutral-first q r hq hr =
    let qr = sum-is_point q r hq hr in
    let nq = sum-is_point neutral q neutral-is_point hq in
    let left = sum-same_first q (point_add neutral q) r hq hr (sum-neutral_first q hq) in
    same_trans (sum-is_point (point_add neutral q) r nq hr) (same_sym qr (sum-is_point (point_add neutral q) r nq hr) left)
    (sum-neutral_first (point_add q r) qr)

neutral-second : (p r : Point) → IsPoint p → IsPoint r → Associates p neutral r
neutral-second p r hp hr =
    let pr = sum-is_point p r hp hr in
    let pn = sum-is_point p neutral hp neutral-is_point in
    let nr = sum-is_point neutral r neutral-is_point hr in
    let left = sum-same_first p (point_add p neutral) r hp hr (sum-neutral p hp) in
    let right = sum-same p p r (point_add neutral r) hp hp hr nr (same_refl p hp) (sum-neutral_first r hr) in
    let hleft = sum-is_point (point_add p neutral) r pn hr in
    same_trans hleft (same_sym pr hleft left) right

-- both ways give this point
by-both : (p q r s : Point) → IsPoint p → IsPoint q → IsPoint r → IsPoint s → Same (point_add (point_add p q) r) s
    → Same (point_add p (point_add q r)) s → Associates p q r
by-both p q r s hp hq hr hs left right =
    let hleft = sum-is_point (point_add p q) r (sum-is_point p q hp hq) hr in
    let hright = sum-is_point p (point_add q r) hp (sum-is_point q r hq hr) in
    same_trans hleft left (same_sym hright hs right)

-- the sum of the first two, or of the last two, is this point, and so is the sum of all what the third makes of it
sum-left : (p q r s t : Point) → IsPoint p → IsPoint q → IsPoint r → Same (point_add p q) s → Same (point_add s r) t
    → Same (point_add (point_add p q) r) t
sum-left p q r s t hp hq hr e f =
    let pq = sum-is_point p q hp hq in
    same_trans (sum-is_point (point_add p q) r pq hr) (sum-same_first (point_add p q) s r pq hr e) f

sum-right : (p q r s t : Point) → IsPoint p → IsPoint q → IsPoint r → IsPoint s → Same (point_add q r) s → Same (point_add p s) t
    → Same (point_add p (point_add q r)) t
sum-right p q r s t hp hq hr hs e f =
    let qr = sum-is_point q r hq hr in
    same_trans (sum-is_point p (point_add q r) hp qr) (sum-same p p (point_add q r) s hp hp qr hs (same_refl p hp) e) f

-- ---- points of the plane

-- where the first two are opposites, both ways give the third
opposites-first : (x1 y1 x2 y2 x3 y3 : ℕ) → IsPlane x1 y1 → IsPlane x2 y2 → IsPlane x3 y3 → x1 ≡ x2 → plus y1 y2 ≡ 0
    → Associates (plane_point x1 y1) (plane_point x2 y2) (plane_point x3 y3)
opposites-first x1 y1 x2 y2 x3 y3 h1 h2 h3 e f =
    let p = plane_point x1 y1 in
    let q = plane_point x2 y2 in
    let r = plane_point x3 y3 in
    let hp = plane-is_point x1 y1 h1 in
    let hq = plane-is_point x2 y2 h2 in
    let hr = plane-is_point x3 y3 h3 in
    let none : Same (point_add neutral r) r =
    same_sym hr (sum-is_point neutral r neutral-is_point hr) (sum-neutral_first r hr) in
    by-both p q r r hp hq hr hr
    (sum-left p q r neutral r hp hq hr (opposite-sum x1 y1 x2 y2 h1 h2 e f) none)
    (elim (line x2 y2 x3 y3 h2 h3) [
      | opposite g i ↦
          let same : p ≡ r = same_plane x1 y1 x3 y3 (e ∙ g) (opposite-twice y1 y2 y3 h1.y_below h2.y_below h3.y_below f i) in
          let back : Same (point_add p neutral) p = same_sym hp (sum-is_point p neutral hp neutral-is_point) (sum-neutral p hp) in
          sum-right p q r neutral r hp hq hr neutral-is_point (opposite-sum x2 y2 x3 y3 h2 h3 g i) (subst (Same (point_add p neutral)) same back)
      | slope l s some ↦
          let tx = line_x l x2 x3 in
          let ty = line_y l x2 y2 x3 in
          let ht = line-is_plane x2 y2 x3 y3 l h2 h3 s in
          let m = mirrored x1 y1 x2 y2 x3 y3 l (h1.y_below, (h1.x_below, (h2.y_below, (h2.x_below, (h3.y_below, (h3.x_below, (s.below, tt))))))) s e f in
          sum-right p q r (plane_point tx ty) r hp hq hr (plane-is_point tx ty ht) (line-sum x2 y2 x3 y3 l h2 h3 s)
          (subst (Same (point_add p (plane_point tx ty)))
          (same_plane (line_x (minus 0 l) x1 tx) (line_y (minus 0 l) x1 y1 tx) x3 y3 m.x m.y)
          (line-sum x1 y1 tx ty (minus 0 l) h1 ht m.slope))
    ])

-- where the sum of the first two is the opposite of the third, both ways give the neutral point
opposites-last : (x1 y1 x2 y2 x3 y3 k : ℕ) → IsPlane x1 y1 → IsPlane x2 y2 → IsPlane x3 y3 → IsSlope x1 y1 x2 y2 k
    → line_x k x1 x2 ≡ x3 → plus (line_y k x1 y1 x2) y3 ≡ 0
    → Associates (plane_point x1 y1) (plane_point x2 y2) (plane_point x3 y3)
opposites-last x1 y1 x2 y2 x3 y3 k h1 h2 h3 s e f =
    let hp = plane-is_point x1 y1 h1 in
    let hq = plane-is_point x2 y2 h2 in
    let hr = plane-is_point x3 y3 h3 in
    let sx = line_x k x1 x2 in
    let sy = line_y k x1 y1 x2 in
    let hs = line-is_plane x1 y1 x2 y2 k h1 h2 s in
    let o = on_line x1 y1 x2 y2 x3 y3 k (h1.y_below, (h1.x_below, (h2.y_below, (h2.x_below, (h3.y_below, (h3.x_below, (s.below, tt))))))) s e f in
    let tx = line_x k x2 x3 in
    let ty = line_y k x2 y2 x3 in
    let ht = line-is_plane x2 y2 x3 y3 k h2 h3 o.slope in
    by-both (plane_point x1 y1) (plane_point x2 y2) (plane_point x3 y3) neutral hp hq hr neutral-is_point
    (sum-left (plane_point x1 y1) (plane_point x2 y2) (plane_point x3 y3) (plane_point sx sy) neutral hp hq hr
    (line-sum x1 y1 x2 y2 k h1 h2 s) (opposite-sum sx sy x3 y3 hs h3 e f))
    (sum-right (plane_point x1 y1) (plane_point x2 y2) (plane_point x3 y3) (plane_point tx ty) neutral hp hq hr (plane-is_point tx ty ht)
    (line-sum x2 y2 x3 y3 k h2 h3 o.slope) (opposite-sum x1 y1 tx ty h1 ht o.x o.y))

-- where the first is the third
associates-around : (p q : Point) → IsPoint p → IsPoint q → Associates p q p
associates-around p q hp hq =
    let pq = sum-is_point p q hp hq in
    let same : point_add (point_add p q) p ≡ point_add p (point_add q p) =
    sum_comm (point_add p q) p pq hp ∙ ap (point_add p) (sum_comm p q hp hq) in
    subst (Same (point_add (point_add p q) p)) same (same_refl (point_add (point_add p q) p) (sum-is_point (point_add p q) p pq hp))

-- where each sum is by a line
lines-associate : (x1 y1 x2 y2 x3 y3 k l n r : ℕ) → IsPlane x1 y1 → IsPlane x2 y2 → IsPlane x3 y3
    → IsSlope x1 y1 x2 y2 k → IsSlope x2 y2 x3 y3 l
    → (let sx = line_x k x1 x2 in let sy = line_y k x1 y1 x2 in let tx = line_x l x2 x3 in let ty = line_y l x2 y2 x3 in
    IsSlope sx sy x3 y3 n → (minus x3 sx ≢ 0) ⊎ (plus sy y3 ≢ 0) → IsSlope x1 y1 tx ty r → (minus tx x1 ≢ 0) ⊎ (plus y1 ty ≢ 0)
    → Associates (plane_point x1 y1) (plane_point x2 y2) (plane_point x3 y3))
lines-associate x1 y1 x2 y2 x3 y3 k l n r h1 h2 h3 s t u some_u v some_v =
    let hp = plane-is_point x1 y1 h1 in
    let hq = plane-is_point x2 y2 h2 in
    let hr = plane-is_point x3 y3 h3 in
    let sx = line_x k x1 x2 in
    let sy = line_y k x1 y1 x2 in
    let tx = line_x l x2 x3 in
    let ty = line_y l x2 y2 x3 in
    let hs = line-is_plane x1 y1 x2 y2 k h1 h2 s in
    let ht = line-is_plane x2 y2 x3 y3 l h2 h3 t in
    let three : Three x1 y1 x2 y2 x3 y3 k l = record {
      y1_below = h1.y_below;
      x1_below = h1.x_below;
      y2_below = h2.y_below;
      x2_below = h2.x_below;
      y3_below = h3.y_below;
      x3_below = h3.x_below;
      first = s;
      second = t;
    } in
    elim (zero_or_not (minus l k)) [
      | inl none ↦
          let equal = same-slopes x1 y1 x2 y2 x3 y3 k l r three v.below (right-slope x1 y1 x2 y2 x3 y3 k l r three v some_v) none in
          subst (Associates (plane_point x1 y1) (plane_point x2 y2)) (same_plane x1 y1 x3 y3 (sym equal.x) (sym equal.y))
          (associates-around (plane_point x1 y1) (plane_point x2 y2) hp hq)
      | inr apart ↦
          let same = both-sums x1 y1 x2 y2 x3 y3 k l n r three u some_u v some_v apart in
          let rx = line_x r x1 tx in
          let ry = line_y r x1 y1 tx in
          let hsum = line-is_plane x1 y1 tx ty r h1 ht v in
          by-both (plane_point x1 y1) (plane_point x2 y2) (plane_point x3 y3) (plane_point rx ry) hp hq hr (plane-is_point rx ry hsum)
          (sum-left (plane_point x1 y1) (plane_point x2 y2) (plane_point x3 y3) (plane_point sx sy) (plane_point rx ry) hp hq hr
          (line-sum x1 y1 x2 y2 k h1 h2 s)
          (subst (Same (point_add (plane_point sx sy) (plane_point x3 y3)))
          (same_plane (line_x n sx x3) (line_y n sx sy x3) rx ry same.x same.y) (line-sum sx sy x3 y3 n hs h3 u)))
          (sum-right (plane_point x1 y1) (plane_point x2 y2) (plane_point x3 y3) (plane_point tx ty) (plane_point rx ry) hp hq hr
          (plane-is_point tx ty ht) (line-sum x2 y2 x3 y3 l h2 h3 t) (line-sum x1 y1 tx ty r h1 ht v))
    ]

plane-associates : (x1 y1 x2 y2 x3 y3 : ℕ) → IsPlane x1 y1 → IsPlane x2 y2 → IsPlane x3 y3
    → Associates (plane_point x1 y1) (plane_point x2 y2) (plane_point x3 y3)
plane-associates x1 y1 x2 y2 x3 y3 h1 h2 h3 =
    let hp = plane-is_point x1 y1 h1 in
    let hq = plane-is_point x2 y2 h2 in
    let hr = plane-is_point x3 y3 h3 in
    elim (line x1 y1 x2 y2 h1 h2) [
      | opposite e f ↦ opposites-first x1 y1 x2 y2 x3 y3 h1 h2 h3 e f
      | slope k s some_s ↦ elim (line x2 y2 x3 y3 h2 h3) [
        | opposite e f ↦
            turned (plane_point x1 y1) (plane_point x2 y2) (plane_point x3 y3) hp hq hr
            (opposites-first x3 y3 x2 y2 x1 y1 h3 h2 h1 (sym e) (plus-swapped y2 y3 h2.y_below h3.y_below f))
        | slope l t some_t ↦
            let sx = line_x k x1 x2 in
            let sy = line_y k x1 y1 x2 in
            let tx = line_x l x2 x3 in
            let ty = line_y l x2 y2 x3 in
            let hs = line-is_plane x1 y1 x2 y2 k h1 h2 s in
            let ht = line-is_plane x2 y2 x3 y3 l h2 h3 t in
            elim (line sx sy x3 y3 hs h3) [
              | opposite e f ↦ opposites-last x1 y1 x2 y2 x3 y3 k h1 h2 h3 s e f
              | slope n u some_u ↦ elim (line x1 y1 tx ty h1 ht) [
                | opposite e f ↦
                    let back = swapped x2 y2 x3 y3 l h2 h3 t in
                    turned (plane_point x1 y1) (plane_point x2 y2) (plane_point x3 y3) hp hq hr
                    (opposites-last x3 y3 x2 y2 x1 y1 l h3 h2 h1 back.slope (back.same_x ∙ sym e)
                    (ap (λ w. plus w y1) back.same_y ∙ plus-swapped y1 ty h1.y_below ht.y_below f))
                | slope r v some_v ↦ lines-associate x1 y1 x2 y2 x3 y3 k l n r h1 h2 h3 s t u some_u v some_v
              ]
            ]
      ]
    ]

-- ---- all points

pub sum-associates : (p q r : Point) → IsPoint p → IsPoint q → IsPoint r → Associates p q r
sum-associates p q r hp hq hr = elim (kind p hp) [
  | at_infinity s ↦
      transfer neutral p q q r r neutral-is_point hp hq hq hr hr s (same_refl q hq) (same_refl r hr) (neutral-first q r hq hr)
  | in_plane x1 y1 h1 s ↦ elim (kind q hq) [
    | at_infinity t ↦
        transfer p p neutral q r r hp hp neutral-is_point hq hr hr (same_refl p hp) t (same_refl r hr) (neutral-second p r hp hr)
    | in_plane x2 y2 h2 t ↦ elim (kind r hr) [
      | at_infinity u ↦
          transfer p p q q neutral r hp hp hq hq neutral-is_point hr (same_refl p hp) (same_refl q hq) u
          (turned p q neutral hp hq neutral-is_point (neutral-first q p hq hp))
      | in_plane x3 y3 h3 u ↦
          transfer (plane_point x1 y1) p (plane_point x2 y2) q (plane_point x3 y3) r (plane-is_point x1 y1 h1) hp (plane-is_point x2 y2 h2) hq
          (plane-is_point x3 y3 h3) hr s t u (plane-associates x1 y1 x2 y2 x3 y3 h1 h2 h3)
    ]
  ]
]
