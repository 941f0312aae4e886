-- The signature (r, n - s) is valid where (r, s) is: the point that it names is the opposite, which has the same x.
use Rattle.std.proofs.Common.{◌≡◌, ◌≢◌, ℕ, ◌+◌, ◌-◌, ◌*◌, ◌/◌, ◌%◌, ◌^◌, ◌<◌, ◌≤◌, inl, inr, List, ◌++◌, length, take, drop, refl, sym, ◌∙◌, ap, ap₂, subst, arith, mod-eq_of_lt, suc-ne-zero, codes, length-append, div-add-mod', lit<}
use Rattle.std.proofs.Math.Nat.{add-mod, mul-mod_right, zero-mod}
use Rattle.std.proofs.lemmas.Nat.{mul-mod_second}
use Rattle.std.specs.Prelude.{Option, None, Some}
use Rattle.std.proofs.lemmas.Bool.{cases_lt}
use Rattle.std.proofs.lemmas.List.{drop_at, drop_all, length-take-le, take_at}
use Rattle.paseto_montgomery.specs.Octets.{i2osp, os2ip}
use Rattle.paseto_montgomery.specs.Residue.{times as times_modulo}
use Rattle.paseto_montgomery.proofs.OctetsLaws.{i2osp-below, length-i2osp, os2ip-i2osp, os2ip-none}
use Rattle.paseto_primes.proofs.CongruenceLaws.{other}
use Rattle.paseto_primes.proofs.OrderOfP384.{is-prime}
use Rattle.paseto_weierstrass_laws.specs.Curve.{order}
use Rattle.paseto_weierstrass_laws.specs.Field.{prime}
use Rattle.paseto_weierstrass_laws.specs.Group.{IsPoint, Same}
use Rattle.paseto_weierstrass_laws.specs.Line.{line_x, line_y}
use Rattle.paseto_weierstrass_laws.specs.Multiples.{IsMultiple, multiple_of}
use Rattle.paseto_weierstrass_laws.specs.Point.{Point, base, neutral, point_add}
use Rattle.paseto_weierstrass_laws.proofs.FieldLaws.{times_none}
use Rattle.paseto_weierstrass_laws.proofs.Lines.{line, line-is_plane, line-sum, opposite, slope}
use Rattle.paseto_weierstrass_laws.proofs.MultipleLaws.{multiple-is_point, multiple-itself, sum-made, sum-plus}
use Rattle.paseto_weierstrass_laws.proofs.OrderLaws.{divided-neutral, neutral-times}
use Rattle.paseto_weierstrass_laws.proofs.Plane.{plane_point}
use Rattle.paseto_weierstrass_laws.proofs.PointLaws.{at_infinity, base-is_point, in_plane, kind, neutral-is_point, plane-is_point, same_refl, same_sym, same_trans}
use Rattle.paseto_weierstrass_laws.proofs.SumLaws.{sum-is_point, sum-neutral, sum-same}
use Rattle.paseto_p384.specs.Ecdsa.{Accepts, IsFirst, named}
use Rattle.paseto_p384.specs.Encoding.{decoded}
use Rattle.paseto_p384.specs.P384.{AcceptsBy, IsRefused, P384Verifies, hash_number}
use Rattle.paseto_p384.specs.Scalar.{scalar_inverse, scalar_times}
use Rattle.paseto_p384.proofs.DecodingLaws.{decoded-is_point}
use Rattle.paseto_p384.proofs.EcdsaLaws.{accepts-of, accepts-parts, first-of, first-parts, first-same, named-is_point}
use Rattle.paseto_p384.proofs.SigningLaws.{order-inverse}
use Rattle.paseto_weierstrass_laws.proofs.PointOrders.{point-order}
use Rattle.rusty_paseto_primitives.proofs.ByteLists.{IsBytes-append, IsBytes-take}
use Rattle.rusty_paseto_core.specs.Framing.{IsHeader, framing}
use Rattle.rusty_paseto_core.specs.HeaderLaws.{IsHeader-known}
use Rattle.rusty_paseto_core.specs.Public.{header, message, public, v3_public}
use Rattle.rusty_paseto_core.specs.Public.Verifying.{verification}
use Rattle.rusty_paseto_core.specs.Reading.{IsFramed, IsRead}
use Rattle.rusty_paseto_core.proofs.Framed.{IsFramed-payload}
use Rattle.rusty_paseto_core.proofs.ReadingLaws.{IsRead-IsFramed}
use Rattle.rusty_paseto_core.proofs.Verified.{verification-lawful}
use Rattle.paseto_p384.specs.Twin.{HasATwin, TokensHaveATwin, twin}

-- ---- numbers

-- 1 / (n - s) is the opposite of 1 / s
inverses : (s w v : ℕ) → 0 < s → s < order → (s * w) % order ≡ 1 → ((order - s) * v) % order ≡ 1 → (w + v) % order ≡ 0
inverses s w v positive below one other_one =
    let t : ℕ = order - s in
    let parts : s * v + t * v ≡ order * v = spread s t v order (omega arith) in
    let none : (s * v + t * v) % order ≡ 0 = ap (λ n. n % order) parts ∙ multiple order v in
    let sum_is : (s * v % order + 1) % order ≡ 0 =
    ap (λ n. (s * v % order + n) % order) (sym other_one) ∙ sym (add-mod (s * v) (t * v) order) ∙ none in
    let whole : s * (w + v) ≡ s * w + s * v = omega arith in
    let product : (s * (w + v)) % order ≡ 0 =
    ap (λ n. n % order) whole ∙ add-mod (s * w) (s * v) order ∙ ap (λ n. (n + s * v % order) % order) one
    ∙ ap (λ n. n % order) (turned (s * v % order)) ∙ sum_is in
    let unit : s % order ≢ 0 = λ e. absurd (omega (arith, sym (mod-eq_of_lt below) ∙ e)) in
    other order s (w + v) is-prime unit product
  where
    spread : (s t v n : ℕ) → s + t ≡ n → s * v + t * v ≡ n * v
    spread s t v n e = let product = ap (λ k. k * v) e in omega (arith, product)

    multiple : (n v : ℕ) → (n * v) % n ≡ 0
    multiple n v = mul-mod_right n v

    turned : (a : ℕ) → 1 + a ≡ a + 1
    turned a = omega arith

-- what both are multiplied by
times-none : (n e w v : ℕ) → (w + v) % n ≡ 0 → ((e * w) % n + (e * v) % n) % n ≡ 0
times-none n e w v h =
    let whole : e * w + e * v ≡ e * (w + v) = omega arith in
    let unit : e * 0 ≡ 0 = omega arith in
    sym (add-mod (e * w) (e * v) n) ∙ ap (λ k. k % n) whole ∙ sym (mul-mod_second e (w + v) n)
    ∙ ap (λ k. (e * k) % n) h ∙ ap (λ k. k % n) unit ∙ zero-mod n

-- ---- points

finite-not_neutral : (p : Point) → IsPoint p → p.z ≢ 0 → Same neutral p → ⊥
finite-not_neutral p hp some s = some (s.z ∙ times_none s.ratio s.below)

-- a point whose sum with another is neutral has the x of that other, if that is not neutral
first-opposite : (p q : Point) (r : ℕ) → r < prime → IsPoint p → IsPoint q → Same (point_add p q) neutral → IsFirst p r → IsFirst q r
first-opposite p q r low hp hq none f =
    let some = (first-parts p r f).0 in
    elim (kind p hp) [
      | at_infinity s ↦ absurd (finite-not_neutral p hp some s)
      | in_plane x y h s ↦
          let a = plane_point x y in
          let ha = plane-is_point x y h in
          elim (kind q hq) [
            | at_infinity t ↦
                let sum = sum-is_point p q hp hq in
                let alone : Same (point_add p neutral) (point_add p q) =
                sum-same p p neutral q hp hp neutral-is_point hq (same_refl p hp) t in
                let gone : Same p neutral = same_trans hp (sum-neutral p hp) (same_trans (sum-is_point p neutral hp neutral-is_point) alone none) in
                absurd (finite-not_neutral p hp some (same_sym hp neutral-is_point gone))
            | in_plane v w k t ↦
                let b = plane_point v w in
                let hb = plane-is_point v w k in
                elim (line x y v w h k) [
                  | opposite e g ↦
                      let fa : IsFirst a r = (first-same a p r low ha s).1 f in
                      let parts = first-parts a r fa in
                      let fb : IsFirst b r = first-of b r (
                        suc-ne-zero 0,
                        elim parts.1 [
                          | inl i ↦ inl (i ∙ e)
                          | inr i ↦ inr (i.0, i.1 ∙ e)
                        ],
                      ) in
                      (first-same b q r low hb t).0 fb
                  | slope l sl some_line ↦
                      let c = plane_point (line_x l x v) (line_y l x y v) in
                      let hc = plane-is_point (line_x l x v) (line_y l x y v) (line-is_plane x y v w l h k sl) in
                      let ab = sum-is_point a b ha hb in
                      let made : Same (point_add a b) neutral =
                      same_trans ab (sum-same a p b q ha hp hb hq s t) none in
                      let gone : Same neutral c = same_trans neutral-is_point (same_sym ab neutral-is_point made) (line-sum x y v w l h k sl) in
                      absurd (finite-not_neutral c hc (suc-ne-zero 0) gone)
                ]
          ]
    ]

-- the sum of the points that both name is neutral
named-none : (q : Point) (e r s : ℕ) → IsPoint q → 0 < s → s < order → Same (point_add (named q e r s) (named q e r (order - s))) neutral
unfolding named scalar_times times_modulo
named-none q e r s hq positive below =
    let t : ℕ = order - s in
    let w = scalar_inverse s in
    let v = scalar_inverse t in
    let low_t : t < order = omega arith in
    let some_s : s % order ≢ 0 = λ z. absurd (omega (arith, sym (mod-eq_of_lt below) ∙ z)) in
    let some_t : t % order ≢ 0 = λ z. absurd (omega (arith, sym (mod-eq_of_lt low_t) ∙ z)) in
    let both = inverses s w v positive below (order-inverse s some_s) (order-inverse t some_t) in
    let u1 : ℕ = (e % order * w) % order in
    let u2 : ℕ = (r * w) % order in
    let t1 : ℕ = (e % order * v) % order in
    let t2 : ℕ = (r * v) % order in
    let none_1 : (u1 + t1) % order ≡ 0 = times-none order (e % order) w v both in
    let none_2 : (u2 + t2) % order ≡ 0 = times-none order r w v both in
    let one = sum-made base q (multiple_of u1 base) (multiple_of u2 q) u1 u2 base-is_point hq (multiple-itself u1 base base-is_point) (multiple-itself u2 q hq) in
    let two = sum-made base q (multiple_of t1 base) (multiple_of t2 q) t1 t2 base-is_point hq (multiple-itself t1 base base-is_point) (multiple-itself t2 q hq) in
    let both_is = sum-plus base q _ _ u1 u2 t1 t2 base-is_point hq one two in
    let gone_1 = divided-neutral (u1 + t1) none_1 in
    let gone_2 = divided q hq (u2 + t2) none_2 in
    let h1 = multiple-is_point (u1 + t1) base base-is_point in
    let h2 = multiple-is_point (u2 + t2) q hq in
    let sum = sum-is_point (multiple_of (u1 + t1) base) (multiple_of (u2 + t2) q) h1 h2 in
    let empty : Same (point_add (multiple_of (u1 + t1) base) (multiple_of (u2 + t2) q)) (point_add neutral neutral) =
    sum-same _ neutral _ neutral h1 neutral-is_point h2 neutral-is_point gone_1.same gone_2.same in
    let nn = sum-is_point neutral neutral neutral-is_point neutral-is_point in
    same_trans both_is.point (same_sym sum both_is.point both_is.same)
    (same_trans sum empty (same_sym neutral-is_point nn (sum-neutral neutral neutral-is_point)))
  where
    divided : (q : Point) → IsPoint q → (k : ℕ) → k % order ≡ 0 → IsMultiple q neutral k
    divided q hq k e =
        let times : k / order * order ≡ k = omega (arith, div-add-mod' k order, e) in
        subst (λ n. IsMultiple q neutral n) times (neutral-times q (k / order) order hq (point-order q hq))

order-below : order < prime
order-below = lit< tt

twin-accepts : (q : Point) (e r s : ℕ) → IsPoint q → Accepts q e r s → Accepts q e r (order - s)
twin-accepts q e r s hq a =
    let parts = accepts-parts q e r s a in
    let t : ℕ = order - s in
    let first = first-opposite (named q e r s) (named q e r t) r (omega (arith, parts.0.1, order-below))
    (named-is_point q e r s hq) (named-is_point q e r t hq) (named-none q e r s hq parts.1.0 parts.1.1) parts.2 in
    accepts-of q e r t (parts.0, (omega (arith, parts.1.1), omega (arith, parts.1.0)), first)

-- ---- octets

-- what a valid signature has behind r
behind : (signature : List ℕ) → 0 < os2ip (drop 48 signature) → 48 ≤ length signature
behind signature h = elim (cases_lt (length signature) 48) [
  | inl short ↦
      let none : os2ip (drop 48 signature) ≡ 0 = ap os2ip (drop_all 48 signature (omega arith)) ∙ os2ip-none in
      absurd (omega (arith, h, none))
  | inr long ↦ long
]

twin-first : (signature : List ℕ) → 48 ≤ length signature → take 48 (twin signature) ≡ take 48 signature
twin-first signature long = take_at (take 48 signature) _ 48 (length-take-le 48 signature long)

twin-second : (signature : List ℕ) → 48 ≤ length signature → 0 < os2ip (drop 48 signature)
    → os2ip (drop 48 (twin signature)) ≡ order - os2ip (drop 48 signature)
twin-second signature long positive =
    let t : ℕ = order - os2ip (drop 48 signature) in
    let small : t < 256 ^ 48 = omega arith in
    ap os2ip (drop_at (take 48 signature) (i2osp t 48) 48 (length-take-le 48 signature long)) ∙ os2ip-i2osp t 48 ∙ mod-eq_of_lt small

twin-by : (o : Option Point) (octets : List ℕ) (e r s : ℕ) → decoded octets ≡ o → AcceptsBy o e r s → AcceptsBy o e r (order - s)
twin-by None octets e r s is a = a
twin-by (Some q) octets e r s is a = twin-accepts q e r s (decoded-is_point octets q is) a

positive-by : (o : Option Point) (e r s : ℕ) → AcceptsBy o e r s → (0 < s) × (s < order)
positive-by None e r s a = absurd a
positive-by (Some q) e r s a = (accepts-parts q e r s a).1

pub has_a_twin : HasATwin
unfolding P384Verifies
has_a_twin public message signature h =
    let e = hash_number message in
    let r : ℕ = os2ip (take 48 signature) in
    let s : ℕ = os2ip (drop 48 signature) in
    let range = positive-by (decoded public) e r s h.1 in
    let long = behind signature range.0 in
    let first : os2ip (take 48 (twin signature)) ≡ r = ap os2ip (twin-first signature long) in
    let second = twin-second signature long range.0 in
    let valid = twin-by (decoded public) public e r s refl h.1 in (
      (
        h.0,
        subst (λ (n : ℕ). AcceptsBy (decoded public) e (os2ip (take 48 (twin signature))) n) (sym second)
            (subst (λ (n : ℕ). AcceptsBy (decoded public) e n (order - s)) (sym first) valid),
      ),
      λ same.
          let halves : order - s ≡ s = sym second ∙ ap (λ (l : List ℕ). os2ip (drop 48 l)) same in
          let odd : order % 2 ≡ 1 = refl in
          absurd (omega (arith, halves, odd, range.0, range.1)),
    )

-- ---- tokens

length-twin : (signature : List ℕ) → length signature ≡ 96 → length (twin signature) ≡ 96
length-twin signature size =
    let t : ℕ = order - os2ip (drop 48 signature) in
    length-append (take 48 signature) (i2osp t 48)
    ∙ ap₂ (λ (a b : ℕ). a + b) (length-take-le 48 signature (omega (arith, size))) (length-i2osp t 48)

pub tokens_have_a_twin : TokensHaveATwin
tokens_have_a_twin binding token text footer_bytes read =
    let reading = verification P384Verifies IsRefused v3_public binding in
    let is_header : IsHeader (codes "v3") public (header v3_public) = IsHeader-known (codes "v3") public refl refl in
    let lawful = verification-lawful P384Verifies IsRefused v3_public binding is_header footer_bytes in
    let own = read.carried.carries in
    let both = has_a_twin binding.key (message v3_public binding text) own.signature own.is_valid in
    let payload : List ℕ = text ++ twin own.signature in
    let other : List ℕ = framing (header v3_public) payload read.written binding.footer in
    let twin_read : IsRead reading other text = record {
      payload = payload;
      carried = record {
        utf8 = read.carried.utf8;
        bytes = read.carried.bytes;
        carries = record {
          signature = twin own.signature;
          size = length-twin own.signature own.size;
          bytes = IsBytes-append (take 48 own.signature) _ (IsBytes-take 48 own.signature own.bytes) (i2osp-below _ 48);
          is_valid = both.0;
          is_signed = refl;
        };
      };
      written = read.written;
      form = read.form;
      is_framing = refl;
    } in (
      other,
      λ same.
          let as_token : IsRead reading token text = subst (λ (t : List ℕ). IsRead reading t text) same twin_read in
          let framed = subst (λ (t : List ℕ). IsFramed v3_public.version public binding.footer t payload) same (IsRead-IsFramed reading lawful other text twin_read) in
          let payloads : payload ≡ read.payload =
          IsFramed-payload v3_public.version public binding.footer token payload read.payload framed (IsRead-IsFramed reading lawful token text read) in
          let signatures : twin own.signature ≡ own.signature =
          sym (drop_at text (twin own.signature) (length text) refl) ∙ ap (drop (length text)) (payloads ∙ own.is_signed)
          ∙ drop_at text own.signature (length text) refl in
          both.1 signatures,
      twin_read,
    )
