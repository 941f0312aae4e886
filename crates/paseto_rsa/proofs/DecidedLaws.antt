-- Whether octets are a public key.
use Rattle.std.proofs.Common.{◌≡◌, ℕ, ◌*◌, ◌%◌, ◌^◌, ◌<◌, ◌≤◌, inl, inr, suc, true, List, [], ◌∷◌, ◌++◌, drop, length, length-append, refl, sym, ◌∙◌, ap, subst, mod-eq_of_lt, take, arith}
use Rattle.std.specs.Prelude.{Decides, slice_index}
use Rattle.std.specs.Cmp.{unsigned_Decides}
use Rattle.std.specs.Cmp.Lexicographic.{bytes_decides}
use Rattle.std.proofs.Math.Nat.{mul-le-mul_left}
use Rattle.std.proofs.lemmas.Bool.{and_from, and_parts, cases_lt, le-leb, leb-true}
use Rattle.std.proofs.lemmas.List.{append-nil, length-drop, length-take-le, take_at}
use Rattle.rusty_paseto_primitives.specs.Bytes.{IsBytes}
use Rattle.rusty_paseto_primitives.proofs.ByteLists.{IsBytes-drop, IsBytes-take}
use Rattle.paseto_der.specs.Element.{element}
use Rattle.paseto_montgomery.specs.Octets.{i2osp, os2ip}
use Rattle.paseto_montgomery.proofs.OctetsLaws.{i2osp-below, length-i2osp, os2ip-below, os2ip-cons, os2ip-i2osp}
use Rattle.paseto_rsa.specs.Forms.{IsPublic, is_public, modulus_in, rsa_public_key}
use Rattle.paseto_rsa.specs.Integers.{IsInteger, IsShortest}
use Rattle.paseto_rsa.proofs.IntegerLaws.{integers-cons, integers-none}
use Rattle.paseto_rsa.proofs.PublicLaws.{both-is, contents-bytes, public-octets, public_octets}

-- ---- the modulus in the octets

modulus-below : (key : List ℕ) → IsBytes key → length key ≡ 270 → modulus_in key < 2 ^ 2048
modulus-below key bytes size =
    let octets : List ℕ = take 256 (drop 9 key) in
    let long : length octets ≡ 256 = length-take-le 256 (drop 9 key) (omega (arith, length-drop 9 key, size)) in
    let below = os2ip-below octets (IsBytes-take 256 (drop 9 key) (IsBytes-drop 9 key bytes)) in
    let power : 256 ^ length octets ≡ 2 ^ 2048 = ap (λ k. 256 ^ k) long in
    omega (arith, below, power)

octets-number : (n : ℕ) → n < 2 ^ 2048 → os2ip (i2osp n 256) ≡ n
octets-number n below =
    let power : 2 ^ 2048 ≡ 256 ^ 256 = refl in
    os2ip-i2osp n 256 ∙ mod-eq_of_lt (omega (arith, below, power))

modulus-written : (n : ℕ) → n < 2 ^ 2048 → modulus_in (public_octets n) ≡ n
modulus-written n below =
    ap os2ip (take_at (i2osp n 256) (0x02 ∷ 0x03 ∷ 0x01 ∷ 0x00 ∷ 0x01 ∷ []) 256 (length-i2osp n 256)) ∙ octets-number n below

-- ---- its INTEGER

-- the first octet of a number of 2048 bits has its first bit
high-first : (octets : List ℕ) → length octets ≡ 256 → IsBytes octets → 2 ^ 2047 ≤ os2ip octets → 128 ≤ slice_index octets 0
high-first [] size bytes full = absurd (omega (arith, size))
high-first (x ∷ xs) size bytes full = elim (cases_lt x 128) [
  | inl low ↦
      (let below = os2ip-below xs (λ k. bytes (suc k)) in
      let product : 256 ^ length xs * x ≤ 256 ^ length xs * 127 = mul-le-mul_left (256 ^ length xs) (omega (arith, low)) in
      let rest : length xs ≡ 255 = omega (arith, size) in
      let power : 256 ^ length xs ≡ 256 ^ 255 = ap (λ k. 256 ^ k) rest in
      let half : 128 * 256 ^ 255 ≡ 2 ^ 2047 = refl in
      absurd (omega (arith, below, product, power, half, full, os2ip-cons x xs)))
  | inr high ↦ high
]

modulus-integer : (n : ℕ) (rest octets : List ℕ) → 2 ^ 2047 ≤ n → n < 2 ^ 2048 → octets ≡ element 0x02 (0 ∷ i2osp n 256) ++ rest → IsInteger n rest octets
modulus-integer n rest octets full below written =
    let number = octets-number n below in
    let shortest : IsShortest (0 ∷ i2osp n 256) = record {
      some = omega arith;
      positive = omega arith;
      least = λ long first. high-first (i2osp n 256) (length-i2osp n 256) (i2osp-below n 256) (omega (arith, full, number));
    } in
    record {
      contents = 0 ∷ i2osp n 256;
      shortest = shortest;
      value = omega (arith, os2ip-cons 0 (i2osp n 256), number);
      written = written;
    }

exponent-integer : IsInteger 65537 [] (element 0x02 (1 ∷ 0 ∷ 1 ∷ []))
unfolding os2ip
exponent-integer = record {
  contents = 1 ∷ 0 ∷ 1 ∷ [];
  shortest = record { some = omega arith; positive = omega arith; least = λ long first. absurd (omega (arith, first)) };
  value = refl;
  written = sym (append-nil (element 0x02 (1 ∷ 0 ∷ 1 ∷ [])));
}

-- ---- the key

public-decided : (key : List ℕ) → IsBytes key → IsPublic key → is_public key ≡ true
unfolding is_public
public-decided key bytes p =
    let contents : List ℕ = p.read.contents in
    let inner = contents-bytes 0x30 contents (subst IsBytes p.read.written bytes) in
    let is : key ≡ public_octets p.n = public-octets p.n p.e contents key p.in_range p.read p.read.written inner in
    let same : modulus_in key ≡ p.n = ap modulus_in is ∙ modulus-written p.n p.in_range.below in
    let text : key ≡ rsa_public_key (modulus_in key) = is ∙ sym (both-is p.n _ refl) ∙ ap rsa_public_key (sym same) in
    let full : 2 ^ 2047 ≤ modulus_in key = subst (λ (k : ℕ). 2 ^ 2047 ≤ k) (sym same) p.in_range.full in
    let odd : modulus_in key % 2 ≡ 1 = ap (λ k. k % 2) same ∙ p.in_range.odd in
    and_from _ _ ((bytes_decides key (rsa_public_key (modulus_in key))).1 text)
    (and_from _ _ (le-leb (2 ^ 2047) (modulus_in key) full) ((unsigned_Decides (modulus_in key % 2) 1).1 odd))

decided-public : (key : List ℕ) → IsBytes key → is_public key ≡ true → IsPublic key
unfolding is_public
decided-public key bytes h =
    let n : ℕ = modulus_in key in
    let parts = and_parts _ _ h in
    let more = and_parts _ _ parts.1 in
    let is : key ≡ rsa_public_key n = (bytes_decides key (rsa_public_key n)).0 parts.0 in
    let front : List ℕ = 0x30 ∷ 0x82 ∷ 0x01 ∷ 0x0a ∷ 0x02 ∷ 0x82 ∷ 0x01 ∷ 0x01 ∷ 0x00 ∷ [] in
    let back : List ℕ = 0x02 ∷ 0x03 ∷ 0x01 ∷ 0x00 ∷ 0x01 ∷ [] in
    let size : length key ≡ 270 = ap length (is ∙ both-is n _ refl)
    ∙ omega (arith, length-append front (i2osp n 256 ++ back), length-append (i2osp n 256) back, length-i2osp n 256) in
    let full = leb-true (2 ^ 2047) n more.0 in
    let below = modulus-below key bytes size in
    let rest : List ℕ = element 0x02 (1 ∷ 0 ∷ 1 ∷ []) in
    record {
      size = size;
      n = n;
      e = 65537;
      in_range = record { full = full; below = below; odd = (unsigned_Decides (n % 2) 1).0 more.1; exponent = refl };
      read = record {
        contents = element 0x02 (0 ∷ i2osp n 256) ++ rest;
        written = is;
        integers = integers-cons n (65537 ∷ []) rest [] _ (modulus-integer n rest _ full below refl)
            (integers-cons 65537 [] [] [] rest exponent-integer (integers-none [] [] refl));
      };
    }

pub public-decides : (key : List ℕ) → IsBytes key → Decides (is_public key) (IsPublic key)
public-decides key bytes = (decided-public key bytes, public-decided key bytes)
