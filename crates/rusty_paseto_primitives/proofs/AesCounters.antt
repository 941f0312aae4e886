-- A counter's bytes, made of its two halves.
use Rattle.std.proofs.Common.{◌≡◌, ℕ, ◌/◌, ◌%◌, ◌^◌, List, [], ◌∷◌, ◌++◌, refl, ap, ap₂, ◌∙◌, arith}
use Rattle.std.proofs.Math.Nat.{div-div-eq-div-mul}
use Rattle.std.specs.Int.{w128, to_be_bytes}
use Rattle.std.specs.Simd.Lanes.{digits_l, number_l, pick_l}

-- sixteen bytes in turn, the last first
abbrev pub last_first : List ℕ → List ℕ
last_first b = pick_l 0 (b ++ b) (15 ∷ 14 ∷ 13 ∷ 12 ∷ 11 ∷ 10 ∷ 9 ∷ 8 ∷ 7 ∷ 6 ∷ 5 ∷ 4 ∷ 3 ∷ 2 ∷ 1 ∷ 0 ∷ [])

digits_last_first : (n : ℕ) → last_first (digits_l 256 16 n) ≡ to_be_bytes w128 n
digits_last_first n =
    let e2 : n / 256 / 256 ≡ n / 65536 = div-div-eq-div-mul n 256 256 in
    let e3 : n / 256 / 256 / 256 ≡ n / 16777216 = ap (λ (x : ℕ). x / 256) e2 ∙ div-div-eq-div-mul n 65536 256 in
    let e4 : n / 256 / 256 / 256 / 256 ≡ n / 4294967296 = ap (λ (x : ℕ). x / 256) e3 ∙ div-div-eq-div-mul n 16777216 256 in
    let e5 : n / 256 / 256 / 256 / 256 / 256 ≡ n / 1099511627776 = ap (λ (x : ℕ). x / 256) e4 ∙ div-div-eq-div-mul n 4294967296 256 in
    let e6 : n / 256 / 256 / 256 / 256 / 256 / 256 ≡ n / 281474976710656 = ap (λ (x : ℕ). x / 256) e5 ∙ div-div-eq-div-mul n 1099511627776 256 in
    let e7 : n / 256 / 256 / 256 / 256 / 256 / 256 / 256 ≡ n / 72057594037927936 = ap (λ (x : ℕ). x / 256) e6 ∙ div-div-eq-div-mul n 281474976710656 256 in
    let e8 : n / 256 / 256 / 256 / 256 / 256 / 256 / 256 / 256 ≡ n / 18446744073709551616 = ap (λ (x : ℕ). x / 256) e7 ∙ div-div-eq-div-mul n 72057594037927936 256 in
    let e9 : n / 256 / 256 / 256 / 256 / 256 / 256 / 256 / 256 / 256 ≡ n / 4722366482869645213696 = ap (λ (x : ℕ). x / 256) e8 ∙ div-div-eq-div-mul n 18446744073709551616 256 in
    let e10 : n / 256 / 256 / 256 / 256 / 256 / 256 / 256 / 256 / 256 / 256 ≡ n / 1208925819614629174706176 = ap (λ (x : ℕ). x / 256) e9 ∙ div-div-eq-div-mul n 4722366482869645213696 256 in
    let e11 : n / 256 / 256 / 256 / 256 / 256 / 256 / 256 / 256 / 256 / 256 / 256 ≡ n / 309485009821345068724781056 = ap (λ (x : ℕ). x / 256) e10 ∙ div-div-eq-div-mul n 1208925819614629174706176 256 in
    let e12 : n / 256 / 256 / 256 / 256 / 256 / 256 / 256 / 256 / 256 / 256 / 256 / 256 ≡ n / 79228162514264337593543950336 = ap (λ (x : ℕ). x / 256) e11 ∙ div-div-eq-div-mul n 309485009821345068724781056 256 in
    let e13 : n / 256 / 256 / 256 / 256 / 256 / 256 / 256 / 256 / 256 / 256 / 256 / 256 / 256 ≡ n / 20282409603651670423947251286016 = ap (λ (x : ℕ). x / 256) e12 ∙ div-div-eq-div-mul n 79228162514264337593543950336 256 in
    let e14 : n / 256 / 256 / 256 / 256 / 256 / 256 / 256 / 256 / 256 / 256 / 256 / 256 / 256 / 256 ≡ n / 5192296858534827628530496329220096 = ap (λ (x : ℕ). x / 256) e13 ∙ div-div-eq-div-mul n 20282409603651670423947251286016 256 in
    let e15 : n / 256 / 256 / 256 / 256 / 256 / 256 / 256 / 256 / 256 / 256 / 256 / 256 / 256 / 256 / 256 ≡ n / 1329227995784915872903807060280344576 = ap (λ (x : ℕ). x / 256) e14 ∙ div-div-eq-div-mul n 5192296858534827628530496329220096 256 in
    (ap₂ ◌∷◌ (ap (λ (x : ℕ). x % 256) e15)
    (ap₂ ◌∷◌ (ap (λ (x : ℕ). x % 256) e14)
    (ap₂ ◌∷◌ (ap (λ (x : ℕ). x % 256) e13)
    (ap₂ ◌∷◌ (ap (λ (x : ℕ). x % 256) e12)
    (ap₂ ◌∷◌ (ap (λ (x : ℕ). x % 256) e11)
    (ap₂ ◌∷◌ (ap (λ (x : ℕ). x % 256) e10)
    (ap₂ ◌∷◌ (ap (λ (x : ℕ). x % 256) e9)
    (ap₂ ◌∷◌ (ap (λ (x : ℕ). x % 256) e8)
    (ap₂ ◌∷◌ (ap (λ (x : ℕ). x % 256) e7)
    (ap₂ ◌∷◌ (ap (λ (x : ℕ). x % 256) e6)
    (ap₂ ◌∷◌ (ap (λ (x : ℕ). x % 256) e5)
    (ap₂ ◌∷◌ (ap (λ (x : ℕ). x % 256) e4)
    (ap₂ ◌∷◌ (ap (λ (x : ℕ). x % 256) e3)
    (ap₂ ◌∷◌ (ap (λ (x : ℕ). x % 256) e2)
    (ap₂ ◌∷◌ refl
    (ap₂ ◌∷◌ refl
    refl))))))))))))))))

pub counter_bytes : (n low high : ℕ) → low ≡ n % 2 ^ 64 → high ≡ n / 2 ^ 64
    → last_first (digits_l 256 16 (number_l (2 ^ 64) (low ∷ high ∷ []))) ≡ to_be_bytes w128 n
counter_bytes n low high el eh =
    let whole : number_l (2 ^ 64) (low ∷ high ∷ []) ≡ n = omega arith in
    ap (λ (x : ℕ). last_first (digits_l 256 16 x)) whole ∙ digits_last_first n
