use Rattle.std.proofs.Common.{◌≡◌, ℕ, Bool, List, [], slice_index_or, refl, ap}
use Rattle.rusty_paseto_primitives.specs.Aes.Planes.{back, front}
use Rattle.rusty_paseto_primitives.proofs.AesPlanes.{plane-agree}
use Rattle.rusty_paseto_primitives.proofs.Below.{below_eight}
use Rattle.rusty_paseto_primitives.proofs.aes.planes.transposed.Goals as goal

pub returns : goal.returns
returns c f e =
    let at = λ (k : ℕ). ap (λ (v : List (List ℕ)). slice_index_or v k []) e in
    let first : List ℕ × List ℕ → List ℕ = λ p. p.0 in
    let second : List ℕ × List ℕ → List ℕ = λ p. p.1 in
    let a0 : ℕ → ℕ → Bool = front 4 (f 0) (f 4) in
    let a4 : ℕ → ℕ → Bool = back 4 (f 0) (f 4) in
    let x0 = c.exchanged_by_four.ensures (f 0) (f 4) (at 0) (at 4) in
    let a1 : ℕ → ℕ → Bool = front 4 (f 1) (f 5) in
    let a5 : ℕ → ℕ → Bool = back 4 (f 1) (f 5) in
    let x1 = c.exchanged_by_four-2.ensures (f 1) (f 5) (at 1) (at 5) in
    let a2 : ℕ → ℕ → Bool = front 4 (f 2) (f 6) in
    let a6 : ℕ → ℕ → Bool = back 4 (f 2) (f 6) in
    let x2 = c.exchanged_by_four-3.ensures (f 2) (f 6) (at 2) (at 6) in
    let a3 : ℕ → ℕ → Bool = front 4 (f 3) (f 7) in
    let a7 : ℕ → ℕ → Bool = back 4 (f 3) (f 7) in
    let x3 = c.exchanged_by_four-4.ensures (f 3) (f 7) (at 3) (at 7) in
    let b0 : ℕ → ℕ → Bool = front 2 a0 a2 in
    let b2 : ℕ → ℕ → Bool = back 2 a0 a2 in
    let y0 = c.exchanged_by_two.ensures a0 a2 (ap first x0) (ap first x2) in
    let b1 : ℕ → ℕ → Bool = front 2 a1 a3 in
    let b3 : ℕ → ℕ → Bool = back 2 a1 a3 in
    let y1 = c.exchanged_by_two-2.ensures a1 a3 (ap first x1) (ap first x3) in
    let b4 : ℕ → ℕ → Bool = front 2 a4 a6 in
    let b6 : ℕ → ℕ → Bool = back 2 a4 a6 in
    let y2 = c.exchanged_by_two-3.ensures a4 a6 (ap second x0) (ap second x2) in
    let b5 : ℕ → ℕ → Bool = front 2 a5 a7 in
    let b7 : ℕ → ℕ → Bool = back 2 a5 a7 in
    let y3 = c.exchanged_by_two-4.ensures a5 a7 (ap second x1) (ap second x3) in
    let t0 : ℕ → ℕ → Bool = front 1 b0 b1 in
    let t1 : ℕ → ℕ → Bool = back 1 b0 b1 in
    let z0 = c.exchanged_by_one.ensures b0 b1 (ap first y0) (ap first y1) in
    let t2 : ℕ → ℕ → Bool = front 1 b2 b3 in
    let t3 : ℕ → ℕ → Bool = back 1 b2 b3 in
    let z1 = c.exchanged_by_one-2.ensures b2 b3 (ap second y0) (ap second y1) in
    let t4 : ℕ → ℕ → Bool = front 1 b4 b5 in
    let t5 : ℕ → ℕ → Bool = back 1 b4 b5 in
    let z2 = c.exchanged_by_one-3.ensures b4 b5 (ap first y2) (ap first y3) in
    let t6 : ℕ → ℕ → Bool = front 1 b6 b7 in
    let t7 : ℕ → ℕ → Bool = back 1 b6 b7 in
    let z3 = c.exchanged_by_one-4.ensures b6 b7 (ap second y2) (ap second y3) in
    rw (z0, z1, z2, z3) (rw (
      plane-agree t0 (λ i j. f j i 0) (λ i j hi. below_eight (λ j. t0 i j ≡ f j i 0) refl refl refl refl refl refl refl refl j),
      plane-agree t1 (λ i j. f j i 1) (λ i j hi. below_eight (λ j. t1 i j ≡ f j i 1) refl refl refl refl refl refl refl refl j),
      plane-agree t2 (λ i j. f j i 2) (λ i j hi. below_eight (λ j. t2 i j ≡ f j i 2) refl refl refl refl refl refl refl refl j),
      plane-agree t3 (λ i j. f j i 3) (λ i j hi. below_eight (λ j. t3 i j ≡ f j i 3) refl refl refl refl refl refl refl refl j),
      plane-agree t4 (λ i j. f j i 4) (λ i j hi. below_eight (λ j. t4 i j ≡ f j i 4) refl refl refl refl refl refl refl refl j),
      plane-agree t5 (λ i j. f j i 5) (λ i j hi. below_eight (λ j. t5 i j ≡ f j i 5) refl refl refl refl refl refl refl refl j),
      plane-agree t6 (λ i j. f j i 6) (λ i j hi. below_eight (λ j. t6 i j ≡ f j i 6) refl refl refl refl refl refl refl refl j),
      plane-agree t7 (λ i j. f j i 7) (λ i j hi. below_eight (λ j. t7 i j ≡ f j i 7) refl refl refl refl refl refl refl refl j),
    ) refl)
