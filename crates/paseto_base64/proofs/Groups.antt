-- What one group more says of a base64 text and the bytes that it is compared with.
use Rattle.std.proofs.Common.{◌≡◌, ◌↔◌, ℕ, ◌<◌, ◌≤◌, Bool, true, false, List, ◌++◌, IsTrue, arith, ap, drop, length, length-append, refl, slice_index, subst, sym, take, ◌&&◌, ◌∙◌}
use Rattle.std.proofs.lemmas.List.{take-append-drop}
use Rattle.std.proofs.Math.Seq.{drop-append_seam, take-append_seam}
use Rattle.base64.specs.GeneralPurpose.{encode_of}
use Rattle.base64.specs.Rfc4648.{encode_group}
use Rattle.paseto_base64.specs.declared.alphabet.Alphabet.{Alphabet}
use Rattle.paseto_base64.specs.Alphabet.{engine, symbols}
use Rattle.paseto_base64.proofs.Ends.{group_first}

both : (one other : Bool) → IsTrue (one && other) ↔ (IsTrue one × IsTrue other)
both true other = (λ h. (refl, h), λ h. h.1)
both false other = (λ h. absurd (cc h), λ h. absurd (cc h.0))

-- the group of the first three bytes
abbrev pub first_group : Alphabet → List ℕ → List ℕ
first_group alphabet rest = encode_group (symbols alphabet) (slice_index rest 0) (slice_index rest 1) (slice_index rest 2)

-- the characters of three bytes and more are not fewer than four
pub four_characters : (alphabet : Alphabet) (rest text : List ℕ) → 3 ≤ length rest → length text < 4 → text ≡ encode_of (engine alphabet) rest → ⊥
four_characters alphabet rest text long short e =
    let lengths = ap length (e ∙ group_first alphabet rest long) in
    absurd (omega (arith, lengths, length-append (first_group alphabet rest) (encode_of (engine alphabet) (drop 3 rest))))

joined : (group end text : List ℕ) → length group ≡ 4 → (take 4 text ≡ group) × (drop 4 text ≡ end) → text ≡ group ++ end
joined group end text four h = rw (← h.0, ← h.1) (sym (take-append-drop 4 text))

parted : (group end text : List ℕ) → length group ≡ 4 → text ≡ group ++ end → (take 4 text ≡ group) × (drop 4 text ≡ end)
parted group end text four e = (
  rw e (subst (λ n. take n (group ++ end) ≡ group) four (take-append_seam group end)),
  rw e (subst (λ n. drop n (group ++ end) ≡ end) four (drop-append_seam group end)),
)

-- where the text was the base64 so far and the rest is, it is with one group more
pub step : (alphabet : Alphabet) (Is : Type 0) (rest left : List ℕ) (same found : Bool) → 3 ≤ length rest
    → (IsTrue same × (left ≡ encode_of (engine alphabet) rest)) ↔ Is
    → IsTrue found ↔ (first_group alphabet rest ≡ take 4 left)
    → (IsTrue (same && found) × (drop 4 left ≡ encode_of (engine alphabet) (drop 3 rest))) ↔ Is
step alphabet Is rest left same found long so_far here = (
  λ h.
      let yes = (both same found).0 h.0 in
      so_far.0 (yes.0, joined (first_group alphabet rest) (encode_of (engine alphabet) (drop 3 rest)) left refl (sym (here.0 yes.1), h.1) ∙ sym (group_first alphabet rest long)),
  λ is.
      let yes = so_far.1 is in
      let parts = parted (first_group alphabet rest) (encode_of (engine alphabet) (drop 3 rest)) left refl (yes.1 ∙ group_first alphabet rest long) in
      ((both same found).1 (yes.0, here.1 (sym parts.0)), parts.1),
)

-- at the end
pub last_step : (Is Rest : Type 0) (same found : Bool) → (IsTrue same × Rest) ↔ Is → IsTrue found ↔ Rest → IsTrue (same && found) ↔ Is
last_step Is Rest same found so_far here = (
  λ h. let yes = (both same found).0 h in so_far.0 (yes.0, here.0 yes.1),
  λ is. let yes = so_far.1 is in (both same found).1 (yes.0, here.1 yes.1),
)
