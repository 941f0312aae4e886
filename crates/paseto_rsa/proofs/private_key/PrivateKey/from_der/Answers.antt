use Rattle.std.proofs.Common.{◌≡◌, ℕ, ◌*◌, ◌%◌, ◌<◌, ◌≤◌, List, [], ◌∷◌, ◌++◌, get_or, length, inl, inr, refl, sym, ◌∙◌, ap, subst, arith}
use Rattle.std.proofs.lemmas.Bool.{false≢true}
use Rattle.paseto_montgomery.specs.Words.{value, weight}
use Rattle.paseto_montgomery.proofs.DigitLaws.{weight-is}
use Rattle.paseto_montgomery.proofs.WordsLaws.{value-one}
use Rattle.paseto_der.specs.Element.{element}
use Rattle.paseto_rsa.specs.Integers.{IsSequence}
use Rattle.paseto_rsa.specs.Keys.{IsHalf, IsPrivateKey, PrivateNumbers, key_front}
use Rattle.paseto_rsa.proofs.IntegerLaws.{sequence-unique}
use Rattle.paseto_rsa.proofs.KeyLaws.{inner-unique, integers_of}
use Rattle.paseto_rsa.proofs.private_key.PrivateKey.from_der.Goals as goal

-- the INTEGERs that were read are those of the private key
same : (k : PrivateNumbers) (key inner read : List ℕ) → IsPrivateKey k key
    → key ≡ element 0x30 (key_front ++ element 0x04 inner) → IsSequence read inner → length (integers_of k) ≡ length read
    → integers_of k ≡ read
same k key inner read p written sequence size =
    let e = inner-unique p.inner inner key p.written written in
    sequence-unique (integers_of k) read inner size (subst (IsSequence (integers_of k)) e p.integers) sequence

pub returns-in_err-integers : goal.returns-in_err-integers
returns-in_err-integers c =
    rw c.from_residual-in_err-integers.ensures
    (λ h.
    let k = h.numbers in
    let r = h.in_range in
    let e = inner-unique h.read.inner c.in_ok-inner_key.field-0.now c.args.key.now h.read.written c.in_ok-inner_key.ensures in
    c.in_err-integers.ensures 0 k.n k.e k.d k.p k.q k.dp k.dq k.qinv (omega arith) r.public.below (omega (arith, r.public.exponent))
    r.d_below r.p_half.below r.q_half.below r.dp_below r.dq_below r.qinv_below
    (subst (IsSequence (integers_of k)) e h.read.integers))

pub returns-then-integers-ne0 : goal.returns-then-integers-ne0
returns-then-integers-ne0 c h =
    let i = c.in_ok-integers.integers in
    let e = same h.numbers c.args.key.now c.in_ok-inner_key.field-0.now _ h.read c.in_ok-inner_key.ensures c.in_ok-integers.ensures.0 refl in
    c.if-integers-ne0.true (sym (value-one i.version) ∙ sym (ap (λ l. get_or l 0 0) e))

pub returns-then-not-is_product : goal.returns-then-not-is_product
returns-then-not-is_product c h =
    let i = c.in_ok-integers.integers in
    let e = same h.numbers c.args.key.now c.in_ok-inner_key.field-0.now _ h.read c.in_ok-inner_key.ensures c.in_ok-integers.ensures.0 refl in
    let n : h.numbers.n ≡ value i.n 32 = ap (λ l. get_or l 1 0) e in
    let p : h.numbers.p ≡ value i.p 16 = ap (λ l. get_or l 4 0) e in
    let q : h.numbers.q ≡ value i.q 16 = ap (λ l. get_or l 5 0) e in
    false≢true (c.if-not-is_product.ensures.1 (rw (p, q, n) at h.in_range.product))

pub returns-in_err-public_key : goal.returns-in_err-public_key
returns-in_err-public_key c =
    rw c.from_residual-in_err-public_key.ensures
    (λ h.
    let i = c.in_ok-integers.integers in
    let e = same h.numbers c.args.key.now c.in_ok-inner_key.field-0.now _ h.read c.in_ok-inner_key.ensures c.in_ok-integers.ensures.0 refl in
    let n : h.numbers.n ≡ value i.n 32 = ap (λ l. get_or l 1 0) e in
    let x : h.numbers.e ≡ get_or i.e 0 0 = ap (λ l. get_or l 2 0) e ∙ value-one i.e in
    c.in_err-public_key.ensures (rw (← n, ← x) h.in_range.public))

pub returns-in_err-new : goal.returns-in_err-new
returns-in_err-new c =
    rw c.from_residual-in_err-new.ensures
    (λ h.
    let i = c.in_ok-integers.integers in
    let e = same h.numbers c.args.key.now c.in_ok-inner_key.field-0.now _ h.read c.in_ok-inner_key.ensures c.in_ok-integers.ensures.0 refl in
    let p : h.numbers.p ≡ value i.p 16 = ap (λ l. get_or l 4 0) e in
    elim c.in_err-new.ensures [
      | inl even ↦ omega (arith, even, p, h.in_range.p_half.odd)
      | inr short ↦ omega (arith, short, p, h.in_range.p_half.full, weight-is 16)
    ])

pub returns-in_err-new-2 : goal.returns-in_err-new-2
returns-in_err-new-2 c =
    rw c.from_residual-in_err-new-2.ensures
    (λ h.
    let i = c.in_ok-integers.integers in
    let e = same h.numbers c.args.key.now c.in_ok-inner_key.field-0.now _ h.read c.in_ok-inner_key.ensures c.in_ok-integers.ensures.0 refl in
    let q : h.numbers.q ≡ value i.q 16 = ap (λ l. get_or l 5 0) e in
    elim c.in_err-new-2.ensures [
      | inl even ↦ omega (arith, even, q, h.in_range.q_half.odd)
      | inr short ↦ omega (arith, short, q, h.in_range.q_half.full, weight-is 16)
    ])

-- a modulus of 16 words that was made
half : (m : ℕ) → m % 2 ≡ 1 → weight 16 ≤ 2 * m → m < weight 16 → IsHalf m
half m odd full below = record {
  full = omega (arith, full, weight-is 16);
  below = omega (arith, below, weight-is 16);
  odd = odd;
}

pub returns : goal.returns
returns c =
    let i = c.in_ok-integers.integers in
    let known = c.in_ok-integers.ensures in
    let p = c.in_ok-new.field-0 in
    let q = c.in_ok-new-2.field-0 in
    let public = c.in_ok-public_key.ensures in
    let first = c.in_ok-new.ensures in
    let second = c.in_ok-new-2.ensures in
    let inner = c.in_ok-inner_key.field-0.now in
    let zero : value i.version 1 ≡ 0 = value-one i.version ∙ c.if-integers-ne0.false in
    let rest : List ℕ =
    value i.n 32 ∷ value i.e 1 ∷ value i.d 32 ∷ value i.p 16 ∷ value i.q 16 ∷ value i.dp 16 ∷ value i.dq 16 ∷ value i.qinv 16 ∷ [] in
    let read : IsSequence (0 ∷ rest) inner = subst (λ (v : ℕ). IsSequence (v ∷ rest) inner) zero known.0 in (
      value i.d 32,
      (
        record {
          public = rw (public.1, public.2) public.0;
          d_below = known.1;
          p_half = rw first.0 (half (value i.p 16) (rw (← first.0) p.odd) first.1 first.2);
          q_half = rw second.0 (half (value i.q 16) (rw (← second.0) q.odd) second.1 second.2);
          product = rw (first.0, second.0, public.1) (c.if-not-is_product.ensures.0 refl);
          dp_below = known.2;
          dq_below = known.3;
          qinv_below = known.4;
        },
        record {
          inner = inner;
          written = c.in_ok-inner_key.ensures;
          integers = rw (public.1, public.2, first.0, second.0, ← value-one i.e) read;
        },
      ),
    )
