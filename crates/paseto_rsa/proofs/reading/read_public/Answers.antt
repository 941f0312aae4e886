use Rattle.std.proofs.Common.{◌≡◌, ℕ, ◌^◌, ◌<◌, [], ◌∷◌, ◌++◌, length, refl, sym, ◌∙◌, ap, subst, arith}
use Rattle.std.proofs.lemmas.Bool.Decides.{nat_tests}
use Rattle.std.proofs.lemmas.List.{append-nil, nil_from_length}
use Rattle.paseto_montgomery.specs.Words.{weight}
use Rattle.paseto_montgomery.proofs.DigitLaws.{weight-is}
use Rattle.paseto_montgomery.proofs.WordsLaws.{weight-one}
use Rattle.paseto_der.specs.Element.{element}
use Rattle.paseto_rsa.specs.Integers.{AreIntegers}
use Rattle.paseto_rsa.proofs.IntegerLaws.{integer-unique, integers-cons, integers-nil, integers-none, integers-parts, sequence-contents, sequence-written}
use Rattle.paseto_rsa.proofs.reading.read_public.Goals as goal

fits : (n x : ℕ) → 2 ^ 2048 ≡ n → x < 2 ^ 2048 → x < weight 32
fits n x e h = subst (λ (k : ℕ). x < k) (sym (weight-is 32)) h

word : (x : ℕ) → x < 2 ^ 64 → x < weight 1
word x h = rw weight-one h

pub returns-in_err-contents : goal.returns-in_err-contents
returns-in_err-contents c =
    rw c.from_residual.ensures
    (λ n e f g s. c.in_err-contents.ensures _ _ (sequence-written (n ∷ e ∷ []) c.args.key.now s))

pub returns-then-not-is_empty : goal.returns-then-not-is_empty
returns-then-not-is_empty c n e f g s =
    let known = sequence-contents (n ∷ e ∷ []) c.in_ok-contents.field-0.contents.now c.in_ok-contents.field-0.behind.now c.args.key.now s c.in_ok-contents.ensures in
    let none : length c.in_ok-contents.field-0.behind.now ≡ 0 = ap length known.1 in
    grind (arith, nat_tests)

pub returns-in_err-modulus : goal.returns-in_err-modulus
returns-in_err-modulus c =
    rw c.from_residual-in_err-modulus.ensures
    (λ n e f g s.
    let known = sequence-contents (n ∷ e ∷ []) c.in_ok-contents.field-0.contents.now c.in_ok-contents.field-0.behind.now c.args.key.now s c.in_ok-contents.ensures in
    let first = integers-parts n (e ∷ []) [] _ known.0 in
    c.in_err-modulus.ensures n first.0 (fits _ n refl f) first.1.0)

pub returns-in_err-exponent : goal.returns-in_err-exponent
returns-in_err-exponent c =
    rw c.from_residual-in_err-exponent.ensures
    (λ n e f g s.
    let contents = c.in_ok-contents.field-0.contents.now in
    let known = sequence-contents (n ∷ e ∷ []) contents c.in_ok-contents.field-0.behind.now c.args.key.now s c.in_ok-contents.ensures in
    let first = integers-parts n (e ∷ []) [] contents known.0 in
    let same = integer-unique n _ first.0 _ contents first.1.0 c.in_ok-modulus.ensures.0 in
    let second = integers-parts e [] [] _ (subst (AreIntegers (e ∷ []) []) same.1 first.1.1) in
    c.in_err-exponent.ensures e second.0 (word e g) second.1.0)

pub returns-then-not-is_empty-2 : goal.returns-then-not-is_empty-2
returns-then-not-is_empty-2 c n e f g s =
    let contents = c.in_ok-contents.field-0.contents.now in
    let known = sequence-contents (n ∷ e ∷ []) contents c.in_ok-contents.field-0.behind.now c.args.key.now s c.in_ok-contents.ensures in
    let first = integers-parts n (e ∷ []) [] contents known.0 in
    let same = integer-unique n _ first.0 _ contents first.1.0 c.in_ok-modulus.ensures.0 in
    let second = integers-parts e [] [] _ (subst (AreIntegers (e ∷ []) []) same.1 first.1.1) in
    let same' = integer-unique e _ second.0 _ _ second.1.0 c.in_ok-exponent.ensures.0 in
    let none : length c.in_ok-exponent.exponent.behind.now ≡ 0 = ap length (sym same'.1 ∙ integers-nil [] second.0 second.1.1) in
    grind (arith, nat_tests)

pub returns : goal.returns
returns c =
    let contents = c.in_ok-contents.field-0.contents.now in
    let none : length c.in_ok-contents.field-0.behind.now ≡ 0 = grind (arith, nat_tests) in
    let none' : length c.in_ok-exponent.exponent.behind.now ≡ 0 = grind (arith, nat_tests) in
    record {
      contents = contents;
      written =
          c.in_ok-contents.ensures ∙ ap (λ b. element 0x30 contents ++ b) (nil_from_length c.in_ok-contents.field-0.behind.now none)
          ∙ append-nil (element 0x30 contents);
      integers =
          integers-cons _ _ _ _ _ c.in_ok-modulus.ensures.0
          (integers-cons _ _ _ _ _ c.in_ok-exponent.ensures.0 (integers-none [] _ (nil_from_length _ none')));
    }
