use Rattle.std.proofs.Common.{◌≡◌, ℕ, [], ◌∷◌, get_or, refl, ap, arith}
use Rattle.std.specs.Prelude.{MatchOption, Option, None, Some}
use Rattle.paseto_montgomery.specs.Words.{value}
use Rattle.paseto_montgomery.proofs.WordsLaws.{value-one}
use Rattle.paseto_rsa.specs.Keys.{IsPublicKey}
use Rattle.paseto_rsa.proofs.IntegerLaws.{sequence-unique}
use Rattle.paseto_rsa.proofs.public_key.PublicKey.from_der.Goals as goal

pub returns-in_err-numbers : goal.returns-in_err-numbers
returns-in_err-numbers c =
    rw c.from_residual.ensures
    (λ n e r k. c.in_err-numbers.ensures n e r.below (omega (arith, r.exponent)) k)

match-of : {A : Type 0} (o : Option A) (P P' : Type 0) (Q Q' : A → Type 0) → (P → P') → ((k : A) → Q k → Q' k)
    → MatchOption o P Q → MatchOption o P' Q'
match-of None P P' Q Q' f g h = f h
match-of (Some x) P P' Q Q' f g h = g x h

pub returns : goal.returns
returns c =
    let numbers = c.in_ok-numbers.numbers in
    let m : ℕ = value numbers.modulus 32 in
    let x : ℕ = get_or numbers.exponent 0 0 in
    let read : IsPublicKey m x c.args.key.now = rw (← value-one numbers.exponent) c.in_ok-numbers.ensures in
    match-of c.public_key.result _ _ _ _
    (λ none n e r k.
    let same = sequence-unique (n ∷ e ∷ []) (m ∷ x ∷ []) c.args.key.now refl k read in
    let first : n ≡ m = ap (λ l. get_or l 0 0) same in
    let second : e ≡ x = ap (λ l. get_or l 1 0) same in
    none (rw (← first, ← second) r))
    (λ k made. rw (made.1, made.2) (made.0, read))
    c.public_key.ensures
