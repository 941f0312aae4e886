-- What an option holds.
use Rattle.std.proofs.Common.{◌≡◌, ℕ, ap, arith}
use Rattle.std.specs.Prelude.{Option, None, Some}

held : {A : Type 0} → A → Option A → A
held other None = other
held other (Some x) = x

pub some-same : {A : Type 0} (x y : A) → Some x ≡ Some y → x ≡ y
unfolding held
some-same x y e = ap (held x) e

is_some : {A : Type 0} → Option A → ℕ
is_some None = 0
is_some (Some x) = 1

pub none-some : {A : Type 0} (x : A) → None ≡ Some x → ⊥
unfolding is_some
none-some x e =
    let bad : ◌≡◌ {A = ℕ} 0 1 = ap is_some e in
    absurd (omega arith)
