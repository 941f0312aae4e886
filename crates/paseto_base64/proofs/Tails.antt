-- What a base64 text says of the bytes whose text it is, group by group.
use Rattle.std.proofs.Common.{◌≡◌, ℕ, suc, ◌*◌, ◌+◌, ◌/◌, ◌%◌, ◌<◌, ◌≤◌, List, [], ◌∷◌, ap, arith, drop, length, refl, slice_index}
use Rattle.std.specs.Prelude.{if◌then◌else◌}
use Rattle.std.specs.Result.{OnOk, is_ok}
use Rattle.std.specs.declared.result.Result.{Result}
use Rattle.std.specs.declared.result.Result.TheVariants.{Ok, Err}
use Rattle.base64.specs.GeneralPurpose.{IsBytes}
use Rattle.base64.specs.Rfc4648.{encode_group, encode_symbols}
use Rattle.paseto_base64.specs.declared.alphabet.Alphabet.{Alphabet}
use Rattle.paseto_base64.specs.declared.alphabet.Alphabet.TheVariants.{Standard, UrlSafe}
use Rattle.paseto_base64.specs.Alphabet.{symbols}

-- the bytes behind a first one
rest_bytes : (a : ℕ) (bytes : List ℕ) → IsBytes (a ∷ bytes) → IsBytes bytes
rest_bytes a bytes h i = h (suc i)

-- the first three bytes, and those behind them
pub record Next (t rest bytes : List ℕ) : Type 0 where
  pub a : ℕ
  pub b : ℕ
  pub c : ℕ
  pub tail : List ℕ
  pub is : bytes ≡ a ∷ b ∷ c ∷ tail
  pub low_a : a < 256
  pub low_b : b < 256
  pub low_c : c < 256
  pub front : slice_index rest 0 ∷ slice_index rest 1 ∷ slice_index rest 2 ∷ slice_index rest 3 ∷ [] ≡ encode_group t a b c
  pub back : drop 4 rest ≡ encode_symbols t tail
  pub tail_bytes : IsBytes tail

pub next_group : (t rest bytes : List ℕ) → 4 ≤ length rest → IsBytes bytes → rest ≡ encode_symbols t bytes → Next t rest bytes
unfolding encode_symbols
next_group t rest [] long h e = absurd (omega (arith, ap length e))
next_group t rest (a ∷ []) long h e = absurd (omega (arith, ap length e))
next_group t rest (a ∷ b ∷ []) long h e = absurd (omega (arith, ap length e))
next_group t rest (a ∷ b ∷ c ∷ tail) long h e = record {
  a = a;
  b = b;
  c = c;
  tail = tail;
  is = refl;
  low_a = h 0;
  low_b = h 1;
  low_c = h 2;
  front = rw e refl;
  back = ap (drop 4) e;
  tail_bytes = λ i. h (suc (suc (suc i)));
}

-- the character of 0
first_symbol : (alphabet : Alphabet) → slice_index (symbols alphabet) 0 ≡ 65
first_symbol Standard = refl
first_symbol UrlSafe = refl

-- two characters are one byte's, and three two bytes'
pub record One (t rest last : List ℕ) : Type 0 where
  pub a : ℕ
  pub is : last ≡ a ∷ []
  pub low : a < 256
  pub group : slice_index rest 0 ∷ slice_index rest 1 ∷ 65 ∷ 65 ∷ [] ≡ encode_group t a 0 0

pub one_byte : (alphabet : Alphabet) (rest last : List ℕ) → length rest ≡ 2 → IsBytes last → rest ≡ encode_symbols (symbols alphabet) last
    → One (symbols alphabet) rest last
unfolding encode_symbols
one_byte alphabet rest [] two h e = absurd (omega (arith, ap length e))
one_byte alphabet rest (a ∷ []) two h e =
    let same : a % 4 * 16 + 0 / 16 ≡ a % 4 * 16 = omega arith in
    record { a = a; is = refl; low = h 0; group = rw (e, same, first_symbol alphabet) refl }
one_byte alphabet rest (a ∷ b ∷ []) two h e = absurd (omega (arith, ap length e))
one_byte alphabet rest (a ∷ b ∷ c ∷ tail) two h e = absurd (omega (arith, ap length e))

pub record Two (t rest last : List ℕ) : Type 0 where
  pub a : ℕ
  pub b : ℕ
  pub is : last ≡ a ∷ b ∷ []
  pub low_a : a < 256
  pub low_b : b < 256
  pub group : slice_index rest 0 ∷ slice_index rest 1 ∷ slice_index rest 2 ∷ 65 ∷ [] ≡ encode_group t a b 0

pub two_bytes : (alphabet : Alphabet) (rest last : List ℕ) → length rest ≡ 3 → IsBytes last → rest ≡ encode_symbols (symbols alphabet) last
    → Two (symbols alphabet) rest last
unfolding encode_symbols
two_bytes alphabet rest [] three h e = absurd (omega (arith, ap length e))
two_bytes alphabet rest (a ∷ []) three h e = absurd (omega (arith, ap length e))
two_bytes alphabet rest (a ∷ b ∷ []) three h e =
    let same : b % 16 * 4 + 0 / 64 ≡ b % 16 * 4 = omega arith in
    record { a = a; b = b; is = refl; low_a = h 0; low_b = h 1; group = rw (e, same, first_symbol alphabet) refl }
two_bytes alphabet rest (a ∷ b ∷ c ∷ tail) three h e = absurd (omega (arith, ap length e))

-- fewer than two characters are no byte's
pub no_byte : (t rest last : List ℕ) → length rest < 2 → rest ≡ encode_symbols t last → last ≡ []
unfolding encode_symbols
no_byte t rest [] short e = refl
no_byte t rest (a ∷ []) short e = absurd (omega (arith, ap length e))
no_byte t rest (a ∷ b ∷ []) short e = absurd (omega (arith, ap length e))
no_byte t rest (a ∷ b ∷ c ∷ tail) short e = absurd (omega (arith, ap length e))

-- what a list becomes, where the call that appends to it succeeded
pub if_ok : {T E : Type 0} (result : Result T E) (new more old : List ℕ) → new ≡ (if is_ok result then more else old)
    → OnOk result (new ≡ more)
if_ok (Ok value) new more old e = e
if_ok (Err error) new more old e = tt
