-- One iteration more, and the length of a block.
use Rattle.std.proofs.Common.{◌≡◌, ◌∙◌, ◌<◌, ℕ, zero, suc, ◌+◌, ◌-◌, List, ap, ap₂, arith, length, sym, take, slice_index}
use Rattle.std.proofs.lemmas.List.{take_all}
use Rattle.rusty_paseto_primitives.specs.Bytes.{joined}
use Rattle.rusty_paseto_primitives.specs.Hmac.{hmac}
use Rattle.rusty_paseto_primitives.specs.Keystream.{xored}
use Rattle.rusty_paseto_primitives.specs.Pbkdf2.{block, derived_key, mixed, output}
use Rattle.rusty_paseto_primitives.proofs.HmacLengths.{length-hmac}
use Rattle.rusty_paseto_primitives.proofs.Xored.{length-xored}

pub more_output : (password salt : List ℕ) (i done : ℕ) (before : List ℕ) → 0 < done → before ≡ output password salt i (done - 1)
    → hmac password before ≡ output password salt i (done + 1 - 1)
unfolding output
more_output password salt i zero before some is = absurd (omega (arith, some))
more_output password salt i (suc done) before some is =
    let next : suc (suc done - 1) ≡ suc done + 1 - 1 = omega arith in
    ap (λ (u : List ℕ). hmac password u) is ∙ ap (λ (n : ℕ). output password salt i n) next

pub more_mixed : (password salt : List ℕ) (i done : ℕ) (key made : List ℕ) → 0 < done → key ≡ mixed password salt i (done - 1)
    → made ≡ output password salt i (done + 1 - 1) → xored (slice_index made) key ≡ mixed password salt i (done + 1 - 1)
unfolding mixed
more_mixed password salt i zero key made some is other = absurd (omega (arith, some))
more_mixed password salt i (suc done) key made some is other =
    let next : suc (suc done - 1) ≡ suc done + 1 - 1 = omega arith in
    ap₂ (λ (u k : List ℕ). xored (slice_index u) k) (other ∙ ap (λ (n : ℕ). output password salt i n) (sym next)) is
    ∙ ap (λ (n : ℕ). mixed password salt i n) next

length-mixed : (password salt : List ℕ) (i j : ℕ) → length (mixed password salt i j) ≡ 48
unfolding mixed output
length-mixed password salt i zero = length-hmac password _
length-mixed password salt i (suc j) =
    length-xored (slice_index (output password salt i (suc j))) (mixed password salt i j) ∙ length-mixed password salt i j

-- a block has 48 bytes
pub length-block : (password salt : List ℕ) (iterations i : ℕ) → length (block password salt iterations i) ≡ 48
unfolding block
length-block password salt iterations i = length-mixed password salt i (iterations - 1)

-- a key of one block is the first one
pub key_of_block : (password salt : List ℕ) (iterations : ℕ)
    → block password salt iterations 1 ≡ derived_key password salt iterations 48
unfolding derived_key joined
key_of_block password salt iterations =
    sym (take_all 48 (block password salt iterations 1) (omega (arith, length-block password salt iterations 1)))

-- a key of 32 bytes is the front of that
pub key_of_32 : (password salt : List ℕ) (iterations : ℕ)
    → take 32 (derived_key password salt iterations 48) ≡ derived_key password salt iterations 32
unfolding derived_key joined
key_of_32 password salt iterations =
    ap (take 32) (take_all 48 (block password salt iterations 1) (omega (arith, length-block password salt iterations 1)))
