-- The exclusive or with a keystream.
use Rattle.std.proofs.Common.{◌≡◌, ℕ, suc, ◌+◌, List, [], ◌∷◌, length, replicate, bit_xor, refl, sym, ap, ap₂, ◌∙◌, arith}
use Rattle.std.specs.Int.Bits.{xor_assoc, xor_self, xor_zero_l, xor_zero_r}
use Rattle.std.proofs.lemmas.Nat.{xor_comm}
use Rattle.rusty_paseto_primitives.specs.Keystream.{xored, xored_from}
use Rattle.rusty_paseto_core.specs.Context.{Binding}
use Rattle.rusty_paseto_core.specs.Local.{Design, IsLawful, IsNonce}
use Rattle.rusty_paseto_core.specs.Local.Opening.{ciphertext_in}
use Rattle.rusty_paseto_core.specs.Local.Sealing.{sealed_payload, tag_of}
use Rattle.rusty_paseto_core.specs.Local.V1.{v1}
use Rattle.rusty_paseto_core.specs.Local.V1Laws.{v1-IsLawful}
use Rattle.rusty_paseto_core.specs.Local.V3.{v3}
use Rattle.rusty_paseto_core.specs.Local.V3Laws.{v3-IsLawful}
use Rattle.rusty_paseto_core.specs.Local.V4.{v4}
use Rattle.rusty_paseto_core.specs.Local.V4Laws.{v4-IsLawful}
use Rattle.rusty_paseto_core.proofs.Parts.{ciphertext-parts}
use Rattle.rusty_paseto_core.specs.Local.Keystreams.{IsPadded, NonceReuseShows, PadHides, PayloadsShow, ReuseHides, xor_lists}

-- ---- numbers

-- what is common to both falls out
common : (a b s : ℕ) → bit_xor (bit_xor a s) (bit_xor b s) ≡ bit_xor a b
common a b s =
    xor_assoc a s (bit_xor b s)
    ∙ ap (bit_xor a) (ap (bit_xor s) (xor_comm b s) ∙ sym (xor_assoc s s b) ∙ ap (λ (n : ℕ). bit_xor n b) (xor_self s) ∙ xor_zero_l b)

-- the exclusive or, twice, gives the number back
twice : (a b : ℕ) → bit_xor (bit_xor a b) b ≡ a
twice a b = xor_assoc a b b ∙ ap (bit_xor a) (xor_self b) ∙ xor_zero_r a

-- ---- lists

pub length-xor_lists : (xs ys : List ℕ) → length xs ≡ length ys → length (xor_lists xs ys) ≡ length xs
unfolding xor_lists
length-xor_lists [] ys same = refl
length-xor_lists (x ∷ xs) [] same = absurd (omega arith)
length-xor_lists (x ∷ xs) (y ∷ ys) same = ap suc (length-xor_lists xs ys (omega arith))

xor_lists-twice : (xs ys : List ℕ) → length xs ≡ length ys → xor_lists (xor_lists xs ys) ys ≡ xs
unfolding xor_lists
xor_lists-twice [] ys same = refl
xor_lists-twice (x ∷ xs) [] same = absurd (omega arith)
xor_lists-twice (x ∷ xs) (y ∷ ys) same = ap₂ ◌∷◌ (twice x y) (xor_lists-twice xs ys (omega arith))

pub pad_hides : PadHides
pad_hides text ciphertext same = record {
  keystream = xor_lists ciphertext text;
  size = length-xor_lists ciphertext text (sym same) ∙ sym same;
  makes = xor_lists-twice ciphertext text (sym same);
  alone = λ other size makes. sym (xor_lists-twice other text size) ∙ ap (λ (l : List ℕ). xor_lists l text) makes;
}

four : (s a b c d : ℕ) → bit_xor a b ≡ bit_xor c d → bit_xor (bit_xor (bit_xor s a) c) d ≡ bit_xor s b
four s a b c d same =
    let turned : bit_xor (bit_xor a c) d ≡ b =
    xor_assoc a c d ∙ ap (bit_xor a) (sym same) ∙ sym (xor_assoc a a b) ∙ ap (λ (n : ℕ). bit_xor n b) (xor_self a) ∙ xor_zero_l b in
    ap (λ (n : ℕ). bit_xor n d) (xor_assoc s a c) ∙ xor_assoc s (bit_xor a c) d ∙ ap (bit_xor s) turned

shifted-second : (s a b c d : List ℕ) → length a ≡ length s → length b ≡ length s → length c ≡ length s → length d ≡ length s
    → xor_lists a b ≡ xor_lists c d → xor_lists (xor_lists (xor_lists s a) c) d ≡ xor_lists s b
unfolding xor_lists
shifted-second [] a b c d ha hb hc hd same = refl
shifted-second (s ∷ rs) [] b c d ha hb hc hd same = absurd (omega arith)
shifted-second (s ∷ rs) (a ∷ ra) [] c d ha hb hc hd same = absurd (omega arith)
shifted-second (s ∷ rs) (a ∷ ra) (b ∷ rb) [] d ha hb hc hd same = absurd (omega arith)
shifted-second (s ∷ rs) (a ∷ ra) (b ∷ rb) (c ∷ rc) [] ha hb hc hd same = absurd (omega arith)
shifted-second (s ∷ rs) (a ∷ ra) (b ∷ rb) (c ∷ rc) (d ∷ rd) ha hb hc hd same =
    let heads : bit_xor a b ≡ bit_xor c d = cc in
    let tails : xor_lists ra rb ≡ xor_lists rc rd = cc in
    ap₂ ◌∷◌ (four s a b c d heads)
    (shifted-second rs ra rb rc rd (omega arith) (omega arith) (omega arith) (omega arith) tails)

pub reuse_hides : ReuseHides
reuse_hides s a b c d ha hb hc hd same =
    let first = length-xor_lists s a (sym ha) in
    let both : length (xor_lists s a) ≡ length c = first ∙ sym hc in (
      xor_lists (xor_lists s a) c,
      length-xor_lists (xor_lists s a) c both ∙ first,
      xor_lists-twice (xor_lists s a) c both,
      shifted-second s a b c d ha hb hc hd same,
    )

-- ---- keystreams

pub xored_from-shows : (s : ℕ → ℕ) (i : ℕ) (a b : List ℕ) → xor_lists (xored_from s i a) (xored_from s i b) ≡ xor_lists a b
unfolding xor_lists xored_from
xored_from-shows s i [] b = refl
xored_from-shows s i (x ∷ xs) [] = refl
xored_from-shows s i (x ∷ xs) (y ∷ ys) = ap₂ ◌∷◌ (common x y (s i)) (xored_from-shows s (i + 1) xs ys)

xored_from-padded : (s : ℕ → ℕ) (i : ℕ) (text : List ℕ)
    → xored_from s i text ≡ xor_lists (xored_from s i (replicate (length text) 0)) text
unfolding xor_lists xored_from
xored_from-padded s i [] = refl
xored_from-padded s i (x ∷ xs) =
    ap₂ ◌∷◌ (xor_comm x (s i) ∙ ap (λ (n : ℕ). bit_xor n x) (sym (xor_zero_l (s i)))) (xored_from-padded s (i + 1) xs)

pub v1_padded : IsPadded v1
unfolding v1 xored
v1_padded key nonce text = xored_from-padded _ 0 text

pub v3_padded : IsPadded v3
unfolding v3 xored
v3_padded key nonce text = xored_from-padded _ 0 text

pub v4_padded : IsPadded v4
unfolding v4 xored
v4_padded key nonce text = xored_from-padded _ 0 text

pub v1_shows : NonceReuseShows v1
unfolding v1 xored
v1_shows key nonce a b = xored_from-shows _ 0 a b

pub v3_shows : NonceReuseShows v3
unfolding v3 xored
v3_shows key nonce a b = xored_from-shows _ 0 a b

pub v4_shows : NonceReuseShows v4
unfolding v4 xored
v4_shows key nonce a b = xored_from-shows _ 0 a b

-- ---- tokens

module _ (design : Design) (law : IsLawful design) (shows : NonceReuseShows design) where
  ciphertext-is : (binding : Binding) (nonce text : List ℕ) → IsNonce nonce
      → ciphertext_in design (sealed_payload design binding nonce text) ≡ design.apply_keystream binding.key nonce text
  unfolding sealed_payload
  ciphertext-is binding nonce text is_nonce =
      let ciphertext = design.apply_keystream binding.key nonce text in
      ciphertext-parts nonce ciphertext (tag_of design binding nonce ciphertext) design.tag_length is_nonce.size (law.length_tag _ _)

  payloads_show : PayloadsShow design
  payloads_show first second nonce a b same is_nonce =
      let one = ciphertext-is first nonce a is_nonce in
      let other = ciphertext-is second nonce b is_nonce in
      ap₂ xor_lists one (other ∙ ap (λ (k : List ℕ). design.apply_keystream k nonce b) (sym same)) ∙ shows first.key nonce a b

pub v1_payloads : PayloadsShow v1
v1_payloads = payloads_show v1 v1-IsLawful v1_shows

pub v3_payloads : PayloadsShow v3
v3_payloads = payloads_show v3 v3-IsLawful v3_shows

pub v4_payloads : PayloadsShow v4
v4_payloads = payloads_show v4 v4-IsLawful v4_shows
