-- The words of a list, one by one, and what they ask for.
use Rattle.std.proofs.Common.{◌≡◌, ℕ, ◌-◌, ◌≤◌, List, [], ◌∷◌, length, get_or, take, drop, map, Option, arith, sym, ap, ◌∙◌, codes, eqb}
use Rattle.std.proofs.lemmas.Bool.{false≢true}
use Rattle.std.proofs.lemmas.List.{take_rest}
use Rattle.paseto_tool.specs.declared.version.Version.{Version}
use Rattle.paseto_tool.specs.Arguments.{AsksToSeal, AsksToOpen}

-- the first three, and the rest
pub map-three : {A B : Type 0} (f : A → B) (xs : List A) (x y z : A) (c d e : B) → 3 ≤ length xs
    → x ≡ get_or xs 0 x → y ≡ get_or xs 1 y → z ≡ get_or xs 2 z → c ≡ f x → d ≡ f y → e ≡ f z
    → c ∷ d ∷ e ∷ map f (take (length xs - 3) (drop 3 xs)) ≡ map f xs
map-three f [] x y z c d e n p q r s t u = absurd (omega arith)
map-three f (a ∷ []) x y z c d e n p q r s t u = absurd (omega arith)
map-three f (a ∷ b ∷ []) x y z c d e n p q r s t u = absurd (omega arith)
map-three f (a ∷ b ∷ k ∷ xs) x y z c d e n p q r s t u = rw (take_rest, s, t, u, p, q, r)

-- the first two, and the rest
pub map-two : {A B : Type 0} (f : A → B) (xs : List A) (x y : A) (c d : B) → 2 ≤ length xs
    → x ≡ get_or xs 0 x → y ≡ get_or xs 1 y → c ≡ f x → d ≡ f y
    → c ∷ d ∷ map f (take (length xs - 2) (drop 2 xs)) ≡ map f xs
map-two f [] x y c d n p q s t = absurd (omega arith)
map-two f (a ∷ []) x y c d n p q s t = absurd (omega arith)
map-two f (a ∷ b ∷ xs) x y c d n p q s t = rw (take_rest, s, t, p, q)

-- words that ask to seal do not ask to open
pub AsksToSeal-open : (words : List (List ℕ)) (version : Version) (key nonce : List ℕ) (footer assertion : Option (List ℕ))
    (version2 : Version) (key2 : List ℕ) (footer2 assertion2 : Option (List ℕ))
    → AsksToSeal words version key nonce footer assertion → AsksToOpen words version2 key2 footer2 assertion2 → ⊥
AsksToSeal-open words version key nonce footer assertion version2 key2 footer2 assertion2 a b =
    let commands : codes "seal" ≡ codes "open" = ap (λ (l : List (List ℕ)). get_or l 0 []) (sym a.words_are ∙ b.words_are) in
    let letters : 115 ≡ 111 = ap (λ (l : List ℕ). get_or l 0 0) commands in
    absurd (false≢true (sym (ap (eqb 115) letters)))

-- words ask to seal under one key and one nonce
pub AsksToSeal-key : (words : List (List ℕ)) (version : Version) (key nonce : List ℕ) (footer assertion : Option (List ℕ))
    (version2 : Version) (key2 nonce2 : List ℕ) (footer2 assertion2 : Option (List ℕ))
    → AsksToSeal words version key nonce footer assertion → AsksToSeal words version2 key2 nonce2 footer2 assertion2
    → (key ≡ key2) × (nonce ≡ nonce2)
AsksToSeal-key words version key nonce footer assertion version2 key2 nonce2 footer2 assertion2 a b =
    let same = sym a.words_are ∙ b.words_are in
    (ap (λ (l : List (List ℕ)). get_or l 2 []) same, ap (λ (l : List (List ℕ)). get_or l 3 []) same)

-- words ask to open under one key
pub AsksToOpen-key : (words : List (List ℕ)) (version : Version) (key : List ℕ) (footer assertion : Option (List ℕ))
    (version2 : Version) (key2 : List ℕ) (footer2 assertion2 : Option (List ℕ))
    → AsksToOpen words version key footer assertion → AsksToOpen words version2 key2 footer2 assertion2 → key ≡ key2
AsksToOpen-key words version key footer assertion version2 key2 footer2 assertion2 a b =
    ap (λ (l : List (List ℕ)). get_or l 2 []) (sym a.words_are ∙ b.words_are)
