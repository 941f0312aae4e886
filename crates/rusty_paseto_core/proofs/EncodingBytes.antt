-- The encoding of lists of bytes is a list of bytes.
use Rattle.std.proofs.Common.{◌≡◌, ℕ, ◌/◌, ◌%◌, ◌^◌, ◌<◌, true, false, ◌&&◌, ◌⊎◌, List, [], ◌∷◌, ◌++◌, length, nat_lt, arith, inl, inr}
use Rattle.std.proofs.lemmas.Bool.{cases_Bool}
use Rattle.std.proofs.lemmas.Bool.{ltb-true}
use Rattle.std.proofs.lemmas.List.Elements.{All-head, All-tail}
use Rattle.std.specs.List.{All, flat_map, list_all}
use Rattle.rusty_paseto_primitives.specs.Bytes.{IsBytes}
use Rattle.rusty_paseto_primitives.proofs.ByteLists.{IsBytes_cons, IsBytes-nil, IsBytes-append}
use Rattle.rusty_paseto_parts.specs.PreAuthenticationEncoding.{encoded_piece, le64, pae}

eight : (a b c d e f g h : ℕ) → a < 256 → b < 256 → c < 256 → d < 256 → e < 256 → f < 256 → g < 256 → h < 256
    → IsBytes (a ∷ b ∷ c ∷ d ∷ e ∷ f ∷ g ∷ h ∷ [])
eight a b c d e f g h ha hb hc hd he hf hg hh =
    IsBytes_cons a (b ∷ c ∷ d ∷ e ∷ f ∷ g ∷ h ∷ []) ha (IsBytes_cons b (c ∷ d ∷ e ∷ f ∷ g ∷ h ∷ []) hb
    (IsBytes_cons c (d ∷ e ∷ f ∷ g ∷ h ∷ []) hc (IsBytes_cons d (e ∷ f ∷ g ∷ h ∷ []) hd (IsBytes_cons e (f ∷ g ∷ h ∷ []) he
    (IsBytes_cons f (g ∷ h ∷ []) hf (IsBytes_cons g (h ∷ []) hg (IsBytes_cons h [] hh IsBytes-nil)))))))

IsBytes-le64 : (n : ℕ) → IsBytes (le64 n)
unfolding le64
IsBytes-le64 n =
    let m : ℕ = n % 2 ^ 64 in
    eight (m % 256) (m / 256 % 256) (m / 65536 % 256) (m / 16777216 % 256) (m / 4294967296 % 256)
    (m / 1099511627776 % 256) (m / 281474976710656 % 256) (m / 72057594037927936 % 256) (omega arith)
    (omega arith) (omega arith) (omega arith) (omega arith) (omega arith) (omega arith) (omega arith)

IsBytes-pieces : (pieces : List (List ℕ)) → All IsBytes pieces → IsBytes (flat_map encoded_piece pieces)
unfolding encoded_piece
IsBytes-pieces [] all = IsBytes-nil
IsBytes-pieces (piece ∷ pieces) all =
    IsBytes-append (le64 (length piece) ++ piece) (flat_map encoded_piece pieces)
    (IsBytes-append (le64 (length piece)) piece (IsBytes-le64 (length piece)) (All-head IsBytes piece pieces all))
    (IsBytes-pieces pieces (All-tail IsBytes piece pieces all))

pub IsBytes-pae : (pieces : List (List ℕ)) → All IsBytes pieces → IsBytes (pae pieces)
unfolding pae
IsBytes-pae pieces all =
    IsBytes-append (le64 (length pieces)) (flat_map encoded_piece pieces) (IsBytes-le64 (length pieces)) (IsBytes-pieces pieces all)

known_more : (b : ℕ) (text : List ℕ) → (nat_lt b 256 ≡ true) ⊎ (nat_lt b 256 ≡ false)
    → (nat_lt b 256 && list_all (λ b. nat_lt b 256) text) ≡ true
    → (list_all (λ b. nat_lt b 256) text ≡ true → IsBytes text) → IsBytes (b ∷ text)
known_more b text (inl low) known more = IsBytes_cons b text (ltb-true b 256 low) (more (rw low at known))
known_more b text (inr high) known more = absurd (let wrong = rw high at known in cc)

-- the bytes of a known text
pub IsBytes-known : (text : List ℕ) → list_all (λ b. nat_lt b 256) text ≡ true → IsBytes text
IsBytes-known [] known = IsBytes-nil
IsBytes-known (b ∷ text) known = known_more b text (cases_Bool (nat_lt b 256)) known (IsBytes-known text)
