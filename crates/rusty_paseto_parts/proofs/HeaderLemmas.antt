-- Headers by their parts.
use Rattle.std.proofs.Common.{◌≡◌, ℕ, List, [], ◌++◌, true, false, codes, nat_eq, refl, sym, inl, inr}
use Rattle.std.proofs.lemmas.Bool.{cases_Bool}
use Rattle.std.specs.Cmp.Lexicographic.{pointwise, same_text}
use Rattle.rusty_paseto_parts.specs.Header.{chosen, header_text, is_version}

-- the headers of a version
pub header_text-version : (version purpose : List ℕ) → is_version version ≡ true
    → header_text version purpose ≡ chosen purpose (version ++ codes ".local.") (version ++ codes ".public.")
unfolding header_text
header_text-version version purpose known = elim (cases_Bool (pointwise nat_eq purpose (codes "local"))) [
  | inl local ↦
      let is : purpose ≡ codes "local" = same_text purpose (codes "local") (sym local) in
      rw (is, known) refl
  | inr other ↦ elim (cases_Bool (pointwise nat_eq purpose (codes "public"))) [
    | inl public ↦
        let is : purpose ≡ codes "public" = same_text purpose (codes "public") (sym public) in
        rw (is, known) refl
    | inr neither ↦ rw (known, other, neither) refl
  ]
]

-- no other version has one
pub header_text-other : (version purpose : List ℕ) → is_version version ≡ false → header_text version purpose ≡ []
unfolding header_text
header_text-other version purpose other = rw other refl
