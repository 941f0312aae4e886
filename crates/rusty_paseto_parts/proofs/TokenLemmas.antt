-- The header of a known version and purpose, and that their texts have no dot.
use Rattle.std.proofs.Common.{◌≡◌, ℕ, ◌==◌, Bool, true, ◌||◌, not, List, [], ◌∷◌, ◌++◌, codes, nat_eq, refl, sym, inl, inr}
use Rattle.std.specs.Cmp.Lexicographic.{pointwise, same_text}
use Rattle.std.specs.List.{list_all}
use Rattle.std.proofs.lemmas.Bool.{cases_Bool}
use Rattle.std.proofs.lemmas.List.Sums.{AllPass-from_list_all}
use Rattle.rusty_paseto_parts.specs.Header.{header_text, is_purpose, is_version}
use Rattle.rusty_paseto_parts.specs.Section.{HasNoDot}

-- a header of a known version and purpose
pub header_text-known : (version purpose : List ℕ) → is_version version ≡ true → is_purpose purpose ≡ true
    → header_text version purpose ≡ version ++ (46 ∷ (purpose ++ (46 ∷ [])))
unfolding header_text
header_text-known version purpose known_version known_purpose = rw (known_version, known_purpose) refl

HasNoDot-from_test : (part : List ℕ) → list_all (λ c. not (c == 46)) part ≡ true → HasNoDot part
HasNoDot-from_test part passes k d lt =
    let test = AllPass-from_list_all (λ c. not (c == 46)) part passes k d lt in
    λ is. let broken = rw is at test in cc broken

-- a text that is one of two is dotless where both are
one_of : (text other : List ℕ) (rest : Bool) → HasNoDot other → (rest ≡ true → HasNoDot text)
    → (pointwise nat_eq text other || rest) ≡ true → HasNoDot text
one_of text other rest dotless more h = elim (cases_Bool (pointwise nat_eq text other)) [
  | inl same ↦
      let is : text ≡ other = same_text text other (sym same) in
      rw is dotless
  | inr differs ↦ more (rw differs at h)
]

pub HasNoDot-version : (version : List ℕ) → is_version version ≡ true → HasNoDot version
HasNoDot-version version known =
    one_of version (codes "v1") _ (HasNoDot-from_test (codes "v1") refl)
    (one_of version (codes "v2") _ (HasNoDot-from_test (codes "v2") refl)
    (one_of version (codes "v3") _ (HasNoDot-from_test (codes "v3") refl)
    (λ last. let is : version ≡ codes "v4" = same_text version (codes "v4") (sym last) in rw is (HasNoDot-from_test (codes "v4") refl)))) known

pub HasNoDot-purpose : (purpose : List ℕ) → is_purpose purpose ≡ true → HasNoDot purpose
HasNoDot-purpose purpose known =
    one_of purpose (codes "local") _ (HasNoDot-from_test (codes "local") refl)
    (λ last. let is : purpose ≡ codes "public" = same_text purpose (codes "public") (sym last) in rw is (HasNoDot-from_test (codes "public") refl)) known
