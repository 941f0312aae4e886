-- What splitting a token gives, in the words of its framing.
use Rattle.std.proofs.Common.{◌≡◌, ℕ, List, [], ◌∷◌, length, map, Bor, Option, Some, None, slice_index_or, Result, Ok, Err, IfErr, ◌⊎◌, inl, inr, Bool, false, IsTrue, ◌↔◌, refl, arith, lit≤}
use Rattle.std.specs.Option.{option_map, option_to_list}
use Rattle.rusty_paseto_parts.specs.Error.{IsMemory}
use Rattle.rusty_paseto_parts.specs.Section.{HasCount, IsSectionFault, sections}
use Rattle.rusty_paseto_parts.specs.declared.error.PasetoError.{PasetoError}
use Rattle.rusty_paseto_parts.specs.declared.error.PasetoError.TheVariants.{Memory, PayloadBase64Decode}
use Rattle.rusty_paseto_core.specs.Reading.{HasFooter, HasHeader, IsExpected, IsFramingFault}

-- the texts that are lent
abbrev pub texts : List (Bor (List ℕ)) → List (List ℕ)
texts lent = map (λ part. part.now) lent

-- the first three sections
pub three_texts : (lent : List (Bor (List ℕ))) (d : Bor (List ℕ)) → length lent ≡ 3
    → texts lent ≡ (slice_index_or lent 0 d).now ∷ (slice_index_or lent 1 d).now ∷ (slice_index_or lent 2 d).now ∷ []
three_texts [] d size = absurd (omega (arith, size))
three_texts (a ∷ []) d size = absurd (omega (arith, size))
three_texts (a ∷ b ∷ []) d size = absurd (omega (arith, size))
three_texts (a ∷ b ∷ c ∷ []) d size = refl
three_texts (a ∷ b ∷ c ∷ e ∷ rest) d size = absurd (omega (arith, size))

module _ (version purpose payload footer : List ℕ) where
  pub split_count : (found : Option (Bor (List ℕ))) → HasCount (version ∷ purpose ∷ payload ∷ texts (option_to_list found))
  split_count None = (lit≤ tt, lit≤ tt)
  split_count (Some section) = (lit≤ tt, lit≤ tt)

  pub split_footer : (found : Option (Bor (List ℕ))) → IsExpected footer (option_map (λ section. section.now) found)
      → HasFooter footer (version ∷ purpose ∷ payload ∷ texts (option_to_list found))
  split_footer None h = h
  split_footer (Some section) h = h

pub if_err : {T E : Type 0} (result : Result T E) (P Q : E → Type 0) → ((error : E) → P error → Q error) → IfErr result P → IfErr result Q
if_err (Ok _) P Q step h = tt
if_err (Err error) P Q step h = step error h

module _ (own_version own_purpose footer token version purpose payload : List ℕ) (found : Option (Bor (List ℕ)))
    (split : sections token ≡ version ∷ purpose ∷ payload ∷ texts (option_to_list found))
    (own_footer : IsExpected footer (option_map (λ section. section.now) found)) where
  -- a third section that spells nothing, behind the expected footer and header
  pub split_fault : (error : PasetoError) → (version ≡ own_version) × (purpose ≡ own_purpose) → IsSectionFault payload error
      → IsMemory error ⊎ IsFramingFault own_version own_purpose footer token error
  split_fault (Memory _) header fault = inl tt
  split_fault (PayloadBase64Decode _) header fault = inr (
    rw split (split_count version purpose payload footer found),
    rw split (split_footer version purpose payload footer found own_footer),
    rw split header,
    rw split fault,
  )
  split_fault _ header fault = absurd fault

  -- another header, behind the expected footer
  pub split_header : (same : Bool) → (IsTrue same ↔ ((version ≡ own_version) × (purpose ≡ own_purpose))) → same ≡ false
      → HasCount (sections token) × HasFooter footer (sections token) × (¬ HasHeader own_version own_purpose (sections token))
  split_header same decides other = (
    rw split (split_count version purpose payload footer found),
    rw split (split_footer version purpose payload footer found own_footer),
    rw split (λ header. let true_ = decides.1 header in cc),
  )
