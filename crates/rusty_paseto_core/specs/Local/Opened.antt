-- What is kept of tokens that were opened, until two of them are found that share a tag.
use Rattle.std.specs.Prelude.{◌≡◌, ◌≢◌, ◌⊎◌, ◌≤◌, ℕ, List, All, Option, Some, None, map, take, drop, length, slice_get}
use Rattle.std.specs.String.{string_bytes}
use Rattle.rusty_paseto_parts.specs.Error.{IsMemory}
use Rattle.rusty_paseto_parts.specs.declared.error.PasetoError.{PasetoError}
use Rattle.rusty_paseto_core.specs.Local.{Design}
use Rattle.rusty_paseto_core.specs.Local.Opening.{opening}
use Rattle.rusty_paseto_core.specs.Local.TagCollision.{Case, Content, Opens, OpensTo, Covered, case_of, tag, covered}
use Rattle.rusty_paseto_core.specs.Reading.{IsFault}
use Rattle.rusty_paseto_core.specs.declared.local.tag_collision.Opened.{Opened}

-- the token does not open, and the error is its first fault, unless it is a failed allocation
abbrev pub IsUnopened : Design → Case → PasetoError → Type 0
IsUnopened design case error = IsMemory error ⊎ ((¬ Opens design case) × IsFault (opening design case.binding) case.token error)

module _ {V : Type 0} where
  -- what was opened
  abbrev pub case_in : Opened V → Case
  case_in kept = case_of kept.opening

  -- the nonce, and the tag behind it
  abbrev pub nonce_and_tag_in : Opened V → List ℕ
  nonce_and_tag_in kept = kept.nonce_and_tag.items

  -- the nonce and the text
  abbrev pub content_in : Opened V → Content
  content_in kept = record { nonce = take 32 (nonce_and_tag_in kept); text = string_bytes kept.text }

  abbrev pub tag_in : Opened V → List ℕ
  tag_in kept = drop 32 (nonce_and_tag_in kept)

  abbrev pub covered_in : Design → Opened V → Covered
  covered_in design kept = covered design (case_in kept) (content_in kept)

-- what is kept of a token is its nonce, its tag and its text, and it has no other content
pub record IsOpened {V : Type 0} (design : Design) (kept : Opened V) : Type 0 where
  pub room : 32 ≤ length (nonce_and_tag_in kept)
  pub opens : OpensTo design (case_in kept) (content_in kept)
  pub tag : tag_in kept ≡ tag design (case_in kept) (content_in kept)
  pub alone : (content : Content) → OpensTo design (case_in kept) content → content ≡ content_in kept

-- what is kept is that of these openings, in their order
pub record AreOpened {V : Type 0} (design : Design) (openings : List Case) (kept : List (Opened V)) : Type 0 where
  pub cases : map case_in kept ≡ openings
  pub each : All (IsOpened design) kept

-- the tags of any two that have one nonce and tag cover the same
abbrev pub CoverTheSame : {V : Type 0} → Design → List (Opened V) → Type 0
CoverTheSame design kept =
    All (λ first. All (λ second. nonce_and_tag_in first ≡ nonce_and_tag_in second → covered_in design first ≡ covered_in design second) kept) kept

-- the tokens at two places have one nonce and tag, which covers two keys, texts, footers or assertions
pub record IsPair {V : Type 0} (design : Design) (kept : List (Opened V)) (i j : ℕ) : Type 0 where
  pub first : Opened V
  pub second : Opened V
  pub first_is : slice_get kept i ≡ Some first
  pub second_is : slice_get kept j ≡ Some second
  pub nonce_and_tag : nonce_and_tag_in first ≡ nonce_and_tag_in second
  pub apart : covered_in design first ≢ covered_in design second

-- a pair, or none where there is none
abbrev pub IsPairIn : {V : Type 0} → Design → List (Opened V) → Option (ℕ × ℕ) → Type 0
IsPairIn design kept (Some pair) = IsPair design kept pair.0 pair.1
IsPairIn design kept None = CoverTheSame design kept
