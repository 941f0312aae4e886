-- What a local token shows that opens and that was never issued: a tag of an encoding that no issued token has.
use Rattle.std.specs.Prelude.{◌≡◌, ◌≢◌, ◌⊎◌, ℕ, ◌<◌, ◌^◌, List, ◌∷◌, Option, Some, Result, IfOk, IfErr, MatchOption, All, length, slice_get}
use Rattle.rusty_paseto_primitives.specs.Bytes.{IsBytes}
use Rattle.rusty_paseto_parts.specs.Error.{IsMemory}
use Rattle.rusty_paseto_parts.specs.declared.error.PasetoError.{PasetoError}
use Rattle.rusty_paseto_core.specs.Framing.{SameUpToDot}
use Rattle.rusty_paseto_core.specs.Local.{Design}
use Rattle.rusty_paseto_core.specs.Local.TagCollision.{Case, Content, IsFirstFault, IsSplitCollision, Opens, OpensTo, covered, encoding, tag_key}
use Rattle.rusty_paseto_core.specs.declared.local.forgery.TagForgery.{TagForgery}

-- ---- a token that was issued

-- the token is a spelling of another: both open to one text under one key, nonce, footer and, where the version covers it,
-- assertion, and they are one text up to the dot before the section of an empty footer
pub record IsSpelling (design : Design) (made case : Case) : Type 0 where
  pub content : Content
  pub made_opens : OpensTo design made content
  pub opens : OpensTo design case content
  pub alike : covered design made content ≡ covered design case content
  pub spelled : SameUpToDot case.binding.footer made.token case.token

-- the token is a spelling of one of those that were issued
pub record IsIssued (design : Design) (issued : List Case) (case : Case) : Type 0 where
  pub place : ℕ
  pub one : Case
  pub is_there : slice_get issued place ≡ Some one
  pub spelling : IsSpelling design one case

-- ---- a forgery

-- the token opens, and its tag does not cover this encoding under this key
pub record IsFresh (design : Design) (key message : List ℕ) (one : Case) : Type 0 where
  pub opens : Opens design one
  pub apart : (p : Opens design one) → one.binding.key ≡ key → encoding design one p.0 ≢ message

-- what was found is a forgery: its tag is that of its message under the authentication key of the token's key and of its
-- nonce, and no token that was issued under that key has a tag of this message
pub record IsForgery (design : Design) (issued : List Case) (case : Case) (found : TagForgery) : Type 0 where
  pub content : Content
  pub opens : OpensTo design case content
  pub nonce : found.nonce ≡ content.nonce
  pub message : found.message ≡ encoding design case content
  pub fits : length found.message < 2 ^ 64
  pub tag : found.tag.items ≡ design.tag (design.authentication_key case.binding.key found.nonce) found.message
  pub fresh : All (IsFresh design case.binding.key found.message) issued

-- the answer for a token and those that were issued: a forgery, or nothing where the token is a spelling of one that was
-- issued, if all open, unless memory is refused; and else the fault of the first that does not open, the token first. A
-- spelling is found even if one that was issued after it does not open
pub record IsForgeryAnswer (design : Design) (issued : List Case) (case : Case) (result : Result (Option TagForgery) PasetoError) : Type 0 where
  pub found : IfOk result (λ answer. MatchOption answer (IsIssued design issued case) (IsForgery design issued case))
  pub complete : All (Opens design) (case ∷ issued) → IfErr result IsMemory
  pub fault : IfErr result (λ error. IsMemory error ⊎ IsFirstFault design (case ∷ issued) error)

-- ---- laws

-- what is a forgery is no spelling of a token that was issued
abbrev pub ForgeriesAreNew : Design → Type 0
ForgeriesAreNew design = (issued : List Case) (case : Case) (found : TagForgery) → IsBytes case.binding.footer
    → IsForgery design issued case found → ¬ IsIssued design issued case

-- no token that was issued under whatever key has a tag of the message under the same authentication key, unless it shows
-- two keys that are split into one authentication key
abbrev pub ForgeriesAreTags : Design → Type 0
ForgeriesAreTags design = (issued : List Case) (case : Case) (found : TagForgery) (f : IsForgery design issued case found)
    → All (λ one. (p : Opens design one)
    → tag_key design one p.0 ≡ tag_key design case f.content → encoding design one p.0 ≡ found.message
    → IsSplitCollision design f.content.nonce one.binding.key case.binding.key) issued
