-- What a public token shows that verifies and that was never issued: a message and a valid signature that no issued token
-- has together.
use Rattle.std.specs.Prelude.{◌≡◌, ◌≢◌, ◌⊎◌, ℕ, ◌<◌, ◌^◌, List, ◌∷◌, if◌then◌else◌, Option, Some, None, Result, IfOk, IfErr, MatchOption, All, length, map, take, slice_get}
use Rattle.rusty_paseto_primitives.specs.Bytes.{IsBytes}
use Rattle.rusty_paseto_parts.specs.Error.{IsMemory}
use Rattle.rusty_paseto_parts.specs.declared.error.PasetoError.{PasetoError}
use Rattle.rusty_paseto_core.specs.Context.{binding_of}
use Rattle.rusty_paseto_core.specs.Framing.{SameUpToDot}
use Rattle.rusty_paseto_core.specs.Local.TagCollision.{Case}
use Rattle.rusty_paseto_core.specs.Public.{PublicDesign, message}
use Rattle.rusty_paseto_core.specs.Public.Scheme.{Refusal, Validity}
use Rattle.rusty_paseto_core.specs.Public.Verifying.{verification}
use Rattle.rusty_paseto_core.specs.Reading.{IsFault, IsRead}
use Rattle.rusty_paseto_core.specs.declared.public.signature_forgery.SignatureForgery.{SignatureForgery}
use Rattle.rusty_paseto_core.specs.declared.public.signature_forgery.SignedToken.{SignedToken}

-- ---- what is asked

-- a token, and what it is verified under: a version without assertions has none
abbrev pub signed_case : PublicDesign → List ℕ → SignedToken → Case
signed_case design key asked = record {
  token = asked.token.now;
  binding = binding_of key asked.footer (if design.binds_assertion then asked.assertion else None);
}

abbrev pub signed_cases : PublicDesign → List ℕ → List SignedToken → List Case
signed_cases design key asked = map (signed_case design key) asked

-- what a token holds
pub record SignedContent : Type 0 where
  pub text : List ℕ
  pub signature : List ℕ

module _ (valid : Validity) (refused : Refusal) (design : PublicDesign) where
  -- the token verifies, and this is its content
  pub record VerifiesTo (case : Case) (content : SignedContent) : Type 0 where
    pub read : IsRead (verification valid refused design case.binding) case.token content.text
    pub signature : read.carried.carries.signature ≡ content.signature

  -- the token verifies
  abbrev pub IsVerified : Case → Type 0
  IsVerified case = (content : SignedContent) × VerifiesTo case content

  -- the token does not verify, and the error is its first fault, unless it is a failed allocation
  abbrev pub IsUnverified : Case → PasetoError → Type 0
  IsUnverified case error = IsMemory error ⊎ ((¬ IsVerified case) × IsFault (verification valid refused design case.binding) case.token error)

  -- the tokens before a place verify, the one there does not, and the error is its first fault
  pub record IsFirstUnverified (tokens : List Case) (error : PasetoError) : Type 0 where
    pub place : ℕ
    pub first : Case
    pub is_there : slice_get tokens place ≡ Some first
    pub before : All IsVerified (take place tokens)
    pub closed : ¬ IsVerified first
    pub fault : IsFault (verification valid refused design first.binding) first.token error

  -- ---- a token that was issued

  -- the token is a spelling of another: both hold one text and one signature of one message, and they are one text up to
  -- the dot before the section of an empty footer
  pub record IsSignedSpelling (made case : Case) : Type 0 where
    pub content : SignedContent
    pub made_verifies : VerifiesTo made content
    pub verifies : VerifiesTo case content
    pub messages : message design made.binding content.text ≡ message design case.binding content.text
    pub spelled : SameUpToDot case.binding.footer made.token case.token

  -- the token is a spelling of one of those that were issued
  pub record IsSignedIssued (issued : List Case) (case : Case) : Type 0 where
    pub place : ℕ
    pub one : Case
    pub is_there : slice_get issued place ≡ Some one
    pub spelling : IsSignedSpelling one case

  -- ---- a forgery

  -- the token verifies, and does not have this signature of this message
  pub record IsFreshlySigned (signed signature : List ℕ) (one : Case) : Type 0 where
    pub verifies : IsVerified one
    pub apart : (p : IsVerified one) → message design one.binding p.0.text ≡ signed → p.0.signature ≢ signature

  -- what was found is a forgery: a message and a valid signature of it, and each token that was issued has another message,
  -- or another signature
  pub record IsSignatureForgery (issued : List Case) (case : Case) (found : SignatureForgery) : Type 0 where
    pub content : SignedContent
    pub verifies : VerifiesTo case content
    pub message : found.message ≡ message design case.binding content.text
    pub fits : length found.message < 2 ^ 64
    pub signature : found.signature.items ≡ content.signature
    pub is_valid : valid case.binding.key found.message found.signature.items
    pub fresh : All (IsFreshlySigned found.message found.signature.items) issued

  -- the answer for a token and those that were issued, as for local tokens
  pub record IsSignatureAnswer (issued : List Case) (case : Case) (result : Result (Option SignatureForgery) PasetoError) : Type 0 where
    pub found : IfOk result (λ answer. MatchOption answer (IsSignedIssued issued case) (IsSignatureForgery issued case))
    pub complete : All IsVerified (case ∷ issued) → IfErr result IsMemory
    pub fault : IfErr result (λ error. IsMemory error ⊎ IsFirstUnverified (case ∷ issued) error)

  -- what is a forgery is no spelling of a token that was issued
  abbrev pub SignatureForgeriesAreNew : Type 0
  SignatureForgeriesAreNew = (issued : List Case) (case : Case) (found : SignatureForgery) → IsBytes case.binding.footer
      → IsSignatureForgery issued case found → ¬ IsSignedIssued issued case

  -- what a token shows: its message and its signature, of its only content
  pub record IsSigned (case : Case) (made : SignatureForgery) : Type 0 where
    pub content : SignedContent
    pub verifies : VerifiesTo case content
    pub message : made.message ≡ message design case.binding content.text
    pub fits : length made.message < 2 ^ 64
    pub signature : made.signature.items ≡ content.signature
    pub alone : (other : SignedContent) → VerifiesTo case other → other ≡ content
