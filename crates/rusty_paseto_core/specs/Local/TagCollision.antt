-- A nonce and a tag that two local tokens share.
use Rattle.std.specs.Prelude.{◌≡◌, ◌≢◌, ◌⊎◌, ◌<◌, ◌^◌, ℕ, List, [], ◌∷◌, if◌then◌else◌, Option, Some, Result, IfOk, IfErr, MatchOption, All, length, map, take, slice_get}
use Rattle.rusty_paseto_parts.specs.Error.{IsMemory}
use Rattle.rusty_paseto_parts.specs.PreAuthenticationEncoding.{pae}
use Rattle.rusty_paseto_parts.specs.declared.error.PasetoError.{PasetoError}
use Rattle.rusty_paseto_core.specs.Context.{Binding, binding_of}
use Rattle.rusty_paseto_core.specs.Local.{Design}
use Rattle.rusty_paseto_core.specs.Local.Opening.{opening}
use Rattle.rusty_paseto_core.specs.Local.Sealing.{pieces}
use Rattle.rusty_paseto_core.specs.Reading.{IsFault, IsRead}
use Rattle.rusty_paseto_core.specs.declared.local.tag_collision.Opening.{Opening}
use Rattle.rusty_paseto_core.specs.declared.local.tag_collision.TagCollision.{TagCollision}

-- ---- a token that opens

-- a token, and what it is to be opened under
pub record Case : Type 0 where
  pub token : List ℕ
  pub binding : Binding

abbrev pub case_of : {V : Type 0} → Opening V → Case
case_of asked = record { token = asked.token.now; binding = binding_of asked.key.now asked.footer asked.assertion }

-- the openings that are asked for
abbrev pub cases : {V : Type 0} → List (Opening V) → List Case
cases {V} asked = map {A = Opening V} case_of asked

-- what a token holds
pub record Content : Type 0 where
  pub nonce : List ℕ
  pub text : List ℕ

-- the token opens, and this is its content
pub record OpensTo (design : Design) (case : Case) (content : Content) : Type 0 where
  pub read : IsRead (opening design case.binding) case.token content.text
  pub nonce : read.carried.carries.nonce ≡ content.nonce

-- the token opens
abbrev pub Opens : Design → Case → Type 0
Opens design case = (content : Content) × OpensTo design case content

-- the key of its tag
abbrev pub tag_key : Design → Case → Content → List ℕ
tag_key design case content = design.authentication_key case.binding.key content.nonce

-- what its tag is made of
abbrev pub encoding : Design → Case → Content → List ℕ
encoding design case content =
    pae (pieces design case.binding content.nonce (design.apply_keystream case.binding.key content.nonce content.text))

-- its tag
abbrev pub tag : Design → Case → Content → List ℕ
tag design case content = design.tag (tag_key design case content) (encoding design case content)

-- ---- two tokens with one nonce and one tag

-- what a tag covers: the key, the text, the footer and, where the version covers it, the assertion
pub record Covered : Type 0 where
  pub key : List ℕ
  pub text : List ℕ
  pub footer : List ℕ
  pub assertion : List (List ℕ)

abbrev pub covered : Design → Case → Content → Covered
covered design case content = record {
  key = case.binding.key;
  text = content.text;
  footer = case.binding.footer;
  assertion = if design.binds_assertion then case.binding.assertion ∷ [] else [];
}

-- two tokens open and have one nonce and one tag, which covers two keys, texts, footers or assertions
pub record ShareTag (design : Design) (first second : Case) : Type 0 where
  pub one : Content
  pub other : Content
  pub first_opens : OpensTo design first one
  pub second_opens : OpensTo design second other
  pub nonce : one.nonce ≡ other.nonce
  pub tag : tag design first one ≡ tag design second other
  pub apart : covered design first one ≢ covered design second other

-- what was found is a collision: two of the openings share a tag, and these are their places, the encodings
-- of both, which fit into memory, and the tag
pub record IsCollision (design : Design) (openings : List Case) (found : TagCollision) : Type 0 where
  pub i : ℕ
  pub j : ℕ
  pub places : found.places ≡ i ∷ j ∷ []
  pub first : Case
  pub second : Case
  pub first_is : slice_get openings i ≡ Some first
  pub second_is : slice_get openings j ≡ Some second
  pub share : ShareTag design first second
  pub first_encoding : found.first ≡ encoding design first share.one
  pub second_encoding : found.second ≡ encoding design second share.other
  pub first_fits : length found.first < 2 ^ 64
  pub second_fits : length found.second < 2 ^ 64
  pub tag : found.tag.items ≡ tag design first share.one

-- no two of the openings share a tag
abbrev pub NoneShareTag : Design → List Case → Type 0
NoneShareTag design openings = All (λ first. All (λ second. ¬ ShareTag design first second) openings) openings

-- the openings before a place open, the one there does not, and the error is its first fault
pub record IsFirstFault (design : Design) (openings : List Case) (error : PasetoError) : Type 0 where
  pub place : ℕ
  pub first : Case
  pub is_there : slice_get openings place ≡ Some first
  pub before : All (Opens design) (take place openings)
  pub closed : ¬ Opens design first
  pub fault : IsFault (opening design first.binding) first.token error

-- the answer to a list of openings: a collision, or nothing where no two of them share a tag, where all
-- open, unless memory is refused; and else the fault of the first that does not open
pub record IsCollisionAnswer (design : Design) (openings : List Case) (result : Result (Option TagCollision) PasetoError) : Type 0 where
  pub opened : IfOk result (λ _. All (Opens design) openings)
  pub found : IfOk result (λ answer. MatchOption answer (NoneShareTag design openings) (IsCollision design openings))
  pub complete : All (Opens design) openings → IfErr result IsMemory
  pub fault : IfErr result (λ error. IsMemory error ⊎ IsFirstFault design openings error)

-- ---- what a collision shows

-- two keys are different and are split into one authentication key under a nonce
pub record IsSplitCollision (design : Design) (nonce first second : List ℕ) : Type 0 where
  pub apart : first ≢ second
  pub one_key : design.authentication_key first nonce ≡ design.authentication_key second nonce

-- the tag is that of two authentication keys or of two encodings
pub record IsTagOfTwo (design : Design) (key message other_key other_message : List ℕ) : Type 0 where
  pub apart : (key ≢ other_key) ⊎ (message ≢ other_message)
  pub tag : design.tag key message ≡ design.tag other_key other_message

-- each collision shows something of two authentication keys or two encodings that have one tag; or else both
-- are the same, and the two keys are split alike
abbrev pub CollisionsShow : Design → (List ℕ → List ℕ → List ℕ → List ℕ → Type 0) → Type 0
CollisionsShow design Shown = (openings : List Case) (found : TagCollision) (c : IsCollision design openings found)
    → let key = tag_key design c.first c.share.one in
    let other_key = tag_key design c.second c.share.other in
    Shown key found.first other_key found.second
    ⊎ ((key ≡ other_key) × (found.first ≡ found.second)
    × IsSplitCollision design c.share.one.nonce c.first.binding.key c.second.binding.key)
