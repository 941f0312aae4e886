-- What a local token of version 2 shows that opens and that was never issued: a sealing by the box that no issued token has.
use Rattle.std.specs.Prelude.{◌≡◌, ◌≢◌, ◌⊎◌, ℕ, ◌<◌, ◌^◌, List, ◌∷◌, Option, Some, None, Result, IfOk, IfErr, MatchOption, All, length, map, take, slice_get}
use Rattle.rusty_paseto_primitives.specs.Bytes.{IsBytes}
use Rattle.rusty_paseto_parts.specs.Error.{IsMemory}
use Rattle.rusty_paseto_parts.specs.declared.error.PasetoError.{PasetoError}
use Rattle.rusty_paseto_core.specs.Context.{binding_of}
use Rattle.rusty_paseto_core.specs.Framing.{SameUpToDot}
use Rattle.rusty_paseto_core.specs.Local.Boxed.{associated, box_in, box_of, box_opening, nonce_in}
use Rattle.rusty_paseto_core.specs.Local.SealedBox.{BoxSealing}
use Rattle.rusty_paseto_core.specs.Local.TagCollision.{Case, Content}
use Rattle.rusty_paseto_core.specs.Reading.{IsFault, IsRead}
use Rattle.rusty_paseto_core.specs.declared.local.box_forgery.BoxForgery.{BoxForgery}
use Rattle.rusty_paseto_core.specs.declared.local.tag_collision.Opening.{Opening}

-- ---- what is asked

-- a token, and what it is opened under: version 2 has no assertion
abbrev pub box_case : {V : Type 0} → Opening V → Case
box_case asked = record { token = asked.token.now; binding = binding_of asked.key.now asked.footer None }

abbrev pub box_cases : {V : Type 0} → List (Opening V) → List Case
box_cases {V} asked = map {A = Opening V} box_case asked

module _ (box : BoxSealing) where
  -- the token opens, and this is its content
  pub record BoxOpensTo (case : Case) (content : Content) : Type 0 where
    pub read : IsRead (box_opening box case.binding) case.token content.text
    pub nonce : read.carried.carries.nonce ≡ content.nonce

  -- the token opens
  abbrev pub BoxOpens : Case → Type 0
  BoxOpens case = (content : Content) × BoxOpensTo case content

  -- the token does not open, and the error is its first fault, unless it is a failed allocation
  abbrev pub IsBoxUnopened : Case → PasetoError → Type 0
  IsBoxUnopened case error = IsMemory error ⊎ ((¬ BoxOpens case) × IsFault (box_opening box case.binding) case.token error)

  -- the tokens before a place open, the one there does not, and the error is its first fault
  pub record IsFirstBoxFault (tokens : List Case) (error : PasetoError) : Type 0 where
    pub place : ℕ
    pub first : Case
    pub is_there : slice_get tokens place ≡ Some first
    pub before : All BoxOpens (take place tokens)
    pub closed : ¬ BoxOpens first
    pub fault : IsFault (box_opening box first.binding) first.token error

  -- ---- a token that was issued

  -- the token is a spelling of another: both open to one text under one key, nonce and footer, and they are one text up to
  -- the dot before the section of an empty footer
  pub record IsBoxSpelling (made case : Case) : Type 0 where
    pub content : Content
    pub made_opens : BoxOpensTo made content
    pub opens : BoxOpensTo case content
    pub keys : made.binding.key ≡ case.binding.key
    pub footers : made.binding.footer ≡ case.binding.footer
    pub spelled : SameUpToDot case.binding.footer made.token case.token

  -- the token is a spelling of one of those that were issued
  pub record IsBoxIssued (issued : List Case) (case : Case) : Type 0 where
    pub place : ℕ
    pub one : Case
    pub is_there : slice_get issued place ≡ Some one
    pub spelling : IsBoxSpelling one case

  -- ---- a forgery

  -- the token opens, and it is not this sealing with this data under this key
  pub record IsFreshBox (key encoding sealing : List ℕ) (one : Case) : Type 0 where
    pub opens : BoxOpens one
    pub apart : (p : BoxOpens one) → one.binding.key ≡ key → associated p.0.nonce one.binding.footer ≡ encoding
        → box_of box one.binding p.0.nonce p.0.text ≢ Some sealing

  -- what was found is a forgery: it is the box's sealing of a message with its nonce and its data under the token's key, and
  -- no token that was issued under that key is this sealing with this data, which begins with the nonce
  pub record IsBoxForgery (issued : List Case) (case : Case) (found : BoxForgery) : Type 0 where
    pub content : Content
    pub opens : BoxOpensTo case content
    pub nonce : found.nonce ≡ content.nonce
    pub encoding : found.encoding ≡ associated content.nonce case.binding.footer
    pub fits : length found.encoding < 2 ^ 64
    pub sealing : box case.binding.key found.nonce found.encoding content.text ≡ Some found.sealing.items
    pub fresh : All (IsFreshBox case.binding.key found.encoding found.sealing.items) issued

  -- the answer for a token and those that were issued, as for the other versions
  pub record IsBoxForgeryAnswer (issued : List Case) (case : Case) (result : Result (Option BoxForgery) PasetoError) : Type 0 where
    pub found : IfOk result (λ answer. MatchOption answer (IsBoxIssued issued case) (IsBoxForgery issued case))
    pub complete : All BoxOpens (case ∷ issued) → IfErr result IsMemory
    pub fault : IfErr result (λ error. IsMemory error ⊎ IsFirstBoxFault (case ∷ issued) error)

  -- what is a forgery is no spelling of a token that was issued
  abbrev pub BoxForgeriesAreNew : Type 0
  BoxForgeriesAreNew = (issued : List Case) (case : Case) (found : BoxForgery) → length case.binding.key ≡ 32
      → IsBytes case.binding.key → IsBytes case.binding.footer → IsBoxForgery issued case found → ¬ IsBoxIssued issued case

  -- ---- what is kept of a token that was opened

  -- the payload is that of the token, whose only content is its nonce and a text of which it holds the sealing
  pub record IsBoxOpened (case : Case) (payload : List ℕ) : Type 0 where
    pub key_size : length case.binding.key ≡ 32
    pub key_bytes : IsBytes case.binding.key
    pub footer_bytes : IsBytes case.binding.footer
    pub text : List ℕ
    pub read : IsRead (box_opening box case.binding) case.token text
    pub nonce : read.carried.carries.nonce ≡ nonce_in payload
    pub payload_is : read.payload ≡ payload
    pub sealing : box_of box case.binding (nonce_in payload) text ≡ Some (box_in payload)
    pub alone : (content : Content) → BoxOpensTo case content → content ≡ record { nonce = nonce_in payload; text = text }
