-- Laws of sealing and opening, and of signing and verifying.
use Rattle.std.specs.Prelude.{◌≡◌, ◌≢◌, ℕ, Bool, true, false, List, [], Option, Some, None, IsUtf8, length}
pub use Rattle.rusty_paseto_primitives.specs.Bytes.{IsBytes}
use Rattle.rusty_paseto_parts.specs.Footer.{footer_text}
use Rattle.rusty_paseto_parts.specs.ImplicitAssertion.{assertion_text}
use Rattle.rusty_paseto_parts.specs.declared.texts.footer.Footer.{Footer}
use Rattle.rusty_paseto_parts.specs.declared.texts.implicit_assertion.ImplicitAssertion.{ImplicitAssertion}
use Rattle.rusty_paseto_core.specs.Context.{Binding, binding_of}
use Rattle.rusty_paseto_core.specs.Local.{Design, IsNonce}
use Rattle.rusty_paseto_core.specs.Local.Boxed.{box_opening, boxed_sealing, token_nonce}
use Rattle.rusty_paseto_core.specs.Local.Opening.{opening}
use Rattle.rusty_paseto_core.specs.Local.SealedBox.{BoxSealing, IsLawfulBox}
use Rattle.rusty_paseto_core.specs.Local.Sealing.{sealing}
use Rattle.rusty_paseto_core.specs.Public.{PublicDesign}
use Rattle.rusty_paseto_core.specs.Public.Scheme.{Refusal, Validity}
use Rattle.rusty_paseto_core.specs.Public.Signing.{IsSigning}
use Rattle.rusty_paseto_core.specs.Public.Verifying.{verification}
use Rattle.rusty_paseto_core.specs.Reading.{IsForm, IsRead, Reading}

-- bytes that are a text
pub record IsText (text : List ℕ) : Type 0 where
  pub utf8 : IsUtf8 text
  pub bytes : IsBytes text

-- what is sealed with a seed opens to its text, in each form that the footer allows
abbrev pub SealingsOpen : Design → Type 0
SealingsOpen design = (binding : Binding) (seed text : List ℕ) (written : Bool) → IsNonce seed → IsText text
    → IsForm written binding.footer
    → IsRead (opening design binding) (sealing design binding (design.token_nonce seed text) written text) text

-- the tokens that open to a text under one key, token nonce, footer and assertion are its forms that the footer
-- allows: that with the footer's section, and for the empty footer that without one too
pub record HasItsForms (design : Design) (binding : Binding) (nonce text : List ℕ) : Type 0 where
  pub each : (written : Bool) → IsForm written binding.footer
      → IsRead (opening design binding) (sealing design binding nonce written text) text
  pub apart : sealing design binding nonce true text ≢ sealing design binding nonce false text
  pub no_other : (token : List ℕ) (read : IsRead (opening design binding) token text) → read.carried.carries.nonce ≡ nonce
      → (written : Bool) × IsForm written binding.footer × (token ≡ sealing design binding nonce written text)

-- each text has its forms under a nonce
abbrev pub TextsHaveTheirForms : Design → Type 0
TextsHaveTheirForms design = (binding : Binding) (nonce text : List ℕ) → IsNonce nonce → IsText text
    → HasItsForms design binding nonce text

-- what a box sealed with a seed opens to its text, in each form that the footer allows
abbrev pub BoxedSealingsOpen : Type 0
BoxedSealingsOpen = (box : BoxSealing) (binding : Binding) (seed text : List ℕ) (written : Bool) (token : List ℕ)
    → IsText text → IsForm written binding.footer
    → boxed_sealing box binding (token_nonce seed text) written text ≡ Some token
    → IsRead (box_opening box binding) token text

-- what was signed is validly signed for the same public key, in each form that the footer allows
abbrev pub SigningsVerify : Validity → Refusal → PublicDesign → Type 0
SigningsVerify valid refused design = (binding : Binding) (text token : List ℕ) (written : Bool) → IsText text
    → IsForm written binding.footer → IsSigning valid design binding written text token
    → IsRead (verification valid refused design binding) token text

-- a token is read as one text
abbrev pub HoldOneText : Reading → Type 0
HoldOneText reading = (token first second : List ℕ) → IsRead reading token first → IsRead reading token second → first ≡ second

-- a token is opened as one text
abbrev pub SealingsHoldOneText : Design → Type 0
SealingsHoldOneText design = (binding : Binding) → IsBytes binding.footer → HoldOneText (opening design binding)

-- a token is opened by a box as one text
abbrev pub BoxesHoldOneText : Type 0
BoxesHoldOneText = (box : BoxSealing) → IsLawfulBox box → (binding : Binding) → length binding.key ≡ 32 → IsBytes binding.key
    → IsBytes binding.footer → HoldOneText (box_opening box binding)

-- a token is verified as one text
abbrev pub SignaturesHoldOneText : Validity → Refusal → PublicDesign → Type 0
SignaturesHoldOneText valid refused design = (binding : Binding) → IsBytes binding.footer
    → HoldOneText (verification valid refused design binding)

-- a token is bound to an empty footer as to an absent one
abbrev pub EmptyFooterIsAbsent : Type 0
EmptyFooterIsAbsent = (key : List ℕ) (footer : Footer) (assertion : Option ImplicitAssertion) → footer_text footer ≡ []
    → binding_of key (Some footer) assertion ≡ binding_of key None assertion

-- a token is bound to an empty implicit assertion as to an absent one
abbrev pub EmptyAssertionIsAbsent : Type 0
EmptyAssertionIsAbsent = (key : List ℕ) (footer : Option Footer) (assertion : ImplicitAssertion) → assertion_text assertion ≡ []
    → binding_of key footer (Some assertion) ≡ binding_of key footer None
