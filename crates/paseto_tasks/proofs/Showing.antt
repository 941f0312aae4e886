-- A token that is read opens.
use Rattle.std.proofs.Common.{◌≡◌, ℕ, List, [], ◌∷◌, Bool, true, false, if◌then◌else◌, Option, None, refl, sym}
use Rattle.std.proofs.lemmas.List.Elements.{All-cons, All-nil}
use Rattle.std.specs.List.{All}
use Rattle.rusty_paseto_parts.specs.declared.texts.implicit_assertion.ImplicitAssertion.{ImplicitAssertion}
use Rattle.rusty_paseto_core.specs.Context.{Binding}
use Rattle.rusty_paseto_core.specs.Local.{Design}
use Rattle.rusty_paseto_core.specs.Local.BoxForgery.{BoxOpens}
use Rattle.rusty_paseto_core.specs.Local.Boxed.{box_opening}
use Rattle.rusty_paseto_core.specs.Local.Opening.{opening}
use Rattle.rusty_paseto_core.specs.Local.SealedBox.{BoxSealing}
use Rattle.rusty_paseto_core.specs.Local.TagCollision.{Case, Opens}
use Rattle.rusty_paseto_core.specs.Public.{PublicDesign}
use Rattle.rusty_paseto_core.specs.Public.Scheme.{Refusal, Validity}
use Rattle.rusty_paseto_core.specs.Public.SignatureForgery.{IsVerified}
use Rattle.rusty_paseto_core.specs.Public.Verifying.{verification}
use Rattle.rusty_paseto_core.specs.Reading.{IsRead}
use Rattle.paseto_tasks.specs.Shown.{case_with}

-- what holds of a token holds of each of it alone
pub alone : (P : Case → Type 0) {case : Case} → P case → All P (case ∷ [])
alone P {case} is = All-cons P case [] is (All-nil P)

pub read_opens : (design : Design) (case : Case) (text : List ℕ) → IsRead (opening design case.binding) case.token text → Opens design case
read_opens design case text read = (record { nonce = read.carried.carries.nonce; text = text }, record { read = read; nonce = refl })

pub read_box_opens : (box : BoxSealing) (case : Case) (text : List ℕ) → IsRead (box_opening box case.binding) case.token text → BoxOpens box case
read_box_opens box case text read = (record { nonce = read.carried.carries.nonce; text = text }, record { read = read; nonce = refl })

pub read_verifies : (valid : Validity) (refused : Refusal) (design : PublicDesign) (case : Case) (text : List ℕ)
    → IsRead (verification valid refused design case.binding) case.token text → IsVerified valid refused design case
read_verifies valid refused design case text read =
    (record { text = text; signature = read.carried.carries.signature }, record { read = read; signature = refl })

pub signature_alone : (valid : Validity) (refused : Refusal) (design : PublicDesign) {case : Case} → IsVerified valid refused design case
    → All (IsVerified valid refused design) (case ∷ [])
signature_alone valid refused design is = alone (IsVerified valid refused design) is

-- an assertion that is none where the version has none is the one that is asked for
asked_in : (binds : Bool) (assertion : Option ImplicitAssertion) → (binds ≡ false → assertion ≡ None) → (if binds then assertion else None) ≡ assertion
asked_in true assertion none = refl
asked_in false assertion none = sym (none refl)

pub asked_is : (design : PublicDesign) (assertion : Option ImplicitAssertion) → (design.binds_assertion ≡ false → assertion ≡ None)
    → (if design.binds_assertion then assertion else None) ≡ assertion
asked_is design assertion none = asked_in design.binds_assertion assertion none

-- ---- so what is said of tokens that open is said of those that are read

pub if_opens : {R : Type 0} (design : Design) (bound : Binding) (token text : List ℕ) → (Opens design (case_with bound token) → R)
    → IsRead (opening design bound) token text → R
if_opens design bound token text opens read = opens (read_opens design (case_with bound token) text read)

pub if_box_opens : {R : Type 0} (box : BoxSealing) (bound : Binding) (token text : List ℕ) → (BoxOpens box (case_with bound token) → R)
    → IsRead (box_opening box bound) token text → R
if_box_opens box bound token text opens read = opens (read_box_opens box (case_with bound token) text read)

pub if_verifies : {R : Type 0} (valid : Validity) (refused : Refusal) (design : PublicDesign) (bound : Binding) (token text : List ℕ)
    → (IsVerified valid refused design (case_with bound token) → R) → IsRead (verification valid refused design bound) token text → R
if_verifies valid refused design bound token text verifies read = verifies (read_verifies valid refused design (case_with bound token) text read)
