-- The framing of a payload read back: its sections, and the token from its sections.
use Rattle.std.proofs.Common.{◌≡◌, ℕ, List, [], ◌∷◌, ◌++◌, Bool, true, false, refl, sym, ap, ◌∙◌, arith, append_assoc, lit≤}
use Rattle.std.proofs.lemmas.List.{append-nil}
use Rattle.std.specs.List.{join_with_byte}
use Rattle.std.proofs.lemmas.List.Splits.{join_with_byte-slice_split}
use Rattle.rusty_paseto_primitives.specs.Bytes.{IsBytes}
use Rattle.rusty_paseto_parts.specs.Error.{IsMemory}
use Rattle.rusty_paseto_parts.specs.Section.{HasCount, base64url, sections}
use Rattle.rusty_paseto_parts.specs.declared.error.PasetoError.{PasetoError}
use Rattle.rusty_paseto_parts.specs.declared.error.PasetoError.TheVariants.{IncorrectSize, Memory, WrongHeader, FooterInvalid, PayloadBase64Decode}
use Rattle.rusty_paseto_core.specs.Framing.{IsHeader, footer_part, framing}
use Rattle.rusty_paseto_core.specs.Reading.{HasFooter, HasHeader, IsForm, IsFramed, IsFramingFault, IsThirdFault, IsThirdBase64url}
use Rattle.rusty_paseto_parts.proofs.SectionLemmas.{HasNoDot-base64url, base64url-injective, sections-dot, sections-dotless}

regroup : (version purpose section rest : List ℕ)
    → ((version ++ (46 ∷ (purpose ++ (46 ∷ [])))) ++ section) ++ rest ≡ version ++ (46 ∷ (purpose ++ (46 ∷ (section ++ rest))))
regroup version purpose section rest = simp append_assoc

pub sections-header : (version purpose header section rest : List ℕ) → IsHeader version purpose header
    → sections (header ++ section ++ rest) ≡ version ∷ purpose ∷ sections (section ++ rest)
sections-header version purpose header section rest h =
    rw (h.text, regroup version purpose section rest)
    (sections-dot version (purpose ++ (46 ∷ (section ++ rest))) h.plain_version
    ∙ ap (λ (parts : List (List ℕ)). version ∷ parts) (sections-dot purpose (section ++ rest) h.plain_purpose))

-- the sections after the payload's
abbrev pub footer_sections : Bool → List ℕ → List (List ℕ)
footer_sections true footer = base64url footer ∷ []
footer_sections false footer = []

-- the sections of a framing
pub sections-framing : (version purpose header payload : List ℕ) (written : Bool) (footer : List ℕ) → IsHeader version purpose header
    → IsBytes payload → IsBytes footer
    → sections (framing header payload written footer) ≡ version ∷ purpose ∷ base64url payload ∷ footer_sections written footer
unfolding framing footer_part
sections-framing version purpose header payload true footer h bytes footer_bytes =
    sections-header version purpose header (base64url payload) (46 ∷ base64url footer) h
    ∙ ap (λ (parts : List (List ℕ)). version ∷ purpose ∷ parts) (sections-dot (base64url payload) (base64url footer) (HasNoDot-base64url payload)
    ∙ ap (λ (parts : List (List ℕ)). base64url payload ∷ parts) (sections-dotless (base64url footer) (HasNoDot-base64url footer)))
sections-framing version purpose header payload false footer h bytes footer_bytes =
    sections-header version purpose header (base64url payload) [] h
    ∙ ap (λ (parts : List (List ℕ)). version ∷ purpose ∷ parts) (rw append-nil (sections-dotless (base64url payload) (HasNoDot-base64url payload)))

-- a framing in a form that is read is framed
pub framing-IsFramed : (version purpose header payload : List ℕ) (written : Bool) (footer : List ℕ) → IsHeader version purpose header
    → IsBytes payload → IsBytes footer → IsForm written footer
    → IsFramed version purpose footer (framing header payload written footer) payload
framing-IsFramed version purpose header payload true footer h bytes footer_bytes form =
    let e = sections-framing version purpose header payload true footer h bytes footer_bytes in
    record { count = rw e (lit≤ tt, lit≤ tt); footer = rw e refl; header = rw e (refl, refl); bytes = bytes; spells = rw e refl }
framing-IsFramed version purpose header payload false footer h bytes footer_bytes form =
    let e = sections-framing version purpose header payload false footer h bytes footer_bytes in
    record { count = rw e (lit≤ tt, lit≤ tt); footer = rw e form; header = rw e (refl, refl); bytes = bytes; spells = rw e refl }

-- sections without a fault, joined by dots, are the framing of their payload
joined : (version purpose header payload footer : List ℕ) (parts : List (List ℕ)) → header ≡ version ++ (46 ∷ (purpose ++ (46 ∷ [])))
    → HasCount parts → HasFooter footer parts → HasHeader version purpose parts → IsThirdBase64url payload parts
    → (written : Bool) × IsForm written footer × (join_with_byte 46 parts ≡ framing header payload written footer)
unfolding framing footer_part
joined version purpose header payload footer [] text count own_footer own_header spells = absurd (omega (arith, count.0))
joined version purpose header payload footer (a ∷ []) text count own_footer own_header spells = absurd (omega (arith, count.0))
joined version purpose header payload footer (a ∷ b ∷ []) text count own_footer own_header spells = absurd (omega (arith, count.0))
joined version purpose header payload footer (a ∷ b ∷ c ∷ []) text count own_footer own_header spells = (
  false,
  own_footer,
  rw (own_header.0, own_header.1, spells, text, regroup version purpose (base64url payload) [], append-nil) refl,
)
joined version purpose header payload footer (a ∷ b ∷ c ∷ d ∷ []) text count own_footer own_header spells = (
  true,
  tt,
  rw (own_header.0, own_header.1, spells, own_footer, text, regroup version purpose (base64url payload) (46 ∷ base64url footer)) refl,
)
joined version purpose header payload footer (a ∷ b ∷ c ∷ d ∷ e ∷ parts) text count own_footer own_header spells =
    absurd (omega (arith, count.1))

join-sections : (token : List ℕ) → join_with_byte 46 (sections token) ≡ token
unfolding sections
join-sections token = join_with_byte-slice_split 46 token

-- what is framed is a framing, in a form that is read
pub IsFramed-framing : (version purpose header footer token payload : List ℕ) → header ≡ version ++ (46 ∷ (purpose ++ (46 ∷ [])))
    → IsFramed version purpose footer token payload
    → (written : Bool) × IsForm written footer × (token ≡ framing header payload written footer)
IsFramed-framing version purpose header footer token payload text f =
    let j = joined version purpose header payload footer (sections token) text f.count f.footer f.header f.spells in
    (j.0, j.1, sym (join-sections token) ∙ j.2)

same_base64url : (a b : List ℕ) (parts : List (List ℕ)) → IsThirdBase64url a parts → IsThirdBase64url b parts → base64url a ≡ base64url b
same_base64url a b [] ha hb = absurd ha
same_base64url a b (_ ∷ []) ha hb = absurd ha
same_base64url a b (_ ∷ _ ∷ []) ha hb = absurd ha
same_base64url a b (_ ∷ _ ∷ section ∷ _) ha hb = sym ha ∙ hb

-- a token has one payload
pub IsFramed-payload : (version purpose footer token a b : List ℕ) → IsFramed version purpose footer token a → IsFramed version purpose footer token b
    → a ≡ b
IsFramed-payload version purpose footer token a b fa fb =
    base64url-injective a b fa.bytes fb.bytes (same_base64url a b (sections token) fa.spells fb.spells)

third_is_base64url : (payload : List ℕ) (error : PasetoError) (parts : List (List ℕ)) → IsBytes payload → IsThirdBase64url payload parts
    → ¬ IsMemory error → IsThirdFault parts error → ⊥
third_is_base64url payload error [] bytes spells own fault = fault
third_is_base64url payload error (_ ∷ []) bytes spells own fault = fault
third_is_base64url payload error (_ ∷ _ ∷ []) bytes spells own fault = fault
third_is_base64url payload (Memory _) (_ ∷ _ ∷ section ∷ _) bytes spells own fault = own tt
third_is_base64url payload (PayloadBase64Decode _) (_ ∷ _ ∷ section ∷ _) bytes spells own fault = fault.0 payload bytes spells
third_is_base64url payload _ (_ ∷ _ ∷ section ∷ _) bytes spells own fault = fault

-- what is framed has no fault of the framing
pub IsFramed-fault : (version purpose footer token payload : List ℕ) (error : PasetoError) → IsFramed version purpose footer token payload
    → IsFramingFault version purpose footer token error → ⊥
IsFramed-fault version purpose footer token payload IncorrectSize f h = h f.count
IsFramed-fault version purpose footer token payload FooterInvalid f h = h.1 f.footer
IsFramed-fault version purpose footer token payload WrongHeader f h = h.2 f.header
IsFramed-fault version purpose footer token payload (PayloadBase64Decode source) f h =
    third_is_base64url payload (PayloadBase64Decode source) (sections token) f.bytes f.spells (λ memory. memory) h.3
IsFramed-fault version purpose footer token payload _ f h = h
