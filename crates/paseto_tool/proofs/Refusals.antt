-- Words that are refused, and what is written for those that are not.
use Rattle.std.proofs.Common.{◌≡◌, ℕ, List, ◌⊎◌, inl, inr, Option, None, Some, IfSome, Result, Ok, Err, IfOk, IfErr, OnOk, OnErr, is_ok, refl, subst}
use Rattle.std.specs.Io.KnownBytes.{Appends}
use Rattle.paseto_tool.specs.declared.error.ToolError.{ToolError}
use Rattle.paseto_tool.specs.declared.error.ToolError.TheVariants.{Usage, Refused, InputOrOutput, Memory}
use Rattle.paseto_tool.specs.Error.{status_of}
use Rattle.paseto_tool.specs.declared.version.Version.{Version}
use Rattle.paseto_tool.specs.Version.{design_of}
use Rattle.paseto_tool.specs.Arguments.{IsDigits}
use Rattle.paseto_tool.specs.Arguments.{AsksToInspect, AsksToSeal, AsksToOpen, IsUsageFault}
use Rattle.paseto_streams.specs.Output.{IsCutShort}
use Rattle.paseto_tool.specs.Inspect.{Inspects, IsInspectionReason}
use Rattle.paseto_tool.specs.Seal.{IsSealingReason}
use Rattle.paseto_tool.specs.Open.{IsOpeningReason}
use Rattle.paseto_tool.specs.Run.{Prints, PrintsNothing, HasBadKey, bad_key, bad_nonce, bad_opening_key, IsReason, inspection, sealing, opening, Writes}
use Rattle.paseto_tool.proofs.WordLemmas.{AsksToSeal-open, AsksToSeal-key, AsksToOpen-key}

-- words with a bad key are no fault of usage
pub HasBadKey-usage : (words : List (List ℕ)) → HasBadKey words → IsUsageFault words → ⊥
HasBadKey-usage words (bad_key version key nonce footer assertion asks h) fault = fault.no_seal version key nonce footer assertion asks
HasBadKey-usage words (bad_nonce version key nonce footer assertion asks h) fault = fault.no_seal version key nonce footer assertion asks
HasBadKey-usage words (bad_opening_key version key footer assertion asks h) fault = fault.no_open version key footer assertion asks

pub HasBadKey-seal : (words : List (List ℕ)) (version : Version) (key nonce : List ℕ) (footer assertion : Option (List ℕ))
    → HasBadKey words → AsksToSeal words version key nonce footer assertion → (¬ IsDigits key) ⊎ (¬ IsDigits nonce)
HasBadKey-seal words version key nonce footer assertion (bad_key version2 key2 nonce2 footer2 assertion2 asks2 h) asks =
    inl (subst (λ (k : List ℕ). ¬ IsDigits k) (AsksToSeal-key words version2 key2 nonce2 footer2 assertion2 version key nonce footer assertion asks2 asks).0 h)
HasBadKey-seal words version key nonce footer assertion (bad_nonce version2 key2 nonce2 footer2 assertion2 asks2 h) asks =
    inr (subst (λ (k : List ℕ). ¬ IsDigits k) (AsksToSeal-key words version2 key2 nonce2 footer2 assertion2 version key nonce footer assertion asks2 asks).1 h)
HasBadKey-seal words version key nonce footer assertion (bad_opening_key version2 key2 footer2 assertion2 asks2 h) asks =
    absurd (AsksToSeal-open words version key nonce footer assertion version2 key2 footer2 assertion2 asks asks2)

pub HasBadKey-open : (words : List (List ℕ)) (version : Version) (key : List ℕ) (footer assertion : Option (List ℕ))
    → HasBadKey words → AsksToOpen words version key footer assertion → ¬ IsDigits key
HasBadKey-open words version key footer assertion (bad_key version2 key2 nonce2 footer2 assertion2 asks2 h) asks =
    absurd (AsksToSeal-open words version2 key2 nonce2 footer2 assertion2 version key footer assertion asks2 asks)
HasBadKey-open words version key footer assertion (bad_nonce version2 key2 nonce2 footer2 assertion2 asks2 h) asks =
    absurd (AsksToSeal-open words version2 key2 nonce2 footer2 assertion2 version key footer assertion asks2 asks)
HasBadKey-open words version key footer assertion (bad_opening_key version2 key2 footer2 assertion2 asks2 h) asks =
    subst (λ (k : List ℕ). ¬ IsDigits k) (AsksToOpen-key words version2 key2 footer2 assertion2 version key footer assertion asks2 asks) h

-- a reason not to seal, or not to open, is one to print nothing
sealing_reason : (words : List (List ℕ)) (version : Version) (key nonce : List ℕ) (footer assertion : Option (List ℕ)) (bytes : List ℕ) (error : ToolError)
    → AsksToSeal words version key nonce footer assertion → IsSealingReason key nonce bytes error → IsReason words bytes error
sealing_reason words version key nonce footer assertion bytes Usage asks h = absurd h
sealing_reason words version key nonce footer assertion bytes (Refused error) asks h = sealing version key nonce footer assertion asks h
sealing_reason words version key nonce footer assertion bytes InputOrOutput asks h = tt
sealing_reason words version key nonce footer assertion bytes (Memory source) asks h = tt

opening_reason : (words : List (List ℕ)) (version : Version) (key : List ℕ) (footer assertion : Option (List ℕ)) (bytes : List ℕ) (error : ToolError)
    → AsksToOpen words version key footer assertion → IsOpeningReason (design_of version) key footer assertion bytes error → IsReason words bytes error
opening_reason words version key footer assertion bytes Usage asks h = absurd h
opening_reason words version key footer assertion bytes (Refused error) asks h = opening version key footer assertion asks h
opening_reason words version key footer assertion bytes InputOrOutput asks h = tt
opening_reason words version key footer assertion bytes (Memory source) asks h = tt

pub IsReason-seal : {T : Type 0} (result : Result T ToolError) (known : Option (List ℕ)) (words : List (List ℕ)) (version : Version) (key nonce : List ℕ) (footer assertion : Option (List ℕ))
    → AsksToSeal words version key nonce footer assertion → IfErr result (λ error. IfSome known (λ bytes. IsSealingReason key nonce bytes error))
    → IfErr result (λ error. IfSome known (λ bytes. IsReason words bytes error))
IsReason-seal (Ok x) known words version key nonce footer assertion asks h = tt
IsReason-seal (Err error) None words version key nonce footer assertion asks h = tt
IsReason-seal (Err error) (Some bytes) words version key nonce footer assertion asks h = sealing_reason words version key nonce footer assertion bytes error asks h

pub IsReason-open : {T : Type 0} (result : Result T ToolError) (known : Option (List ℕ)) (words : List (List ℕ)) (version : Version) (key : List ℕ) (footer assertion : Option (List ℕ))
    → AsksToOpen words version key footer assertion → IfErr result (λ error. IfSome known (λ bytes. IsOpeningReason (design_of version) key footer assertion bytes error))
    → IfErr result (λ error. IfSome known (λ bytes. IsReason words bytes error))
IsReason-open (Ok x) known words version key footer assertion asks h = tt
IsReason-open (Err error) None words version key footer assertion asks h = tt
IsReason-open (Err error) (Some bytes) words version key footer assertion asks h = opening_reason words version key footer assertion bytes error asks h

-- a reason to print no lines is one to print nothing, whatever the input is
inspection_reason : (words : List (List ℕ)) (token bytes : List ℕ) (error : ToolError)
    → AsksToInspect words token → IsInspectionReason token error → IsReason words bytes error
inspection_reason words token bytes Usage asks h = absurd h
inspection_reason words token bytes (Refused error) asks h = inspection token asks h
inspection_reason words token bytes InputOrOutput asks h = absurd h
inspection_reason words token bytes (Memory source) asks h = tt

pub IsReason-inspect : {T : Type 0} (result : Result T ToolError) (known : Option (List ℕ)) (words : List (List ℕ)) (token : List ℕ)
    → AsksToInspect words token → IfErr result (IsInspectionReason token)
    → IfErr result (λ error. IfSome known (λ bytes. IsReason words bytes error))
IsReason-inspect (Ok x) known words token asks h = tt
IsReason-inspect (Err error) None words token asks h = tt
IsReason-inspect (Err error) (Some bytes) words token asks h = inspection_reason words token bytes error asks h

-- what is printed for every input
pub Prints-lines : {T E : Type 0} (result : Result T E) (known : Option (List ℕ)) (words : List (List ℕ)) (output : T → List ℕ) (token : List ℕ)
    → AsksToInspect words token → IfOk result (λ made. Inspects token (output made))
    → IfOk result (λ made. IfSome known (λ bytes. Prints words bytes (output made)))
Prints-lines (Err error) known words output token asks h = tt
Prints-lines (Ok made) None words output token asks h = tt
Prints-lines (Ok made) (Some bytes) words output token asks h = inl (record { token = token; asks = asks; inspects = h })

-- what is printed for the input that is known
pub Prints-known : {T E : Type 0} (result : Result T E) (known : Option (List ℕ)) (words : List (List ℕ)) (output : T → List ℕ) (P : List ℕ → List ℕ → Type 0)
    → ((bytes made : List ℕ) → P bytes made → Prints words bytes made)
    → IfOk result (λ made. IfSome known (λ bytes. P bytes (output made)))
    → IfOk result (λ made. IfSome known (λ bytes. Prints words bytes (output made)))
Prints-known (Err error) known words output P step h = tt
Prints-known (Ok made) None words output P step h = tt
Prints-known (Ok made) (Some bytes) words output P step h = step bytes (output made) h

-- what was written of an output is the whole where no write failed, and is else cut short
pub Writes-made : {T E : Type 0} (result : Result T E) (before after known : Option (List ℕ)) (words : List (List ℕ)) (made : List ℕ)
    → OnOk result (Appends before after made) → OnErr result ((written : List ℕ) × IsCutShort made written × Appends before after written)
    → IfSome known (λ bytes. Prints words bytes made)
    → (written : List ℕ) × Appends before after written × IfSome known (λ bytes. Writes words bytes (is_ok result) written)
Writes-made (Ok x) before after None words made ok err prints = (made, ok, tt)
Writes-made (Ok x) before after (Some bytes) words made ok err prints = (made, ok, prints)
Writes-made (Err e) before after None words made ok err prints = (err.0, err.2, tt)
Writes-made (Err e) before after (Some bytes) words made ok err prints = (err.0, err.2, inr (made, prints, err.1))

-- where there is an output, the words are not refused
pub PrintsNothing-made : (known : Option (List ℕ)) (words : List (List ℕ)) (made : List ℕ) (P : Type 0)
    → IfSome known (λ bytes. Prints words bytes made) → IfSome known (λ bytes. PrintsNothing words bytes → P)
PrintsNothing-made None words made P prints = tt
PrintsNothing-made (Some bytes) words made P prints = λ nothing. absurd (nothing made prints)

-- the status of an error that is no fault of usage
pub status_of-other : (error : ToolError) → (error ≡ Usage → ⊥) → status_of error ≡ 1
status_of-other Usage h = absurd (h refl)
status_of-other (Refused error) h = refl
status_of-other InputOrOutput h = refl
status_of-other (Memory source) h = refl
