-- Which errors end the program with which status.
use Rattle.std.proofs.Common.{◌≡◌, ◌≢◌, ◌⊎◌, ℕ, List, ◌==◌, false, Result, Ok, Err, IfErr, IsErrAnd, OnOk, string_bytes, inl, inr, refl, sym, ap, subst, ◌∙◌}
use Rattle.std.proofs.lemmas.Bool.{false≢true}
use Rattle.paseto_key_files.specs.declared.error.KeyFileError.TheVariants.{Random as NoBytes, Memory as NoFileMemory}
use Rattle.rusty_paseto_paserk.specs.declared.error.PaserkError.TheVariants.{Memory as NoKeyMemory}
use Rattle.paseto_tasks.specs.declared.error.ProgramError.{ProgramError}
use Rattle.paseto_tasks.specs.declared.error.ProgramError.TheVariants.{Usage, File, Token, System}
use Rattle.paseto_tasks.specs.declared.error.file.FileError.{FileError}
use Rattle.paseto_tasks.specs.declared.error.file.FileError.TheVariants.{Key, KeyFile, Unwritten}
use Rattle.paseto_tasks.specs.declared.error.system.SystemError.TheVariants.{InputOrOutput}
use Rattle.paseto_tasks.specs.declared.error.token.TokenError.TheVariants.{Unfit}
use Rattle.paseto_tasks.specs.Error.{IsCauseOf, IsFixed, IsNoRefusal, IsNoUsage, IsOutside, Says, status_of}
use Rattle.paseto_tasks.specs.Error.File.{file_status}

-- ---- files

-- a file that cannot be used ends the program with 3, or with 4 where memory or random bytes failed behind that
pub of_file : (P : ℕ → Type 0) → P 3 → P 4 → (error : FileError) → P (file_status error)
of_file P three four (Key (NoKeyMemory source)) = four
of_file P three four (KeyFile NoBytes) = four
of_file P three four (KeyFile (NoFileMemory source)) = four
of_file P three four Unwritten = four
of_file P three four (Key error) = three
of_file P three four (KeyFile error) = three
of_file P three four error = three

-- ---- 2

no_2 : (error : ProgramError) → IsNoUsage error → (status_of error == 2) ≡ false
no_2 (Usage error) none = absurd none
no_2 (File error) none = of_file (λ status. (status == 2) ≡ false) refl refl error
no_2 (Token error) none = refl
no_2 (System error) none = refl

pub not_2 : (error : ProgramError) (status : ℕ) → status ≡ status_of error → IsNoUsage error → status ≢ 2
not_2 error status is none two = false≢true (sym (no_2 error none) ∙ ap (λ n. n == 2) (sym is ∙ two))

-- an error that has no text of its own says nothing of the words
pub fixed_no_usage : (error : ProgramError) → IsFixed error → IsNoUsage error
fixed_no_usage (Token (Unfit text)) fixed = absurd fixed
fixed_no_usage error fixed = fixed

-- what is so of why nothing was made, and of a write that failed where something was, is so of the error that ends the program
pub cause_so : {T : Type 0} (IsSo : ProgramError → Type 0) (made : Result T ProgramError) (error : ProgramError) → IsCauseOf made error
    → IfErr made IsSo → OnOk made (IsSo (System InputOrOutput)) → IsSo error
cause_so IsSo (Ok value) error is so failed = subst IsSo (sym is) failed
cause_so IsSo (Err cause) error is so failed = subst IsSo (sym is) so

-- ---- lines

-- a line that is so is so in other words
pub says_so : (One Other : List ℕ → Type 0) → ((line : List ℕ) → One line → Other line) → (error : ProgramError) → Says One error → Says Other error
says_so One Other into (Token (Unfit line)) is = into (string_bytes line) is
says_so One Other into error is = tt

-- an error of the table has no line of its own
pub fixed_says : (IsLine : List ℕ → Type 0) (error : ProgramError) → IsFixed error → Says IsLine error
fixed_says IsLine (Token (Unfit line)) fixed = absurd fixed
fixed_says IsLine error fixed = tt

-- nor has one that refuses nothing
pub no_refusal_says : (IsLine : List ℕ → Type 0) (error : ProgramError) → IsNoRefusal error → Says IsLine error
no_refusal_says IsLine (Token (Unfit line)) none = absurd none
no_refusal_says IsLine error none = tt

-- what is so unless the error says nothing of the words
pub usage_says : {T : Type 0} (made : Result T ProgramError) (status : ℕ) (X : Type 0) → IsErrAnd made (λ error. status_of error ≡ status)
    → status ≡ 2 → IfErr made (λ error. IsNoUsage error ⊎ X) → X
usage_says (Ok value) status X is two says = absurd is
usage_says (Err error) status X is two (inl none) = absurd (not_2 error status (sym is) none two)
usage_says (Err error) status X is two (inr x) = x

-- nor has one from outside
pub outside_fixed : (error : ProgramError) → IsOutside error → IsFixed error
outside_fixed (System error) h = tt
outside_fixed error h = absurd h

-- an error from outside says nothing of the words
outside : (error : ProgramError) → IsOutside error → IsNoUsage error
outside (System error) h = tt
outside error h = absurd h

pub no_usage_or : {X : Type 0} (error : ProgramError) → IsOutside error ⊎ X → IsNoUsage error ⊎ X
no_usage_or error (inl is) = inl (outside error is)
no_usage_or error (inr x) = inr x

-- ---- 4

-- an error from outside ends the program with this status
pub outside_four : (error : ProgramError) → IsOutside error → status_of error ≡ 4
outside_four (System error) h = refl
outside_four error h = absurd h

-- ---- 1

no_1 : (error : ProgramError) → IsNoRefusal error → (status_of error == 1) ≡ false
no_1 (Usage error) none = refl
no_1 (System error) none = refl
no_1 error none = absurd none

-- what is so unless the error refuses nothing
pub refusal_says : {T : Type 0} (made : Result T ProgramError) (status : ℕ) (X : Type 0) → IsErrAnd made (λ error. status_of error ≡ status)
    → status ≡ 1 → IfErr made (λ error. IsNoRefusal error ⊎ X) → X
refusal_says (Ok value) status X is one says = absurd is
refusal_says (Err error) status X is one (inl none) = absurd (false≢true (sym (no_1 error none) ∙ ap (λ n. n == 1) (is ∙ one)))
refusal_says (Err error) status X is one (inr x) = x
