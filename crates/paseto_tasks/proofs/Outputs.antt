-- What is written of an output, and said of an error.
use Rattle.std.proofs.Common.{◌≡◌, ◌≢◌, ◌≤◌, ◌⊎◌, ◌∙◌, ℕ, ◌==◌, List, false, Option, Result, Ok, Err, IfErr, IfOk, IsErrAnd, IsOkAnd, OnOk, String, Global, string_bytes, inl, inr, refl, sym, ap, subst, rules}
use Rattle.std.proofs.lemmas.Bool.{false≢true}
use Rattle.std.specs.Io.{StartsWith}
use Rattle.std.specs.Io.KnownBytes.{Appends}
use Rattle.paseto_tasks.specs.declared.error.Names.{Names}
use Rattle.paseto_tasks.specs.declared.error.ProgramError.{ProgramError}
use Rattle.paseto_tasks.specs.declared.error.ProgramError.TheVariants.{Usage, File, Token, System}
use Rattle.paseto_tasks.specs.declared.error.system.SystemError.TheVariants.{InputOrOutput, Memory}
use Rattle.paseto_tasks.specs.Error.{Blame, Fails, IsCauseOf, IsFixed, IsMemory, IsNoUsage, IsOutside, line_of, status_of}
use Rattle.paseto_tasks.specs.Output.{IsLeftOf, IsLineOf, IsTextOf, Makes}
use Rattle.paseto_tasks.specs.Run.{Ends, IsRefusal, IsRefused, Leaves, Tells}
use Rattle.paseto_tasks.proofs.Statuses.{cause_so, fixed_no_usage, not_2, of_file, outside_fixed, outside_four}

-- what is left of what was made is left of the output that it is
pub left_of_made : {E : Type 0} (made : Result (String Global) E) (IsOutput : List ℕ → Type 0) (left : List ℕ)
    → IfOk made (λ text. IsOutput (string_bytes text))
    → IsLeftOf (λ line. IsOkAnd made (λ text. string_bytes text ≡ line)) left → IsLeftOf IsOutput left
left_of_made made IsOutput left printed (inl nothing) = inl nothing
left_of_made (Ok text) IsOutput left printed (inr cut) = inr (cut.0, subst IsOutput cut.1 printed, cut.2)
left_of_made (Err error) IsOutput left printed (inr cut) = absurd cut.1

-- no error ends the program with the status of success
pub status_of-some : (error : ProgramError) → (status_of error == 0) ≡ false
status_of-some (Usage error) = refl
status_of-some (File error) = of_file (λ status. (status == 0) ≡ false) refl refl error
status_of-some (Token error) = refl
status_of-some (System error) = refl

-- nor with one above 4
pub status_of-most : (error : ProgramError) → status_of error ≤ 4
status_of-most (Usage error) = search rules
status_of-most (File error) = of_file (λ status. status ≤ 4) (search rules) (search rules) error
status_of-most (Token error) = search rules
status_of-most (System error) = search rules

not_zero : (error : ProgramError) (status : ℕ) → status ≡ status_of error → status ≢ 0
not_zero error status is zero = false≢true (sym (status_of-some error) ∙ ap (λ (n : ℕ). n == 0) (sym is ∙ zero))

not_four : (error : ProgramError) (status : ℕ) → status ≡ status_of error → status_of error ≡ 4 → IsRefused status → ⊥
not_four error status is four (inl one) = false≢true (ap (λ (n : ℕ). n == 4) (sym one ∙ is ∙ four))
not_four error status is four (inr (inl two)) = false≢true (ap (λ (n : ℕ). n == 4) (sym two ∙ is ∙ four))
not_four error status is four (inr (inr three)) = false≢true (ap (λ (n : ℕ). n == 4) (sym three ∙ is ∙ four))

-- success refuses nothing
not_refused : IsRefused 0 → ⊥
not_refused (inl one) = false≢true (ap (λ (n : ℕ). n == 1) one)
not_refused (inr (inl two)) = false≢true (ap (λ (n : ℕ). n == 2) two)
not_refused (inr (inr three)) = false≢true (ap (λ (n : ℕ). n == 3) three)

-- what was refused is so where the status says that something was
refused_as : {T : Type 0} (made : Result T ProgramError) (status : ℕ) (Refused : Type 0) → IsRefused status
    → IsErrAnd made (λ error. status_of error ≡ status) → IfErr made (λ error. IsOutside error ⊎ Refused) → Refused
refused_as (Ok value) status Refused some is refused = absurd is
refused_as (Err error) status Refused some is (inl outside) = absurd (not_four error status (sym is) (outside_four error outside) some)
refused_as (Err error) status Refused some is (inr refused) = refused

-- ---- what a command leaves in its output

same_status : {T : Type 0} (made : Result T ProgramError) (error : ProgramError) (status : ℕ) → status ≡ status_of error
    → IsErrAnd made (λ cause. cause ≡ error) → IsErrAnd made (λ cause. status_of cause ≡ status)
same_status (Ok value) error status is same = absurd same
same_status (Err cause) error status is same = ap status_of same ∙ sym is

text_printed : {E : Type 0} (made : Result (String Global) E) (IsOutput : List ℕ → Type 0) (output : List ℕ)
    → IfOk made (λ text. IsOutput (string_bytes text)) → IsTextOf made output → IsOutput output
text_printed (Ok text) IsOutput output printed is = subst IsOutput is printed
text_printed (Err error) IsOutput output printed is = absurd is

module _ {W : Type 0} (contents : W → Option (List ℕ)) (before after : W) where
  -- where the whole of it was written
  pub leaves_whole : (Printed : List ℕ → Type 0) (Refused : Type 0)
      → (whole : List ℕ) × Appends (contents before) (contents after) whole × Printed whole → Leaves contents Printed Refused 0 before after
  leaves_whole Printed Refused whole = record {
    written = λ zero. whole;
    cut = λ some. absurd (some refl);
    refused = λ is. absurd (not_refused is);
  }

  -- and where an error ends the program
  pub leaves_cut : (made : Result (String Global) ProgramError) (error : ProgramError) (status : ℕ) → status ≡ status_of error
      → (left : List ℕ) × Appends (contents before) (contents after) left × IsLeftOf (IsTextOf made) left
      → (status_of error ≡ 4) ⊎ ((after ≡ before) × IsErrAnd made (λ cause. cause ≡ error))
      → Leaves contents (IsTextOf made) (IsErrAnd made (λ cause. status_of cause ≡ status)) status before after
  leaves_cut made error status is left unless_four = record {
    written = λ zero. absurd (not_zero error status is zero);
    cut = λ some. left;
    refused = λ some. elim unless_four [
      | inl four ↦ absurd (not_four error status is four some)
      | inr same ↦ (same.0, same_status made error status is same.1)
    ];
  }

  -- in the words of what was made
  pub leaves_made : (made : Result (String Global) ProgramError) (Printed : List ℕ → Type 0) (Refused : Type 0) (status : ℕ)
      → IfOk made (λ text. Printed (string_bytes text)) → IfErr made (λ error. IsOutside error ⊎ Refused)
      → Leaves contents (IsTextOf made) (IsErrAnd made (λ error. status_of error ≡ status)) status before after
      → Leaves contents Printed Refused status before after
  leaves_made made Printed Refused status printed refused leaves = record {
    written = λ zero. let whole = leaves.written zero in (whole.0, whole.1, text_printed made Printed whole.0 printed whole.2);
    cut = λ some. let left = leaves.cut some in (left.0, left.1, left_of_made made Printed left.0 printed left.2);
    refused = λ some. let none = leaves.refused some in (none.0, refused_as made status Refused some none.1 refused);
  }

-- ---- what it says on standard error

module _ {E : Type 0} (contents : E → Option (List ℕ)) (names : Names) (before after : E) where
  pub tells_nothing : (IsSo : ProgramError → Type 0) → after ≡ before → Tells contents names IsSo 0 before after
  tells_nothing IsSo same = record { most = search rules; quiet = λ zero. same; said = λ some. absurd (some refl) }

  pub tells_error : (IsSo : ProgramError → Type 0) (error : ProgramError) (status : ℕ) → status ≡ status_of error → IsSo error
      → (said : List ℕ) × StartsWith (line_of names error) said × Appends (contents before) (contents after) said
      → Tells contents names IsSo status before after
  tells_error IsSo error status is so said = record {
    most = rw is (status_of-most error);
    quiet = λ zero. absurd (not_zero error status is zero);
    said = λ some. (error, sym is, so, said);
  }

  -- in the words of what was made
  pub tells_made : {T : Type 0} (made : Result T ProgramError) (IsSo : ProgramError → Type 0) (status : ℕ) → IfErr made IsSo → OnOk made (IsSo (System InputOrOutput))
      → Tells contents names (IsCauseOf made) status before after → Tells contents names IsSo status before after
  tells_made made IsSo status so failed tells = record {
    most = tells.most;
    quiet = tells.quiet;
    said = λ some. let told = tells.said some in (told.0, told.1, cause_so IsSo made told.0 told.2 so failed, told.3);
  }

  -- no word is at fault
  pub tells_no_usage : (IsSo : ProgramError → Type 0) (status : ℕ) → ((error : ProgramError) → IsSo error → IsNoUsage error)
      → Tells contents names IsSo status before after → status ≢ 2
  tells_no_usage IsSo status none tells two =
      let told = tells.said (λ zero. false≢true (ap (λ (n : ℕ). n == 2) (sym zero ∙ two))) in
      not_2 told.0 status (sym told.1) (none told.0 told.2) two

-- an error that refuses, where the status says so
pub is_refusal : (Refuses Fault : ProgramError → Type 0) → ((error : ProgramError) → Fault error → IsOutside error) → (made : Result (String Global) ProgramError)
    → (status : ℕ) → IsRefused status → IfErr made (λ error. Refuses error ⊎ Fault error) → IsErrAnd made (λ error. status_of error ≡ status) → IsRefusal Refuses status
is_refusal Refuses Fault outside_of (Ok text) status some refused is = absurd is
is_refusal Refuses Fault outside_of (Err error) status some (inl refuses) is = (error, refuses, is)
is_refusal Refuses Fault outside_of (Err error) status some (inr fault) is = absurd (not_four error status (sym is) (outside_four error (outside_of error fault)) some)

-- ---- how a command ends that prints or refuses

module _ (Prints : List ℕ → Type 0) (Refuses Fault : ProgramError → Type 0) (fixed_of : (error : ProgramError) → Refuses error → IsFixed error)
    (outside_of : (error : ProgramError) → Fault error → IsOutside error) where
  either_fixed : (error : ProgramError) → Refuses error ⊎ Fault error → IsFixed error
  either_fixed error (inl refuses) = fixed_of error refuses
  either_fixed error (inr fault) = outside_fixed error (outside_of error fault)

  ends_so : (made : Result (String Global) ProgramError) (error : ProgramError) → Makes Prints Refuses Fault made → IsCauseOf made error → Ends Prints Refuses Fault error
  ends_so (Ok text) error makes is = record { fixed = subst IsFixed (sym is) tt; why = inr (is, (string_bytes text, makes.printed)) }
  ends_so (Err cause) error makes is = record {
    fixed = subst IsFixed (sym is) (either_fixed cause makes.refused);
    why = inl (subst (λ (e : ProgramError). Refuses e ⊎ Fault e) (sym is) makes.refused);
  }

  pub tells_end : {E : Type 0} (contents : E → Option (List ℕ)) (names : Names) (before after : E) (made : Result (String Global) ProgramError) (status : ℕ)
      → Makes Prints Refuses Fault made → Tells contents names (IsCauseOf made) status before after
      → Tells contents names (Ends Prints Refuses Fault) status before after
  tells_end contents names before after made status makes tells = record {
    most = tells.most;
    quiet = tells.quiet;
    said = λ some. let told = tells.said some in (told.0, told.1, ends_so made told.0 makes told.2, told.3);
  }

  -- no word is at fault
  pub no_usage_end : {E : Type 0} (contents : E → Option (List ℕ)) (names : Names) (before after : E) (made : Result (String Global) ProgramError) (status : ℕ)
      → Makes Prints Refuses Fault made → Tells contents names (IsCauseOf made) status before after → status ≢ 2
  no_usage_end contents names before after made status makes tells =
      tells_no_usage contents names before after (Ends Prints Refuses Fault) status (λ error ends. fixed_no_usage error ends.fixed)
      (tells_end contents names before after made status makes tells)

  pub leaves_end : {W : Type 0} (contents : W → Option (List ℕ)) (before after : W) (made : Result (String Global) ProgramError) (status : ℕ)
      → Makes Prints Refuses Fault made
      → Leaves contents (IsTextOf made) (IsErrAnd made (λ error. status_of error ≡ status)) status before after
      → Leaves contents Prints (IsRefusal Refuses status) status before after
  leaves_end contents before after made status makes leaves = record {
    written = λ zero. let whole = leaves.written zero in (whole.0, whole.1, text_printed made Prints whole.0 makes.printed whole.2);
    cut = λ some. let left = leaves.cut some in (left.0, left.1, left_of_made made Prints left.0 makes.printed left.2);
    refused = λ some. let none = leaves.refused some in (none.0, is_refusal Refuses Fault outside_of made status some makes.refused none.1);
  }

-- what was printed, and what was refused
pub printed_makes : (Prints : List ℕ → Type 0) (Refuses Fault : ProgramError → Type 0) (text : String Global) → Prints (string_bytes text)
    → Makes Prints Refuses Fault (Ok text)
printed_makes Prints Refuses Fault text is = record { printed = is; refused = tt }

pub refused_makes : (Prints : List ℕ → Type 0) (Refuses Fault : ProgramError → Type 0) (error : ProgramError) → Refuses error ⊎ Fault error
    → Makes Prints Refuses Fault (Err error)
refused_makes Prints Refuses Fault error is = record { printed = tt; refused = is }

-- what is so of an error in both ways
pub both_so : {T : Type 0} (made : Result T ProgramError) (IsOne IsOther : ProgramError → Type 0) → IfErr made IsOne → IfErr made IsOther
    → IfErr made (λ error. IsOne error × IsOther error)
both_so (Ok value) IsOne IsOther one other = tt
both_so (Err error) IsOne IsOther one other = (one, other)

-- the line of a text
pub line_makes : (Prints : List ℕ → Type 0) (Refuses : ProgramError → Type 0) (blame : Blame) (text : List ℕ) (made : Result (String Global) ProgramError)
    → IfOk made (λ line. IsLineOf text (string_bytes line)) → IfErr made IsMemory → ((line : List ℕ) → IsLineOf text line → Prints line)
    → Makes Prints Refuses (Fails blame) made
line_makes Prints Refuses blame text (Ok line) is memory prints = record { printed = prints (string_bytes line) is; refused = tt }
line_makes Prints Refuses blame text (Err (System (Memory source))) is memory prints = record { printed = tt; refused = inr (tt, tt) }
line_makes Prints Refuses blame text (Err error) is memory prints = absurd memory

-- so that what is left is so
pub leaves_forged : {W : Type 0} (contents : W → Option (List ℕ)) (before after : W) (Prints : List ℕ → Type 0) (text : String Global) (status : ℕ)
    → Makes Prints (λ error. ⊥) (λ error. ⊥) (Ok text)
    → Leaves contents (IsTextOf {E = ProgramError} (Ok text)) (IsErrAnd {T = String Global} {E = ProgramError} (Ok text) (λ error. status_of error ≡ status)) status before after
    → Leaves contents Prints ⊥ status before after
leaves_forged contents before after Prints text status makes leaves =
    let ended = leaves_end Prints (λ error. ⊥) (λ error. ⊥) (λ error none. absurd none) (λ error none. absurd none) contents before after (Ok text) status makes leaves in
    record { written = ended.written; cut = ended.cut; refused = λ some. let none = ended.refused some in (none.0, none.1.1) }
