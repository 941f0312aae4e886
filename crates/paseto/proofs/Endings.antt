-- How a command on claims ends.
use Rattle.std.proofs.Common.{◌≡◌, ◌⊎◌, ℕ, List, Option, Result, Ok, Err, IfErr, IsErrAnd, String, Global, string_bytes, inl, inr, sym, subst}
use Rattle.std.specs.Bool.{⊤}
use Rattle.paseto_tasks.specs.declared.error.Names.{Names}
use Rattle.paseto_tasks.specs.declared.error.ProgramError.{ProgramError}
use Rattle.paseto_tasks.specs.Error.{IsCauseOf, IsOutside, status_of}
use Rattle.paseto_tasks.specs.Output.{IsTextOf, Makes}
use Rattle.paseto_tasks.specs.Run.{Leaves, Tells}
use Rattle.paseto_tasks.proofs.Outputs.{is_refusal, leaves_made}
use Rattle.paseto.specs.Run.{Ends, EndsSo}

module _ (Prints : List ℕ → Type 0) (Refuses Fault : ProgramError → Type 0) (outside_of : (error : ProgramError) → Fault error → IsOutside error) where
  ends_so : (made : Result (String Global) ProgramError) (error : ProgramError) → Makes Prints Refuses Fault made → IsCauseOf made error → Ends Prints Refuses Fault error
  ends_so (Ok text) error makes is = inr (is, (string_bytes text, makes.printed))
  ends_so (Err cause) error makes is = inl (subst (λ (e : ProgramError). Refuses e ⊎ Fault e) (sym is) makes.refused)

  known : (made : Result (String Global) ProgramError) → IfErr made (λ error. IsOutside error ⊎ ⊤)
  known (Ok text) = tt
  known (Err error) = inr tt

  pub ends : {W E : Type 0} (contents : W → Option (List ℕ)) (errors : E → Option (List ℕ)) (names : Names) (status : ℕ) (before after : W) (said_before said_after : E)
      (made : Result (String Global) ProgramError) → Makes Prints Refuses Fault made
      → Leaves contents (IsTextOf made) (IsErrAnd made (λ error. status_of error ≡ status)) status before after
      → Tells errors names (IsCauseOf made) status said_before said_after
      → EndsSo Prints Refuses Fault contents errors names status before after said_before said_after
  ends contents errors names status before after said_before said_after made makes leaves tells = record {
    leaves =
        let all = leaves_made contents before after made Prints ⊤ status makes.printed (known made) leaves in
        record {
          written = all.written;
          cut = all.cut;
          refused = λ some. let none = leaves.refused some in (none.0, is_refusal Refuses Fault outside_of made status some makes.refused none.1);
        };
    tells = record {
      most = tells.most;
      quiet = tells.quiet;
      said = λ some. let told = tells.said some in (told.0, told.1, ends_so made told.0 makes told.2, told.3);
    };
  }
