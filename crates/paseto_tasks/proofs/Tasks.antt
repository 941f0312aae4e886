-- What a task makes, from what is written and read.
use Rattle.std.proofs.Common.{◌≡◌, ◌≢◌, ◌⊎◌, ℕ, List, Option, Result, Ok, Err, String, Global, inl, inr}
use Rattle.std.specs.declared.io.Error.{Error as SystemError}
use Rattle.paseto_keys.specs.AnyKey.{KeyParts}
use Rattle.paseto_keys.specs.Writing.{drawn_length}
use Rattle.paseto_tasks.specs.declared.arguments.Options.{Options}
use Rattle.paseto_tasks.specs.declared.arguments.Task.{Task}
use Rattle.paseto_tasks.specs.declared.arguments.Task.TheVariants.{Encrypt, Decrypt, Sign, Verify}
use Rattle.paseto_tasks.specs.declared.error.ProgramError.{ProgramError}
use Rattle.paseto_tasks.specs.Error.{Blame, Fails, nothing}
use Rattle.paseto_tasks.specs.Input.{OfInput, reading, token_of_input}
use Rattle.paseto_tasks.specs.Output.{Makes}
use Rattle.paseto_tasks.specs.Run.{Draws, FailsOf, PrintsOf, RefusesOf}
use Rattle.paseto_tasks.specs.Tokens.{Does, Fits, Reads, RefusesInput, RefusesText, RefusesToken, Writes, type_for}
use Rattle.paseto_tasks.proofs.Blames.{IsWithin, fails_so}

-- what is made may be refused for more reasons
more_fails : {Prints : List ℕ → Type 0} {Refuses : ProgramError → Type 0} {one other : Blame} (made : Result (String Global) ProgramError) → IsWithin one other
    → Makes Prints Refuses (Fails one) made → Makes Prints Refuses (Fails other) made
more_fails (Ok text) within makes = record { printed = makes.printed; refused = tt }
more_fails (Err error) within makes = record { printed = tt; refused = elim makes.refused [ inl refuses ↦ inl refuses | inr fails ↦ inr (fails_so within error fails) ] }

module _ (options : Options) (IsDrawn : ℕ → List ℕ → Type 0) (key : KeyParts) (known : Option (List ℕ)) (Failure : Type 0) where
  as_task : (task : Task) (made : Result (String Global) ProgramError) → Fits (type_for task) options key
      → Makes (λ output. OfInput known (λ input. Does task key options IsDrawn input output)) (λ error. OfInput known (λ input. RefusesInput task key options IsDrawn input error))
      (Fails (record nothing { no_bytes = Draws task key × Failure; no_stream = SystemError })) made
      → Makes (PrintsOf task options IsDrawn key known) (RefusesOf task options IsDrawn key known) (FailsOf task options Failure key) made
  as_task task (Ok text) fits makes = record { printed = (fits, makes.printed); refused = tt }
  as_task task (Err error) fits makes = record { printed = tt; refused = elim makes.refused [ inl refuses ↦ inl (inr (fits, refuses)) | inr fails ↦ inr (fits, fails) ] }

  pub task_writes : (task : Task) (made : Result (String Global) ProgramError) → (task ≡ Encrypt) ⊎ (task ≡ Sign) → Fits (type_for task) options key
      → Makes (λ line. OfInput known (λ text. Writes key options IsDrawn text line)) (λ error. OfInput known (λ text. RefusesText key options IsDrawn text error))
      (Fails (record reading { no_bytes = (drawn_length key.kind key.version ≢ 0) × Failure })) made
      → Makes (PrintsOf task options IsDrawn key known) (RefusesOf task options IsDrawn key known) (FailsOf task options Failure key) made
  task_writes Encrypt made is fits makes = as_task Encrypt made fits makes
  task_writes Sign made is fits makes = as_task Sign made fits makes
  task_writes Decrypt made (inl is) fits makes = absurd (cc)
  task_writes Decrypt made (inr is) fits makes = absurd (cc)
  task_writes Verify made (inl is) fits makes = absurd (cc)
  task_writes Verify made (inr is) fits makes = absurd (cc)

  within : (Undrawn : Type 0) → IsWithin reading (record nothing { no_bytes = Undrawn; no_stream = SystemError })
  within Undrawn = record { bytes = λ h. absurd h; moment = λ h. h; long = λ h. h; footer = λ h. h; stream = λ h. h }

  pub task_reads : (task : Task) (made : Result (String Global) ProgramError) → (task ≡ Decrypt) ⊎ (task ≡ Verify) → Fits (type_for task) options key
      → Makes (λ text. OfInput known (λ bytes. Reads key options (token_of_input bytes) text)) (λ error. OfInput known (λ bytes. RefusesToken key options bytes error))
      (Fails reading) made
      → Makes (PrintsOf task options IsDrawn key known) (RefusesOf task options IsDrawn key known) (FailsOf task options Failure key) made
  task_reads Decrypt made is fits makes = as_task Decrypt made fits (more_fails made (within _) makes)
  task_reads Verify made is fits makes = as_task Verify made fits (more_fails made (within _) makes)
  task_reads Encrypt made (inl is) fits makes = absurd (cc)
  task_reads Encrypt made (inr is) fits makes = absurd (cc)
  task_reads Sign made (inl is) fits makes = absurd (cc)
  task_reads Sign made (inr is) fits makes = absurd (cc)
