-- What the program prints for a task, its options, its key and its input, and how it ends.
use Rattle.std.specs.Prelude.{◌≡◌, ◌≢◌, ◌≤◌, ◌==◌, ◌⊎◌, ℕ, List, if◌then◌else◌, Option}
use Rattle.std.specs.Io.{StartsWith}
use Rattle.std.specs.Io.KnownBytes.{Appends}
use Rattle.std.specs.declared.io.Error.{Error as SystemError}
use Rattle.paseto_keys.specs.AnyKey.{KeyParts}
use Rattle.paseto_keys.specs.Writing.{drawn_length}
use Rattle.paseto_tasks.specs.declared.arguments.Options.{Options}
use Rattle.paseto_tasks.specs.declared.arguments.Task.{Task}
use Rattle.paseto_tasks.specs.declared.arguments.Task.TheVariants.{Encrypt, Sign}
use Rattle.paseto_tasks.specs.declared.error.Names.{Names}
use Rattle.paseto_tasks.specs.declared.error.ProgramError.{ProgramError}
use Rattle.paseto_tasks.specs.declared.error.ProgramError.TheVariants.{System}
use Rattle.paseto_tasks.specs.declared.error.system.SystemError.TheVariants.{InputOrOutput}
use Rattle.paseto_tasks.specs.Error.{Fails, IsFixed, line_of, nothing, status_of}
use Rattle.paseto_tasks.specs.Input.{OfInput}
use Rattle.paseto_tasks.specs.Output.{IsLeftOf}
use Rattle.paseto_tasks.specs.Tokens.{Does, Fits, RefusesInput, RefusesKey, type_for}

-- ---- tasks

-- what the task prints for the input, as far as that is known, with bytes that may be drawn: the key fits
abbrev pub PrintsOf : Task → Options → (ℕ → List ℕ → Type 0) → KeyParts → Option (List ℕ) → List ℕ → Type 0
PrintsOf task options IsDrawn key known output =
    Fits (type_for task) options key × OfInput known (λ input. Does task key options IsDrawn input output)

-- why it prints nothing: the key does not fit, or the input is refused
abbrev pub RefusesOf : Task → Options → (ℕ → List ℕ → Type 0) → KeyParts → Option (List ℕ) → ProgramError → Type 0
RefusesOf task options IsDrawn key known error =
    RefusesKey (type_for task) options key error
    ⊎ (Fits (type_for task) options key × OfInput known (λ input. RefusesInput task key options IsDrawn input error))

-- the task takes bytes that are drawn
abbrev pub Draws : Task → KeyParts → Type 0
Draws Encrypt key = drawn_length key.kind key.version ≢ 0
Draws Sign key = drawn_length key.kind key.version ≢ 0
Draws _ key = ⊥

-- or it fails, with a key that fits: memory is refused, a read fails, or the generator where bytes are drawn
abbrev pub FailsOf : Task → Options → Type 0 → KeyParts → ProgramError → Type 0
FailsOf task options Failure key error =
    Fits (type_for task) options key
    × Fails (record nothing { no_bytes = Draws task key × Failure; no_stream = SystemError }) error

-- ---- how a command ends with a status

-- a status that refuses the token, the words or a file: neither success nor a failure of the system
abbrev pub IsRefused : ℕ → Type 0
IsRefused status = (status ≡ 1) ⊎ ((status ≡ 2) ⊎ (status ≡ 3))

-- what it leaves in its output: where the status is 0, all of what it prints; else nothing, or that cut short; and where
-- something is refused, nothing, for a reason
pub record Leaves {W : Type 0} (contents : W → Option (List ℕ)) (Prints : List ℕ → Type 0) (Refused : Type 0) (status : ℕ)
    (before after : W) : Type 0 where
  pub written : status ≡ 0 → (whole : List ℕ) × Appends (contents before) (contents after) whole × Prints whole
  pub cut : status ≢ 0 → (left : List ℕ) × Appends (contents before) (contents after) left × IsLeftOf Prints left
  pub refused : IsRefused status → (after ≡ before) × Refused

-- what it says on standard error: where the status is 0, nothing; else the line of an error that is so and has this
-- status, or a beginning of that line
pub record Tells {E : Type 0} (contents : E → Option (List ℕ)) (names : Names) (IsSo : ProgramError → Type 0) (status : ℕ)
    (before after : E) : Type 0 where
  pub most : status ≤ 4
  pub quiet : status ≡ 0 → after ≡ before
  pub said : status ≢ 0 → (error : ProgramError) × (status_of error ≡ status) × IsSo error
      × ((said : List ℕ) × StartsWith (line_of names error) said × Appends (contents before) (contents after) said)

-- an error with which a command refuses, and that has this status
abbrev pub IsRefusal : (ProgramError → Type 0) → ℕ → Type 0
IsRefusal Refuses status = (error : ProgramError) × Refuses error × (status_of error ≡ status)

-- the error that ends a command, which has no text of its own: it refuses, or fails, or the output that it prints was not
-- written
pub record Ends (Prints : List ℕ → Type 0) (Refuses Fault : ProgramError → Type 0) (error : ProgramError) : Type 0 where
  pub fixed : IsFixed error
  pub why : (Refuses error ⊎ Fault error) ⊎ ((error ≡ System InputOrOutput) × ((output : List ℕ) × Prints output))

-- the status of a forgery, from the status with which it was written: 1 where it was written whole
abbrev pub forged_status : ℕ → ℕ
forged_status written = if written == 0 then 1 else written

-- how the command `explain` ends: as each command with what it tells of a token that was issued, and with a refusal; and with
-- what it tells of a forgery likewise, but for the status of one that was written whole
abbrev pub Told : {W E : Type 0} → (W → Option (List ℕ)) → (E → Option (List ℕ)) → Names → (Issued Forged : List ℕ → Type 0)
    → (Refuses Fault : ProgramError → Type 0) → ℕ → W → W → E → E → Type 0
Told {W} {E} contents errors names Issued Forged Refuses Fault status before after said_before said_after =
    (Leaves contents Issued (IsRefusal Refuses status) status before after × Tells errors names (Ends Issued Refuses Fault) status said_before said_after)
    ⊎ ((written : ℕ) × (status ≡ forged_status written) × Leaves contents Forged ⊥ written before after
    × Tells errors names (Ends Forged (λ error. ⊥) (λ error. ⊥)) written said_before said_after)
