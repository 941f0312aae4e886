-- The command `keygen`.
use Rattle.std.specs.Prelude.{◌≡◌, ℕ, List, Result, Ok, Err}
use Rattle.paseto_keys.specs.Generation.{Generates}
use Rattle.paseto_keys.specs.declared.any_key.AnyKey.{AnyKey}
use Rattle.paseto_keys.specs.declared.error.KeyError.{KeyError}
use Rattle.paseto_tasks.specs.declared.arguments.Kind.{Kind}
use Rattle.paseto_tasks.specs.declared.error.ProgramError.{ProgramError}
use Rattle.paseto_tasks.specs.Arguments.{type_of, version_of}
use Rattle.paseto_tasks.specs.Error.{use_error_of}

-- the answer of generating a key, in the words of the program
abbrev pub told : Result AnyKey KeyError → Result AnyKey ProgramError
told (Ok key) = Ok key
told (Err error) = Err (use_error_of error)

-- the answer for a kind: a new key of its type and version, or why there is none
abbrev pub IsGenerated : Kind → (List ℕ → Type 0) → Type 0 → Type 0 → Result AnyKey ProgramError → Type 0
IsGenerated kind IsDrawn Failure IsNotCalled result =
    (answer : Result AnyKey KeyError) × Generates (type_of kind) (version_of kind) IsDrawn Failure IsNotCalled answer × (result ≡ told answer)
