-- What is answered that is no text.
use Rattle.std.specs.Prelude.{◌⊎◌, Result, IfErr, IfOk}
use Rattle.paseto_tasks.specs.declared.error.ProgramError.{ProgramError}

-- the answer is one that is so; else an error that refuses, or one from outside
pub record Gives {T : Type 0} (Is : T → Type 0) (Refuses Fault : ProgramError → Type 0) (answer : Result T ProgramError) : Type 0 where
  pub given : IfOk answer Is
  pub refused : IfErr answer (λ error. Refuses error ⊎ Fault error)
