-- What is known of an input that was read to its end.
use Rattle.std.specs.Prelude.{◌≡◌, ℕ, ⊤, List, Option, IfSome}
use Rattle.std.specs.declared.io.Error.{Error as SystemError}
use Rattle.paseto_streams.specs.declared.error.StreamError.{StreamError}
use Rattle.paseto_streams.specs.declared.error.StreamError.TheVariants.{InputOrOutput, Memory}

-- where the bytes of the input are known, they are these
abbrev pub IsInput : Option (List ℕ) → List ℕ → Type 0
IsInput known bytes = IfSome known (λ all. bytes ≡ all)

-- why an input is not read: a read returned an error, or memory was refused
abbrev pub IsReadFault : StreamError → Type 0
IsReadFault InputOrOutput = SystemError
IsReadFault (Memory _) = ⊤
