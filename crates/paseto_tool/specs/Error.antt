-- The statuses that the program ends with, and the texts of its own errors.
use Rattle.std.specs.Prelude.{ℕ, ⊤, List, [], ◌∷◌, ◌++◌, alloc_error, codes}
use Rattle.std.specs.declared.io.ErrorKind.{ErrorKind}
use Rattle.std.specs.declared.io.ErrorKind.TheVariants.{InvalidData, OutOfMemory}
use Rattle.rusty_paseto_parts.specs.Error.{error_text}
use Rattle.rusty_paseto_parts.specs.declared.error.PasetoError.{PasetoError}
use Rattle.rusty_paseto_parts.specs.declared.error.PasetoError.TheVariants.{Memory as NoMemory}
use Rattle.paseto_tool.specs.declared.error.ToolError.{ToolError}
use Rattle.paseto_tool.specs.declared.error.ToolError.TheVariants.{Usage, Refused, InputOrOutput, Memory}

-- 2 for words that ask for nothing, else 1
abbrev pub status_of : ToolError → ℕ
status_of Usage = 2
status_of _ = 1

-- what each error says, which is the same whatever the words and the input are
abbrev pub text_of : ToolError → List ℕ
text_of Usage = codes "usage: paseto_tool inspect TOKEN | seal VERSION KEY NONCE [FOOTER [ASSERTION]] | open VERSION KEY [FOOTER [ASSERTION]]"
text_of (Refused error) = error_text error
text_of InputOrOutput = codes "input or output failed"
text_of (Memory _) = codes "No memory was found"

-- the line on standard error, which ends in a line feed
abbrev pub line_of : ToolError → List ℕ
line_of error = text_of error ++ 10 ∷ []

-- a failed allocation is the program's own error, wherever it came
abbrev pub tool_error_of : PasetoError → ToolError
tool_error_of (NoMemory source) = Memory source
tool_error_of error = Refused error

-- why the words could not be read, by the kind of the system's error: memory was refused, a word is no text, or else
-- the system failed
abbrev pub words_error : ErrorKind → ToolError
words_error OutOfMemory = Memory alloc_error
words_error InvalidData = Usage
words_error _ = InputOrOutput

-- an error that says nothing of the words or of the input
abbrev pub IsOutside : ToolError → Type 0
IsOutside InputOrOutput = ⊤
IsOutside (Memory _) = ⊤
IsOutside _ = ⊥
