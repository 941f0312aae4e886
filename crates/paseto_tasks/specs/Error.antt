-- What the program says of an error, and the status that it ends with.
pub mod Usage
pub mod File
pub mod Token
pub mod System
use Rattle.std.specs.Prelude.{◌≡◌, ◌⊎◌, ℕ, ⊤, List, [], ◌∷◌, ◌++◌, Result, Ok, Err, alloc_error, codes, string_bytes}
use Rattle.std.specs.declared.io.ErrorKind.{ErrorKind}
use Rattle.std.specs.declared.io.ErrorKind.TheVariants.{AlreadyExists, InvalidData, IsADirectory, NotADirectory, NotFound, OutOfMemory, PermissionDenied}
use Rattle.paseto_key_files.specs.declared.error.KeyFileError.{KeyFileError}
use Rattle.paseto_key_files.specs.declared.error.KeyFileError.TheVariants.{Wrap, Random as NoBytes, Memory as NoFileMemory}
use Rattle.paseto_wrapping.specs.declared.error.WrapError.TheVariants.{WrongKey}
use Rattle.rusty_paseto_parts.specs.declared.error.PasetoError.{PasetoError}
use Rattle.rusty_paseto_parts.specs.declared.error.PasetoError.TheVariants.{Cipher, Memory as NoMemory, WrongHeader, Signature, KeyRejected}
use Rattle.rusty_paseto_paserk.specs.declared.error.PaserkError.{PaserkError}
use Rattle.rusty_paseto_paserk.specs.declared.error.PaserkError.TheVariants.{Memory as NoKeyMemory, OtherType as OtherKeyType, OtherVersion as OtherKeyVersion}
use Rattle.paseto_keys.specs.declared.error.KeyError.{KeyError}
use Rattle.paseto_keys.specs.declared.error.KeyError.TheVariants.{OtherType, OtherVersion, NoAssertion as NoBinding, OtherLength, Refused as RefusedToken, Random as NoDraw, Memory as NoUseMemory}
use Rattle.paseto_streams.specs.declared.error.StreamError.{StreamError}
use Rattle.paseto_streams.specs.declared.error.StreamError.TheVariants.{InputOrOutput as NoStream, Memory as NoStreamMemory}
use Rattle.paseto_tasks.specs.declared.error.About.{About}
use Rattle.paseto_tasks.specs.declared.error.About.TheVariants.{Key as OfKey, Input as OfInput, Nothing as OfNothing}
use Rattle.paseto_tasks.specs.declared.error.Names.{Names}
use Rattle.paseto_tasks.specs.declared.error.file.FileError.TheVariants.{Key, KeyFile, TooLong, OtherHalves, NotPrivate, NoAssertion, NoFile, NoPermission, IsFolder, NotFolder, NoAccess, FileExists, NoLink}
use Rattle.paseto_tasks.specs.declared.error.system.SystemError.TheVariants.{Clock, Random, InputOrOutput, Memory}
use Rattle.paseto_tasks.specs.declared.error.token.TokenError.TheVariants.{Refused, OtherKind, OddClaim, OtherFooter, Unfit, Wrapped}
use Rattle.paseto_tasks.specs.declared.error.usage.UsageError.TheVariants.{NotText, NoKind, NoHalf}
use Rattle.paseto_tasks.specs.declared.token_kind.TokenKind.{TokenKind}
use Rattle.paseto_tasks.specs.TokenKind.{NamesKind, kind_text}
use Rattle.paseto_tasks.specs.declared.error.ProgramError.{ProgramError}
use Rattle.paseto_tasks.specs.declared.error.ProgramError.TheVariants.{Usage as OfUsage, File as OfFile, Token as OfToken, System as OfSystem}
use Rattle.paseto_tasks.specs.Error.Usage.{usage_text}
use Rattle.paseto_tasks.specs.Error.File.{file_status, file_text}
use Rattle.paseto_tasks.specs.Error.Token.{token_text}
use Rattle.paseto_tasks.specs.Error.System.{system_text}

-- the status with which an error ends the program: 1 where a token or a wrapped key is refused, 2 where the words ask for
-- nothing, 3 where a file cannot be used, and 4 where the system fails
abbrev pub status_of : ProgramError → ℕ
status_of (OfToken _) = 1
status_of (OfUsage _) = 2
status_of (OfFile error) = file_status error
status_of (OfSystem _) = 4

-- what is said of it
abbrev pub text_of : ProgramError → List ℕ
text_of (OfUsage error) = usage_text error
text_of (OfFile error) = file_text error
text_of (OfToken error) = token_text error
text_of (OfSystem error) = system_text error

-- what it is about
abbrev pub subject_of : ProgramError → About
subject_of (OfUsage NoKind) = OfKey
subject_of (OfUsage NoHalf) = OfKey
subject_of (OfUsage _) = OfNothing
subject_of (OfFile _) = OfKey
subject_of (OfToken Wrapped) = OfKey
subject_of (OfToken OddClaim) = OfNothing
subject_of (OfToken _) = OfInput
subject_of (OfSystem _) = OfNothing

-- the name of what an error is about, which is empty where it is about no file and no word
abbrev pub name_of : Names → About → List ℕ
name_of names OfKey = names.key.now
name_of names OfInput = names.input.now
name_of names OfNothing = []

abbrev pub about_of : Names → ProgramError → List ℕ
about_of names error = name_of names (subject_of error)

-- what stands between a name and what is said of it
abbrev pub colon_behind : List ℕ → List ℕ
colon_behind [] = []
colon_behind name = codes ": "

-- texts, one behind the other
abbrev pub joined : List (List ℕ) → List ℕ
joined [] = []
joined (text ∷ texts) = text ++ joined texts

-- of a token of one kind and a key for tokens of another
abbrev pub kinds_text : List ℕ → List ℕ → List ℕ
kinds_text token key = codes "the token is " ++ (token ++ (codes ", and the key is for " ++ key))

-- what is said of the error, without a name
abbrev pub message_of : ProgramError → List ℕ
message_of (OfToken (OtherKind token key)) = kinds_text (kind_text token) (kind_text key)
message_of error = text_of error

-- the line on standard error, which ends in a line feed: that on two kinds tells both
abbrev pub line_of : Names → ProgramError → List ℕ
line_of names (OfToken (OtherKind token key)) = joined (codes "paseto: " ∷ names.input.now ∷ colon_behind names.input.now ∷ codes "the token is "
    ∷ kind_text token ∷ codes ", and the key is for " ∷ kind_text key ∷ (10 ∷ []) ∷ [])
line_of names error = joined (codes "paseto: " ∷ about_of names error ∷ colon_behind (about_of names error) ∷ text_of error ∷ (10 ∷ []) ∷ [])

-- a private key that is none is an error of its file, and all else one of the text or the token
abbrev pub token_error_of : PasetoError → ProgramError
token_error_of Signature = OfFile OtherHalves
token_error_of KeyRejected = OfFile NotPrivate
token_error_of error = OfToken (Refused error)

-- a failed allocation and a want of random bytes are errors of the system, wherever they came
abbrev pub program_error_of : PasetoError → ProgramError
program_error_of (NoMemory source) = OfSystem (Memory source)
program_error_of Cipher = OfSystem Random
program_error_of error = token_error_of error

-- the same of why a key did not read or write a token
abbrev pub use_error_of : KeyError → ProgramError
use_error_of (OtherType kind) = OfFile (Key (OtherKeyType kind))
use_error_of (OtherVersion version) = OfFile (Key (OtherKeyVersion version))
use_error_of NoBinding = OfFile NoAssertion
use_error_of (OtherLength _) = OfSystem Random
use_error_of (RefusedToken source) = token_error_of source
use_error_of NoDraw = OfSystem Random
use_error_of (NoUseMemory source) = OfSystem (Memory source)

-- why a token was refused that is to be read by a key for tokens of a kind: where it is of another, both are named
abbrev pub IsTokenError : List ℕ → TokenKind → KeyError → ProgramError → Type 0
IsTokenError token key (RefusedToken WrongHeader) error = (named : TokenKind) × NamesKind named token × (error ≡ OfToken (OtherKind named key))
IsTokenError token key source error = error ≡ use_error_of source

abbrev pub key_error_of : PaserkError → ProgramError
key_error_of (NoKeyMemory source) = OfSystem (Memory source)
key_error_of error = OfFile (Key error)

abbrev pub stream_error_of : StreamError → ProgramError
stream_error_of NoStream = OfSystem InputOrOutput
stream_error_of (NoStreamMemory source) = OfSystem (Memory source)

abbrev pub key_file_error_of : KeyFileError → ProgramError
key_file_error_of (NoFileMemory source) = OfSystem (Memory source)
key_file_error_of NoBytes = OfSystem Random
key_file_error_of (Wrap WrongKey) = OfToken Wrapped
key_file_error_of error = OfFile (KeyFile error)

-- why the words could not be read, by the kind of the system's error: memory was refused, a word is no text, or else
-- the system failed
abbrev pub words_error : ErrorKind → ProgramError
words_error OutOfMemory = OfSystem (Memory alloc_error)
words_error InvalidData = OfUsage NotText
words_error _ = OfSystem InputOrOutput

-- why a file could not be opened or made
abbrev pub file_error : ErrorKind → ProgramError
file_error OutOfMemory = OfSystem (Memory alloc_error)
file_error NotFound = OfFile NoFile
file_error AlreadyExists = OfFile FileExists
file_error PermissionDenied = OfFile NoPermission
file_error IsADirectory = OfFile IsFolder
file_error NotADirectory = OfFile NotFolder
file_error _ = OfFile NoAccess

-- why a new file could not be given its name
abbrev pub link_error : ErrorKind → ProgramError
link_error OutOfMemory = OfSystem (Memory alloc_error)
link_error AlreadyExists = OfFile FileExists
link_error _ = OfFile NoLink

-- memory was refused
abbrev pub IsMemory : ProgramError → Type 0
IsMemory (OfSystem (Memory _)) = ⊤
IsMemory _ = ⊥

-- an error that says nothing of the words, of the key or of the input
abbrev pub IsOutside : ProgramError → Type 0
IsOutside (OfSystem _) = ⊤
IsOutside _ = ⊥

-- an error that says nothing of the words, so that the program does not end with status 2
abbrev pub IsNoUsage : ProgramError → Type 0
IsNoUsage (OfUsage _) = ⊥
IsNoUsage _ = ⊤

-- an error that refuses a key, a text or a token and has no text of its own, or that says nothing of them: what is said of
-- it is in this table, and holds nothing of the key or of the input
abbrev pub IsFixed : ProgramError → Type 0
IsFixed (OfToken (Unfit _)) = ⊥
IsFixed error = IsNoUsage error

-- where some errors may come: that random bytes are at fault, the clock, the length of a key file, a footer, a read or a write
pub record Blame : Type 1 where
  pub no_bytes : Type 0
  pub no_moment : Type 0
  pub too_long : Type 0
  pub other_footer : Type 0
  pub no_stream : Type 0

-- nowhere
abbrev pub nothing : Blame
nothing = record { no_bytes = ⊥; no_moment = ⊥; too_long = ⊥; other_footer = ⊥; no_stream = ⊥ }

-- the error may come there
abbrev pub BlamesOnly : Blame → ProgramError → Type 0
BlamesOnly blame (OfSystem Random) = blame.no_bytes
BlamesOnly blame (OfSystem Clock) = blame.no_moment
BlamesOnly blame (OfFile TooLong) = blame.too_long
BlamesOnly blame (OfToken OtherFooter) = blame.other_footer
BlamesOnly blame (OfSystem InputOrOutput) = blame.no_stream
BlamesOnly blame _ = ⊤

-- an error that says none of this
abbrev pub BlamesNone : ProgramError → Type 0
BlamesNone = BlamesOnly nothing

-- one of them that has no text of its own
abbrev pub IsPlainBut : Blame → ProgramError → Type 0
IsPlainBut blame error = IsFixed error × BlamesOnly blame error

abbrev pub IsPlain : ProgramError → Type 0
IsPlain = IsPlainBut nothing

-- one of them from outside
abbrev pub Fails : Blame → ProgramError → Type 0
Fails blame error = IsOutside error × BlamesOnly blame error

-- what is said of the error stands in this table, or is a line that is so
abbrev pub Says : (List ℕ → Type 0) → ProgramError → Type 0
Says IsLine (OfToken (Unfit line)) = IsLine (string_bytes line)
Says IsLine error = ⊤

-- the error that ends the program: why nothing was made, or else a write that failed
abbrev pub IsCauseOf : {T : Type 0} → Result T ProgramError → ProgramError → Type 0
IsCauseOf (Ok value) error = error ≡ OfSystem InputOrOutput
IsCauseOf (Err cause) error = error ≡ cause

-- an error of the words or from outside, which refuses no key, text or token, so that the program does not end with status 1
abbrev pub IsNoRefusal : ProgramError → Type 0
IsNoRefusal (OfUsage _) = ⊤
IsNoRefusal (OfSystem _) = ⊤
IsNoRefusal _ = ⊥

-- one of the words, or memory was refused, or a read or a write failed
abbrev pub IsOfWords : ProgramError → Type 0
IsOfWords error = IsNoRefusal error × BlamesNone error

-- the error came from outside, or there is nothing that is so
abbrev pub Lacks : {X : Type 0} → (X → Type 0) → ProgramError → Type 0
Lacks {X} P error = IsOutside error ⊎ ((x : X) → ¬ P x)
