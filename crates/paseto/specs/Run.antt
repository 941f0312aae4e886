-- The commands on claims, over any generator, input and outputs.
use Rattle.std.specs.Prelude.{◌≡◌, ◌⊎◌, ℕ, List, Option}
use Rattle.jiff.specs.Types.{Timestamp}
use Rattle.paseto_keys.specs.AnyKey.{KeyParts}
use Rattle.paseto_keys.specs.Drawing.{IsDraw}
use Rattle.paseto_tasks.specs.Error.{Fails}
use Rattle.paseto_tasks.specs.Input.{OfInput, reading, token_of_input}
use Rattle.paseto_tasks.specs.Run.{IsRefusal, Leaves, Tells}
use Rattle.paseto_tasks.specs.declared.arguments.Options.{Options}
use Rattle.paseto_tasks.specs.declared.error.Names.{Names}
use Rattle.paseto_tasks.specs.declared.error.ProgramError.{ProgramError}
use Rattle.paseto_tasks.specs.declared.error.ProgramError.TheVariants.{System}
use Rattle.paseto_tasks.specs.declared.error.system.SystemError.TheVariants.{InputOrOutput}
use Rattle.paseto.specs.Checked.{ChecksFor, RefusesCheck}
use Rattle.paseto.specs.Issue.{IssuesFor, RefusesIssue, draws, issuing}
use Rattle.paseto_words.specs.Action.{text, texts_of}
use Rattle.paseto_words.specs.declared.action.Check.{Check}
use Rattle.paseto_words.specs.declared.action.Issue.{Issue}
use Rattle.paseto.specs.Files.{input_name}
use Rattle.paseto.specs.Keys.{key_name}
use Rattle.paseto.specs.Options.{check_options, issue_options, option_texts}
use Rattle.paseto.specs.declared.commands.check.Keys.{Keys}

-- the error that ends such a command: it refuses, or fails, or the output that it prints was not written
abbrev pub Ends : (List ℕ → Type 0) → (Refuses Fault : ProgramError → Type 0) → ProgramError → Type 0
Ends Prints Refuses Fault error =
    (Refuses error ⊎ Fault error) ⊎ ((error ≡ System InputOrOutput) × ((output : List ℕ) × Prints output))

-- how a command ends that prints, refuses or fails so: what it leaves in its output, and what it says on standard error
pub record EndsSo {W E : Type 0} (Prints : List ℕ → Type 0) (Refuses Fault : ProgramError → Type 0) (contents : W → Option (List ℕ))
    (errors : E → Option (List ℕ)) (names : Names) (status : ℕ) (before after : W) (said_before said_after : E) : Type 0 where
  pub leaves : Leaves contents Prints (IsRefusal Refuses status) status before after
  pub tells : Tells errors names (Ends Prints Refuses Fault) status said_before said_after

-- the token of the words is issued with a key at a moment, and what is said names the file of the key
pub record IssuesToken {W E : Type 0} (words : Issue) (key : KeyParts) (now : Timestamp) (IsGiven : List ℕ → Type 0) (IsNotCalled Failure : Type 0)
    (contents : W → Option (List ℕ)) (errors : E → Option (List ℕ)) (status : ℕ) (before after : W) (said_before said_after : E) : Type 0 where
  pub options : Options
  pub are_options : option_texts options ≡ issue_options words
  pub names : Names
  pub key_is : names.key.now ≡ key_name (text words.key.file)
  pub runs : EndsSo (IssuesFor (texts_of words.claims.items) options now key (IsDraw (draws key) IsGiven IsNotCalled))
      (RefusesIssue (texts_of words.claims.items) options now key) (Fails (issuing key Failure now)) contents errors names status before after said_before said_after

-- the token of an input is checked with keys at a moment, as the words say, and what is said names the keys and the input
pub record ChecksToken {W E : Type 0} (words : Check) (name : List ℕ) (keys : Keys) (now : Timestamp) (known : Option (List ℕ))
    (contents : W → Option (List ℕ)) (errors : E → Option (List ℕ)) (status : ℕ) (before after : W) (said_before said_after : E) : Type 0 where
  pub options : Options
  pub are_options : option_texts options ≡ check_options words
  pub names : Names
  pub key_is : names.key.now ≡ name
  pub input_is : names.input.now ≡ input_name (text words.input)
  pub runs : EndsSo (λ line. OfInput known (λ bytes. ChecksFor (texts_of words.claims.items) options now keys (token_of_input bytes) line))
      (RefusesCheck (texts_of words.claims.items) options now keys known) (Fails reading) contents errors names status before after said_before said_after
