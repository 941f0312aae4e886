-- The commands `encrypt`, `decrypt`, `sign` and `verify`.
use Rattle.std.specs.Prelude.{◌≡◌, ℕ, List, Option}
use Rattle.paseto_keys.specs.AnyKey.{KeyParts}
use Rattle.paseto_tasks.specs.Run.{Ends, FailsOf, IsRefusal, Leaves, PrintsOf, RefusesOf, Tells}
use Rattle.paseto_tasks.specs.Tokens.{drawn_by}
use Rattle.paseto_tasks.specs.declared.arguments.Options.{Options}
use Rattle.paseto_tasks.specs.declared.arguments.Task.{Task}
use Rattle.paseto_tasks.specs.declared.error.Names.{Names}
use Rattle.paseto_words.specs.Action.{text}
use Rattle.paseto_words.specs.declared.action.Keyed.{Keyed}
use Rattle.paseto.specs.Files.{input_name}
use Rattle.paseto.specs.Keys.{key_name}
use Rattle.paseto.specs.Options.{option_texts, text_options}

-- the task is done with a key, the footer and the implicit assertion of the words, and what is said names the files of the
-- words
pub record DoesTask {W E : Type 0} (task : Task) (words : Keyed) (key : KeyParts) (IsGiven : List ℕ → Type 0) (IsNotCalled Failure : Type 0)
    (known : Option (List ℕ)) (contents : W → Option (List ℕ)) (errors : E → Option (List ℕ)) (status : ℕ) (before after : W)
    (said_before said_after : E) : Type 0 where
  pub options : Options
  pub are_options : option_texts options ≡ text_options (text words.footer) (text words.assertion)
  pub names : Names
  pub key_is : names.key.now ≡ key_name (text words.key.file)
  pub input_is : names.input.now ≡ input_name (text words.input)
  pub leaves : Leaves contents (PrintsOf task options (drawn_by IsGiven IsNotCalled) key known)
      (IsRefusal (RefusesOf task options (drawn_by IsGiven IsNotCalled) key known) status) status before after
  pub tells : Tells errors names (Ends (PrintsOf task options (drawn_by IsGiven IsNotCalled) key known)
      (RefusesOf task options (drawn_by IsGiven IsNotCalled) key known) (FailsOf task options Failure key)) status said_before said_after
