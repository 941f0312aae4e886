-- Which arguments are keys that no line may repeat, and which task an action is.
use Rattle.std.specs.Prelude.{◌≡◌, ◌<◌, ◌==◌, ◌⊎◌, ℕ, List, length}
use Rattle.std.specs.List.{after_first, position_or_len}
use Rattle.rusty_paseto_paserk.specs.Header.{HasHeader}
use Rattle.rusty_paseto_paserk.specs.declared.header.PaserkVersion.{PaserkVersion}
use Rattle.rusty_paseto_paserk.specs.declared.header.PaserkType.TheVariants.{Local, Secret}
use Rattle.paseto_tasks.specs.declared.arguments.Task.{Task}
use Rattle.paseto_tasks.specs.declared.arguments.Task.TheVariants as task
use Rattle.paseto_words.specs.declared.action.Action.{Action}
use Rattle.paseto_words.specs.declared.action.Action.TheVariants as action

-- a text begins like a secret key
abbrev pub IsSecretKey : List ℕ → Type 0
IsSecretKey text = (version : PaserkVersion) × (HasHeader version Local text ⊎ HasHeader version Secret text)

-- an argument is a secret key, or passes one to an option, behind its first equals sign
abbrev pub HoldsSecretKey : List ℕ → Type 0
HoldsSecretKey word = IsSecretKey word
    ⊎ ((position_or_len (λ b. b == 61) word < length word) × IsSecretKey (after_first (λ b. b == 61) word))

-- an argument is no secret key, and none stands behind its first equals sign, if it has one
abbrev pub HoldsNoSecretKey : List ℕ → Type 0
HoldsNoSecretKey word = (¬ IsSecretKey word)
    × ((position_or_len (λ b. b == 61) word ≡ length word) ⊎ (¬ IsSecretKey (after_first (λ b. b == 61) word)))

-- the task of an action with a key and a text
abbrev pub task_of : Action → Task
task_of (action.Decrypt _) = task.Decrypt
task_of (action.Sign _) = task.Sign
task_of (action.Verify _) = task.Verify
task_of _ = task.Encrypt
