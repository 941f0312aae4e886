-- The commands of `paseto`, each with its options and places, as clap knows them.
use Rattle.std.specs.Prelude.{◌≡◌, List, [], ◌∷◌, ◌++◌, true, false, Some, codes, map}
use Rattle.clap.specs.Words.{App, Rule, Text, app_of, new_app, new_rule, with_subcommand}
use Rattle.clap.specs.Simple.{on_top}
use Rattle.clap.specs.declared.builder.action.ArgAction.TheVariants.{Append, SetTrue}
use Rattle.clap.specs.declared.builder.command.Command.{Command}
use Rattle.clap.specs.declared.builder.command.Command.TheViews.{out-Command}
use Rattle.paseto_words.specs.declared.app.Form.{Form}
use Rattle.paseto_words.specs.declared.app.Form.TheVariants as form
use Rattle.paseto_words.specs.declared.app.Parameter.{Parameter}
use Rattle.paseto_words.specs.declared.app.Subcommand.{Subcommand}

-- an option `--ID VALUE`
abbrev pub option_rule : Text → Rule
option_rule id = record (new_rule id) { long = Some id; value_names = 1 }

-- one that may stand many times
abbrev pub many_rule : Text → Rule
many_rule id = record (option_rule id) { action = Some Append }

-- an option `--ID` without a value
abbrev pub flag_rule : Text → Rule
flag_rule id = record (new_rule id) { long = Some id; action = Some SetTrue }

-- a word that is no option
abbrev pub place_rule : Text → Rule
place_rule id = record (new_rule id) { value_names = 1 }

abbrev pub needed : Rule → Rule
needed r = record r { required = true }

-- a command that takes these too, after what it takes
abbrev pub with_rules : App → List Rule → App
with_rules a rules = on_top (λ s. record s { rules = s.rules ++ rules }) a

-- the command of this name that takes these, in this order
abbrev pub command : Text → List Rule → App
command name rules = with_rules (new_app name) rules

-- one with these commands too, in this order
abbrev pub with_subcommands : App → List App → App
with_subcommands a [] = a
with_subcommands a (s ∷ ss) = with_subcommands (with_subcommand a s.top) ss

-- a key file, and what opens it
abbrev pub key_rules : List Rule
key_rules = option_rule (codes "key") ∷ option_rule (codes "password-file") ∷ option_rule (codes "unlock-key") ∷ []

abbrev pub keygen_app : App
keygen_app = command (codes "keygen") (needed (place_rule (codes "kind")) ∷ option_rule (codes "password-file")
    ∷ option_rule (codes "format") ∷ option_rule (codes "out") ∷ option_rule (codes "public")
    ∷ flag_rule (codes "quiet") ∷ [])

-- a command that writes a key
abbrev pub writing_app : Text → App
writing_app name = command name (key_rules ++ option_rule (codes "format") ∷ option_rule (codes "out") ∷ [])

abbrev pub id_app : App
id_app = command (codes "id") key_rules

abbrev pub wrap_app : App
wrap_app = command (codes "wrap") (option_rule (codes "key") ∷ option_rule (codes "wrapping-key")
    ∷ option_rule (codes "password-file") ∷ option_rule (codes "out") ∷ [])

abbrev pub seal_app : App
seal_app = command (codes "seal") (key_rules ++ needed (option_rule (codes "to")) ∷ option_rule (codes "out") ∷ [])

abbrev pub issue_app : App
issue_app = command (codes "issue") (key_rules ++ option_rule (codes "ring") ∷ many_rule (codes "claim") ∷ option_rule (codes "expires")
    ∷ option_rule (codes "not-before") ∷ option_rule (codes "footer") ∷ option_rule (codes "footer-kid")
    ∷ option_rule (codes "assertion") ∷ option_rule (codes "out") ∷ [])

abbrev pub check_app : App
check_app = command (codes "check") (key_rules ++ option_rule (codes "ring") ∷ many_rule (codes "claim")
    ∷ many_rule (codes "require") ∷ option_rule (codes "at") ∷ option_rule (codes "leeway")
    ∷ option_rule (codes "footer") ∷ option_rule (codes "footer-kid") ∷ option_rule (codes "assertion")
    ∷ flag_rule (codes "each") ∷ option_rule (codes "longest") ∷ place_rule (codes "input") ∷ [])

-- what a command takes, beside its key, that takes a text or a token
abbrev pub input_rules : List Rule
input_rules = option_rule (codes "footer") ∷ option_rule (codes "assertion") ∷ option_rule (codes "longest")
    ∷ place_rule (codes "input") ∷ []

-- a command that takes a token
abbrev pub opening_app : Text → App
opening_app name = command name (key_rules ++ option_rule (codes "ring") ∷ input_rules)

-- a command that takes a text and makes a token
abbrev pub sealing_app : Text → App
sealing_app name = command name (key_rules ++ input_rules ++ option_rule (codes "out") ∷ [])

abbrev pub explain_app : App
explain_app = command (codes "explain") (key_rules ++ needed (option_rule (codes "issued")) ∷ input_rules)

abbrev pub inspect_app : App
inspect_app = command (codes "inspect") (option_rule (codes "longest") ∷ place_rule (codes "input") ∷ [])

abbrev pub top_app : App
top_app = on_top (λ s. record s { has_version = true; subcommand_required = true; arg_required_else_help = true })
    (new_app (codes "paseto"))

abbrev pub key_apps : List App
key_apps = keygen_app ∷ writing_app (codes "public") ∷ id_app ∷ wrap_app ∷ writing_app (codes "unwrap") ∷ seal_app
    ∷ writing_app (codes "unseal") ∷ []

abbrev pub token_apps : List App
token_apps = issue_app ∷ check_app ∷ sealing_app (codes "encrypt") ∷ opening_app (codes "decrypt")
    ∷ sealing_app (codes "sign") ∷ opening_app (codes "verify") ∷ explain_app ∷ inspect_app ∷ []

abbrev pub paseto_app : App
paseto_app = with_subcommands (with_subcommands top_app key_apps) token_apps

-- a command is this one for a parse
abbrev pub IsFor : App → Command → Type 0
IsFor a c = (app_of c ≡ a) × ((out-Command c).has_globals ≡ false)

-- ---- the rows of the program's tables, as clap knows them

abbrev pub form_rule : Form → Text → Rule
form_rule (form.Option _) id = option_rule id
form_rule (form.Many _) id = many_rule id
form_rule form.Flag id = flag_rule id
form_rule (form.Place _) id = place_rule id

abbrev pub rule_for : Parameter → Rule
rule_for p = record (form_rule p.form p.id.now) { required = p.is_required }

abbrev pub app_for : Subcommand → App
app_for s = command s.name.now (map rule_for s.parameters.now)
