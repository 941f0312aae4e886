-- What words ask for, or the kinds of error for which they are refused.
use Rattle.std.specs.Prelude.{◌≡◌, ℕ, List, [], ◌∷◌, if◌then◌else◌, Option, None, is_some, map, string_bytes}
use Rattle.std.specs.declared.alloc.Global.{Global}
use Rattle.std.specs.declared.string.String.{String}
use Rattle.clap.specs.Kinds.{or_else}
use Rattle.clap.specs.Walk.{is_empty}
use Rattle.clap.specs.Words.{App, Kinds, Row, Text, fault_of, subcommand_of, subcommand_rows_of}
use Rattle.clap.specs.declared.error.kind.ErrorKind.{ErrorKind}
use Rattle.clap.specs.declared.error.kind.ErrorKind.TheVariants as kind
use Rattle.clap.specs.declared.parser.matches.ArgMatches.{ArgMatches}
use Rattle.paseto_words.specs.Action.{Asked}
use Rattle.paseto_words.specs.App.{paseto_app}
use Rattle.paseto_words.specs.Reading.{found_in}

-- clap takes the words, and what it finds asks for something
abbrev pub asked_by : App → List Text → Option Asked
asked_by a words = if is_empty (fault_of a words) then found_in (subcommand_of a words) else None

-- the kinds of error of what clap finds: none where it asks for something, or else that of options that exclude each other
abbrev pub own_faults : Option (Text × List Row) → Kinds
own_faults found = if is_some (found_in found) then [] else kind.ArgumentConflict ∷ []

-- the kinds of error that the words may give: those of clap, or that of options that exclude each other
abbrev pub faults_by : App → List Text → Kinds
faults_by a words = or_else (fault_of a words) (own_faults (subcommand_of a words))

abbrev pub asked : List Text → Option Asked
asked = asked_by paseto_app

abbrev pub faults : List Text → Kinds
faults = faults_by paseto_app

abbrev pub words_of : List (String Global) → List Text
words_of words = map (λ word. string_bytes word) words

abbrev pub status_of : ErrorKind → ℕ
status_of kind.OutOfMemory = 4
status_of kind.DisplayHelp = 0
status_of kind.DisplayVersion = 0
status_of _ = 2

-- ---- for private clauses

-- clap takes the words, and finds this in them
abbrev pub IsFoundIn : App → List Text → ArgMatches → Type 0
IsFoundIn a words matches = (fault_of a words ≡ []) × (subcommand_rows_of matches ≡ subcommand_of a words)
