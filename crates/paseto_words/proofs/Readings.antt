-- What clap's answers say of what words ask for.
use Rattle.std.proofs.Common.{◌≡◌, ◌∙◌, ◌&&◌, Bool, List, [], ◌∷◌, false, true, option_map, Option, None, Some, Result, Ok, Err, IfOk, IfErr, if◌then◌else◌, ap, sym, refl, inl, inr}
use Rattle.clap.specs.Words.{App, Row, Text, FailsBy, HasKind, IsAmong, Kinds, fault_of, is_simple, is_simple_and_free, kind_of, subcommand_name_of, subcommand_of, subcommand_rows_of}
use Rattle.clap.specs.Faults.{is_free_app}
use Rattle.clap.specs.Kinds.{or_else}
use Rattle.clap.specs.Simple.{built}
use Rattle.clap.specs.Walk.{is_empty}
use Rattle.clap.specs.declared.error.Error.{Error}
use Rattle.clap.specs.declared.error.kind.ErrorKind.{ErrorKind}
use Rattle.clap.specs.declared.parser.matches.ArgMatches.{ArgMatches}
use Rattle.clap.proofs.OnLiterals.{clap_on_literals}
use Rattle.paseto_words.specs.Action.{Asked}
use Rattle.paseto_words.specs.App.{paseto_app}
use Rattle.paseto_words.specs.CommandLine.{IsFoundIn, asked_by, faults_by, own_faults}
use Rattle.paseto_words.specs.Reading.{asked_in, found_in}

pub is_free_paseto : is_simple_and_free paseto_app ≡ true
unfolding clap_on_literals
is_free_paseto = refl

first : (s t : Bool) → (s && t) ≡ true → s ≡ true
first true t is = refl
first false t is = is

pub is_simple_paseto : is_simple paseto_app ≡ true
is_simple_paseto = first (is_simple paseto_app) (is_free_app (built paseto_app)) is_free_paseto

pub asked_is : (a : App) (words : List Text) (found : Option (Text × List Row)) (answer : Option Asked)
    → fault_of a words ≡ [] → found ≡ subcommand_of a words → answer ≡ found_in found → asked_by a words ≡ answer
asked_is a words found answer no_fault is gives =
    ap (λ (f : Kinds). if is_empty f then found_in (subcommand_of a words) else None) no_fault
    ∙ ap found_in (sym is) ∙ sym gives

among_first : (k : ErrorKind) (xs ys : Kinds) → IsAmong k xs → IsAmong k (or_else xs ys)
among_first k [] ys h = absurd h
among_first k (x ∷ xs) ys h = h

-- clap's errors
pub clap_fault : (a : App) (words : List Text) (e : Error) → HasKind (fault_of a words) e → HasKind (faults_by a words) e
clap_fault a words e h = elim h [
  | inl out ↦ inl out
  | inr among ↦ inr (among_first (kind_of e) (fault_of a words) _ among)
]

-- words that clap takes
pub taken : (a : App) (words : List Text) (r : Result ArgMatches Error) → FailsBy (fault_of a words) r
    → IfOk r (λ m. subcommand_rows_of m ≡ subcommand_of a words) → IfOk r (IsFoundIn a words)
taken a words (Ok m) none is = (none, is)
taken a words (Err e) kinds is = tt

pub refused_by : (kinds : Kinds) (r : Result ArgMatches Error) → FailsBy kinds r → IfErr r (HasKind kinds)
refused_by kinds (Ok m) none = tt
refused_by kinds (Err e) has = has

-- what may be wrong with them
pub own_is : (a : App) (words : List Text) (found : Option (Text × List Row)) → fault_of a words ≡ [] → found ≡ subcommand_of a words
    → own_faults found ≡ faults_by a words
own_is a words found no_fault is =
    ap own_faults is ∙ ap (λ (f : Kinds). or_else f (own_faults (subcommand_of a words))) (sym no_fault)

module _ {A B C : Type 0} (f : A → B) (g : B → C) where
  fused : (o : Option A) → option_map g (option_map f o) ≡ option_map (λ a. g (f a)) o
  fused None = refl
  fused (Some a) = refl

-- the command that clap finds is the one of this name and these rows
named_found : (found : Option (Text × List Row)) (name : Text) (rows : List Row)
    → option_map (λ p. p.0) found ≡ Some name → option_map (λ p. p.1) found ≡ Some rows → found_in found ≡ asked_in name rows
named_found None name rows is has = absurd (cc)
named_found (Some (n, r)) name rows is has = let named : n ≡ name = cc in let taken : r ≡ rows = cc in λ i. asked_in (named i) (taken i)

pub asked_of : (m : ArgMatches) (name : Text) (rows : List Row) → subcommand_name_of m ≡ Some name
    → option_map (λ p. p.1) (subcommand_rows_of m) ≡ Some rows → found_in (subcommand_rows_of m) ≡ asked_in name rows
asked_of m name rows is has = named_found (subcommand_rows_of m) name rows (fused _ (λ p. p.0) _ ∙ is) has
