-- What a further parameter or subcommand makes of a command.
use Rattle.std.proofs.Common.{◌≡◌, ◌∙◌, ◌||◌, ℕ, ◌+◌, ◌<◌, ◌≤◌, Bool, false, List, [], ◌∷◌, ◌++◌, length, get_or, map, take, ap, ap₂, append_assoc, append-nil, refl, subst, sym}
use Rattle.std.proofs.lemmas.List.{map_more, take_all}
use Rattle.clap.specs.Simple.{app_of_fields, on_top}
use Rattle.clap.specs.Words.{AddsArg, AddsSubcommand, App, Rule, app_of, rule_of, with_rule, with_subcommand}
use Rattle.clap.specs.declared.builder.arg.Arg.{Arg}
use Rattle.clap.specs.declared.builder.command.Command.{Command}
use Rattle.clap.specs.declared.builder.command.Command.TheOpen.{Command-F}
use Rattle.clap.specs.declared.builder.command.Command.TheViews.{out-Command}
use Rattle.paseto_words.specs.declared.app.Parameter.{Parameter}
use Rattle.paseto_words.specs.declared.app.Subcommand.{Subcommand}
use Rattle.paseto_words.specs.App.{IsFor, app_for, rule_for, with_rules, with_subcommands}

adds : (a : App) (r : Rule) (old : Command) (arg : Arg) (new : Command) → IsFor a old → rule_of arg ≡ r
    → arg.global ≡ false → AddsArg old arg new → IsFor (with_rule a r) new
adds a r old arg new is rule local h =
    (h.shape local ∙ ap₂ with_rule is.0 rule, h.globals ∙ ap₂ (λ (x y : Bool). x || y) is.1 local)

adds_subcommand : (a s : App) (old sub new : Command) → IsFor a old → IsFor s sub → AddsSubcommand old sub new
    → IsFor (with_subcommand a s.top) new
adds_subcommand a s old sub new is sub_is h = (
  h.shape sub_is.1 ∙ ap₂ with_subcommand is.0 (ap (λ (x : App). x.top) sub_is.0),
  h.globals ∙ ap₂ (λ (x y : Bool). x || y) is.1 sub_is.1,
)

with_rules-nil : (a : App) → with_rules a [] ≡ a
with_rules-nil a = ap (λ (rs : List Rule). on_top (λ s. record s { rules = rs }) a) (append-nil a.top.rules)

with_rules-last : (a : App) (rs : List Rule) (r : Rule) → with_rule (with_rules a rs) r ≡ with_rules a (rs ++ r ∷ [])
with_rules-last a rs r = ap (λ (all : List Rule). on_top (λ s. record s { rules = all }) a) (append_assoc a.top.rules rs (r ∷ []))

with_subcommands-last : (a : App) (ss : List App) (s : App)
    → with_subcommand (with_subcommands a ss) s.top ≡ with_subcommands a (ss ++ s ∷ [])
with_subcommands-last a [] s = refl
with_subcommands-last a (x ∷ ss) s = with_subcommands-last (with_subcommand a x.top) ss s

pub takes_none : (a : App) (c : Command) → IsFor a c → IsFor (with_rules a []) c
takes_none a c is = subst (λ x. IsFor x c) (sym (with_rules-nil a)) is

-- the parameter at i
pub takes_next : (a : App) (ps : List Parameter) (i : ℕ) (d : Parameter) (old : Command) (arg : Arg) (new : Command)
    → i < length ps → IsFor (with_rules a (map rule_for (take i ps))) old → rule_of arg ≡ rule_for (get_or ps i d)
    → arg.global ≡ false → AddsArg old arg new → IsFor (with_rules a (map rule_for (take (i + 1) ps))) new
takes_next a ps i d old arg new within is rule local h =
    let more = with_rules-last a _ _ ∙ ap (with_rules a) (sym (map_more rule_for ps i d within)) in
    subst (λ x. IsFor x new) more (adds _ _ _ _ _ is rule local h)

pub takes_all : (a : App) (ps : List Parameter) (i : ℕ) (c : Command) → length ps ≤ i
    → IsFor (with_rules a (map rule_for (take i ps))) c → IsFor (with_rules a (map rule_for ps)) c
takes_all a ps i c end is = subst (λ (xs : List Parameter). IsFor (with_rules a (map rule_for xs)) c) (take_all i ps end) is

-- the subcommand at i
pub has_next : (a : App) (ss : List Subcommand) (i : ℕ) (d : Subcommand) (old sub new : Command)
    → i < length ss → IsFor (with_subcommands a (map app_for (take i ss))) old → IsFor (app_for (get_or ss i d)) sub
    → AddsSubcommand old sub new → IsFor (with_subcommands a (map app_for (take (i + 1) ss))) new
has_next a ss i d old sub new within is sub_is h =
    let more = with_subcommands-last a (map app_for (take i ss)) (app_for (get_or ss i d)) ∙ ap (with_subcommands a) (sym (map_more app_for ss i d within)) in
    subst (λ x. IsFor x new) more (adds_subcommand _ _ _ _ _ is sub_is h)

pub has_all : (a : App) (ss : List Subcommand) (i : ℕ) (c : Command) → length ss ≤ i
    → IsFor (with_subcommands a (map app_for (take i ss))) c → IsFor (with_subcommands a (map app_for ss)) c
has_all a ss i c end is = subst (λ (xs : List Subcommand). IsFor (with_subcommands a (map app_for xs)) c) (take_all i ss end) is

-- a setting that a parse does not read
pub as_before : (a : App) (old new : Command) (f : Command-F Command) → IsFor a old → out-Command new ≡ f
    → app_of_fields f ≡ app_of old → f.has_globals ≡ (out-Command old).has_globals → IsFor a new
as_before a old new f is fields app globals =
    (ap app_of_fields fields ∙ app ∙ is.0, ap (λ (g : Command-F Command). g.has_globals) fields ∙ globals ∙ is.1)

-- the name that errors show
pub also_named : (a : App) (old new : Command) → IsFor a old
    → out-Command new ≡ record (out-Command old) { bin_name = (out-Command new).bin_name } → IsFor a new
also_named a old new is fields = as_before a old new _ is fields refl refl

pub globals : {f g : Command-F Command} → f ≡ g → f.has_globals ≡ g.has_globals
globals is = ap (λ (h : Command-F Command). h.has_globals) is
