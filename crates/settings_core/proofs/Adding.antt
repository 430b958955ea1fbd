-- A command with one more argument or subcommand, or with some arguments.
use Rattle.std.proofs.Common.{◌≡◌, ◌∙◌, ◌||◌, ◌<◌, ◌≤◌, ◌+◌, ◌++◌, ◌∷◌, [], ℕ, List, ap, ap₂, sym}
use Rattle.std.proofs.Common.{map, take, length, get_or}
use Rattle.std.proofs.lemmas.List.{append-nil, append_assoc, map-append, take_all, take_more}
use Rattle.clap.specs.Simple.{on_top}
use Rattle.clap.specs.Words.{AddsArg, AddsSubcommand, App, Rule, with_rule, with_subcommand}
use Rattle.clap.specs.declared.builder.arg.Arg.{Arg}
use Rattle.clap.specs.declared.builder.command.Command.{Command}
use Rattle.clap.specs.declared.builder.command.Command.TheViews.{out-Command}
use Rattle.settings_core.specs.Program.{IsCommand, IsWord, with_rules}
use Rattle.settings_core.specs.Rules.{rule}
use Rattle.settings_core.specs.declared.arguments.Argument.{Argument}

with_word : (a : App) (r : Rule) (old : Command) (x : Arg) (new : Command) → IsCommand a old → IsWord r x
    → AddsArg old x new → IsCommand (with_rule a r) new
with_word a r old x new command word added = (
  added.shape word.1 ∙ ap₂ with_rule command.0 word.0,
  added.globals ∙ (ap (λ b. b || x.global) command.1 ∙ word.1),
)

-- the same command, by the list of its rules
with_same : (a : App) (xs ys : List Rule) (c : Command) → xs ≡ ys
    → IsCommand (on_top (λ s. record s { rules = xs }) a) c → IsCommand (on_top (λ s. record s { rules = ys }) a) c
with_same a xs ys c same is = (is.0 ∙ ap (λ rs. on_top (λ s. record s { rules = rs }) a) same, is.1)

pub with_none : (a : App) (c : Command) → IsCommand a c → IsCommand (with_rules a []) c
with_none a c is = with_same a a.top.rules (a.top.rules ++ []) c (sym (append-nil a.top.rules)) is

-- with one argument more than the first i of some
pub with_more : (a : App) (xs : List Argument) (i : ℕ) (d : Argument) (old : Command) (arg : Arg) (new : Command)
    → i < length xs → IsCommand (with_rules a (map rule (take i xs))) old → IsWord (rule (get_or xs i d)) arg
    → AddsArg old arg new → IsCommand (with_rules a (map rule (take (i + 1) xs))) new
with_more a xs i d old arg new low command word added =
    let few = map rule (take i xs) in
    let next = rule (get_or xs i d) in
    let more : map rule (take (i + 1) xs) ≡ few ++ next ∷ [] = ap (map rule) (take_more xs i d low)
    ∙ map-append rule (take i xs) (get_or xs i d ∷ []) in
    with_same a ((a.top.rules ++ few) ++ next ∷ []) (a.top.rules ++ map rule (take (i + 1) xs)) new
    (append_assoc a.top.rules few (next ∷ []) ∙ ap (λ rs. a.top.rules ++ rs) (sym more))
    (with_word (with_rules a few) next old arg new command word added)

pub with_all : (a : App) (xs : List Argument) (i : ℕ) (c : Command) → length xs ≤ i
    → IsCommand (with_rules a (map rule (take i xs))) c → IsCommand (with_rules a (map rule xs)) c
with_all a xs i c all is = with_same a (a.top.rules ++ map rule (take i xs)) (a.top.rules ++ map rule xs) c
    (ap (λ ys. a.top.rules ++ map rule ys) (take_all i xs all)) is

pub with_command : (a b : App) (old sub new : Command) → IsCommand a old → IsCommand b sub
    → AddsSubcommand old sub new → IsCommand (with_subcommand a b.top) new
with_command a b old sub new above below added = (
  added.shape below.1 ∙ ap₂ with_subcommand above.0 (ap (λ (c : App). c.top) below.0),
  added.globals ∙ (ap (λ b. b || (out-Command sub).has_globals) above.1 ∙ below.1),
)
