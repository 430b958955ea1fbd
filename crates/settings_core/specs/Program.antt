-- The words that the program knows, as `clap` sees them.
--     program          its commands: answer, check, plan, sim, serve, sync, put, news, stop and status
--     IsWord r a       the argument is this one, for its own command alone
--     IsCommand a c    the command is this one, with no argument for those below it
use Rattle.std.specs.Prelude.{◌≡◌, ℕ, pos, codes, Bool, true, false, List, [], ◌∷◌, ◌++◌, Some}
use Rattle.clap.specs.Words.{App, Rule, Text, app_of, new_app, new_rule, rule_of, with_subcommand}
use Rattle.clap.specs.Simple.{on_top}
use Rattle.clap.specs.declared.builder.arg.Arg.{Arg}
use Rattle.clap.specs.declared.builder.action.ArgAction.TheVariants.{SetTrue}
use Rattle.clap.specs.declared.builder.command.Command.{Command}
use Rattle.clap.specs.declared.builder.command.Command.TheViews.{out-Command}
use Rattle.clap.specs.declared.builder.value_parser.ValueParser.TheVariants.{Signed}
use Rattle.settings_core.specs.Addresses.{default_address}

abbrev pub IsWord : Rule → Arg → Type 0
IsWord r a = (rule_of a ≡ r) × (a.global ≡ false)

abbrev pub IsCommand : App → Command → Type 0
IsCommand a c = (app_of c ≡ a) × ((out-Command c).has_globals ≡ false)

-- ---- kinds of arguments

-- `NAME`, and whether it must be given
abbrev pub placed : Text → Bool → Rule
placed id must = record (new_rule id) { required = must }

-- `--name`
abbrev pub flag : Text → Rule
flag name = record (new_rule name) { long = Some name; action = Some SetTrue }

-- `--name VALUE`
abbrev pub valued : Text → Rule
valued name = record (new_rule name) { long = Some name; value_names = 1 }

-- `--name N`, of least to most
abbrev pub number : Text → ℕ → ℕ → Rule
number name least most = record (valued name) { parser = Some (Signed (pos least) (pos most)) }

-- the same argument, with this value where it is not given
abbrev pub defaulting : Rule → Text → Rule
defaulting r value = record r { defaults = value ∷ [] }

-- ---- arguments of several commands

-- `ITEMS`, and whether it must be given
abbrev pub items : Bool → Rule
items must = placed (codes "ITEMS") must

-- `--table FILE`, or a shipped table
abbrev pub table : Rule
table = defaulting (valued (codes "table")) (codes "all-round")

-- `--addr A`
abbrev pub address : Rule
address = defaulting (valued (codes "addr")) default_address

-- `--shards B`, of 0 to 12
abbrev pub shard_bits : Rule
shard_bits = number (codes "shards") 0 12

-- `--patience SECONDS`, of 1 to 86,400
abbrev pub patience : Rule
patience = defaulting (number (codes "patience") 1 86400) (codes "60")

-- `--most-bytes N`, of 1,024 to 4,294,967,295
abbrev pub most_bytes : Rule
most_bytes = defaulting (number (codes "most-bytes") 1024 4294967295) (codes "33554432")

-- `--items N`, of 1 to 65,536
abbrev pub item_count : Rule
item_count = number (codes "items") 1 65536

-- `--length L`, of 4 to 64
abbrev pub item_length : Rule
item_length = number (codes "length") 4 64

-- ---- commands

-- the command with these arguments after its own
abbrev pub with_rules : App → List Rule → App
with_rules a rules = on_top (λ s. record s { rules = s.rules ++ rules }) a

abbrev pub answer : App
answer = with_rules (new_app (codes "answer"))
    (flag (codes "hex") ∷ flag (codes "text") ∷ flag (codes "why") ∷ items true ∷ [])

abbrev pub check : App
check = with_rules (new_app (codes "check"))
    (flag (codes "cost") ∷ item_count ∷ item_length ∷ flag (codes "why") ∷ placed (codes "FILE") true ∷ [])

abbrev pub plan : App
plan = with_rules (new_app (codes "plan"))
    (valued (codes "table") ∷ number (codes "items") 1 262144000 ∷ number (codes "differences") 0 262144000
    ∷ item_length ∷ number (codes "round-trip") 0 60000 ∷ number (codes "rate") 1 100000
    ∷ number (codes "search") 1 3600 ∷ flag (codes "why") ∷ [])

abbrev pub sim : App
sim = with_rules (new_app (codes "sim")) (flag (codes "why") ∷ [])

-- `serve` without its ITEMS, which may be left out where a file keeps the set
abbrev pub served : App
served = with_rules (new_app (codes "serve"))
    (table ∷ address ∷ flag (codes "stdio") ∷ valued (codes "set") ∷ shard_bits ∷ valued (codes "only")
    ∷ defaulting (number (codes "workers") 1 16) (codes "4") ∷ number (codes "sessions") 1 1000000 ∷ patience
    ∷ most_bytes ∷ number (codes "peers") 1 65535 ∷ number (codes "peers-of-one") 1 65535
    ∷ number (codes "session-seconds") 1 604800 ∷ number (codes "memory") 1 1048576 ∷ valued (codes "report")
    ∷ valued (codes "learned") ∷ valued (codes "keep") ∷ flag (codes "durable")
    ∷ number (codes "most-learned") 1 4294967295 ∷ flag (codes "read-only")
    ∷ number (codes "report-items") 0 4294967295 ∷ valued (codes "metrics")
    ∷ valued (codes "websocket") ∷ valued (codes "origin")
    ∷ valued (codes "not-below") ∷ valued (codes "newest") ∷ valued (codes "time-form")
    ∷ valued (codes "with") ∷ number (codes "every") 1 86400 ∷ valued (codes "control") ∷ flag (codes "log")
    ∷ flag (codes "text") ∷ flag (codes "hash") ∷ flag (codes "why") ∷ [])

abbrev pub serve : App
serve = with_rules served (items false ∷ [])

abbrev pub sync : App
sync = with_rules (new_app (codes "sync"))
    (table ∷ address ∷ flag (codes "stdio") ∷ valued (codes "set") ∷ shard_bits ∷ valued (codes "only")
    ∷ number (codes "at-once") 1 64 ∷ valued (codes "from") ∷ valued (codes "to") ∷ valued (codes "prefix")
    ∷ valued (codes "out") ∷ valued (codes "keep")
    ∷ defaulting (valued (codes "profile")) (codes "1") ∷ patience ∷ most_bytes
    ∷ number (codes "retry") 0 1000 ∷ flag (codes "check") ∷ flag (codes "count") ∷ flag (codes "stats")
    ∷ flag (codes "text") ∷ flag (codes "hash") ∷ flag (codes "why") ∷ items true ∷ [])

-- `--control A`
abbrev pub control : Rule
control = valued (codes "control")

abbrev pub put : App
put = with_rules (new_app (codes "put"))
    (control ∷ flag (codes "text") ∷ flag (codes "hash") ∷ flag (codes "why") ∷ placed (codes "FILE") true ∷ [])

abbrev pub news : App
news = with_rules (new_app (codes "news"))
    (control ∷ number (codes "after") 0 4294967295 ∷ flag (codes "follow") ∷ flag (codes "why") ∷ [])

abbrev pub stop : App
stop = with_rules (new_app (codes "stop")) (control ∷ flag (codes "why") ∷ [])

abbrev pub status : App
status = with_rules (new_app (codes "status")) (control ∷ flag (codes "json") ∷ flag (codes "why") ∷ [])

-- the program itself, which has a version and asks for a command
abbrev pub top : App
top = on_top (λ s. record s { has_version = true; subcommand_required = true }) (new_app (codes "rangesync"))

abbrev pub program : App
program = with_subcommand (with_subcommand (with_subcommand (with_subcommand (with_subcommand (with_subcommand
    (with_subcommand (with_subcommand (with_subcommand (with_subcommand top answer.top) check.top) plan.top) sim.top)
    serve.top) sync.top) put.top) news.top) stop.top) status.top
