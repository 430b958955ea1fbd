-- What the words of a call ask for.
--     AsksFor name rows c      the command of this name, with these values, is c; no values ask for a `serve` with
--                              neither ITEMS nor a file to keep
--     CallsFor name rows call  the same of a call: its command, and whether refusals are explained
--     WordsAskFor words call   the words, of which the first is the program's own name, are well formed and ask for
--                              this call
--     profile_word p           the word that asks for a wire profile
--     first_profile p          the wire profile of the first session that is asked for
--     is_text form, is_hash form    whether the form of items is text, or digests of lines
--     HasForm rows form        the form of items that is asked for
--     Finds P found            what was found has this property; or nothing was found, and nothing has it
use Rattle.std.specs.Prelude.{◌≡◌, ℕ, codes, Bool, true, false, List, [], Option, Some, None, IsSomeAnd, ⊤}
use Rattle.std.specs.Prelude.{option_map}
use Rattle.std.specs.Str.Parse.{IsNumeral, digits_value, without_leading_plus}
use Rattle.clap.specs.Words.{Row, Text, fault_of, first_of, one_of, subcommand_of}
use Rattle.settings_core.specs.Program.{program}
use Rattle.settings_core.specs.Spans.{AreInSpan}
use Rattle.settings_core.specs.declared.profiles.AskedProfile.{AskedProfile}
use Rattle.settings_core.specs.declared.profiles.AskedProfile.TheVariants as asked
use Rattle.settings_core.specs.declared.commands.Call.{Call}
use Rattle.settings_core.specs.declared.commands.Command.{Command}
use Rattle.item_files.specs.declared.form.ItemForm.{ItemForm}
use Rattle.item_files.specs.declared.form.ItemForm.TheVariants as forms
use Rattle.item_files.specs.declared.profile.WireProfile.{WireProfile}
use Rattle.item_files.specs.declared.profile.WireProfile.TheVariants as profiles
use Rattle.settings_core.specs.declared.commands.Command.TheVariants.{Answer, Check, Plan, Sim, Serve, Sync}
use Rattle.settings_core.specs.declared.commands.Command.TheVariants.{Put, News, Stop, Status}

-- the value of an argument
abbrev pub IsText : Text → List Row → Text → Type 0
IsText id rows text = first_of id rows ≡ Some text

-- decimal digits, of which the first may follow a plus, write the number
abbrev pub Writes : Text → ℕ → Type 0
Writes text n = IsNumeral 10 (without_leading_plus text) × (n ≡ digits_value 10 (without_leading_plus text))

-- the number that is written, if any is
abbrev pub IsWritten : Option Text → Option ℕ → Type 0
IsWritten None None = ⊤
IsWritten None (Some n) = ⊥
IsWritten (Some text) None = ⊥
IsWritten (Some text) (Some n) = Writes text n

-- the number of an argument
abbrev pub IsNumber : Text → List Row → Option ℕ → Type 0
IsNumber id rows n = IsWritten (one_of id rows) n

-- whether a flag is given
abbrev pub IsFlag : Text → List Row → Bool → Type 0
IsFlag id rows flag = (one_of id rows ≡ Some (codes "true") → flag ≡ true)
    × (one_of id rows ≡ Some (codes "false") → flag ≡ false)

abbrev pub is_text : ItemForm → Bool
is_text forms.Hex = false
is_text forms.Text = true
is_text forms.Hash = false

abbrev pub is_hash : ItemForm → Bool
is_hash forms.Hex = false
is_hash forms.Text = false
is_hash forms.Hash = true

-- hashed, where that is asked for, or else as text, or as hex
abbrev pub HasForm : List Row → ItemForm → Type 0
HasForm rows form = IsFlag (codes "hash") rows (is_hash form)
    × (one_of (codes "hash") rows ≡ Some (codes "false") → IsFlag (codes "text") rows (is_text form))

abbrev pub profile_word : AskedProfile → Text
profile_word (asked.Exactly profiles.One) = codes "1"
profile_word (asked.Exactly profiles.Two) = codes "2"
profile_word (asked.Exactly profiles.Compact) = codes "compact"
profile_word asked.Best = codes "best"

abbrev pub first_profile : AskedProfile → WireProfile
first_profile (asked.Exactly profile) = profile
first_profile asked.Best = profiles.Compact

-- the value of an argument, if it has one
abbrev pub IsAnyText : Text → List Row → Option Text → Type 0
IsAnyText id rows text = text ≡ first_of id rows

-- the values are those of the command
abbrev pub HasValues : List Row → Command → Type 0
HasValues rows (Answer w) = IsFlag (codes "hex") rows w.hexed
    × IsFlag (codes "text") rows (is_text w.form) × IsText (codes "ITEMS") rows w.items.now
HasValues rows (Check w) = IsFlag (codes "cost") rows w.cost
    × IsNumber (codes "items") rows w.items × IsNumber (codes "length") rows w.item_length
    × IsText (codes "FILE") rows w.file.now
HasValues rows (Plan w) = IsAnyText (codes "table") rows (option_map (λ text. text.now) w.table)
    × IsNumber (codes "items") rows w.items
    × IsNumber (codes "differences") rows w.differences × IsNumber (codes "length") rows w.item_length
    × IsNumber (codes "round-trip") rows w.round_trip × IsNumber (codes "rate") rows w.rate
    × IsNumber (codes "search") rows w.search
HasValues rows Sim = ⊤
HasValues rows (Serve w) = IsText (codes "table") rows w.table.now × IsText (codes "addr") rows w.address.now
    × IsFlag (codes "stdio") rows w.stdio × IsAnyText (codes "set") rows (option_map (λ text. text.now) w.set)
    × IsNumber (codes "shards") rows w.shards × IsAnyText (codes "only") rows (option_map (λ text. text.now) w.only)
    × IsNumber (codes "workers") rows (Some w.workers)
    × IsNumber (codes "sessions") rows w.sessions
    × IsNumber (codes "patience") rows (Some w.patience) × IsNumber (codes "most-bytes") rows (Some w.most_bytes)
    × IsNumber (codes "peers") rows w.peers × IsNumber (codes "peers-of-one") rows w.peers_of_one
    × IsNumber (codes "session-seconds") rows w.session_seconds
    × IsNumber (codes "memory") rows w.memory
    × IsAnyText (codes "report") rows (option_map (λ text. text.now) w.report)
    × IsAnyText (codes "learned") rows (option_map (λ text. text.now) w.learned)
    × IsAnyText (codes "keep") rows (option_map (λ text. text.now) w.keep)
    × IsFlag (codes "durable") rows w.durable × IsNumber (codes "most-learned") rows w.most_learned
    × IsFlag (codes "read-only") rows w.read_only × IsNumber (codes "report-items") rows w.report_items
    × IsAnyText (codes "metrics") rows (option_map (λ text. text.now) w.metrics)
    × IsAnyText (codes "websocket") rows (option_map (λ text. text.now) w.websocket)
    × IsAnyText (codes "origin") rows (option_map (λ text. text.now) w.origin)
    × IsAnyText (codes "not-below") rows (option_map (λ text. text.now) w.not_below)
    × IsAnyText (codes "newest") rows (option_map (λ text. text.now) w.newest)
    × IsAnyText (codes "time-form") rows (option_map (λ text. text.now) w.time_form)
    × IsAnyText (codes "with") rows (option_map (λ text. text.now) w.partners)
    × IsNumber (codes "every") rows w.every
    × IsAnyText (codes "control") rows (option_map (λ text. text.now) w.control)
    × IsFlag (codes "log") rows w.log
    × HasForm rows w.form
    × IsAnyText (codes "ITEMS") rows (option_map (λ text. text.now) w.items)
HasValues rows (Sync w) = IsText (codes "table") rows w.table.now × IsText (codes "addr") rows w.address.now
    × IsFlag (codes "stdio") rows w.stdio × IsAnyText (codes "set") rows (option_map (λ text. text.now) w.set)
    × IsNumber (codes "shards") rows w.shards × IsAnyText (codes "only") rows (option_map (λ text. text.now) w.only)
    × IsNumber (codes "at-once") rows w.at_once
    × IsAnyText (codes "from") rows (option_map (λ text. text.now) w.from)
    × IsAnyText (codes "to") rows (option_map (λ text. text.now) w.to)
    × IsAnyText (codes "prefix") rows (option_map (λ text. text.now) w.prefix)
    × IsAnyText (codes "out") rows (option_map (λ text. text.now) w.out)
    × IsAnyText (codes "keep") rows (option_map (λ text. text.now) w.keep)
    × IsText (codes "profile") rows (profile_word w.profile)
    × IsNumber (codes "patience") rows (Some w.patience) × IsNumber (codes "most-bytes") rows (Some w.most_bytes)
    × IsNumber (codes "retry") rows w.retry × IsFlag (codes "check") rows w.checks
    × IsFlag (codes "count") rows w.counts × IsFlag (codes "stats") rows w.stats
    × HasForm rows w.form
    × IsText (codes "ITEMS") rows w.items.now
HasValues rows (Put w) = IsAnyText (codes "control") rows (option_map (λ text. text.now) w.control)
    × HasForm rows w.form × IsText (codes "FILE") rows w.file.now
HasValues rows (News w) = IsAnyText (codes "control") rows (option_map (λ text. text.now) w.control)
    × IsNumber (codes "after") rows w.after × IsFlag (codes "follow") rows w.follows
HasValues rows (Stop w) = IsAnyText (codes "control") rows (option_map (λ text. text.now) w.control)
HasValues rows (Status w) = IsAnyText (codes "control") rows (option_map (λ text. text.now) w.control)
    × IsFlag (codes "json") rows w.json

abbrev pub name_of : Command → Text
name_of (Answer w) = codes "answer"
name_of (Check w) = codes "check"
name_of (Plan w) = codes "plan"
name_of Sim = codes "sim"
name_of (Serve w) = codes "serve"
name_of (Sync w) = codes "sync"
name_of (Put w) = codes "put"
name_of (News w) = codes "news"
name_of (Stop w) = codes "stop"
name_of (Status w) = codes "status"

abbrev pub AsksFor : Text → List Row → Command → Type 0
AsksFor name rows c = (name_of c ≡ name) × HasValues rows c × AreInSpan c

abbrev pub CallsFor : Text → List Row → Call → Type 0
CallsFor name rows call = AsksFor name rows call.command × IsFlag (codes "why") rows call.explains

-- ITEMS of `serve` may be left out: that they may not without a file to keep is said of the values
abbrev pub WordsAskFor : List Text → Call → Type 0
WordsAskFor words call = (fault_of program words ≡ [])
    × IsSomeAnd (subcommand_of program words) (λ p. CallsFor p.0 p.1 call)

abbrev pub Finds : {X : Type 0} → (X → Type 0) → Option X → Type 0
Finds P (Some x) = P x
Finds {X} P None = (x : X) → P x → ⊥
