-- Of which part of a set a call speaks, by its words.
--     bound form flaw text                the item that a text spells, if there is a text; else the flaw
--     between from to                     the range of two bounds, of which either may be missing; none of neither
--     part_asked form from to prefix stdio    what the words ask for: a range, all items, or why neither
use Rattle.std.specs.Prelude.{ℕ, ◌&&◌, ◌||◌, Bool, List, [], if◌then◌else◌, Option, Some, None, is_some, Result, Ok, Err}
use Rattle.definitions.specs.Items.{Item, Range, is_below}
use Rattle.item_core.specs.Prefixes.{of_prefix}
use Rattle.item_files.specs.declared.form.ItemForm.{ItemForm}
use Rattle.item_files.specs.ItemFiles.{spelled}
use Rattle.settings_core.specs.declared.part_words.PartFlaw.{PartFlaw}
use Rattle.settings_core.specs.declared.part_words.PartFlaw.TheVariants as flaws

abbrev pub found : PartFlaw → Option Item → Result (Option Item) PartFlaw
found flaw None = Err flaw
found flaw (Some x) = Ok (Some x)

abbrev pub bound : ItemForm → PartFlaw → Option (List ℕ) → Result (Option Item) PartFlaw
bound form flaw None = Ok None
bound form flaw (Some text) = found flaw (spelled form text)

abbrev pub ranged : List ℕ → Option (List ℕ) → Result (Option Range) PartFlaw
ranged lower upper =
    if is_below lower upper then Ok (Some (record { lower = lower; upper = upper })) else Err flaws.Empty

abbrev pub between : Option Item → Option Item → Result (Option Range) PartFlaw
between None None = Ok None
between None (Some to) = ranged [] (Some to)
between (Some from) to = ranged from to

abbrev pub between_found : Result (Option Item) PartFlaw → Result (Option Item) PartFlaw
    → Result (Option Range) PartFlaw
between_found (Err flaw) to = Err flaw
between_found (Ok from) (Err flaw) = Err flaw
between_found (Ok from) (Ok to) = between from to

abbrev pub prefixed : Result (Option Item) PartFlaw → Result (Option Range) PartFlaw → Result (Option Range) PartFlaw
prefixed (Err flaw) else_ = Err flaw
prefixed (Ok None) else_ = else_
prefixed (Ok (Some p)) else_ = Ok (Some (of_prefix p))

abbrev pub part_asked : ItemForm → Option (List ℕ) → Option (List ℕ) → Option (List ℕ) → Bool
    → Result (Option Range) PartFlaw
part_asked form from to prefix stdio =
    if is_some prefix && (is_some from || is_some to) then Err flaws.Twice
    else if stdio && (is_some prefix || (is_some from || is_some to)) then Err flaws.Stdio
    else prefixed (bound form flaws.Prefix prefix)
    (between_found (bound form flaws.From from) (bound form flaws.To to))
