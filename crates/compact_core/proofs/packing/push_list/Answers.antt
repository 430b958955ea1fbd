use Rattle.std.proofs.Common.{◌≡◌, ◌<◌, ◌^◌, length, rules, sym, subst}
use Rattle.definitions.specs.Compact.{compact_items}
use Rattle.compact_core.proofs.Texts.{list_short}
use Rattle.compact_core.proofs.packing.push_list.Goals as goal

pub push_field-requires : goal.push_field-requires
push_field-requires g c =
    let field : c.push_items.new.out.items ≡ compact_items c.args.range.now.lower c.args.items.now = search rules in
    let short = list_short g.F.WireSummary.profile c.args.range.now c.args.items.now c.requires in
    search (rules, field, short)
