use Rattle.std.proofs.Common.{◌≡◌, ◌++◌, string_bytes, take}
use Rattle.std.specs.Prelude.{flat_map}
use Rattle.printing_core.specs.SessionTexts.{named_line}
use Rattle.printing_core.proofs.sessions.push_lines.Given as goal

abbrev pub invariant-loop-item : goal.invariant-loop-item
invariant-loop-item l =
    string_bytes l.text ≡ string_bytes l.fn.text
    ++ flat_map (named_line l.naming.form l.naming.name.now) (take l.item-index l.items)
