use Rattle.std.proofs.Common.{◌≡◌, ◌++◌, string_bytes, take}
use Rattle.std.specs.Prelude.{flat_map, map}
use Rattle.watch_core.specs.StatusTexts.{named, number_line}
use Rattle.watch_core.proofs.status.push_number_lines.Given as goal

abbrev pub invariant-loop-number : goal.invariant-loop-number
invariant-loop-number l = string_bytes l.text
    ≡ string_bytes l.fn.text ++ flat_map number_line (map named (take l.number-index l.numbers))
