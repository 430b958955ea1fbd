use Rattle.std.proofs.Common.{◌≡◌, ◌++◌, string_bytes, take}
use Rattle.std.specs.Prelude.{flat_map}
use Rattle.watch_core.specs.StatusTexts.{partner_line}
use Rattle.watch_core.proofs.status.push_partner_lines.Given as goal

abbrev pub invariant-loop-partner : goal.invariant-loop-partner
invariant-loop-partner l =
    string_bytes l.text ≡ string_bytes l.fn.text ++ flat_map partner_line (take l.partner-index l.partners)
