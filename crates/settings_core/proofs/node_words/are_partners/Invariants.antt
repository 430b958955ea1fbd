use Rattle.std.proofs.Common.{◌≡◌, drop, Some, true}
use Rattle.settings_core.specs.NodeWords.{scan_from, scanned}
use Rattle.settings_core.proofs.node_words.are_partners.Given as goal

abbrev pub invariant-loop-byte : goal.invariant-loop-byte
invariant-loop-byte l = scan_from (Some (scanned l.scan)) (drop l.byte-index l.text)
    ≡ scan_from (Some (record { left = 63; is_empty = true })) l.text
