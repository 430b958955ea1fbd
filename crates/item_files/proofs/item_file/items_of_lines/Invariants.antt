use Rattle.std.proofs.Common.{◌≡◌, ◌≤◌, ◌+◌, ℕ, List, length, Option, Some, None, option_map}
use Rattle.item_files.specs.ItemFiles.{lines_in, before, lines, items_from}
use Rattle.item_files.proofs.item_file.items_of_lines.Given as goal

-- how many lines there may be at most
abbrev pub room : Option (List ℕ) → ℕ
room None = 0
room (Some text) = length text + 1

abbrev pub invariant-loop-rest : goal.invariant-loop-rest
invariant-loop-rest l = record {
  few : l.number + room (option_map (λ text. text.now) l.rest) ≤ length l.text + 1;
  all : before l.items.items (items_from l.form (l.number + 1) (lines_in (option_map (λ text. text.now) l.rest)))
      ≡ items_from l.form 1 (lines l.text);
}

abbrev pub decreases-loop-rest : goal.decreases-loop-rest
decreases-loop-rest l = room (option_map (λ text. text.now) l.rest)
