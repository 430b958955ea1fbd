use Rattle.std.proofs.Common.{◌≡◌, string_bytes, take}
use Rattle.loading.specs.Rewriting.{lines_of}
use Rattle.loading.proofs.rewriting.lines_text.Given as goal

-- the lines of the items before this one
abbrev pub invariant-loop-item : goal.invariant-loop-item
invariant-loop-item l = string_bytes l.text ≡ lines_of l.form (take l.item-index l.items)
