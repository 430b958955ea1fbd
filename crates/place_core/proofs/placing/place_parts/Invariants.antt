use Rattle.std.proofs.Common.{◌≡◌, take}
use Rattle.std.specs.Prelude.{fold}
use Rattle.definitions.specs.Placing as placing
use Rattle.place_core.specs.Cursors.{place_at}
use Rattle.place_core.proofs.placing.place_parts.Given as goal

abbrev pub invariant-loop-part : goal.invariant-loop-part
invariant-loop-part g l = place_at l.sent l.cursor
    ≡ fold placing.next (place_at l.sent l.fn.cursor) (take l.part-index l.parts)
