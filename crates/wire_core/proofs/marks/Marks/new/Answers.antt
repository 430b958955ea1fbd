use Rattle.std.proofs.Common.{length, take, drop, ◌*◌, sym, ap, ◌∙◌}
use Rattle.definitions.specs.Wire.{mark_byte, mark_bytes, mark_bytes_for}
use Rattle.std.proofs.lemmas.List.FromFn.{length-map-range_with_len}
use Rattle.definitions.specs.Reading.{marks_in}
use Rattle.wire_core.proofs.marks.Marks.new.Goals as goal

pub invariant_of-result : goal.invariant_of-result
invariant_of-result c = record {
  few = c.requires;
  size = ap length c.in_ok-packed.ensures ∙ length-map-range_with_len
      (λ j. mark_byte (take 8 (drop (8 * j) c.args.marks.now))) 0 (mark_bytes_for (length c.args.marks.now));
  clean =
      c.in_ok-packed.ensures ∙ sym (ap (λ bs. mark_bytes (marks_in (length c.args.marks.now) bs)) c.in_ok-packed.ensures
      ∙ ap mark_bytes (c.marks_come_back.ensures c.args.marks.now));
}
