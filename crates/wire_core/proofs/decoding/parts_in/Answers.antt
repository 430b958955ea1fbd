use Rattle.std.proofs.Common.{◌≡◌, ◌+◌, ◌-◌, ◌++◌, ◌∷◌, [], length, Some, None, ap, ◌∙◌, arith, rules, subst}
use Rattle.std.proofs.lemmas.List.{length-append}
use Rattle.std.proofs.lemmas.Result.{err_from_is_err_and}
use Rattle.definitions.specs.Streams.{message_from}
use Rattle.wire_core.specs.Readers.{next_at}
use Rattle.wire_core.specs.Refused.{Fails}
use Rattle.wire_core.proofs.Messages.{with_parts, parts_go_on, parts_fail, parts_end, parts_trail, read_after}
use Rattle.wire_core.proofs.decoding.parts_in.Goals as goal

pub returns-in_err-part-clause-exact : goal.returns-in_err-part-clause-exact
returns-in_err-part-clause-exact g c =
    let p = err_from_is_err_and c.from_residual.result c.from_residual.ensures.1 in
    let count_is : c.len.result ≡ length c.frames.parts.items = search rules in
    let left = c.frames.invariant.left in
    rw (p.1, p.2)
    (parts_fail g.F.WireSummary.profile c.in_err-part.field-0.0
    (length c.args.bytes.now + 1 - length c.frames.parts.items) c.frames.parts.items c.frames.rest.now _ (omega arith)
    (subst (λ m. Fails c.in_err-part.field-0.0 (next_at g.F.WireSummary.profile m c.frames.rest.now)) count_is
    c.in_err-part.ensures.read) c.frames.invariant.so_far)

pub frames-preserved : goal.frames-preserved
frames-preserved g c =
    let part = c.in-Some.part in
    let fuel = length c.args.bytes.now + 1 - length c.frames.parts.items in
    let count_is : c.len.result ≡ length c.frames.parts.items = search rules in
    let left = c.frames.invariant.left in
    let shorter = c.in_ok-part.ensures.shorter in
    let count : length (c.frames.parts.items ++ part ∷ []) ≡ length c.frames.parts.items + 1 =
    omega (arith, length-append c.frames.parts.items (part ∷ [])) in
    let next : length c.args.bytes.now + 1 - length (c.frames.parts.items ++ part ∷ []) ≡ fuel - 1 = omega arith in
    let read =
    read_after g.F.WireSummary.profile c.len.result (length c.frames.parts.items) c.frames.rest.now
    c.take_part.new.bytes.now _ (Some part) count_is c.in_ok-part.ensures.read c.in-Some.is in
    let so_far =
    parts_go_on g.F.WireSummary.profile fuel c.frames.parts.items c.frames.rest.now part c.take_part.new.bytes.now _
    (omega arith) read c.frames.invariant.so_far in
    rw c.in_ok-push.ensures.items record {
      so_far =
          ap (λ k. with_parts (c.frames.parts.items ++ part ∷ [])
          (message_from g.F.WireSummary.profile k (length (c.frames.parts.items ++ part ∷ []))
          c.take_part.new.bytes.now)) next ∙ so_far;
      few = let room = rw c.in-Some.is at c.in_ok-part.ensures.room in omega arith;
      left = omega arith;
    }

pub returns-then-not-is_empty-clause-exact : goal.returns-then-not-is_empty-clause-exact
returns-then-not-is_empty-clause-exact g c =
    let fuel = length c.args.bytes.now + 1 - length c.frames.parts.items in
    let count_is : c.len.result ≡ length c.frames.parts.items = search rules in
    let left = c.frames.invariant.left in
    parts_trail g.F.WireSummary.profile fuel c.frames.parts.items c.frames.rest.now c.take_part.new.bytes.now _
    (omega arith)
    (read_after g.F.WireSummary.profile c.len.result (length c.frames.parts.items) c.frames.rest.now
    c.take_part.new.bytes.now _ None count_is c.in_ok-part.ensures.read c.in_default.is) (search rules)
    c.frames.invariant.so_far

pub returns-clause-exact : goal.returns-clause-exact
returns-clause-exact g c =
    let fuel = length c.args.bytes.now + 1 - length c.frames.parts.items in
    let count_is : c.len.result ≡ length c.frames.parts.items = search rules in
    let left = c.frames.invariant.left in
    parts_end g.F.WireSummary.profile fuel c.frames.parts.items c.frames.rest.now c.take_part.new.bytes.now _
    (omega arith) (read_after g.F.WireSummary.profile c.len.result (length c.frames.parts.items) c.frames.rest.now
    c.take_part.new.bytes.now _ None count_is c.in_ok-part.ensures.read c.in_default.is) (search rules)
    c.frames.invariant.so_far
