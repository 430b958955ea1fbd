use Rattle.std.proofs.Common.{◌≡◌, ◌∙◌, sym, ap, arith, ◌^◌, [], ◌∷◌, ◌++◌, length, map}
use Rattle.std.proofs.Common.{cond}
use Rattle.std.specs.Prelude.{filter}
use Rattle.std.specs.List.{range_with_len}
use Rattle.std.proofs.lemmas.List.FromFn.{filter_of_map_range_with_len_more}
use Rattle.shard_core.specs.declared.unequal.Unequal.{Unequal}
use Rattle.shard_core.specs.Directories.{is_told}
use Rattle.shard_core.proofs.Told.{at_place, told_is, table_length}
use Rattle.shard_core.proofs.directory.told.Goals as goal

pub loop-number-preserved : goal.loop-number-preserved
loop-number-preserved c =
    let here : Unequal = at_place c.args.ours.now c.args.theirs.now c.loop-number.number in
    c.in_ok-push_told.ensures ∙ ap (λ us. us ++ cond (is_told here) (here ∷ []) []) c.loop-number.invariant
    ∙ sym (filter_of_map_range_with_len_more is_told (at_place c.args.ours.now c.args.theirs.now) 0 c.loop-number.number
    c.loop-number.number (omega arith))

pub returns : goal.returns
returns c = λ xs ys b left right.
    let long : length c.args.ours.now ≡ 2 ^ b = table_length c.args.ours.now xs b left in
    let all : c.loop-number.number ≡ 2 ^ b = omega (arith, long) in
    c.loop-number.invariant
    ∙ ap (λ k. filter is_told (map (at_place c.args.ours.now c.args.theirs.now) (range_with_len 0 k))) all
    ∙ told_is xs ys b c.args.ours.now c.args.theirs.now left right
