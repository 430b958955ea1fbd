use Rattle.std.proofs.Common.{◌≡◌, ◌∙◌, sym, ap, arith, subst, [], ◌∷◌, ◌++◌, take, ◌+◌, ◌-◌}
use Rattle.std.proofs.lemmas.List.{take_all}
use Rattle.definitions.specs.Sets.{IsSet}
use Rattle.shard_core.specs.Shards.{shard}
use Rattle.shard_core.specs.Directories.{entries_from}
use Rattle.shard_core.proofs.Entries.{entries_more, entries_are, set_from}
use Rattle.shard_core.proofs.directory.directory_from.Goals as goal

pub loop-number-preserved : goal.loop-number-preserved
loop-number-preserved c =
    c.in_ok-push.ensures.items ∙ ap (λ xs. xs ++ c.entry_of.result ∷ []) c.loop-number.invariant
    ∙ ap (λ x. entries_from c.args.first (take c.loop-number.number c.args.sums.now) ++ x ∷ []) c.entry_of.ensures
    ∙ sym (entries_more c.args.first c.args.sums.now c.loop-number.number c.index-sums-number.result (omega arith)
    c.index-sums-number.is)

pub returns-clause-entries : goal.returns-clause-entries
returns-clause-entries c =
    c.loop-number.invariant ∙ ap (λ ws. entries_from c.args.first ws)
    (take_all c.loop-number.number c.args.sums.now c.loop-number-test.false)

pub returns-clause-span : goal.returns-clause-span
returns-clause-span c = λ b last A sums.
    let whole : take c.loop-number.number c.args.sums.now ≡ c.args.sums.now =
    take_all c.loop-number.number c.args.sums.now c.loop-number-test.false in
    c.loop-number.invariant ∙ ap (λ ws. entries_from c.args.first ws) (whole ∙ sums)
    ∙ entries_are (shard b A) c.args.first (last + 1 - c.args.first)

pub returns-clause-set : goal.returns-clause-set
returns-clause-set c =
    let whole : take c.loop-number.number c.args.sums.now ≡ c.args.sums.now =
    take_all c.loop-number.number c.args.sums.now c.loop-number-test.false in
    subst (λ xs. IsSet xs) (sym (c.loop-number.invariant ∙ ap (λ ws. entries_from c.args.first ws) whole))
    (set_from c.args.first c.args.sums.now (omega arith))
