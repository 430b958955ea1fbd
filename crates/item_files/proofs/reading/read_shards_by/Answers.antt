use Rattle.std.proofs.Common.{rules, ◌≡◌, ◌∙◌, ◌≤◌, sym, subst, Err}
use Rattle.std.specs.Prelude.{IfErr}
use Rattle.item_files.specs.PieceTexts.{of_split}
use Rattle.item_files.specs.Loads.{IsUnloaded}
use Rattle.item_files.proofs.Took.{full}
use Rattle.item_files.proofs.reading.read_shards_by.Goals as goal

pub into_span-requires-clause-few : goal.into_span-requires-clause-few
into_span-requires-clause-few g c =
    subst (λ n. n ≤ 4096)
    (c.shard_count-count.ensures.count ∙ sym (c.rising_lists-sets.ensures.all ∙ c.in_ok-lists.ensures.all))
    c.shard_count-count.ensures.few

pub returns-in_err-into_span-clause-unloaded : goal.returns-in_err-into_span-clause-unloaded
returns-in_err-into_span-clause-unloaded g c =
    let are = c.in_ok-lists.ensures.lists in
    let is : c.from_residual-in_err-into_span.result ≡ Err (of_split c.in_err-into_span.field-0.0) = search rules in
    subst (λ r. IfErr r (λ e. IsUnloaded c.args.options (g.R.Read.remaining c.args.reader.now.inner)
    (g.R.Read.remaining c.read_lists.new.reader.inner) c.read_lists.new.reader.failed e)) (sym is)
    (full c.args.options (g.R.Read.remaining c.args.reader.now.inner)
    (g.R.Read.remaining c.read_lists.new.reader.inner) c.in_ok-lists.lists.items are
    c.read_lists.new.reader.failed c.in_err-into_span.field-0.0
    (c.in_err-into_span.ensures.many c.args.options.bits are.items
    (c.rising_lists-sets.ensures.holds c.args.options.bits c.args.options.first c.args.options.last are.items are.lists)))

pub returns-clause-kept : goal.returns-clause-kept
returns-clause-kept g c =
    let are = c.in_ok-lists.ensures.lists in
    c.in_ok-into_span.ensures.kept c.args.options.bits are.items
    (c.rising_lists-sets.ensures.all ∙ c.in_ok-lists.ensures.all)
    (c.rising_lists-sets.ensures.holds c.args.options.bits c.args.options.first c.args.options.last are.items are.lists)
