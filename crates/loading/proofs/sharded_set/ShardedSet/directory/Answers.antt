use Rattle.std.proofs.Common.{◌≡◌, ◌∙◌, ◌≤◌, ◌^◌, ap, subst, map, length, arith}
use Rattle.std.proofs.lemmas.Result.{IfOk-weaker}
use Rattle.shard_core.specs.Directories.{sum_of}
use Rattle.shard_core.specs.Spans.{span, span_shards, span_directory}
use Rattle.loading.specs.Sharded.{Sharded, contents}
use Rattle.loading.proofs.OpenedLogs.{sums_are, entries_many}
use Rattle.loading.proofs.sharded_set.ShardedSet.directory.Goals as goal

pub returns-clause-span : goal.returns-clause-span
returns-clause-span c = IfOk-weaker c.directory_from.result _ _
    (λ v gives. λ last A.
    subst (λ (s : Sharded). contents s.logs ≡ span_shards s.bits s.first last A →
    v.items ≡ span_directory s.bits s.first last A) c.self.view_is
    (λ is. gives c.self.inside.bits last A
    (c.deref-2.ensures.value ∙ c.in_ok-sums.ensures.sums ∙ ap (λ ls. map sum_of (contents ls)) c.deref.ensures.value
    ∙ ap (map sum_of) is ∙ sums_are c.self.inside.bits A (span c.self.inside.first last))))
    c.directory_from.ensures.span

pub returns-clause-few : goal.returns-clause-few
returns-clause-few c = IfOk-weaker c.directory_from.result _ _
    (λ v is.
    let many = ap length is ∙ entries_many c.self.inside.first c.deref-2.result.now in
    let sums = ap length c.deref-2.ensures.value in
    let logs = ap length c.deref.ensures.value in
    let count = c.in_ok-sums.ensures.count in
    let within = c.self.invariant.2 in
    subst (λ (s : Sharded). length v.items ≤ 2 ^ s.bits) c.self.view_is
    (omega (arith, many, sums, logs, count, within)))
    c.directory_from.ensures.entries
