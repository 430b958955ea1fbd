-- Both files were cut, so what is joined of them is; and a log opens with just that.
use Rattle.std.proofs.Common.{◌≡◌, ◌∙◌, List, [], ◌∷◌, ap, subst, sym}
use Rattle.definitions.specs.Items.{Item}
use Rattle.definitions.specs.Histories.{content}
use Rattle.version_log.specs.Logs.{LogState, opened}
use Rattle.loading.specs.Cutting.{IsCutTo}
use Rattle.loading.specs.Sharded.{Sharded, contents}
use Rattle.loading.proofs.CutSets.{cut_union}
use Rattle.loading.proofs.OpenedLogs.{content_opened}
use Rattle.loading.proofs.loading.load.Goals as goal

pub returns-clause-cut : goal.returns-clause-cut
returns-clause-cut g c =
    let f = c.args.sources.kept.now in
    let X = c.in_ok-items-2.items.items in
    let more = subst (IsCutTo f) (sym c.deref.ensures.value) c.in_ok-more.ensures in
    let both = cut_union f c.in_ok-items.items.items c.deref.result.now c.in_ok-items.ensures.cut more in
    let cut = subst (IsCutTo f) (sym c.in_ok-items-2.ensures.union) both in
    let logs : c.in_ok-set.set.logs ≡ c.of_store-log.result ∷ [] =
    ap (λ (s : Sharded). s.logs) c.in_ok-set.ensures in
    let log : c.of_store-log.result ≡ opened c.cap.result X 1 =
    c.of_store-log.ensures ∙ ap (λ (A : List Item). opened c.cap.result A 1) c.in_ok-store.ensures in (
      X,
      cut,
      ap contents logs ∙ ap (λ (l : LogState). content l.history ∷ []) log
          ∙ ap (λ (A : List Item). A ∷ []) (content_opened X c.in_ok-items-2.ensures.rises),
    )
