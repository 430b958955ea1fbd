use Rattle.std.proofs.Common.{◌∙◌, ◌++◌, ap, subst, sym}
use Rattle.shard_core.specs.Spans.{Holds}
use Rattle.item_files.specs.ItemFiles.{file_items}
use Rattle.item_files.proofs.dealing.Dealing.deal_waiting.Goals as goal

pub returns-clause-dealt : goal.returns-clause-dealt
returns-clause-dealt g c = (
  c.in_ok-items.items.items,
  ap (file_items c.args.self.now.options.form) (sym c.deref.ensures.value) ∙ c.in_ok-items.ensures,
  λ items holds. subst (λ Z. Holds c.args.self.now.options.bits c.args.self.now.options.first
      c.args.self.now.options.last c.deal_span.new.lists.items (items ++ Z)) c.deref-3.ensures.value
      (c.in_ok-deal_span.ensures.dealt items holds),
)
