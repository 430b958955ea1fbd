-- Items that are not split: a shard of them has more than the cap, or memory ran out.
use Rattle.std.proofs.Common.{◌≡◌, ◌⊎◌, ℕ, List, Ok, inl, inr, sym, subst, arith}
use Rattle.definitions.specs.Items.{Item}
use Rattle.definitions.specs.Sets.{set_of}
use Rattle.strategy_check.specs.Checked.{Checked}
use Rattle.shard_core.specs.Shards.{shards}
use Rattle.shard_core.specs.Splits.{IsAbove, IsFull}
use Rattle.shard_core.specs.declared.fault.SplitFault.{SplitFault}
use Rattle.shard_core.specs.declared.fault.SplitFault.TheVariants as splits
use Rattle.item_files.specs.ItemFiles.{file_items}
use Rattle.item_files.specs.declared.form.ItemForm.{ItemForm}
use Rattle.rangesync_c.specs.Faults.{of_split}
use Rattle.rangesync_c.specs.ShardStates.{IsNotSplit}
use Rattle.rangesync_c.specs.declared.fault.EmbeddedFault.{EmbeddedFault}
use Rattle.rangesync_c.specs.declared.fault.EmbeddedFault.TheVariants as faults

pub first_above : (most : ℕ) (Xs : List (List Item)) (f : SplitFault) → IsFull most Xs f →
    of_split f ≡ faults.TooManyItems → (n : ℕ) × IsAbove most Xs n
first_above most Xs (splits.TooManyItems n) full is = (n, full)
first_above most Xs splits.Memory full is = grind (arith, is)

pub of_shard : (form : ItemForm) (text : List ℕ) (a : Checked) (b most : ℕ) (items A : List Item) (f : EmbeddedFault) →
    file_items form text ≡ Ok items → set_of A ≡ set_of items → most ≡ a.table.cap →
    (f ≡ faults.TooManyItems) ⊎ (f ≡ faults.Memory) →
    (f ≡ faults.TooManyItems → (n : ℕ) × IsAbove most (shards b (set_of A)) n) → IsNotSplit form text a b f
of_shard form text a b most items A f read same cap_is (inl is) many =
    let there = many is in
    let above : IsAbove a.table.cap (shards b (set_of items)) there.0 =
    subst (λ c. IsAbove c (shards b (set_of items)) there.0) cap_is
    (subst (λ Z. IsAbove most (shards b Z) there.0) same there.1) in
    subst (λ g. IsNotSplit form text a b g) (sym is) (items, read, (there.0, above))
of_shard form text a b most items A f read same cap_is (inr is) many =
    subst (λ g. IsNotSplit form text a b g) (sym is) tt
