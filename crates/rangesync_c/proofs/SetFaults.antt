-- Texts that hold no set.
use Rattle.std.proofs.Common.{◌≡◌, ◌<◌, ℕ, List, length, subst}
use Rattle.definitions.specs.Sets.{set_of}
use Rattle.strategy_check.specs.Checked.{Checked}
use Rattle.item_files.specs.Faults.{IsSetFault}
use Rattle.item_files.specs.declared.form.ItemForm.{ItemForm}
use Rattle.item_files.specs.declared.fault.SettingsFault.{SettingsFault}
use Rattle.item_files.specs.declared.fault.SettingsFault.TheVariants as settings
use Rattle.rangesync_c.specs.Faults.{of_settings}
use Rattle.rangesync_c.specs.SetStates.{IsNoSet}

pub no_set : (form : ItemForm) (text : List ℕ) (a : Checked) (cap : ℕ) (f : SettingsFault) → cap ≡ a.table.cap
    → IsSetFault form text cap f → IsNoSet form text a (of_settings f)
no_set form text a cap (settings.CannotRead f) same is = tt
no_set form text a cap (settings.BadItemLine bad) same is = (bad, is)
no_set form text a cap (settings.TooManyItems most count) same (items, are, more, at, is) =
    (items, are, subst (λ n. n < length (set_of items)) same more)
no_set form text a cap settings.NotToml same is = is
no_set form text a cap (settings.Strategy flaw) same is = is
no_set form text a cap (settings.Check f) same is = is
no_set form text a cap settings.Memory same is = tt
