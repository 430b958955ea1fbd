-- A text that gives no set under a strategy. Where a set was made, its handle failed for want of memory alone; and else
-- the number is that of the fault that the text has. The strategy is the one that the handle stands for.
use Rattle.std.proofs.Common.{◌≡◌, ◌≢◌, ◌≤◌, ℕ, List, Result, Ok, Err, IfOk, IfErr, inl, inr, subst}
use Rattle.std.specs.Arc.{arc_value}
use Rattle.strategy_check.specs.Checked.{Checked}
use Rattle.item_files.specs.declared.form.ItemForm.{ItemForm}
use Rattle.rangesync_c.specs.Faults.{embedded_fault_number}
use Rattle.rangesync_c.specs.SetStates.{SetState, IsSetFrom, IsNoSet}
use Rattle.rangesync_c.specs.declared.fault.EmbeddedFault.{EmbeddedFault}
use Rattle.rangesync_c.specs.Meaning.{IfStrategy, IsRefusal, IsNoSetIn, form_number}
use Rattle.rangesync_c.specs.declared.held.Thing.{Thing}
use Rattle.rangesync_c.specs.declared.held.Thing.TheVariants as things

of-text : (kind : ItemForm) (form : ℕ) (text : List ℕ) (a : Checked) (set : Result SetState EmbeddedFault) (code : ℕ) →
    form_number kind ≡ form → IsSetFrom kind text a set → IfErr set (λ f. code ≡ embedded_fault_number f) →
    IfOk set (λ _. code ≢ 0 → code ≡ 90) → code ≢ 0 →
    IsRefusal (λ f. (k : ItemForm) × (form_number k ≡ form) × IsNoSet k text a f) code
of-text kind form text a (Ok s) code is from refused memory fails = inl (memory fails)
of-text kind form text a (Err f) code is from refused memory fails = inr (f, refused, (kind, is, from))

pub no-set : (t : Thing) (kind : ItemForm) (form : ℕ) (text : List ℕ) (b : Checked)
    (set : Result SetState EmbeddedFault) (code : ℕ) →
    IfStrategy t (λ a. (b ≡ a) × (form_number kind ≡ form) × (form ≤ 1)) → IsSetFrom kind text b set →
    IfErr set (λ f. code ≡ embedded_fault_number f) → IfOk set (λ _. code ≢ 0 → code ≡ 90) → code ≢ 0 →
    IfStrategy t (λ a. IsNoSetIn form text a code)
no-set (things.Strategy x) kind form text b set code owner from refused memory fails =
    let here = subst (λ (a : Checked). IsSetFrom kind text a set) owner.0 from in
    inr (owner.2, of-text kind form text (arc_value x) set code owner.1 here refused memory fails)
no-set (things.Set x) kind form text b set code owner from refused memory fails = tt
no-set (things.Version x) kind form text b set code owner from refused memory fails = tt
no-set (things.Session x) kind form text b set code owner from refused memory fails = tt
no-set (things.Shards x) kind form text b set code owner from refused memory fails = tt
