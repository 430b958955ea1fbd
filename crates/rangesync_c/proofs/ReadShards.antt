-- Sets in shards that were read, or were not. The strategy is the one that the handle stands for.
use Rattle.std.proofs.Common.{◌≡◌, ◌≤◌, ◌^◌, ℕ, List, Ok, inr, subst}
use Rattle.item_files.specs.declared.form.ItemForm.{ItemForm}
use Rattle.rangesync_c.specs.ShardStates.{ShardsState, no_items, IsDealtFrom}
use Rattle.rangesync_c.specs.Meaning.{IfStrategy, AreCut, IsNotRead, IsUnread, form_number}
use Rattle.rangesync_c.specs.declared.held.Thing.{Thing}
use Rattle.rangesync_c.specs.declared.held.Thing.TheVariants as things

pub is_read : (t : Thing) (name text : List ℕ) (bits form : ℕ) (s u : ShardsState) →
    IfStrategy t (λ a. s ≡ no_items a name bits) →
    (kind : ItemForm) × (form_number kind ≡ form) × IsDealtFrom kind text s (Ok u) →
    IfStrategy t (λ a. (kind : ItemForm) × (form_number kind ≡ form)
    × IsDealtFrom kind text (no_items a name bits) (Ok u))
is_read (things.Strategy x) name text bits form s u is read =
    subst (λ (e : ShardsState). (kind : ItemForm) × (form_number kind ≡ form) × IsDealtFrom kind text e (Ok u)) is read
is_read (things.Set x) name text bits form s u is read = tt
is_read (things.Version x) name text bits form s u is read = tt
is_read (things.Session x) name text bits form s u is read = tt
is_read (things.Shards x) name text bits form s u is read = tt

pub is_unread : (t : Thing) (name text : List ℕ) (bits form code : ℕ) (s : ShardsState) →
    IfStrategy t (λ a. s ≡ no_items a name bits) → IfStrategy t (λ a. AreCut name bits × (2 ^ bits ≤ a.table.cap)) →
    IsNotRead s.accepted s.bits form text code → IfStrategy t (λ a. IsUnread a name bits form text code)
is_unread (things.Strategy x) name text bits form code s is cut why =
    inr (cut.0, cut.1, subst (λ (e : ShardsState). IsNotRead e.accepted e.bits form text code) is why)
is_unread (things.Set x) name text bits form code s is cut why = tt
is_unread (things.Version x) name text bits form code s is cut why = tt
is_unread (things.Session x) name text bits form code s is cut why = tt
is_unread (things.Shards x) name text bits form code s is cut why = tt
