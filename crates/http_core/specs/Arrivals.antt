-- The items that a set took last.
--     most_arrivals          how many are kept
--     AreArrivalsOf had all n    the set had so many items and took all these, in this order: they are counted, and the
--                            last of those that it took are kept
--     AreGone seen n     an item after the first so many is not kept any more, or the set has not taken so many
use Rattle.std.specs.Prelude.{◌≡◌, ℕ, ◌+◌, ◌<◌, ◌⊎◌, List, length}
use Rattle.circular_buffer.specs.Buffer.{keep_last}
use Rattle.definitions.specs.Items.{Item}
use Rattle.http_core.specs.declared.arrivals.Arrivals.{Arrivals}

abbrev pub most_arrivals : ℕ
most_arrivals = 65536

pub record AreArrivalsOf (had : ℕ) (all : List Item) (n : Arrivals) : Type 0 where
  pub count : n.taken ≡ had + length all
  pub last : n.items.items ≡ keep_last most_arrivals all
  pub room : n.items.capacity ≡ most_arrivals

abbrev pub AreGone : ℕ → Arrivals → Type 0
AreGone seen n = (n.taken < seen) ⊎ (seen + length n.items.items < n.taken)
