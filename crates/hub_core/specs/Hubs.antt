-- The peers of a hub.
--     HubState                     peers, each at its key, and their limits
--     silence                      how old its last byte is, as a number
--     silence_from origin p        the same of the peers of an origin, from 1 on, and 0 of others
--     measured by p                one of the three
--     held_by peers                what is counted for all peers
--     OthersStay old new key       every other key has what it had
--     is_late limits now p         whether its time is over
use Rattle.std.specs.Prelude.{◌≡◌, ◌≢◌, ◌||◌, ℕ, ◌+◌, ◌-◌, ◌^◌, Bool, nat_lt, if◌then◌else◌}
use Rattle.slab.specs.Slab.{Slab, get}
use Rattle.hub_core.specs.Peers.{PeerState, is_from, kept}
use Rattle.hub_core.specs.Totals.{total}
use Rattle.hub_core.specs.declared.best.Measure.{Measure}
use Rattle.hub_core.specs.declared.best.Measure.TheVariants as measures
use Rattle.hub_core.specs.declared.limits.HubLimits.{HubLimits}

pub record HubState (I O : Type 0) : Type 0 where
  pub peers : Slab (PeerState I O)
  pub limits : HubLimits

abbrev pub held_by : {I O : Type 0} → Slab (PeerState I O) → ℕ
held_by peers = total kept peers.slots

-- the older its last byte, the greater
abbrev pub silence : {I O : Type 0} → PeerState I O → ℕ
silence p = 2 ^ 64 - 1 - p.heard

abbrev pub silence_from : {I O : Type 0} → ℕ → PeerState I O → ℕ
silence_from origin p = if is_from origin p then silence p + 1 else 0

abbrev pub measured : {I O : Type 0} → Measure → PeerState I O → ℕ
measured measures.Kept p = kept p
measured measures.Silence p = silence p
measured (measures.SilenceOf origin) p = silence_from origin p

abbrev pub OthersStay : {T : Type 0} → Slab T → Slab T → ℕ → Type 0
OthersStay old new key = (other : ℕ) → other ≢ key → get new other ≡ get old other

-- it was silent for longer than it may be, or it has been there for longer
abbrev pub is_late : {I O : Type 0} → HubLimits → ℕ → PeerState I O → Bool
is_late limits now p = nat_lt limits.patience (now - p.heard) || nat_lt limits.session (now - p.arrived)
