-- A session over what is meant of a version that was pinned: what is said of the pin is said of that.
use Rattle.std.proofs.Common.{◌≡◌, ℕ, ◌+◌, List, length, subst, arith}
use Rattle.std.specs.Prelude.{⊤}
use Rattle.definitions.specs.Accounts.{Seen}
use Rattle.definitions.specs.Items.{Item}
use Rattle.definitions.specs.Fingerprints.{two_lanes}
use Rattle.definitions.specs.Wire.{two_lane_profile}
use Rattle.definitions.specs.Engines.{initiating}
use Rattle.definitions.specs.Ranks.{rank_by}
use Rattle.definitions.specs.Worlds.{opened_of}
use Rattle.strategy_check.specs.Checked.{Checked}
use Rattle.ends_core.specs.Sides.{peer_of}
use Rattle.version_lock.specs.Calls.{PinState}
use Rattle.session_table.specs.declared.outcome.Outcome.{Outcome}
use Rattle.peer_threads.specs.Outcomes.{Speaks, Traffic}

-- where no first message is cut, the greatest rank that is opened is that of the set
opens-whole : (a : Checked) (A : List Item) → opened_of two_lanes a.steps (peer_of a A) ≡ rank_by a.steps (length A)
opens-whole a A = omega arith

pub speaks-meant : (a b : Checked) (A : List Item) (v : ℕ) (p : PinState) (t : Traffic) (r x : Seen) (o : Outcome) →
    b ≡ a → p.items ≡ A → p.version ≡ v →
    Speaks two_lanes two_lane_profile ⊤ (initiating two_lanes (peer_of b p.items)) p.version
    (opened_of two_lanes b.steps (peer_of b p.items) + 2) b.table.limit t r x o →
    Speaks two_lanes two_lane_profile ⊤ (initiating two_lanes (peer_of a A)) v (rank_by a.steps (length A) + 2)
    a.table.limit t r x o
speaks-meant a b A v p t r x o same items version spoke =
    let of_set = subst (λ (X : List Item). Speaks two_lanes two_lane_profile ⊤ (initiating two_lanes (peer_of b X))
    p.version (opened_of two_lanes b.steps (peer_of b X) + 2) b.table.limit t r x o) items spoke in
    let of_version = subst (λ (n : ℕ). Speaks two_lanes two_lane_profile ⊤ (initiating two_lanes (peer_of b A)) n
    (opened_of two_lanes b.steps (peer_of b A) + 2) b.table.limit t r x o) version of_set in
    let of_table = subst (λ (d : Checked). Speaks two_lanes two_lane_profile ⊤ (initiating two_lanes (peer_of d A)) v
    (opened_of two_lanes d.steps (peer_of d A) + 2) d.table.limit t r x o) same of_version in
    subst (λ (n : ℕ). Speaks two_lanes two_lane_profile ⊤ (initiating two_lanes (peer_of a A)) v (n + 2) a.table.limit
    t r x o) (opens-whole a A) of_table
