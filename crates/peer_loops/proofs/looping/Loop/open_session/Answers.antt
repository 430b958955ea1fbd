use Rattle.std.proofs.Common.{rules, ◌≡◌, ◌∙◌, ℕ, Some, sym}
use Rattle.std.specs.Arc.{arc_value}
use Rattle.std.specs.Io.Take.{take_inner}
use Rattle.slab.specs.Slab.{get}
use Rattle.definitions.specs.Items.{Range}
use Rattle.definitions.specs.Histories.{content}
use Rattle.ends_core.specs.Sides.{peer_of}
use Rattle.hub_core.specs.Peers.{Opens}
use Rattle.shard_core.specs.declared.floor.Floor.{Floor}
use Rattle.shard_core.specs.declared.selector.Which.{Which}
use Rattle.shard_core.specs.declared.selector.Which.TheVariants.{Shard}
use Rattle.peer_threads.specs.Workers.{LookedOrNot}
use Rattle.peer_loops.specs.Changes.{ChangesOne}
use Rattle.peer_loops.specs.Extents.{meant}
use Rattle.peer_loops.specs.ShardSpans.{place_for}
use Rattle.peer_loops.proofs.Openings.{on_ok, over_chosen}
use Rattle.peer_loops.proofs.looping.Loop.open_session.Goals as goal

pub returns-in-Shard : goal.returns-in-Shard
returns-in-Shard g c = record {
  shard = on_ok c.open.result _ _ c.open.ensures.opens (λ (place, is, (d, e, at, set, (part, looked, opens))) p q
      at-p at-q number range chosen.
      over_chosen (λ w X. (x : ℕ) × (place_for c.args.desks.now.first (Some w) ≡ Some x)
      × ((f : Floor) × g.G.Gate.floors c.args.site.now.common.now.gate.now f
      × ChangesOne x c.args.desks.now.list.items c.open.new.self.list.items (λ d e. (e.part ≡ d.part)
      × LookedOrNot d.seat.view e.seat.view × Opens (peer_of (arc_value (arc_value d.part).accepted)
      (meant f.range X (content e.seat.view.base))) p.phase q.phase)))
      c.in-Some.chosen.which (Shard number) c.in-Some.chosen.range range (c.in-Some.ensures p at-p ∙ chosen)
      (place, is, (c.floor-floor.result, c.floor-floor.ensures, (d, e, at, set, (part, looked, opens p q at-p at-q))))
      );
}
