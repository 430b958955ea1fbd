use Rattle.std.proofs.Common.{◌≡◌, false, None, rules}
use Rattle.definitions.specs.Messages.{is_open}
use Rattle.definitions.specs.Placing.{next, refusal}
use Rattle.definitions.specs.Replies.{Peer}
use Rattle.ends_core.specs.Drafts.{drafted}
use Rattle.place_core.specs.Placements.{due}
use Rattle.ends_core.proofs.Told.{part-taken}
use Rattle.ends_core.proofs.taking.take_part.Goals as goal

pub returns-in-Ok-clause-ok : goal.returns-in-Ok-clause-ok
returns-in-Ok-clause-ok g c =
    let P : Peer = record { table = c.args.strategy.now; items = g.S.RangeStore.content c.args.store.now } in
    let before = c.args.place.now in
    let fine : refusal (next before.now c.args.part.now) ≡ None = search rules in
    let listed = c.answered-listed.result.now in
    let answers : is_open c.args.part.now ≡ false → listed ≡ due before.own c.cursor-before.result = search rules in
    let added : c.add.new.self ≡ drafted g.F.WireSummary.summary P c.args.draft.now listed c.args.part.now =
    search rules in
    part-taken g.F.WireSummary.summary P before c.next.new.self c.cursor-before.result c.args.draft.now c.add.new.self
    listed c.args.part.now c.cursor-before.ensures.first c.requires.apart c.cursor-before.ensures.now answers
    (search rules) fine added
