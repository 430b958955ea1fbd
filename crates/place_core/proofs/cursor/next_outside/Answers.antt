use Rattle.std.proofs.Common.{refl, ◌≡◌, ◌+◌, Some, drop, sym, ap, ◌∙◌}
use Rattle.std.specs.Prelude.{slice_get}
use Rattle.std.proofs.lemmas.Option.{slice_get_read}
use Rattle.definitions.specs.Messages.{open_parts}
use Rattle.definitions.specs.Placing as placing
use Rattle.place_core.specs.Fits.{after_fit}
use Rattle.place_core.proofs.Walks.{walked}
use Rattle.place_core.proofs.cursor.next_outside.Goals as goal
use Rattle.place_core.proofs.cursor.next_outside.Goals.{After-fit_of}

-- the walk, by how the part fits where this part of the own message is the next one
walk : (g : _) (c : goal.After-fit_of g) →
    placing.next_outside (open_parts (drop c.args.start c.args.sent.now)) c.args.part.now
    ≡ after_fit c.fit_of.result (open_parts (drop (c.skipped.at + 1) c.args.sent.now)) c.args.part.now
walk g c =
    let sent = c.args.sent.now in
    let own = c.in-Some.own.now in
    let found : slice_get sent c.skipped.at ≡ Some own =
    slice_get_read sent _ c.skipped.at own refl c.in-Some.ensures.lookup.3.0 c.in-Some.ensures.lookup.1 in
    c.skipped.invariant ∙ walked sent c.skipped.at own c.args.part.now c.fit_of.result found c.fit_of.ensures

pub skipped-preserved : goal.skipped-preserved
skipped-preserved g c =
    walk g (goal.at.skipped-preserved g c).After-fit_of
    ∙ ap (λ fit. after_fit fit (open_parts (drop (c.skipped.at + 1) c.args.sent.now)) c.args.part.now) c.in-NotHere.is

pub returns-in-Placed : goal.returns-in-Placed
returns-in-Placed g c = sym (walk g (goal.at.returns-in-Placed g c).After-fit_of
    ∙ ap (λ fit. after_fit fit (open_parts (drop (c.skipped.at + 1) c.args.sent.now)) c.args.part.now) c.in-Placed.is)

pub returns-in-Refused : goal.returns-in-Refused
returns-in-Refused g c = sym (walk g (goal.at.returns-in-Refused g c).After-fit_of
    ∙ ap (λ fit. after_fit fit (open_parts (drop (c.skipped.at + 1) c.args.sent.now)) c.args.part.now) c.in-Refused.is)
