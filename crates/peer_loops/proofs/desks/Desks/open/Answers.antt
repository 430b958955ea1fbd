use Rattle.std.proofs.Common.{rules, ◌∙◌, length, refl, sym}
use Rattle.std.proofs.lemmas.Option.{slice_get_read}
use Rattle.peer_loops.proofs.desks.Desks.open.Goals as goal

pub returns-clause-opens : goal.returns-clause-opens
returns-clause-opens g c =
    let xs = c.args.self.now.list.items in
    let k = c.in-Some.place in
    let at = slice_get_read xs (length xs) k c.in-Some-get_mut.desk.now refl c.in-Some-get_mut.ensures.item.3.0
    c.in-Some-get_mut.ensures.value in (
      k,
      sym c.place_of.ensures ∙ c.in-Some.is,
      (
        c.in-Some-get_mut.desk.now,
        c.open.new.self,
        at,
        refl,
        (c.open.ensures.part, c.open.ensures.view, search rules),
      ),
    )
