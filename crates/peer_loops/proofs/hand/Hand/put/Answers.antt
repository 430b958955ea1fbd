use Rattle.std.proofs.Common.{rules, ◌≡◌, ◌∙◌, length, refl, sym}
use Rattle.std.proofs.lemmas.Option.{slice_get_read}
use Rattle.std.specs.Arc.{arc_value}
use Rattle.peer_loops.specs.Hands.{held}
use Rattle.peer_loops.specs.declared.desk.Desk.{Desk}
use Rattle.peer_loops.proofs.Handing.{elsewhere_in, puts_in}
use Rattle.peer_loops.proofs.hand.Hand.put.Goals as goal

pub returns : goal.returns
returns g c =
    let xs = c.self.inside.desks.list.items in
    let k = c.in-Some.place in
    let at = slice_get_read xs (length xs) k c.in-Some-get_mut.desk.now refl c.in-Some-get_mut.ensures.item.3.0
    c.in-Some-get_mut.ensures.value in
    let same : (arc_value c.add.new.self.part).own ≡ (arc_value c.in-Some-get_mut.desk.now.part).own = search rules in
    record {
      put = puts_in (λ (d : Desk). held (arc_value d.part).own d.seat.view) c.args.self.now xs k
          c.in-Some-get_mut.desk.now c.add.new.self c.args.item.now c.add.result (sym c.self.view_is) at same
          c.add.ensures.adds;
      elsewhere = elsewhere_in (λ (d : Desk). held (arc_value d.part).own d.seat.view) c.args.self.now xs k
          c.in-Some-get_mut.desk.now c.args.item.now c.add.new.self.seat.view c.add.result (sym c.self.view_is) at
          (sym c.place_of.ensures ∙ c.in-Some.is) c.add.ensures.adds;
    }
