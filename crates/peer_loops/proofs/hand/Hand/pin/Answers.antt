use Rattle.std.proofs.Common.{rules, length, refl, sym}
use Rattle.std.proofs.lemmas.Option.{slice_get_read}
use Rattle.std.specs.Arc.{arc_value}
use Rattle.peer_loops.specs.Hands.{held}
use Rattle.peer_loops.specs.declared.desk.Desk.{Desk}
use Rattle.peer_loops.proofs.Handing.{nothing_in}
use Rattle.peer_loops.proofs.hand.Hand.pin.Goals as goal

pub returns : goal.returns
returns g c =
    let xs = c.self.inside.desks.list.items in
    let k = c.args.place in
    let at = slice_get_read xs (length xs) k c.in_ok-desk.desk.now refl c.in_ok-desk.ensures.item.3.0
    c.in_ok-desk.ensures.value in
    record {
      nothing = nothing_in (λ (d : Desk). held (arc_value d.part).own d.seat.view) c.args.self.now xs k
          c.in_ok-desk.desk.now c.pin.new.self (sym c.self.view_is) at c.pin.ensures.view.nothing.0;
    }
