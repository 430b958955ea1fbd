use Rattle.std.proofs.Common.{rules, ◌≤◌, ◌∙◌, length, refl, sym, ap}
use Rattle.std.proofs.lemmas.Option.{slice_get_read, get_or_from_slice_get}
use Rattle.std.proofs.Math.Seq.{map-set_same}
use Rattle.peer_loops.specs.declared.desk.Desk.{Desk}
use Rattle.peer_loops.proofs.Places.{changes, stays}
use Rattle.peer_loops.proofs.desks.Desks.put_in.Goals as goal

pub returns-in-Some-get_mut : goal.returns-in-Some-get_mut
returns-in-Some-get_mut g c =
    let xs = c.args.self.now.list.items in
    let k = c.in-Some.place in
    let desk = c.in-Some-get_mut.desk.now in
    let at = slice_get_read xs (length xs) k desk refl c.in-Some-get_mut.ensures.item.3.0
    c.in-Some-get_mut.ensures.value in
    record {
      put = changes _ k xs desk c.put_in.new.self _ (sym c.place_of.ensures ∙ c.in-Some.is) at
          (c.put_in.ensures.part, c.put_in.ensures.put);
      news = λ off.
          map-set_same (λ (d : Desk). d.seat.view.entered) xs k c.put_in.new.self desk
          (c.put_in.ensures.news off
          ∙ ap (λ (d : Desk). d.seat.view.entered) (sym (get_or_from_slice_get xs k desk desk at)));
    }

pub returns-in-None : goal.returns-in-None
returns-in-None g c =
    let xs = c.args.self.now.list.items in
    let past : length xs ≤ c.in-Some.place = search rules in
    record { put = stays _ c.in-Some.place xs _ (sym c.place_of.ensures ∙ c.in-Some.is) past; news = λ off. refl }
