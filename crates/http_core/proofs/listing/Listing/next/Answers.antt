use Rattle.std.proofs.Common.{◌≡◌, ◌+◌, ◌∙◌, ◌++◌, ◌∷◌, [], ◌<◌, ap, arith, drop, length, rules, sym, take}
use Rattle.std.proofs.lemmas.List.{nil_from_length}
use Rattle.http_core.specs.Listings.{left}
use Rattle.http_core.proofs.Listings.{few, found, goes_on, is_over}
use Rattle.http_core.proofs.listing.Listing.next.Goals as goal
use Rattle.http_core.proofs.listing.Listing.next.Goals.{then-is_empty, else-is_empty}

pub overflow_add-self-else-is_empty : goal.overflow_add-self-else-is_empty
overflow_add-self-else-is_empty g c =
    let A = g.S.RangeStore.content c.in-Some.store.now in
    let read = c.in_ok-items.ensures ∙ c.part_of.ensures.part A c.span_of.ensures.within in
    let some : 0 < length c.in_ok-items.items.items = search (rules, c.if-is_empty.false, c.is_empty.ensures) in
    omega (
      arith,
      few A c.span_of.result.from c.span_of.result.to c.self.inside.given _ read some,
      c.span_of.type_inv,
      c.len.ensures,
      c.in_ok-items.items.ok,
    )

pub returns-clause-items : goal.returns-clause-items
returns-clause-items g c =
    let content = g.S.RangeStore.content in
    let l = c.self.inside in
    let s = c.in-Some.store.now in
    let v = c.in_ok-items.items.items in
    let rest = drop (l.turn + 1) l.stores.items in
    let at = c.in-Some.ensures.lookup.3 in
    let there : drop l.turn l.stores.items ≡ s ∷ rest
    = found l.stores.items c.deref.result.now l.turn s c.deref.ensures.value at.0 (at.1 s) in
    let read = c.in_ok-items.ensures ∙ c.part_of.ensures.part (content s) c.span_of.ensures.within
    ∙ ap (λ ys. take 2048 (drop l.given ys)) c.span_of.ensures.items in
    let old = sym c.self.view_is ∙ ap (left content l.range l.given) there in
    elim c.if-is_empty.branch [
      | then-is_empty w ↦
          let none : v ≡ [] = nil_from_length v (search (rules, w.if-is_empty, c.is_empty.ensures)) in
          rw w.self-is (old ∙ is_over content l.range l.given s rest v read none)
      | else-is_empty w ↦
          let count : length v ≡ w.len.result = omega (arith, w.len.ensures, c.in_ok-items.items.ok) in
          rw w.self-is (old ∙ goes_on content l.range l.given s rest v read
          ∙ ap (λ n. v ++ left content l.range (l.given + n) (s ∷ rest)) count
          ∙ ap (λ ss. v ++ left content l.range (l.given + w.len.result) ss) (sym there))
    ]
