use Rattle.std.proofs.Common.{rules, arith, ◌≡◌, ◌<◌, ◌+◌, ◌++◌, ◌∷◌, [], sym, ap, subst, ◌∙◌, false, length}
use Rattle.std.proofs.lemmas.List.{length-append}
use Rattle.definitions.specs.Sets.{has, add_item}
use Rattle.definitions.specs.Histories.{History, content, items_of}
use Rattle.version_log.specs.Arrivals.{HaveCome, history_of}
use Rattle.version_log.specs.Logs.{IsLog, log}
use Rattle.version_log.proofs.Once.{content_push, log_push}
use Rattle.version_log.proofs.Arrivals.{length_history, few_first, adds}
use Rattle.version_log.proofs.log.Log.add.Given
use Rattle.version_log.proofs.log.Log.add.Goals as goal

pub overflow_cast-place : goal.overflow_cast-place
overflow_cast-place g c =
    let A = g.S.RangeStore.content c.self.inside.store in
    let few = few_first A c.args.item in
    let many = length_history c.self.inside.later.items A c.self.invariant.0 in
    let fits = c.self.invariant.2.fits in
    let most = c.self.invariant.2.cap.1 in
    let low : c.place_of-place.result < 4294967296 = omega (arith, c.place_of-place.ensures) in
    search (rules, low)

-- the new list of those that came later, and the new history
grown : (g : Given.Over) (c : goal.After-len-2 g) →
    HaveCome c.push_reserved.new.self.items (g.S.RangeStore.content c.in-New.store)
    × (history_of c.push_reserved.new.self.items (g.S.RangeStore.content c.in-New.store)
    ≡ history_of c.self.inside.later.items (g.S.RangeStore.content c.self.inside.store)
    ++ (c.args.writer, c.args.item) ∷ [])
grown g c =
    let A = g.S.RangeStore.content c.self.inside.store in
    let lacks : has A c.args.item ≡ false = search rules in
    let made : g.S.RangeStore.content c.in-New.store ≡ add_item A c.args.item = search rules in
    let pushed : c.push_reserved.new.self.items ≡ c.self.inside.later.items
    ++ record { writer = c.args.writer; place = c.place_of-place.result } ∷ [] = search rules in
    adds c.self.inside.later.items c.push_reserved.new.self.items A (g.S.RangeStore.content c.in-New.store)
    c.args.writer c.place_of-place.result c.args.item (g.met.S.RangeStore.rises c.self.inside.store) lacks made
    c.place_of-place.ensures pushed c.self.invariant.0

pub invariant_of-self-2 : goal.invariant_of-self-2
invariant_of-self-2 g c =
    let A = g.S.RangeStore.content c.self.inside.store in
    let h : History = history_of c.self.inside.later.items A in
    let invariant = c.self.invariant in
    let both = grown g c in
    let lacks : has (content h) c.args.item ≡ false = search rules in
    let made : g.S.RangeStore.content c.in-New.store ≡ add_item (content h) c.args.item = search rules in
    let count = length_history c.self.inside.later.items A invariant.0 in
    let room : length h < c.self.inside.cap = search (rules, count) in (
      both.0,
      made ∙ sym (content_push h c.args.writer c.args.item) ∙ ap content (sym both.1),
      subst (λ k. IsLog (log c.self.inside.cap k c.self.inside.next_writer)) (sym both.1)
          (log_push c.self.inside.cap c.self.inside.next_writer h c.args.writer c.args.item invariant.2
          (sym (c.set_of_a_list.ensures.has (items_of h) c.args.item) ∙ lacks) room (search rules)),
    )

pub returns-then-len-self-clause-full : goal.returns-then-len-self-clause-full
returns-then-len-self-clause-full g c =
    let count = length_history c.self.inside.later.items (g.S.RangeStore.content c.self.inside.store)
    c.self.invariant.0 in
    let fits = c.self.invariant.2.fits in
    search (rules, count, fits)

pub returns-clause-answer : goal.returns-clause-answer
returns-clause-answer g c =
    let h : History = history_of c.self.inside.later.items (g.S.RangeStore.content c.self.inside.store) in
    let both = grown g c in
    let count = length_history c.push_reserved.new.self.items (g.S.RangeStore.content c.in-New.store) both.0 in
    let next : c.len-2.result ≡ length h + 1 =
    omega (arith, c.len-2.ensures, count, ap length both.1, length-append h ((c.args.writer, c.args.item) ∷ [])) in
    search (rules, next)

pub returns-clause-log : goal.returns-clause-log
returns-clause-log g c = let both = grown g c in search (rules, both)
