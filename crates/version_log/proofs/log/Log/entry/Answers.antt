use Rattle.std.proofs.Common.{◌≡◌, ◌≤◌, ◌<◌, ◌-◌, ℕ, ◌⊎◌, inl, inr, length, Some, rules, arith, ◌∙◌, ap, sym, subst}
use Rattle.std.specs.List.{slice_get}
use Rattle.std.proofs.lemmas.Bool.{cases_lt}
use Rattle.version_log.specs.Arrivals.{before, entries_of}
use Rattle.version_log.proofs.Arrivals.{length_before, length_history, length_opening, entry_of_later}
use Rattle.version_log.proofs.log.Log.entry.Goals as goal

above : (a b : ℕ) → (a ≤ b → ⊥) → (b < a) ⊎ (a ≤ b) → b < a
above a b never (inl less) = less
above a b never (inr most) = absurd (never most)

pub overflow_sub-opening : goal.overflow_sub-opening
overflow_sub-opening g c =
    let counts = length_before c.self.inside.later.items (g.S.RangeStore.content c.self.inside.store)
    c.self.invariant.0 in
    let later : c.len-2.result ≡ length c.self.inside.later.items = search rules in
    omega (arith, c.len.ensures, later, counts)

pub first_entry-requires-clause-few : goal.first_entry-requires-clause-few
first_entry-requires-clause-few g c =
    let many = length_history c.self.inside.later.items (g.S.RangeStore.content c.self.inside.store)
    c.self.invariant.0 in
    omega (arith, many, c.self.invariant.2.fits, c.self.invariant.2.cap.1)

pub first_entry-requires-clause-low : goal.first_entry-requires-clause-low
first_entry-requires-clause-low g c =
    let A = g.S.RangeStore.content c.self.inside.store in
    let later : c.len-2.result ≡ length c.self.inside.later.items = search rules in
    let opening = length_opening c.self.inside.later.items A c.len.result c.len-2.result c.self.invariant.0
    c.len.ensures later in
    let low = above (c.len.result - c.len-2.result) c.args.index c.in-None.ensures
    (cases_lt c.args.index (c.len.result - c.len-2.result)) in
    subst (λ ls. c.args.index < length (before ls A)) (sym c.deref.ensures.value) (omega (arith, opening, low))

pub later_entry-requires-clause-few : goal.later_entry-requires-clause-few
later_entry-requires-clause-few g c =
    let many = length_history c.self.inside.later.items (g.S.RangeStore.content c.self.inside.store)
    c.self.invariant.0 in
    omega (arith, many, c.self.invariant.2.fits, c.self.invariant.2.cap.1)

pub later_entry-requires-clause-low : goal.later_entry-requires-clause-low
later_entry-requires-clause-low g c =
    let A = g.S.RangeStore.content c.self.inside.store in
    let later : c.len-2.result ≡ length c.self.inside.later.items = search rules in
    let counts = length_before c.self.inside.later.items A c.self.invariant.0 in
    let many = length_history c.self.inside.later.items A c.self.invariant.0 in
    let seen = ap (λ v. length v.history) c.self.view_is in
    let long = ap length c.deref-in-Some.ensures.value in
    let since = c.in-Some.ensures in
    omega (arith, c.len.ensures, later, counts, many, seen, long, since.0, since.1, c.requires)

pub returns-in-Some : goal.returns-in-Some
returns-in-Some g c =
    let A = g.S.RangeStore.content c.self.inside.store in
    let ls = c.self.inside.later.items in
    let later : c.len-2.result ≡ length ls = search rules in
    let opening = length_opening ls A c.len.result c.len-2.result c.self.invariant.0 c.len.ensures later in
    let since = c.in-Some.ensures in
    let found = subst (λ l. slice_get (entries_of l A) c.in-Some.since ≡ Some c.later_entry.result)
    c.deref-in-Some.ensures.value c.later_entry.ensures in
    ap (λ v. slice_get v.history c.args.index) (sym c.self.view_is)
    ∙ entry_of_later ls A c.args.index c.in-Some.since c.later_entry.result
    (omega (arith, opening, since.0, since.1)) found
