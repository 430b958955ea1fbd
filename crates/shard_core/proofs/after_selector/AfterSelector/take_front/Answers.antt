use Rattle.std.proofs.Common.{rules, ◌≡◌, ℕ, List, false, min, length, drop, sym, subst, arith}
use Rattle.std.specs.Io.KnownBytes.{Keeps, prepend_known}
use Rattle.shard_core.specs.Fronts.{front_length, passed_on}
use Rattle.shard_core.proofs.Taken.{left_of, goes_on, is_known, comes_on}
use Rattle.shard_core.proofs.after_selector.AfterSelector.take_front.Goals as goal

pub front-preserved : goal.front-preserved
front-preserved g c =
    let came = c.in_ok-read_more.ensures.came in
    let begun : c.front.self.whole ≡ false = c.front.invariant.0 in
    let on = goes_on c.args.self.now c.front.self c.read_more.new.self
    (g.R.Read.remaining c.args.self.now.inner) (g.R.Read.remaining c.front.self.inner)
    (g.R.Read.remaining c.read_more.new.self.inner) came.0 begun
    c.in_ok-read_more.ensures.same.1 c.in_ok-read_more.ensures.same.2 c.front.invariant.1 came.1 came.3 in (
      on.0,
      on.1,
      comes_on c.args.self.now.came c.front.self.came c.read_more.new.self.came came.0
          (g.R.Read.remaining c.args.self.now.inner) (g.R.Read.remaining c.front.self.inner)
          (g.R.Read.remaining c.read_more.new.self.inner) c.front.invariant.2 came.1 came.3,
    )

pub returns-clause-kept : goal.returns-clause-kept
returns-clause-kept g c =
    let came = c.in_ok-read_more.ensures.came in
    let begun : c.front.self.whole ≡ false = c.front.invariant.0 in
    let unread = g.R.Read.remaining c.args.self.now.inner in
    let after = goes_on c.args.self.now c.front.self c.read_more.new.self
    unread (g.R.Read.remaining c.front.self.inner)
    (g.R.Read.remaining c.read_more.new.self.inner) came.0 begun
    c.in_ok-read_more.ensures.same.1 c.in_ok-read_more.ensures.same.2 c.front.invariant.1 came.1 came.3 in
    let enough = c.in_ok-read_more.ensures.done (omega arith) in
    let got = is_known c.args.self.now c.read_more.new.self unread
    (g.R.Read.remaining c.read_more.new.self.inner) after.0 after.1 enough in
    let here = subst (λ s. Keeps (passed_on c.args.self.now unread)
    (prepend_known (left_of s.kinds s.came) (g.R.Read.remaining s.inner)))
    (sym c.self.view_is) got in
    let read : List ℕ = c.self.inside.came.items in
    let count : c.min-self-inside.result ≡ min (front_length c.self.inside.kinds read) (length read) = search rules in
    subst (λ n. Keeps (passed_on c.args.self.now unread)
    (prepend_known (drop n c.self.inside.came.items) (g.R.Read.remaining c.self.inside.inner))) (sym count) here
