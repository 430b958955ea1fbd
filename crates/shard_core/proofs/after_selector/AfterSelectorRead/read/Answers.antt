use Rattle.std.proofs.Common.{rules, ◌≡◌, refl, sym, subst, length}
use Rattle.std.specs.Io.KnownBytes.{ReadConsumes}
use Rattle.shard_core.specs.Fronts.{FrontState, ComesOn}
use Rattle.shard_core.proofs.Taken.{reads_on, reads_after}
use Rattle.shard_core.proofs.after_selector.AfterSelectorRead.read.Goals as goal

pub returns-then-self-len-clause-bytes : goal.returns-then-self-len-clause-bytes
returns-then-self-len-clause-bytes g c =
    let mid = c.make_whole.new.self in
    let new = record mid { inner = c.read.new.self } in
    let all : mid.passed ≡ length mid.came = search rules in
    let read : ReadConsumes (g.R.Read.remaining mid.inner) (g.R.Read.remaining c.read.new.self) c.read.result
    c.read.new.buf = search rules in
    let got = reads_on c.args.self.now mid new (g.R.Read.remaining c.args.self.now.inner)
    (g.R.Read.remaining mid.inner) (g.R.Read.remaining c.read.new.self) c.read.result c.read.new.buf
    c.make_whole.ensures.kept (c.in_ok-make_whole.ensures.whole) all refl refl refl read in
    search (rules, got)

pub returns-then-self-len-clause-came : goal.returns-then-self-len-clause-came
returns-then-self-len-clause-came g c =
    let mid = c.make_whole.new.self in
    let unread = g.R.Read.remaining c.args.self.now.inner in
    let left = g.R.Read.remaining c.read.new.self in
    let read : ReadConsumes (g.R.Read.remaining mid.inner) left c.read.result c.read.new.buf = search rules in
    let got = reads_after c.args.self.now.came mid.came unread (g.R.Read.remaining mid.inner) left c.read.result
    c.read.new.buf c.make_whole.ensures.came read in (
      got.0,
      subst (λ (s : FrontState g.row.R.Denot). ComesOn c.args.self.now.came s.came unread left got.0)
          (sym c.self.view_is) got.1,
    )
