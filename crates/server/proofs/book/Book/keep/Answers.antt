use Rattle.std.proofs.Common.{rules, ◌≡◌, true, false, refl}
use Rattle.loading.specs.Rewriting.{lines_of}
use Rattle.server.proofs.Kept.{stored}
use Rattle.server.proofs.book.Book.keep.Goals as goal

pub returns-then-wanted : goal.returns-then-wanted
returns-then-wanted g c =
    let told : c.put_each-are_told.result ≡ true = search rules in
    let written : c.write-is_written.result ≡ true = search rules in
    record {
      stored = λ yes.
          stored g.D.Device.held g.D.Device.saved c.args.wanted.is_durable
          (lines_of c.args.wanted.form c.args.wanted.items.now.items) c.args.self.now.lines
          c.put_each-are_told.new.self.lines c.write-is_written.new.self.lines c.sync.new.self.lines
          (c.put_each-are_told.ensures.told told) c.write-is_written.ensures.kept
          (c.write-is_written.ensures.whole written) c.sync.ensures.kept c.sync.ensures.bytes
          (λ on. c.sync.ensures.saved yes);
    }

pub returns : goal.returns
returns g c =
    let told : c.put_each-are_told.result ≡ true = search rules in
    let written : c.write-is_written.result ≡ true = search rules in
    let off : c.args.wanted.is_durable ≡ false = search rules in
    let now = c.write-is_written.new.self.lines in
    record {
      stored = λ yes.
          stored g.D.Device.held g.D.Device.saved c.args.wanted.is_durable
          (lines_of c.args.wanted.form c.args.wanted.items.now.items) c.args.self.now.lines
          c.put_each-are_told.new.self.lines now now (c.put_each-are_told.ensures.told told)
          c.write-is_written.ensures.kept (c.write-is_written.ensures.whole written) (λ base told kept. kept) refl
          (λ (on : c.args.wanted.is_durable ≡ true). absurd cc);
    }
