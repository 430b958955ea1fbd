use Rattle.std.proofs.Common.{rules, ◌≡◌, ◌++◌, false}
use Rattle.std.specs.Prelude.{is_err, string_bytes}
use Rattle.printing_core.specs.ItemTexts.{item_line}
use Rattle.server.proofs.Kept.{told_line}
use Rattle.server.proofs.book.Book.put_one.Goals as goal

pub returns-then-self-lt-MOST_FAILURES : goal.returns-then-self-lt-MOST_FAILURES
returns-then-self-lt-MOST_FAILURES g c =
    let fine : is_err c.tell.result ≡ false = search rules in
    let line = item_line c.args.form c.args.item.now in
    let tells = told_line g.D.Device.held string_bytes line c.learned_line.result c.tell.result c.args.self.now.lines
    c.tell.new.self.lines c.tell.ensures.told c.tell.ensures.read c.learned_line.ensures fine in
    record { told = λ yes base told kept. c.write-written.ensures.kept base (told ++ line) (tells base told kept) }
