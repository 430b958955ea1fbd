use Rattle.std.proofs.Common.{rules, ◌≡◌, ◌+◌, ◌<◌, sym, subst, Err, take, length, arith, length-take-le}
use Rattle.std.specs.Prelude.{IfErr}
use Rattle.item_files.specs.PieceTexts.{most_bytes}
use Rattle.item_files.specs.Loads.{IsReading, IsUnloaded}
use Rattle.item_files.proofs.Took.{took_more, too_long, stopped}
use Rattle.item_files.proofs.reading.read_more.Goals as goal

pub returns-then-count-most_bytes-clause-unloaded :
    goal.returns-then-count-most_bytes-clause-unloaded
returns-then-count-most_bytes-clause-unloaded g c = λ unread is.
    let came : length (take c.in_ok-count.count c.read_once.new.room) ≡ c.in_ok-count.count =
    length-take-le c.in_ok-count.count c.read_once.new.room c.in_ok-count.ensures.bytes.0 in
    let long : most_bytes c.args.dealing.now.options.bits
    < c.args.dealing.now.taken + length (take c.in_ok-count.count c.read_once.new.room) = omega arith in
    too_long c.args.dealing.now.options unread (g.R.Read.remaining c.args.reader.now.inner) c.args.dealing.now is
    (g.R.Read.remaining c.read_once.new.reader.inner) (take c.in_ok-count.count c.read_once.new.room)
    c.in_ok-count.ensures.bytes.1 c.read_once.new.reader.failed long

pub returns-in_err-add-clause-unloaded : goal.returns-in_err-add-clause-unloaded
returns-in_err-add-clause-unloaded g c = λ unread is.
    let gives : c.from_residual-in_err-add.result ≡ Err c.in_err-add.field-0.0 = search rules in
    subst (λ r. IfErr r (λ e. IsUnloaded c.args.dealing.now.options unread
    (g.R.Read.remaining c.read_once.new.reader.inner) c.read_once.new.reader.failed e)) (sym gives)
    (stopped c.args.dealing.now.options unread (g.R.Read.remaining c.args.reader.now.inner) c.args.dealing.now is
    (g.R.Read.remaining c.read_once.new.reader.inner) (take c.in_ok-count.count c.read_once.new.room)
    c.in_ok-count.ensures.bytes.1 c.read_once.new.reader.failed c.in_err-add.field-0.0
    (c.in_err-add.ensures.bad is.read is.dealt))

pub returns-clause-reading : goal.returns-clause-reading
returns-clause-reading g c = λ unread is.
    let came : length (take c.in_ok-count.count c.read_once.new.room) ≡ c.in_ok-count.count =
    length-take-le c.in_ok-count.count c.read_once.new.room c.in_ok-count.ensures.bytes.0 in
    let same : c.add.new.self.taken ≡ c.args.dealing.now.taken = c.in_ok-add.ensures.rest.1 in
    took_more c.args.dealing.now.options unread (g.R.Read.remaining c.args.reader.now.inner) c.args.dealing.now is
    (g.R.Read.remaining c.read_once.new.reader.inner) (take c.in_ok-count.count c.read_once.new.room)
    c.in_ok-count.ensures.bytes.1
    (record {
      options = c.add.new.self.options;
      lists = c.add.new.self.lists;
      waiting = c.add.new.self.waiting;
      feeds = c.add.new.self.feeds;
      taken = c.add.new.self.taken + c.in_ok-count.count;
    })
    (omega (arith, came, same)) (c.in_ok-add.ensures.dealt is.read is.dealt)
