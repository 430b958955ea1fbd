use Rattle.std.proofs.Common.{rules, ◌≡◌, ◌≤◌, ◌∙◌, sym, subst, Err, arith}
use Rattle.std.specs.Prelude.{IfErr}
use Rattle.std.specs.Io.KnownBytes.{IsAtEnd}
use Rattle.std.proofs.lemmas.Result.{IfOk-weaker, IfErr-weaker}
use Rattle.item_files.specs.declared.options.LoadOptions.{LoadOptions}
use Rattle.item_files.specs.PieceTexts.{most_bytes, IsDealt, IsLast, IsLastFault}
use Rattle.item_files.specs.Loads.{IsReading, IsUnloaded}
use Rattle.item_files.proofs.Took.{memory_is, last, last_fault}
use Rattle.item_files.proofs.reading.read_lists.Goals as goal

pub returns-in_err-dealing-clause-unloaded : goal.returns-in_err-dealing-clause-unloaded
returns-in_err-dealing-clause-unloaded g c =
    let gives : c.from_residual.result ≡ Err c.in_err-dealing.field-0.0 = search rules in
    subst (λ r. IfErr r (λ e. IsUnloaded c.args.options (g.R.Read.remaining c.args.reader.now.inner)
    (g.R.Read.remaining c.args.reader.now.inner) c.args.reader.now.failed e)) (sym gives)
    (memory_is c.args.options (g.R.Read.remaining c.args.reader.now.inner)
    (g.R.Read.remaining c.args.reader.now.inner) c.args.reader.now.failed c.in_err-dealing.field-0.0
    c.in_err-dealing.ensures.memory)

pub returns-in_err-read_more-clause-unloaded : goal.returns-in_err-read_more-clause-unloaded
returns-in_err-read_more-clause-unloaded g c =
    let gives : c.from_residual-in_err-read_more.result ≡ Err c.in_err-read_more.field-0.0 = search rules in
    subst (λ r. IfErr r (λ e. IsUnloaded c.args.options (g.R.Read.remaining c.args.reader.now.inner)
    (g.R.Read.remaining c.read_more.new.reader.inner) c.read_more.new.reader.failed e)) (sym gives)
    (subst (λ (o : LoadOptions). IsUnloaded o (g.R.Read.remaining c.args.reader.now.inner)
    (g.R.Read.remaining c.read_more.new.reader.inner) c.read_more.new.reader.failed c.in_err-read_more.field-0.0)
    c.pieces.invariant.same
    (c.in_err-read_more.ensures.unloaded (g.R.Read.remaining c.args.reader.now.inner) c.pieces.invariant.reading))

pub returns-clause-lists : goal.returns-clause-lists
returns-clause-lists g c =
    let reads : IsReading c.args.options (g.R.Read.remaining c.args.reader.now.inner)
    (g.R.Read.remaining c.read_more.new.reader.inner) c.read_more.new.dealing =
    subst (λ (o : LoadOptions). IsReading o (g.R.Read.remaining c.args.reader.now.inner)
    (g.R.Read.remaining c.read_more.new.reader.inner) c.read_more.new.dealing) c.pieces.invariant.same
    (c.in_ok-read_more.ensures.reading (g.R.Read.remaining c.args.reader.now.inner) c.pieces.invariant.reading) in
    let same : c.read_more.new.dealing.options ≡ c.args.options =
    c.in_ok-read_more.ensures.same ∙ c.pieces.invariant.same in
    let end : IsAtEnd (g.R.Read.remaining c.read_more.new.reader.inner) =
    c.in_ok-read_more.ensures.end (omega arith) in
    let short : c.read_more.new.dealing.taken ≤ most_bytes c.args.options.bits =
    subst (λ (o : LoadOptions). c.read_more.new.dealing.taken ≤ most_bytes o.bits) c.pieces.invariant.same
    c.in_ok-read_more.ensures.short in
    IfOk-weaker c.into_lists.result _ _
    (λ v is. last c.args.options (g.R.Read.remaining c.args.reader.now.inner)
    (g.R.Read.remaining c.read_more.new.reader.inner) c.read_more.new.dealing reads end v.items short
    (subst (λ (o : LoadOptions). IsLast o reads.read v.items) same is))
    (c.into_lists.ensures.last reads.read
    (subst (λ (o : LoadOptions). IsDealt o reads.read c.read_more.new.dealing.waiting.items
    c.read_more.new.dealing.feeds c.read_more.new.dealing.lists.items) (sym same) reads.dealt))

pub returns-clause-unloaded : goal.returns-clause-unloaded
returns-clause-unloaded g c =
    let reads : IsReading c.args.options (g.R.Read.remaining c.args.reader.now.inner)
    (g.R.Read.remaining c.read_more.new.reader.inner) c.read_more.new.dealing =
    subst (λ (o : LoadOptions). IsReading o (g.R.Read.remaining c.args.reader.now.inner)
    (g.R.Read.remaining c.read_more.new.reader.inner) c.read_more.new.dealing) c.pieces.invariant.same
    (c.in_ok-read_more.ensures.reading (g.R.Read.remaining c.args.reader.now.inner) c.pieces.invariant.reading) in
    let same : c.read_more.new.dealing.options ≡ c.args.options =
    c.in_ok-read_more.ensures.same ∙ c.pieces.invariant.same in
    let end : IsAtEnd (g.R.Read.remaining c.read_more.new.reader.inner) =
    c.in_ok-read_more.ensures.end (omega arith) in
    IfErr-weaker c.into_lists.result _ _
    (λ e is. last_fault c.args.options (g.R.Read.remaining c.args.reader.now.inner)
    (g.R.Read.remaining c.read_more.new.reader.inner) c.read_more.new.dealing reads end
    c.read_more.new.reader.failed e (subst (λ (o : LoadOptions). IsLastFault o.form reads.read e) same is))
    (c.into_lists.ensures.bad reads.read
    (subst (λ (o : LoadOptions). IsDealt o reads.read c.read_more.new.dealing.waiting.items
    c.read_more.new.dealing.feeds c.read_more.new.dealing.lists.items) (sym same) reads.dealt))
