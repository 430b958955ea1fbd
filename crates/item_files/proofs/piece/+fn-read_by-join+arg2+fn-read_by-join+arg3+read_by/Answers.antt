use Rattle.std.proofs.Common.{◌≡◌, sym, subst, Ok, Err, rules}
use Rattle.item_files.specs.ItemFiles.{file_items}
use Rattle.item_files.specs.PieceTexts.{IsPiece, IsPieceFault}
use Rattle.item_files.proofs.Halves.{front_stops, back_stops, both_read}
use Rattle.item_files.proofs.piece.+fn-read_by-join+arg2+fn-read_by-join+arg3+read_by.Goals as goal

pub returns-in_err-first : goal.returns-in_err-first
returns-in_err-first g t c =
    let form = c.args.start.form in
    let k = c.args.start.feeds in
    let front = c.in-Some.front.now in
    let back = c.in-Some.back.now in
    let later = c.start_after-later.result in
    let (q, starts, whole) = c.in-Some.ensures in
    let read_first : IsPiece form front k c.join-first.result.0 = search rules in
    let was : c.join-first.result.0 ≡ Err c.in_err-first.field-0.0 = search rules in
    let fault : IsPieceFault form front k c.in_err-first.field-0.0 =
    subst (λ r. IsPiece form front k r) was read_first in
    let is : c.from_residual.result ≡ Err c.in_err-first.field-0.0 = search rules in
    subst (λ r. IsPiece form c.args.text.now k r) (sym is)
    (front_stops form c.args.text.now front back q k later.feeds starts whole c.start_after-later.ensures.feeds
    c.in_err-first.field-0.0 fault)

pub returns-in_err-second : goal.returns-in_err-second
returns-in_err-second g t c =
    let form = c.args.start.form in
    let k = c.args.start.feeds in
    let front = c.in-Some.front.now in
    let back = c.in-Some.back.now in
    let later = c.start_after-later.result in
    let (q, starts, whole) = c.in-Some.ensures in
    let read_first : IsPiece form front k c.join-first.result.0 = search rules in
    let read_second : IsPiece later.form back later.feeds c.join-first.result.1 = search rules in
    let was : c.join-first.result.0 ≡ Ok c.in_ok-first.field-0 = search rules in
    let items : file_items form front ≡ Ok c.in_ok-first.field-0.items =
    subst (λ r. IsPiece form front k r) was read_first in
    let stopped : c.join-first.result.1 ≡ Err c.in_err-second.field-0.0 = search rules in
    let fault : IsPieceFault later.form back later.feeds c.in_err-second.field-0.0 =
    subst (λ r. IsPiece later.form back later.feeds r) stopped read_second in
    let own : IsPieceFault form back later.feeds c.in_err-second.field-0.0 =
    subst (λ f. IsPieceFault f back later.feeds c.in_err-second.field-0.0) c.start_after-later.ensures.form fault in
    let is : c.from_residual-in_err-second.result ≡ Err c.in_err-second.field-0.0 = search rules in
    subst (λ r. IsPiece form c.args.text.now k r) (sym is)
    (back_stops form c.args.text.now front back q k later.feeds starts whole c.start_after-later.ensures.feeds
    c.in_ok-first.field-0.items c.in_err-second.field-0.0 items own)

pub returns : goal.returns
returns g t c =
    let form = c.args.start.form in
    let k = c.args.start.feeds in
    let front = c.in-Some.front.now in
    let back = c.in-Some.back.now in
    let later = c.start_after-later.result in
    let (q, starts, whole) = c.in-Some.ensures in
    let read_first : IsPiece form front k c.join-first.result.0 = search rules in
    let read_second : IsPiece later.form back later.feeds c.join-first.result.1 = search rules in
    let was : c.join-first.result.0 ≡ Ok c.in_ok-first.field-0 = search rules in
    let items : file_items form front ≡ Ok c.in_ok-first.field-0.items =
    subst (λ r. IsPiece form front k r) was read_first in
    let came : c.join-first.result.1 ≡ Ok c.in_ok-second.field-0 = search rules in
    let more : file_items later.form back ≡ Ok c.in_ok-second.field-0.items =
    subst (λ r. IsPiece later.form back later.feeds r) came read_second in
    let own : file_items form back ≡ Ok c.in_ok-second.field-0.items =
    subst (λ f. file_items f back ≡ Ok c.in_ok-second.field-0.items) c.start_after-later.ensures.form more in
    both_read form c.args.text.now front back q k later.feeds starts whole c.start_after-later.ensures.feeds
    c.in_ok-first.field-0.items c.in_ok-second.field-0.items c.in_ok-both.field-0.items items own c.in_ok-both.ensures
