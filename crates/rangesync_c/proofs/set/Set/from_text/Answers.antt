use Rattle.std.proofs.Common.{◌≡◌, rules, Err}
use Rattle.std.specs.Arc.{arc_value}
use Rattle.rangesync_c.specs.Faults.{of_settings}
use Rattle.rangesync_c.proofs.SetFaults.{no_set}
use Rattle.rangesync_c.proofs.set.Set.from_text.Goals as goal

pub returns-in_err-items : goal.returns-in_err-items
returns-in_err-items c =
    let is : c.from_residual.result ≡ Err (of_settings c.in_err-items.field-0.0) = search rules in
    rw is (no_set c.args.form c.args.text.now (arc_value c.args.accepted) c.cap-cap.result c.in_err-items.field-0.0
    (search rules) c.in_err-items.ensures.set)
