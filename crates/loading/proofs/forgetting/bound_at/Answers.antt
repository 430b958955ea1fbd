-- The text is that of the clock that was asked.
use Rattle.std.proofs.Common.{rules, ◌≡◌}
use Rattle.loading.specs.Forgetting.{oldest, iso_text, IsClockAt, Begins}
use Rattle.shard_core.specs.declared.floor.TimeForm.TheVariants as forms
use Rattle.loading.proofs.forgetting.bound_at.Goals as goal

pub returns-in-Iso : goal.returns-in-Iso
returns-in-Iso c =
    let shown : IsClockAt (oldest c.args.newest c.args.seconds) c.clock_at.result = search rules in
    let text : c.of-in-Iso.result ≡ iso_text c.clock_at.result = search rules in
    let begins : Begins forms.Iso (oldest c.args.newest c.args.seconds) c.of-in-Iso.result
    = (c.clock_at.result, shown, text) in
    search (rules, begins)
