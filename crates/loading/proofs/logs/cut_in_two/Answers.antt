use Rattle.std.proofs.Common.{◌/◌}
use Rattle.loading.proofs.OpenedLogs.{cut_sets, cut_opened}
use Rattle.loading.proofs.logs.cut_in_two.Goals as goal

pub returns-clause-sets : goal.returns-clause-sets
returns-clause-sets c = λ cap all. cut_sets c.args.lists.items c.split_off.new.self.items c.in_ok-back.back.items
    (c.len.result / 2) c.in_ok-back.ensures.items c.in_ok-back.ensures.tail cap all

pub returns-clause-opened : goal.returns-clause-opened
returns-clause-opened c = λ cap. cut_opened c.args.lists.items c.split_off.new.self.items c.in_ok-back.back.items
    (c.len.result / 2) c.in_ok-back.ensures.items c.in_ok-back.ensures.tail cap
