-- What is kept is of the same set, and has room.
use Rattle.std.proofs.Common.{rules, ◌-◌, ◌^◌}
use Rattle.loading.proofs.loading_shards.Keeping.kept_of.Goals as goal

pub returns-in-None : goal.returns-in-None
returns-in-None c =
    let kept = c.shards_within-kept.ensures.kept c.args.self.now.options.bits c.args.self.now.options.first
    c.args.self.now.options.last (2 ^ 64 - 1) c.requires
    in search (rules, kept)
