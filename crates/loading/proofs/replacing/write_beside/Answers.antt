use Rattle.std.proofs.Common.{rules}
use Rattle.loading.proofs.Appending.{writes_more}
use Rattle.loading.proofs.replacing.write_beside.Goals as goal

pub appends-preserved : goal.appends-preserved
appends-preserved g c = record {
  within = search rules;
  writes = writes_more c.args.text.now c.appends.written c.in_ok-count.count _ (g.F.Folder.state c.args.folder.now)
      (g.F.Folder.state c.appends.folder) (g.F.Folder.state c.append.new.self) c.appends.invariant.writes
      c.in_ok-count.ensures.step;
}
