use Rattle.std.proofs.Common.{rules, ◌≡◌, ◌+◌, ◌≤◌, ◌++◌, ◌∙◌, length, take, drop, refl, arith}
use Rattle.std.proofs.lemmas.List.{length-take-le}
use Rattle.shard_core.proofs.Taken.{gives, copied}
use Rattle.shard_core.proofs.after_selector.AfterSelector.pass_on.Goals as goal

pub returns-clause-bytes : goal.returns-clause-bytes
returns-clause-bytes g c =
    let old = c.args.self.now in
    let n = c.min-count.result in
    let new = record old { passed = c.self.inside.passed + n } in
    let room : n ≤ length c.args.buf.now = omega arith in
    let long : length c.copy_from_slice.new.self ≡ n =
    c.copy_from_slice.ensures.len ∙ length-take-le n c.args.buf.now room in
    let front : c.copy_from_slice.new.self ≡ take n (drop old.passed old.came) = search rules in
    let is =
    copied n c.copy_from_slice.new.self (drop n c.args.buf.now) (take n (drop old.passed old.came)) long front in
    let passed : c.self.inside.passed + n ≡ old.passed + n = search rules in
    let got = gives old new n (take n (c.copy_from_slice.new.self ++ drop n c.args.buf.now)) c.requires.whole refl refl
    passed is in
    search (rules, got)
