use Rattle.std.proofs.Common.{◌≡◌, ◌++◌, ◌-◌, codes, length, rules, string_bytes, take}
use Rattle.std.specs.Prelude.{flat_map}
use Rattle.definitions.specs.Sets.{set_of}
use Rattle.printing_core.specs.SessionTexts.{named_line}
use Rattle.printing_core.proofs.FirstLines.{all_pushed}
use Rattle.printing_core.proofs.serve_files.push_first.Goals as goal

pub returns : goal.returns
returns c =
    let ours = named_line c.args.form (codes "ours") in
    let theirs = named_line c.args.form (codes "theirs") in
    let xs = set_of c.args.learned.now.ours in
    let ys = set_of c.args.learned.now.theirs in
    let t0 = string_bytes c.args.text.now in
    let t1 = string_bytes c.push_lines.new.text in
    let t2 = string_bytes c.push_lines-2.new.text in
    let a : t1 ≡ t0 ++ flat_map ours (take c.args.most xs) = search rules in
    let b : t2 ≡ t1 ++ flat_map theirs (take (c.args.most - length xs) ys) = search rules in
    let all = all_pushed ours theirs xs ys c.args.most t0 t1 t2 a b in
    search (rules, all)
