use Rattle.std.proofs.Common.{◌≡◌, ◌<◌, ◌-◌, suc, ◌∙◌, refl, ap, length, arith, rules, get_or, take}
use Rattle.range_tree.specs.Packs.{joined}
use Rattle.range_tree.proofs.Pieces.{end_at}
use Rattle.range_tree.proofs.Fields.{packed, as_many_ends}
use Rattle.range_tree.proofs.packed.Packed.start.Goals as goal

pub index-requires : goal.index-requires
index-requires c =
    let p = c.self.inside in
    let same = as_many_ends p c.args.self.now c.self.invariant c.self.view_is p.ends.items refl in
    let low = c.requires in
    omega arith

pub returns : goal.returns
returns c =
    let p = c.self.inside in
    let xs = c.args.self.now in
    let pack = packed p xs c.self.invariant c.self.view_is in
    let k = c.args.place - 1 in
    let low : k < length xs = let high = c.requires in omega arith in
    let next : suc k ≡ c.args.place = omega arith in
    let end = end_at 0 xs k c.index.result.now low in
    let start = ap (λ n. length (joined (take n xs))) next in
    let is : c.index.result.now ≡ get_or p.ends.items k c.index.result.now = search rules in
    let read = is ∙ ap (λ es. get_or es k c.index.result.now) pack.are_ends in
    omega arith
