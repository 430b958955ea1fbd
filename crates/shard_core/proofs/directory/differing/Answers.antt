use Rattle.std.proofs.Common.{rules, ◌≡◌, ◌∙◌, sym, ap, arith, ◌≤◌, ◌^◌, length}
use Rattle.shard_core.specs.Directories.{differing, unequal_numbers}
use Rattle.shard_core.proofs.Numbers.{few}
use Rattle.shard_core.proofs.Told.{table_length, exact}
use Rattle.shard_core.proofs.directory.differing.Goals as goal

pub told-requires : goal.told-requires
told-requires c =
    let most : 2 ^ c.args.bits ≤ 4096 = few c.args.bits c.requires in
    let one : length c.deref.result.now ≡ 2 ^ c.args.bits = ap length c.deref.ensures.value
    ∙ table_length c.in_ok-ours.ours.items c.args.ours.now c.args.bits c.in_ok-ours.ensures.counts in
    let two : length c.deref-2.result.now ≡ 2 ^ c.args.bits = ap length c.deref-2.ensures.value
    ∙ table_length c.in_ok-theirs.theirs.items c.args.theirs.now c.args.bits c.in_ok-theirs.ensures.counts in
    (omega (arith, one, most), two ∙ sym one)

pub returns-clause-exact : goal.returns-clause-exact
returns-clause-exact c = λ A B knows.
    let named : c.in_ok-told.field-0.items ≡ differing c.args.bits c.args.ours.now c.args.theirs.now = search rules in
    ap unequal_numbers named ∙ exact c.args.bits A B
    (record { ours = c.args.ours.now; theirs = c.args.theirs.now }) c.requires knows
