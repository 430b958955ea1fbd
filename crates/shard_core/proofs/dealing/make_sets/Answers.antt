use Rattle.std.proofs.Common.{rules, ◌≡◌, sym, arith, subst, length, map, Err}
use Rattle.std.specs.Prelude.{Vec, IfErr}
use Rattle.std.specs.declared.alloc.Global.{Global}
use Rattle.std.proofs.lemmas.List.{length-map}
use Rattle.definitions.specs.Items.{Item}
use Rattle.definitions.specs.Sets.{set_of}
use Rattle.shard_core.specs.Splits.{held, IsFull}
use Rattle.shard_core.proofs.Dealt.{vec_sets, vec_room, vec_above}
use Rattle.shard_core.proofs.dealing.make_sets.Goals as goal

pub returns-in_err-make_set-clause-many : goal.returns-in_err-make_set-clause-many
returns-in_err-make_set-clause-many c =
    let is : c.from_residual.result ≡ Err c.in_err-make_set.field-0.0 = search rules in
    let long : length (held c.args.lists.now) ≡ length c.args.lists.now =
    length-map c.args.lists.now (λ (v : Vec Item Global). v.items) in
    let full = vec_above (held c.args.lists.now) c.loop-number.lists c.loop-number.number c.index-lists-number.result
    c.make_set.new.items (omega (arith, long)) c.loop-number.invariant.sets c.index-lists-number.is
    c.in_err-make_set.ensures.set c.args.cap c.in_err-make_set.ensures.many.1 c.loop-number.invariant.room in
    subst (λ r. IfErr r (λ e. IsFull c.args.cap (map set_of (held c.args.lists.now)) e)) (sym is)
    (subst (λ e. IsFull c.args.cap (map set_of (held c.args.lists.now)) e) (sym c.in_err-make_set.ensures.many.0) full)

pub loop-number-preserved : goal.loop-number-preserved
loop-number-preserved c =
    let long : length (held c.args.lists.now) ≡ length c.args.lists.now =
    length-map c.args.lists.now (λ (v : Vec Item Global). v.items) in
    record {
      sets = vec_sets (held c.args.lists.now) c.loop-number.lists c.loop-number.number c.index-lists-number.result
          c.make_set.new.items (omega (arith, long)) c.loop-number.invariant.sets c.index-lists-number.is
          c.in_ok-make_set.ensures.set;
      room = vec_room (held c.args.lists.now) c.loop-number.lists c.loop-number.number c.index-lists-number.result
          c.make_set.new.items (omega (arith, long)) c.loop-number.invariant.sets c.index-lists-number.is
          c.in_ok-make_set.ensures.set c.args.cap c.in_ok-make_set.ensures.room c.loop-number.invariant.room;
    }
