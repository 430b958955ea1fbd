use Rattle.std.proofs.Common.{rules, ◌≡◌, ◌∙◌, sym, ap, ◌≤◌, subst, length, map, Err}
use Rattle.std.specs.Prelude.{IfErr}
use Rattle.std.proofs.lemmas.List.{with_items_is}
use Rattle.definitions.specs.Sets.{set_of}
use Rattle.shard_core.specs.Shards.{shards}
use Rattle.shard_core.specs.Splits.{held, HasRoom, IsFull}
use Rattle.shard_core.proofs.Cut.{sets_of_shards}
use Rattle.shard_core.proofs.dealing.into_sets.Goals as goal

pub make_sets-requires : goal.make_sets-requires
make_sets-requires c = subst (λ vs. length vs ≤ 4096) (sym c.deref_mut.ensures.value) c.requires

pub returns-in_err-make_sets-clause-many : goal.returns-in_err-make_sets-clause-many
returns-in_err-make_sets-clause-many c = λ b dealt was.
    let is : c.from_residual.result ≡ Err c.in_err-make_sets.field-0.0 = search rules in
    let sets : map set_of (held c.deref_mut.result.now) ≡ shards b (set_of dealt) =
    ap (λ Z. map set_of (held Z)) c.deref_mut.ensures.value ∙ ap (λ Z. map set_of Z) was ∙ sets_of_shards b dealt in
    subst (λ r. IfErr r (λ e. IsFull c.args.cap (shards b (set_of dealt)) e)) (sym is)
    (subst (λ Z. IsFull c.args.cap Z c.in_err-make_sets.field-0.0) sets c.in_err-make_sets.ensures.many)

-- as many as before
long : (c : goal.In_ok-make_sets) → length c.make_sets.new.lists ≡ c.args.lists.len
long c = c.in_ok-make_sets.ensures.all ∙ ap length c.deref_mut.ensures.value ∙ sym c.args.lists.ok.0

pub returns-clause-sets : goal.returns-clause-sets
returns-clause-sets c =
    let many = long c in
    ap held (with_items_is c.args.lists c.make_sets.new.lists many) ∙ c.in_ok-make_sets.ensures.sets
    ∙ ap (λ Z. map set_of (held Z)) c.deref_mut.ensures.value

pub returns-clause-all : goal.returns-clause-all
returns-clause-all c =
    let many = long c in
    ap length (with_items_is c.args.lists c.make_sets.new.lists many) ∙ many ∙ c.args.lists.ok.0

pub returns-in_err-make_sets-clause-full : goal.returns-in_err-make_sets-clause-full
returns-in_err-make_sets-clause-full c =
    let is : c.from_residual.result ≡ Err c.in_err-make_sets.field-0.0 = search rules in
    subst (λ r. IfErr r (λ e. IsFull c.args.cap (map set_of (held c.args.lists.items)) e)) (sym is)
    (subst (λ Z. IsFull c.args.cap (map set_of (held Z)) c.in_err-make_sets.field-0.0) c.deref_mut.ensures.value
    c.in_err-make_sets.ensures.many)

pub returns-clause-shards : goal.returns-clause-shards
returns-clause-shards c = λ b dealt was.
    returns-clause-sets c ∙ ap (λ Z. map set_of Z) was ∙ sets_of_shards b dealt

pub returns-clause-room : goal.returns-clause-room
returns-clause-room c =
    let many = long c in
    subst (λ Z. HasRoom c.args.cap (held Z)) (sym (with_items_is c.args.lists c.make_sets.new.lists many))
    c.in_ok-make_sets.ensures.room
