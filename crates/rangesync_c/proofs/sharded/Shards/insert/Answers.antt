use Rattle.std.proofs.Common.{rules, ◌≡◌, ◌<◌, ◌≤◌, length, get_or, set, false, true, not, [], sym, ap}
use Rattle.std.proofs.Common.{subst, ◌∙◌, arith}
use Rattle.std.specs.Arc.{arc_value}
use Rattle.std.proofs.lemmas.List.{length-map, map-set}
use Rattle.definitions.specs.Sets.{has, add_item}
use Rattle.range_tree.specs.Trees.{tree_items}
use Rattle.shard_core.specs.Shards.{shard_number}
use Rattle.rangesync_c.specs.Trees.{held_in}
use Rattle.rangesync_c.specs.ShardStates.{all_of, is_there, with_one, IsFullFor, IsRoomFor}
use Rattle.rangesync_c.proofs.ShardSets.{state_of, inside, there, count, grown, again}
use Rattle.rangesync_c.proofs.sharded.Shards.insert.Goals as goal

pub store_at-requires : goal.store_at-requires
store_at-requires c =
    let here = inside (arc_value c.self.inside.accepted) c.self.inside.name.items c.self.inside.bits
    (held_in c.self.inside.stores.items) c.args.item c.self.invariant in
    let long = length-map c.self.inside.stores.items tree_items in
    search (rules, here, long)

pub put-requires : goal.put-requires
put-requires c =
    let here = inside (arc_value c.self.inside.accepted) c.self.inside.name.items c.self.inside.bits
    (held_in c.self.inside.stores.items) c.args.item c.self.invariant in
    let long = length-map c.self.inside.stores.items tree_items in
    search (rules, here, long)

pub returns-in-Err-clause-lacked : goal.returns-in-Err-clause-lacked
returns-in-Err-clause-lacked c =
    let stores = held_in c.self.inside.stores.items in
    let b = c.self.inside.bits in
    let at : tree_items c.store_at.result.now ≡ get_or stores (shard_number b c.args.item) [] = search rules in
    let lacks : has (tree_items c.store_at.result.now) c.args.item ≡ false = search rules in
    subst (λ s. is_there s c.args.item ≡ false) c.self.view_is
    (sym (there (arc_value c.self.inside.accepted) c.self.inside.name.items b stores c.args.item c.self.invariant)
    ∙ ap (λ Z. has Z c.args.item) (sym at) ∙ lacks)

pub returns-in-Err-clause-full : goal.returns-in-Err-clause-full
returns-in-Err-clause-full c = λ is.
    let stores = held_in c.self.inside.stores.items in
    let b = c.self.inside.bits in
    let at : tree_items c.store_at.result.now ≡ get_or stores (shard_number b c.args.item) [] = search rules in
    let many = count (arc_value c.self.inside.accepted) c.self.inside.name.items b stores c.args.item
    c.self.invariant in
    let cap : c.cap-cap.result ≡ (arc_value c.self.inside.accepted).table.cap = search rules in
    let full : c.cap-cap.result ≤ length (tree_items c.store_at.result.now) = search rules in
    subst (λ s. IsFullFor s c.args.item) c.self.view_is (omega (arith, full, cap, ap length at, many))

pub returns-in-Err-clause-memory : goal.returns-in-Err-clause-memory
returns-in-Err-clause-memory c = λ is.
    let stores = held_in c.self.inside.stores.items in
    let b = c.self.inside.bits in
    let at : tree_items c.store_at.result.now ≡ get_or stores (shard_number b c.args.item) [] = search rules in
    let many = count (arc_value c.self.inside.accepted) c.self.inside.name.items b stores c.args.item
    c.self.invariant in
    let cap : c.cap-cap.result ≡ (arc_value c.self.inside.accepted).table.cap = search rules in
    let room : length (tree_items c.store_at.result.now) < c.cap-cap.result = search rules in
    subst (λ s. IsRoomFor s c.args.item) c.self.view_is (omega (arith, room, cap, ap length at, many))

pub returns-in-Ok-None-clause-new : goal.returns-in-Ok-None-clause-new
returns-in-Ok-None-clause-new c =
    let stores = held_in c.self.inside.stores.items in
    let b = c.self.inside.bits in
    let at : tree_items c.store_at.result.now ≡ get_or stores (shard_number b c.args.item) [] = search rules in
    let here : has (tree_items c.store_at.result.now) c.args.item ≡ true = search rules in
    sym (ap not (subst (λ s. is_there s c.args.item ≡ true) c.self.view_is
    (sym (there (arc_value c.self.inside.accepted) c.self.inside.name.items b stores c.args.item c.self.invariant)
    ∙ ap (λ Z. has Z c.args.item) (sym at) ∙ here)))

pub returns-in-Ok-None-clause-inserted : goal.returns-in-Ok-None-clause-inserted
returns-in-Ok-None-clause-inserted c =
    let stores = held_in c.self.inside.stores.items in
    let a = arc_value c.self.inside.accepted in
    let name = c.self.inside.name.items in
    let b = c.self.inside.bits in
    let at : tree_items c.store_at.result.now ≡ get_or stores (shard_number b c.args.item) [] = search rules in
    let here : has (tree_items c.store_at.result.now) c.args.item ≡ true = search rules in
    subst (λ s. s ≡ with_one s c.args.item) c.self.view_is
    (ap (λ A. state_of a name b A) (sym (again a name b stores c.args.item c.self.invariant
    (ap (λ Z. has Z c.args.item) (sym at) ∙ here))))

pub returns-in-Ok-Some-clause-new : goal.returns-in-Ok-Some-clause-new
returns-in-Ok-Some-clause-new c =
    let stores = held_in c.self.inside.stores.items in
    let b = c.self.inside.bits in
    let at : tree_items c.store_at.result.now ≡ get_or stores (shard_number b c.args.item) [] = search rules in
    let lacks : has (tree_items c.store_at.result.now) c.args.item ≡ false = search rules in
    sym (ap not (subst (λ s. is_there s c.args.item ≡ false) c.self.view_is
    (sym (there (arc_value c.self.inside.accepted) c.self.inside.name.items b stores c.args.item c.self.invariant)
    ∙ ap (λ Z. has Z c.args.item) (sym at) ∙ lacks)))

pub invariant_of-self : goal.invariant_of-self
invariant_of-self c =
    let stores = held_in c.self.inside.stores.items in
    let number = shard_number c.self.inside.bits c.args.item in
    let store = c.in-Ok-Some.store in
    let at : tree_items c.store_at.result.now ≡ get_or stores number [] = search rules in
    let numbered : c.from-number.result ≡ number = search rules in
    let more : tree_items store ≡ add_item (tree_items c.store_at.result.now) c.args.item = search rules in
    let cap : c.cap-cap.result ≡ (arc_value c.self.inside.accepted).table.cap = search rules in
    let room : length (tree_items c.store_at.result.now) < c.cap-cap.result = search rules in
    let put : held_in c.put.new.stores.items ≡ set stores number (tree_items store) =
    ap held_in c.put.ensures ∙ map-set tree_items c.self.inside.stores.items c.from-number.result store
    ∙ ap (λ n. set stores n (tree_items store)) numbered in
    (grown (arc_value c.self.inside.accepted) c.self.inside.name.items c.self.inside.bits stores c.args.item
    c.self.invariant (tree_items store) (held_in c.put.new.stores.items)
    (more ∙ ap (λ Z. add_item Z c.args.item) at) (omega (arith, room, cap, ap length at)) put).0

pub returns-in-Ok-Some-clause-inserted : goal.returns-in-Ok-Some-clause-inserted
returns-in-Ok-Some-clause-inserted c =
    let stores = held_in c.self.inside.stores.items in
    let a = arc_value c.self.inside.accepted in
    let name = c.self.inside.name.items in
    let b = c.self.inside.bits in
    let number = shard_number b c.args.item in
    let store = c.in-Ok-Some.store in
    let at : tree_items c.store_at.result.now ≡ get_or stores number [] = search rules in
    let numbered : c.from-number.result ≡ number = search rules in
    let more : tree_items store ≡ add_item (tree_items c.store_at.result.now) c.args.item = search rules in
    let cap : c.cap-cap.result ≡ (arc_value c.self.inside.accepted).table.cap = search rules in
    let room : length (tree_items c.store_at.result.now) < c.cap-cap.result = search rules in
    let put : held_in c.put.new.stores.items ≡ set stores number (tree_items store) =
    ap held_in c.put.ensures ∙ map-set tree_items c.self.inside.stores.items c.from-number.result store
    ∙ ap (λ n. set stores n (tree_items store)) numbered in
    let both = grown a name b stores c.args.item c.self.invariant (tree_items store) (held_in c.put.new.stores.items)
    (more ∙ ap (λ Z. add_item Z c.args.item) at) (omega (arith, room, cap, ap length at)) put in
    subst (λ s. state_of a name b (all_of (held_in c.put.new.stores.items)) ≡ with_one s c.args.item) c.self.view_is
    (ap (λ A. state_of a name b A) both.1)
