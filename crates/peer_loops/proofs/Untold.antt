-- Where as many items are left out as were learned, nothing was put in.
use Rattle.std.proofs.Common.{◌≡◌, ◌∙◌, ℕ, ◌+◌, ◌≤◌, Bool, List, [], ◌∷◌, length, take, inl, inr, Option, ap, arith}
use Rattle.std.proofs.lemmas.List.{length-take}
use Rattle.definitions.specs.Items.{Item}
use Rattle.version_lock.specs.declared.view.View.{View}
use Rattle.shard_core.specs.declared.shard.OneShard.{OneShard}
use Rattle.peer_threads.specs.Workers.{IsSettled, PutInAll, PutInOrDropped, Says, may_stand}

one_few : (may : Item → Bool) (x : Item) (v w : View) (one : ℕ) → PutInOrDropped may x v w one → one ≤ 1
one_few may x v w one (inl (is, inl (put, none))) = omega arith
one_few may x v w one (inl (is, inr (full, out))) = omega arith
one_few may x v w one (inr (is, same, out)) = omega arith

few : (may : Item → Bool) (xs : List Item) (v w : View) (dropped : ℕ) → PutInAll may xs v w dropped →
    dropped ≤ length xs
few may [] v w dropped (same, none) = omega arith
few may (x ∷ xs) v w dropped (inl (next, one, others, first, rest, is)) =
    omega (arith, one_few may x v next one first, few may xs next w others rest, is)
few may (x ∷ xs) v w dropped (inr (memory, is)) = omega arith

unentered : (may : Item → Bool) (x : Item) (v w : View) (one : ℕ) → PutInOrDropped may x v w one → 1 ≤ one →
    w.entered ≡ v.entered
unentered may x v w one (inl (is, inl (put, none))) many = absurd (omega (arith, none, many))
unentered may x v w one (inl (is, inr (full, out))) many = full.0.nothing.0
unentered may x v w one (inr (is, same, out)) many = ap (λ (u : View). u.entered) same

none_put : (may : Item → Bool) (xs : List Item) (v w : View) (dropped : ℕ) → PutInAll may xs v w dropped →
    length xs ≤ dropped → w.entered ≡ v.entered
none_put may [] v w dropped (same, none) many = ap (λ (u : View). u.entered) same
none_put may (x ∷ xs) v w dropped (inl (next, one, others, first, rest, is)) many =
    let at_most = one_few may x v next one first in
    let others_few = few may xs next w others rest in
    none_put may xs next w others rest (omega (arith, at_most, others_few, is, many))
    ∙ unentered may x v next one first (omega (arith, at_most, others_few, is, many))
none_put may (x ∷ xs) v w dropped (inr (memory, is)) many = memory.0.nothing.0

pub none_settled : (gate : Says) (serial : ℕ) (own : Option OneShard) (xs : List Item) (v w : View) (left : ℕ) →
    IsSettled gate serial own xs v w left → length xs ≤ left → w.entered ≡ v.entered
none_settled gate serial own xs v w left (count, dropped, floor, lets, floors, all, is) many =
    none_put (may_stand own floor) (take count xs) v w dropped all
    (omega (arith, length-take count xs, is, many))
