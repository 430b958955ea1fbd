-- The session of a peer is opened over what it chose.
-- Whatever holds of the shard and the range that were read holds of those that the peer said, which are the same
-- (`over_chosen`).
use Rattle.std.proofs.Common.{◌≡◌, Option, Some, subst}
use Rattle.std.specs.Prelude.{Result, Ok, Err, OnOk}
use Rattle.definitions.specs.Items.{Range}
use Rattle.shard_core.specs.declared.selector.Which.{Which}

pub over_chosen : (P : Which → Range → Type 0) (w v : Which) (X Y : Range) →
    ◌≡◌ {A = Option (Which × Range)} (Some (w, X)) (Some (v, Y)) → P w X → P v Y
over_chosen P w v X Y is p =
    let same : ◌≡◌ {A = Which × Range} (w, X) (v, Y) = cc in
    subst (λ (c : Which × Range). P c.0 c.1) same p

pub on_ok : {E : Type 0} (r : Result Unit E) (P Q : Type 0) → OnOk r P → (P → Q) → OnOk r Q
on_ok (Ok u) P Q p then = then p
on_ok (Err e) P Q p then = tt
