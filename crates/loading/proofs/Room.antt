-- One list more has room.
use Rattle.std.proofs.Common.{◌≡◌, ℕ, ◌+◌, ◌<◌, ◌≤◌, List, [], ◌∷◌, ◌++◌, get_or, length, take, subst, sym, ap, ◌∙◌}
use Rattle.std.proofs.lemmas.List.{get_or-map, length-map, take_more}
use Rattle.std.specs.Prelude.{Vec}
use Rattle.std.specs.declared.alloc.Global.{Global}
use Rattle.definitions.specs.Items.{Item}
use Rattle.definitions.proofs.Lists.{All-append}
use Rattle.shard_core.specs.Splits.{held, HasRoom}

pub room_for_one : (vs : List (Vec Item Global)) (i most : ℕ) (v : Vec Item Global) → i < length vs →
    v ≡ get_or vs i v → length v.items ≤ most → HasRoom most (take i (held vs)) → HasRoom most (take (i + 1) (held vs))
room_for_one vs i most v inside own few room =
    let long : i < length (held vs) =
    subst (λ n. i < n) (sym (length-map vs (λ (w : Vec Item Global). w.items))) inside in
    let at : get_or (held vs) i v.items ≡ v.items =
    get_or-map (λ (w : Vec Item Global). w.items) vs i v v.items inside
    ∙ ap (λ (w : Vec Item Global). w.items) (sym own) in
    subst (λ Z. HasRoom most Z)
    (sym (take_more (held vs) i v.items long ∙ ap (λ x. take i (held vs) ++ x ∷ []) at))
    (All-append (λ X. length X ≤ most) (take i (held vs)) (v.items ∷ []) room (few, tt))
