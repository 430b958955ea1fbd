-- Which view entered an entry. A view that changes loses nothing of what it entered, a view that comes takes nothing
-- away, and at a join the one view has from then on what the other had. So what some view entered, some view has
-- still.
use Rattle.std.proofs.Common.{◌≡◌, ℕ, [], ◌∷◌, ◌++◌, List, set, sym, subst, ◌∙◌, Contains}
use Rattle.std.proofs.lemmas.List.Elements.{Contains-append_left, Contains-append_right}
use native.Mathlib.Decide.{ℕ_discrete}
use Rattle.atomic_table.proofs.Lists.{set_else, at_longer}
use Rattle.version_lock.specs.declared.view.View.{View}
use Rattle.version_lock.specs.Beginnings.{Entry}
use Rattle.version_lock.specs.Lawful.{EnteredBy}
use Rattle.version_lock.specs.Views.{joined_with, spent}
use Rattle.version_lock.proofs.Seated.{At, set_there, same_view}

-- one view changes
set_by : (views : List View) (id : ℕ) (v w : View) → At views id v →
    (e : Entry) → (Contains v.entered e → EnteredBy (set views id w) e) → (by : EnteredBy views e) → Dec (by.0 ≡ id) →
    EnteredBy (set views id w) e
set_by views id v w at e own by (yes same) =
    let is : by.1 ≡ v = same_view views by.0 id by.1 v by.2 at same in
    own (subst (λ (x : View). Contains x.entered e) is by.3)
set_by views id v w at e own by (no other) = (by.0, by.1, set_else views id by.0 w other ∙ by.2, by.3)

-- it loses nothing of what it entered
pub entered_set : (views : List View) (id : ℕ) (v w : View) → At views id v →
    ((e : Entry) → Contains v.entered e → Contains w.entered e) → (e : Entry) → EnteredBy views e →
    EnteredBy (set views id w) e
entered_set views id v w at more e by =
    set_by views id v w at e (λ has. (id, w, set_there views id w v at, more e has)) by (ℕ_discrete by.0 id)

pub entered_more : (views : List View) (w : View) (e : Entry) → EnteredBy views e → EnteredBy (views ++ w ∷ []) e
entered_more views w e by = (by.0, by.1, at_longer views (w ∷ []) by.0 by.1 by.2, by.3)

-- a seat is joined to another
pub entered_joined : (views : List View) (id other : ℕ) (v w : View) → At views id v → (other ≡ id → ⊥) →
    At (set views id (joined_with v w)) other w → (e : Entry) → EnteredBy views e →
    EnteredBy (set (set views id (joined_with v w)) other spent) e
entered_joined views id other v w at apart there e by =
    let both : View = joined_with v w in
    let mid : List View = set views id both in
    let first : EnteredBy mid e =
    entered_set views id v both at (λ x has. Contains-append_left v.entered w.entered x has) e by in
    let stays : At (set mid other spent) id both =
    set_else mid other id spent (λ x. apart (sym x)) ∙ set_there views id both v at in
    set_by mid other w spent there e (λ has. (id, both, stays, Contains-append_right v.entered w.entered e has)) first
    (ℕ_discrete first.0 other)
