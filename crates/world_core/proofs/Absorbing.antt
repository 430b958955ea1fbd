-- Items that are put into a node one after another.
use Rattle.std.proofs.Common.{◌≡◌, refl, sym, ap, ◌∙◌, arith, ℕ, zero, suc, ◌+◌, ◌<◌, ◌≤◌, List, [], ◌∷◌, ◌++◌, set}
use Rattle.std.proofs.Common.{get_or, take, drop, Some, None, if◌then◌else◌, length, fold}
use Rattle.std.specs.Prelude.{slice_get, Bool, true, false}
use Rattle.std.proofs.lemmas.List.{take_more}
use Rattle.definitions.proofs.Words.{World, Node, History, Item, node_at, with_history, insert_at, insertion}
use Rattle.definitions.proofs.Words.{history_after, Insertion, New, Already, Full, Absorbing, absorb_by, absorb_one}
use Rattle.definitions.proofs.Words.{absorb_all}
use Rattle.definitions.proofs.Lemmas.{fold-append, take-append-drop}
use Rattle.definitions.specs.Worlds.{told}
use Rattle.definitions.specs.Worlds as worlds
use Rattle.world_core.specs.Steps.{absorbing, absorbed_at, added_in}

abbrev put_in : Node → History → Node
put_in node h = record node { history = h }

set_set : {X : Type 0} (xs : List X) (n : ℕ) (x y : X) → set (set xs n x) n y ≡ set xs n y
set_set [] n x y = refl
set_set (z ∷ zs) zero x y = refl
set_set (z ∷ zs) (suc n) x y = ap (λ ys. z ∷ ys) (set_set zs n x y)

set_read : {X : Type 0} (xs : List X) (n : ℕ) (x : X) → n < length xs → slice_get (set xs n x) n ≡ Some x
set_read [] n x h = absurd (omega arith)
set_read (z ∷ zs) zero x h = refl
set_read (z ∷ zs) (suc n) x h = set_read zs n x (omega arith)

abbrev with_nodes : World → List Node → World
with_nodes w ns = record w { nodes = ns }

-- an insert into the node, in a world where its history has changed
insert_after : (w : World) (n : ℕ) (node : Node) (h : History) (x : Item) → n < length w.nodes →
    insert_at (with_history w n node h) n x (slice_get (with_history w n node h).nodes n)
    ≡ (with_history w n node (history_after h 0 x (insertion node.table.cap h x)), told (insertion node.table.cap h x))
insert_after w n node h x there =
    ap (insert_at (with_history w n node h) n x) (set_read w.nodes n (put_in node h) there)
    ∙ ap (λ ns. (with_nodes w ns, told (insertion node.table.cap h x)))
    (set_set w.nodes n (put_in node h) (put_in node (history_after h 0 x (insertion node.table.cap h x))))

-- ==== One item after another

-- so far
pub record Absorbed (w v : World) (n : ℕ) (items : List Item) (index count : ℕ) : Type 0 where
  pub world : v ≡ absorbing w n (node_at w n) (take index items)
  pub added : count ≡ (absorbed_at w n (take index items)).added
  pub room : (absorbed_at w n (take index items)).full ≡ false
  pub few : count ≤ index

-- the first of the items and one more
absorbed_more : (w : World) (n : ℕ) (items : List Item) (index : ℕ) (x : Item) → index < length items →
    x ≡ get_or items index x →
    absorbed_at w n (take (index + 1) items) ≡ absorb_one (node_at w n).table.cap (absorbed_at w n (take index items)) x
absorbed_more w n items index x more e =
    let cap : ℕ = (node_at w n).table.cap in
    ap (λ xs. absorb_all cap (node_at w n).history xs)
    (take_more items index x more ∙ ap (λ y. take index items ++ y ∷ []) (sym e))
    ∙ fold-append (absorb_one cap) (record { history = (node_at w n).history; added = 0; full = false })
    (take index items) (x ∷ [])

chosen : (cap : ℕ) (a : Absorbing) (x : Item) → a.full ≡ false →
    absorb_one cap a x ≡ absorb_by a x (insertion cap a.history x)
chosen cap a x e = ap (λ b. absorb_by a x (if b then Full else insertion cap a.history x)) e

history_by : (a : Absorbing) (x : Item) (i : Insertion) → history_after a.history 0 x i ≡ (absorb_by a x i).history
history_by a x (New v) = refl
history_by a x Already = refl
history_by a x Full = refl

added_one : (a : Absorbing) (x : Item) (i : Insertion) (new : ℕ) → added_in (told i) ≡ Some new →
    (a.added + new ≡ (absorb_by a x i).added) × (new ≤ 1)
added_one a x (New v) new e = let one : 1 ≡ new = cc in (omega arith, omega arith)
added_one a x Already new e = let none : 0 ≡ new = cc in (omega arith, omega arith)
added_one a x Full new e = absurd cc

room_by : (a : Absorbing) (x : Item) (i : Insertion) (new : ℕ) → added_in (told i) ≡ Some new → a.full ≡ false →
    (absorb_by a x i).full ≡ false
room_by a x (New v) new e h = refl
room_by a x Already new e h = h
room_by a x Full new e h = absurd cc

-- an insert of the next item
put_next : (w v : World) (n : ℕ) (items : List Item) (index count : ℕ) (x : Item) → n < length w.nodes →
    Absorbed w v n items index count →
    let a : Absorbing = absorbed_at w n (take index items) in
    insert_at v n x (slice_get v.nodes n) ≡ (
      with_history w n (node_at w n) (history_after a.history 0 x (insertion (node_at w n).table.cap a.history x)),
      told (insertion (node_at w n).table.cap a.history x),
    )
put_next w v n items index count x there so =
    let a : Absorbing = absorbed_at w n (take index items) in
    ap (λ u. insert_at u n x (slice_get u.nodes n)) so.world ∙ insert_after w n (node_at w n) a.history x there

pub absorb_goes_on : (w v v' : World) (n : ℕ) (items : List Item) (index count new : ℕ) (x : Item) (d : worlds.Did) →
    n < length w.nodes → index < length items → x ≡ get_or items index x →
    Absorbed w v n items index count → v' ≡ (insert_at v n x (slice_get v.nodes n)).0 →
    d ≡ (insert_at v n x (slice_get v.nodes n)).1 → Some new ≡ added_in d →
    Absorbed w v' n items (index + 1) (count + new) × (new ≤ 1)
absorb_goes_on w v v' n items index count new x d there more read so world did by =
    let a : Absorbing = absorbed_at w n (take index items) in
    let i : Insertion = insertion (node_at w n).table.cap a.history x in
    let put = put_next w v n items index count x there so in
    let tells : added_in (told i) ≡ Some new = ap added_in (sym (did ∙ ap (λ p. p.1) put)) ∙ sym by in
    let next : absorbed_at w n (take (index + 1) items) ≡ absorb_by a x i =
    absorbed_more w n items index x more read ∙ chosen (node_at w n).table.cap a x so.room in
    let one = added_one a x i new tells in
    let few : new ≤ 1 = one.1 in (
      record {
        world = world ∙ ap (λ p. p.0) put
            ∙ ap (with_history w n (node_at w n)) (history_by a x i ∙ ap (λ b. b.history) (sym next));
        added = ap (λ c. c + new) so.added ∙ one.0 ∙ ap (λ b. b.added) (sym next);
        room = ap (λ b. b.full) next ∙ room_by a x i new tells so.room;
        few = omega (arith, so.few);
      },
      one.1,
    )

-- ==== No room

full_by : (a : Absorbing) (x : Item) (i : Insertion) → added_in (told i) ≡ None →
    absorb_by a x i ≡ record a { full = true }
full_by a x (New v) e = absurd cc
full_by a x Already e = absurd cc
full_by a x Full e = refl

abbrev kept_full : Absorbing → Bool → Absorbing
kept_full a b = record a { full = b }

stays_full : (cap : ℕ) (a : Absorbing) (xs : List Item) → a.full ≡ true → fold (absorb_one cap) a xs ≡ a
stays_full cap a [] e = refl
stays_full cap a (x ∷ xs) e =
    let same : absorb_one cap a x ≡ a =
    ap (λ b. absorb_by a x (if b then Full else insertion cap a.history x)) e ∙ ap (kept_full a) (sym e) in
    ap (λ b. fold (absorb_one cap) b xs) same ∙ stays_full cap a xs e

-- the items after some of them, where there was no room for the last of these
absorbed_full : (w : World) (n : ℕ) (items : List Item) (index : ℕ) → (absorbed_at w n (take index items)).full ≡ true →
    absorbed_at w n items ≡ absorbed_at w n (take index items)
absorbed_full w n items index e =
    let cap : ℕ = (node_at w n).table.cap in
    let start : Absorbing = record { history = (node_at w n).history; added = 0; full = false } in
    ap (absorbed_at w n) (sym (take-append-drop index items))
    ∙ fold-append (absorb_one cap) start (take index items) (drop index items)
    ∙ stays_full cap (absorbed_at w n (take index items)) (drop index items) e

pub absorb_ends : (w v v' : World) (n : ℕ) (items : List Item) (index count : ℕ) (x : Item) (d : worlds.Did) →
    n < length w.nodes → index < length items → x ≡ get_or items index x →
    Absorbed w v n items index count → v' ≡ (insert_at v n x (slice_get v.nodes n)).0 →
    d ≡ (insert_at v n x (slice_get v.nodes n)).1 → None ≡ added_in d →
    (v' ≡ absorbing w n (node_at w n) items) × (count ≡ (absorbed_at w n items).added)
absorb_ends w v v' n items index count x d there more read so world did by =
    let a : Absorbing = absorbed_at w n (take index items) in
    let i : Insertion = insertion (node_at w n).table.cap a.history x in
    let put = put_next w v n items index count x there so in
    let tells : added_in (told i) ≡ None = ap added_in (sym (did ∙ ap (λ p. p.1) put)) ∙ sym by in
    let next : absorbed_at w n (take (index + 1) items) ≡ absorb_by a x i =
    absorbed_more w n items index x more read ∙ chosen (node_at w n).table.cap a x so.room in
    let over = full_by a x i tells in
    let all : absorbed_at w n items ≡ absorb_by a x i =
    absorbed_full w n items (index + 1) (ap (λ b. b.full) (next ∙ over)) ∙ next in (
      world ∙ ap (λ p. p.0) put
          ∙ ap (with_history w n (node_at w n)) (history_by a x i ∙ ap (λ b. b.history) (sym all)),
      so.added ∙ ap (λ b. b.added) (sym (all ∙ over)),
    )
