-- What one who is no loop puts in.
-- What it has put in is of the part: an item alone is put in as a list of one is (`added_own`). A change of one seat is
-- one of what is seen of it (`puts_by`); where the seat entered nothing, what all have entered stays (`nothing_by`). An
-- item more is put in after the others (`puts_on`).
use Rattle.std.proofs.Common.{◌≡◌, ℕ, List, [], ◌∷◌, ◌++◌, true, inl, inr, Ok, Err, Result, Option, Some, refl, sym}
use Rattle.std.proofs.Common.{subst, ap, ◌∙◌, map, suc, ◌+◌, ◌<◌, length, take, get_or, arith}
use Rattle.std.specs.Prelude.{slice_set, option_map, IfSome, false}
use Rattle.std.specs.List.{slice_get}
use Rattle.std.proofs.lemmas.Option.{slice_get-map, get_or_from_slice_get}
use Rattle.std.proofs.lemmas.List.{map-set}
use Rattle.std.proofs.Math.Seq.{map-set_same, take-suc}
use Rattle.definitions.specs.Histories.{History}
use Rattle.definitions.specs.Items.{Item}
use Rattle.version_log.specs.declared.answer.Added.{Added}
use Rattle.version_log.specs.declared.answer.Added.TheVariants.{New, Already}
use Rattle.version_log.specs.declared.answer.LogFault.TheVariants.{Full, Memory}
use Rattle.version_lock.specs.declared.view.View.{View}
use Rattle.shard_core.specs.declared.shard.OneShard.{OneShard}
use Rattle.peer_threads.specs.Workers.{are_own, is_own}
use Rattle.peer_threads.proofs.Puttings.{all_own}
use Rattle.peer_loops.specs.Hands.{Adds, Held, IsElsewhere, PutsAt, PutsEach, entered_by, entries, place_in}
use Rattle.peer_loops.specs.declared.hand.HandFault.{HandFault}
use Rattle.peer_loops.specs.declared.hand.HandFault.TheVariants.{Elsewhere, Log}

pub added_own : (own : Option OneShard) (x : Item) (v w : View) (r : Result Added HandFault) → Adds own x v w r →
    are_own own v.entered ≡ true → are_own own w.entered ≡ true
added_own own x v w (Ok did) (is, d) all =
    all_own own (is_own own) (x ∷ []) v w 0 (λ y owned. owned)
    (inl (w, 0, 0, inl (is, inl ((did, d), refl)), (refl, refl), refl)) all
added_own own x v w (Err Elsewhere) (is, same) all = subst (λ (u : View). are_own own u.entered ≡ true) (sym same) all
added_own own x v w (Err (Log Full)) (is, full) all =
    all_own own (is_own own) (x ∷ []) v w 1 (λ y owned. owned)
    (inl (w, 1, 0, inl (is, inr (full, refl)), (refl, refl), refl)) all
added_own own x v w (Err (Log Memory)) (is, memory) all =
    all_own own (is_own own) (x ∷ []) v w 1 (λ y owned. owned) (inr (memory, refl)) all

pub puts_by : {D : Type 0} (f : D → Held) (xs : List D) (k : ℕ) (d e : D) (x : Item) (r : Result Added HandFault) →
    slice_get xs k ≡ Some d → (f e).own ≡ (f d).own → Adds (f d).own x (f d).seat (f e).seat r →
    PutsAt (map f xs) x r (map f (slice_set xs k e))
puts_by f xs k d e x r at own adds =
    inr (k, f d, f e, slice_get-map f xs k ∙ ap (option_map f) at, map-set f xs k e, own, adds)

-- a seat changes, and enters nothing
pub nothing_by : (hs : List Held) (k : ℕ) (h g : Held) → slice_get hs k ≡ Some h →
    g.seat.entered ≡ h.seat.entered → entries (slice_set hs k g) ≡ entries hs
nothing_by hs k h g at same =
    map-set_same (λ (u : Held). u.seat.entered) hs k g h
    (same ∙ ap (λ (u : Held). u.seat.entered) (sym (get_or_from_slice_get hs k h h at)))

-- an item that the part at its place may not have is elsewhere
pub elsewhere_in : {D : Type 0} (f : D → Held) (hs : List Held) (xs : List D) (k : ℕ) (d : D) (x : Item) (w : View)
    (r : Result Added HandFault) → hs ≡ map f xs → slice_get xs k ≡ Some d → place_in hs x ≡ Some k →
    Adds (f d).own x (f d).seat w r → r ≡ Err Elsewhere → IsElsewhere hs x
elsewhere_in f hs xs k d x w r is at place adds refused =
    let there : slice_get hs k ≡ Some (f d) =
    ap (λ (us : List Held). slice_get us k) is ∙ slice_get-map f xs k ∙ ap (option_map f) at in
    let own = subst (λ (a : Result Added HandFault). Adds (f d).own x (f d).seat w a) refused adds in
    subst (λ (o : Option ℕ). IfSome o (λ j. IfSome (slice_get hs j) (λ h. is_own h.own x ≡ false))) (sym place)
    (subst (λ (o : Option Held). IfSome o (λ h. is_own h.own x ≡ false)) (sym there) own.0)

-- an item that is not put in
pub nothing_at : (hs : List Held) (x : Item) (fault : HandFault) (ks : List Held) → PutsAt hs x (Err fault) ks →
    entries ks ≡ entries hs
nothing_at hs x fault ks (inl (is, same)) = ap entries same
nothing_at hs x Elsewhere ks (inr (k, h, g, at, is, own, adds)) =
    ap entries is ∙ nothing_by hs k h g at (ap (λ (v : View). v.entered) adds.1)
nothing_at hs x (Log Full) ks (inr (k, h, g, at, is, own, adds)) =
    ap entries is ∙ nothing_by hs k h g at adds.1.0.nothing.0
nothing_at hs x (Log Memory) ks (inr (k, h, g, at, is, own, adds)) =
    ap entries is ∙ nothing_by hs k h g at adds.1.0.nothing.0

later_on : (did : Added) (x : Item) (later more : List Item) →
    entered_by did x later ++ more ≡ entered_by did x (later ++ more)
later_on (New version) x later more = refl
later_on Already x later more = refl

pub puts_on : (hs : List Held) (xs news : List Item) (ms : List Held) (x : Item) (did : Added) (ks : List Held) →
    PutsEach hs xs news ms → PutsAt ms x (Ok did) ks → PutsEach hs (xs ++ x ∷ []) (news ++ entered_by did x []) ks
puts_on hs [] news ms x did ks (none, same) put = (
  ks,
  did,
  [],
  subst (λ (u : List Held). PutsAt u x (Ok did) ks) same put,
  ap (λ (l : List Item). l ++ entered_by did x []) none,
  (refl, refl),
)
puts_on hs (y ∷ xs) news ms x did ks (m, d, later, first, is, rest) put = (
  m,
  d,
  later ++ entered_by did x [],
  first,
  ap (λ (l : List Item). l ++ entered_by did x []) is ∙ later_on d y later (entered_by did x []),
  puts_on m xs later ms x did ks rest put,
)

-- the same of what is seen of a struct with a list of such seats
pub puts_in : {D : Type 0} (f : D → Held) (hs : List Held) (xs : List D) (k : ℕ) (d e : D) (x : Item)
    (r : Result Added HandFault) → hs ≡ map f xs → slice_get xs k ≡ Some d → (f e).own ≡ (f d).own →
    Adds (f d).own x (f d).seat (f e).seat r → PutsAt hs x r (map f (slice_set xs k e))
puts_in f hs xs k d e x r is at own adds =
    subst (λ (u : List Held). PutsAt u x r (map f (slice_set xs k e))) (sym is) (puts_by f xs k d e x r at own adds)

pub nothing_in : {D : Type 0} (f : D → Held) (hs : List Held) (xs : List D) (k : ℕ) (d e : D) → hs ≡ map f xs →
    slice_get xs k ≡ Some d → (f e).seat.entered ≡ (f d).seat.entered →
    entries (map f (slice_set xs k e)) ≡ entries hs
nothing_in f hs xs k d e is at same =
    ap entries (map-set f xs k e)
    ∙ nothing_by (map f xs) k (f d) (f e) (slice_get-map f xs k ∙ ap (option_map f) at) same
    ∙ ap entries (sym is)

pub puts_next : (hs : List Held) (xs : List Item) (n : ℕ) (x : Item) (news more : List Item) (ms ks : List Held)
    (did : Added) → n < length xs → x ≡ get_or xs n x → more ≡ news ++ entered_by did x [] →
    PutsEach hs (take n xs) news ms → PutsAt ms x (Ok did) ks → PutsEach hs (take (n + 1) xs) more ks
puts_next hs xs n x news more ms ks did within is grows each put =
    let next : n + 1 ≡ suc n = omega arith in
    let front : take (n + 1) xs ≡ take n xs ++ x ∷ [] =
    ap (λ (k : ℕ). take k xs) next ∙ take-suc xs n x within ∙ ap (λ (y : Item). take n xs ++ y ∷ []) (sym is) in
    subst (λ (l : List Item). PutsEach hs l more ks) (sym front)
    (subst (λ (l : List Item). PutsEach hs (take n xs ++ x ∷ []) l ks) (sym grows)
    (puts_on hs (take n xs) news ms x did ks each put))
