-- No more items are entered than are put in.
use Rattle.std.proofs.Common.{◌≡◌, suc, ◌≤◌, List, [], ◌∷◌, length, ap, arith, Option, None, subst, sym, refl, take}
use Rattle.std.proofs.Math.Seq.{take-length}
use Rattle.definitions.specs.Items.{Item}
use Rattle.version_log.specs.declared.answer.Added.{Added}
use Rattle.version_log.specs.declared.answer.Added.TheVariants.{New, Already}
use Rattle.peer_loops.specs.declared.hand.HandFault.{HandFault}
use Rattle.peer_loops.specs.Hands.{Held, PutsEach, PutsUntil, PutsSome, entered_by}

one_more : (did : Added) (x : Item) (later : List Item) → length (entered_by did x later) ≤ suc (length later)
one_more (New version) x later = omega arith
one_more Already x later = omega arith

pub few : (hs : List Held) (xs news : List Item) (ks : List Held) → PutsEach hs xs news ks → length news ≤ length xs
few hs [] news ks (none, same) = let l = ap (length {A = Item}) none in omega (arith, l)
few hs (x ∷ xs) news ks (ms, did, later, put, is, rest) =
    let l = ap (length {A = Item}) is in
    omega (arith, l, one_more did x later, few ms xs later ks rest)

-- all were put in, where there was no fault
pub all_put : (hs : List Held) (ys xs news : List Item) (fault : Option HandFault) (ks : List Held) → ys ≡ xs →
    fault ≡ None → PutsUntil hs ys news fault ks → PutsEach hs xs news ks
all_put hs ys xs news fault ks same none until =
    subst (λ (l : List Item). PutsEach hs l news ks) same
    (subst (λ (f : Option HandFault). PutsUntil hs ys news f ks) none until)

pub some_put : (hs : List Held) (xs news : List Item) (ks : List Held) → PutsEach hs xs news ks → PutsSome hs xs ks
some_put hs xs news ks each =
    (length xs, news, ks, subst (λ (l : List Item). PutsEach hs l news ks) (sym (take-length xs)) each, refl)
