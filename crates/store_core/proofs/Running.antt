-- Running sums stand for the fronts of a list. So the sums of a front of the list are a front of its sums, and the
-- other sums go on from that front. One more item at a place is in each front from there on; since the fingerprint of
-- items does not depend on their order, each of those sums is joined with the item's own fingerprint. The sums of some
-- of the items go on from what stands in front of these, and each without the sum of that front is a sum of theirs.
use Rattle.std.proofs.Common.{◌≡◌, ℕ, zero, suc, ◌+◌, ◌-◌, ◌<◌, ◌≤◌, List, [], ◌∷◌, ◌++◌, take, drop, length, map}
use Rattle.std.proofs.Common.{get_or, min, refl, sym, ap, ◌∙◌, arith}
use Rattle.std.proofs.lemmas.List.{append_assoc, append-nil, take_all, take_more, take_min}
use Rattle.definitions.specs.Items.{Item}
use Rattle.definitions.specs.Fingerprints.{Lanes, join_lanes, two_lanes}
use Rattle.digest_core.specs.Laws.{adds_up, associates, commutes}
use Rattle.store_core.specs.Stores.{span}
use Rattle.store_core.specs.Sums.{sums_after, running_sums}
use Rattle.store_core.proofs.Fronts.{span_slice}

pub sums-length : {X F : Type 0} (of : List X → F) (A B : List X) → length (sums_after of A B) ≡ length B
sums-length of A [] = refl
sums-length of A (x ∷ B) = ap (λ n. suc n) (sums-length of (A ++ x ∷ []) B)

pub sum-at : {X F : Type 0} (of : List X → F) (A B : List X) (i : ℕ) (d : F) → i < length B →
    get_or (sums_after of A B) i d ≡ of (A ++ take (suc i) B)
sum-at of A [] i d there = absurd (omega arith)
sum-at of A (x ∷ B) zero d there = refl
sum-at of A (x ∷ B) (suc i) d there =
    sum-at of (A ++ x ∷ []) B i d (omega arith) ∙ ap of (append_assoc A (x ∷ []) (take (suc i) B))

pub sums-take : {X F : Type 0} (of : List X → F) (A B : List X) (n : ℕ) →
    take n (sums_after of A B) ≡ sums_after of A (take n B)
sums-take of A B zero = refl
sums-take of A [] (suc n) = refl
sums-take of A (x ∷ B) (suc n) = ap (λ sums. of (A ++ x ∷ []) ∷ sums) (sums-take of (A ++ x ∷ []) B n)

pub sums-drop : {X F : Type 0} (of : List X → F) (A B : List X) (n : ℕ) →
    drop n (sums_after of A B) ≡ sums_after of (A ++ take n B) (drop n B)
sums-drop of A B zero = ap (λ front. sums_after of front B) (sym (append-nil A))
sums-drop of A [] (suc n) = refl
sums-drop of A (x ∷ B) (suc n) = sums-drop of (A ++ x ∷ []) B n
    ∙ ap (λ front. sums_after of front (drop n B)) (append_assoc A (x ∷ []) (take n B))

pub sums-append : {X F : Type 0} (of : List X → F) (A B C : List X) →
    sums_after of A (B ++ C) ≡ sums_after of A B ++ sums_after of (A ++ B) C
sums-append of A [] C = ap (λ front. sums_after of front C) (sym (append-nil A))
sums-append of A (x ∷ B) C = ap (λ sums. of (A ++ x ∷ []) ∷ sums) (sums-append of (A ++ x ∷ []) B C
    ∙ ap (λ front. sums_after of (A ++ x ∷ []) B ++ sums_after of front C) (append_assoc A (x ∷ []) B))

-- where g makes what stands for B of what stands for A, whatever follows, it does so with each sum
pub sums-map : {X F : Type 0} (of : List X → F) (g : F → F) (A B rest : List X) →
    ((C : List X) → of (B ++ C) ≡ g (of (A ++ C))) → sums_after of B rest ≡ map g (sums_after of A rest)
sums-map of g A B [] each = refl
sums-map of g A B (x ∷ rest) each =
    let later = sums-map of g (A ++ x ∷ []) (B ++ x ∷ []) rest (λ C. ap of (append_assoc B (x ∷ []) C) ∙ each (x ∷ C)
    ∙ ap (λ D. g (of D)) (sym (append_assoc A (x ∷ []) C))) in
    λ i. each (x ∷ []) i ∷ later i

-- an item before C is joined to what is there without it
one_more : (A : List Item) (x : Item) (C : List Item) →
    two_lanes.of ((A ++ x ∷ []) ++ C) ≡ join_lanes (two_lanes.of (A ++ C)) (two_lanes.of (x ∷ []))
one_more A x C =
    adds_up (A ++ x ∷ []) C
    ∙ ap (λ f. join_lanes f (two_lanes.of C)) (adds_up A (x ∷ []))
    ∙ associates (two_lanes.of A) (two_lanes.of (x ∷ [])) (two_lanes.of C)
    ∙ ap (λ f. join_lanes (two_lanes.of A) f) (commutes (two_lanes.of (x ∷ [])) (two_lanes.of C))
    ∙ sym (associates (two_lanes.of A) (two_lanes.of C) (two_lanes.of (x ∷ [])))
    ∙ ap (λ f. join_lanes f (two_lanes.of (x ∷ []))) (sym (adds_up A C))

-- the sum before a place is read at the place in front of it
pub sum-before : (A : List Item) (sums : List Lanes) (place last : ℕ) (read : Lanes) → sums ≡ running_sums A →
    1 ≤ place → last ≡ place - 1 → place ≤ length sums → read ≡ get_or sums last read →
    read ≡ two_lanes.of (take place A)
sum-before A sums place last read same some before there is =
    let all : length sums ≡ length A = ap length same ∙ sums-length two_lanes.of [] A in
    let inside : last < length A = omega (arith, some, before, there, all) in
    let next : suc last ≡ place = omega (arith, some, before) in
    is ∙ ap (λ held. get_or held last read) same ∙ sum-at two_lanes.of [] A last read inside
    ∙ ap (λ n. two_lanes.of (take n A)) next

-- one item more at the end
pub sums-push : (A : List Item) (x : Item) (total own joined : Lanes) (sums pushed : List Lanes) →
    total ≡ two_lanes.of A → own ≡ two_lanes.of (x ∷ []) → joined ≡ join_lanes total own →
    sums ≡ running_sums A → pushed ≡ sums ++ joined ∷ [] →
    (joined ≡ two_lanes.of (A ++ x ∷ [])) × (pushed ≡ running_sums (A ++ x ∷ []))
sums-push A x total own joined sums pushed total_is own_is joined_is sums_are pushed_is =
    let all : joined ≡ two_lanes.of (A ++ x ∷ []) =
    joined_is ∙ ap (λ f. join_lanes f own) total_is ∙ ap (join_lanes (two_lanes.of A)) own_is ∙ sym (adds_up A (x ∷ []))
    in (
      all,
      pushed_is ∙ ap (λ held. held ++ joined ∷ []) sums_are ∙ ap (λ sum. running_sums A ++ sum ∷ []) all
          ∙ sym (sums-append two_lanes.of [] A (x ∷ [])),
    )

sums-insert : (A : List Item) (x : Item) (n : ℕ) →
    running_sums (take n A ++ x ∷ drop n A) ≡ take n (running_sums A)
    ++ join_lanes (two_lanes.of (take n A)) (two_lanes.of (x ∷ []))
    ∷ map (λ sum. join_lanes sum (two_lanes.of (x ∷ []))) (drop n (running_sums A))
sums-insert A x n =
    let front = take n A in
    let own = two_lanes.of (x ∷ []) in
    sums-append two_lanes.of [] front (x ∷ drop n A)
    ∙ ap (λ sums. sums ++ sums_after two_lanes.of front (x ∷ drop n A)) (sym (sums-take two_lanes.of [] A n))
    ∙ ap (λ sums. take n (running_sums A) ++ two_lanes.of (front ++ x ∷ []) ∷ sums)
    (sums-map two_lanes.of (λ sum. join_lanes sum own) front (front ++ x ∷ []) (drop n A) (one_more front x)
    ∙ ap (λ sums. map (λ sum. join_lanes sum own) sums) (sym (sums-drop two_lanes.of [] A n)))
    ∙ ap (λ sum. take n (running_sums A) ++ sum ∷ map (λ sum. join_lanes sum own) (drop n (running_sums A)))
    (adds_up front (x ∷ []))

-- one item more at a place: the sums of those before it, its own, and k of the others, which are all of them
pub inserted : (A : List Item) (x : Item) (n k : ℕ) (own next : Lanes) (sums back start held : List Lanes) →
    sums ≡ running_sums A → own ≡ two_lanes.of (x ∷ []) → next ≡ join_lanes (two_lanes.of (take n A)) own →
    back ≡ drop n sums → start ≡ take n sums ++ next ∷ [] → length back ≤ k →
    held ≡ start ++ map (λ sum. join_lanes sum own) (take k back) →
    held ≡ running_sums (take n A ++ x ∷ drop n A)
inserted A x n k own next sums back start held same own_is next_is back_is start_is all held_is =
    let others : take k back ≡ drop n (running_sums A) =
    take_all k back all ∙ back_is ∙ ap (drop n) same in
    let before : start ≡ take n (running_sums A) ++ next ∷ [] =
    start_is ∙ ap (λ sums. take n sums ++ next ∷ []) same in
    held_is ∙ rw (others, before, next_is, own_is) (
    append_assoc (take n (running_sums A)) (join_lanes (two_lanes.of (take n A)) (two_lanes.of (x ∷ [])) ∷ [])
    (map (λ sum. join_lanes sum (two_lanes.of (x ∷ []))) (drop n (running_sums A)))
    ∙ sym (sums-insert A x n)
    )

-- ---- a place past the end

pub fitted-within : (A : List Item) (sums : List Lanes) (place fitted count : ℕ) → sums ≡ running_sums A →
    fitted ≡ min place count → count ≡ length A → fitted ≤ length sums
fitted-within A sums place fitted count same fits all =
    let long : length sums ≡ length A = ap length same ∙ sums-length two_lanes.of [] A in
    omega (arith, fits, all, long)

pub sum-fitted : (A : List Item) (place fitted count : ℕ) (sum : Lanes) → fitted ≡ min place count →
    count ≡ length A → sum ≡ two_lanes.of (take fitted A) → sum ≡ two_lanes.of (take place A)
sum-fitted A place fitted count sum fits all is =
    is ∙ ap (λ n. two_lanes.of (take n A)) (fits ∙ ap (λ n. min place n) all)
    ∙ ap (λ B. two_lanes.of B) (take_min place A)

-- ---- some of the items

pub sums-span : {X F : Type 0} (of : List X → F) (A : List X) (from to : ℕ) → from ≤ to →
    take (to - from) (drop from (sums_after of [] A)) ≡ sums_after of (take from A) (span from to A)
sums-span of A from to order =
    ap (λ sums. take (to - from) sums) (sums-drop of [] A from)
    ∙ sums-take of (take from A) (drop from A) (to - from)
    ∙ ap (λ B. sums_after of (take from A) B) (span_slice A from to order)

-- the sums of B behind A, of which some are without the sum of A so far: one more of them
pub without-more : (A B : List Item) (i : ℕ) (sum own : Lanes) (sums held pushed : List Lanes) →
    sums ≡ sums_after two_lanes.of A B → i < length sums → sum ≡ get_or sums i sum →
    ((C : List Item) → sum ≡ two_lanes.of (A ++ C) → own ≡ two_lanes.of C) → held ≡ take i (running_sums B) →
    pushed ≡ held ++ own ∷ [] → pushed ≡ take (i + 1) (running_sums B)
without-more A B i sum own sums held pushed same low is rest held_is pushed_is =
    let long : length sums ≡ length B = ap length same ∙ sums-length two_lanes.of A B in
    let longer : length (running_sums B) ≡ length B = sums-length two_lanes.of [] B in
    let inside : i < length B = omega (arith, low, long) in
    let whole : sum ≡ two_lanes.of (A ++ take (suc i) B) =
    is ∙ ap (λ held. get_or held i sum) same ∙ sum-at two_lanes.of A B i sum inside in
    let read : own ≡ get_or (running_sums B) i own =
    rest (take (suc i) B) whole ∙ sym (sum-at two_lanes.of [] B i own inside) in
    pushed_is ∙ ap (λ held. held ++ own ∷ []) held_is ∙ ap (λ sum. take i (running_sums B) ++ sum ∷ []) read
    ∙ sym (take_more (running_sums B) i own (omega (arith, inside, longer)))

-- and these are all of them
pub without-all : (A B : List Item) (i : ℕ) (sums held : List Lanes) → sums ≡ sums_after two_lanes.of A B →
    length sums ≤ i → held ≡ take i (running_sums B) → held ≡ running_sums B
without-all A B i sums held same past held_is =
    let long : length sums ≡ length B = ap length same ∙ sums-length two_lanes.of A B in
    let longer : length (running_sums B) ≡ length B = sums-length two_lanes.of [] B in
    held_is ∙ take_all i (running_sums B) (omega (arith, past, long, longer))
