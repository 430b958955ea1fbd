-- Items that are kept packed: where they end, their bytes, and their running sums.
use Rattle.std.proofs.Common.{◌≡◌, ℕ, zero, suc, Some, ◌+◌, ◌-◌, ◌*◌, ◌^◌, ◌<◌, ◌≤◌, List, [], ◌∷◌, ◌++◌}
use Rattle.std.proofs.Common.{take, drop, map, length, get_or, refl, sym, ap, subst, ◌∙◌, append_assoc, arith}
use Rattle.std.specs.List.{AllByRecursion, slice_get}
use Rattle.std.proofs.lemmas.List.{length-append, length-take-le, length-take, length-drop, take-append-drop}
use Rattle.std.proofs.lemmas.List.{take-take, take_at, drop_at, drop-append-le, drop-take, drop_all, take_all}
use Rattle.std.proofs.lemmas.List.{take_more, append-nil}
use Rattle.std.proofs.lemmas.Option.{get_or_from_slice_get}
use Rattle.std.proofs.lemmas.List.Concat.{flat_map-append}
use Rattle.definitions.specs.Items.{Item, IsItem}
use Rattle.definitions.specs.Fingerprints.{Lanes}
use Rattle.store_core.specs.Sums.{running_sums}
use Rattle.range_tree.specs.Nodes.{span, first_item}
use Rattle.range_tree.specs.Packs.{joined, ends_from, pieces, IsPack}
use Rattle.range_tree.proofs.Places.{put, length_put}

-- ---- where items end

pub length_ends : (start : ℕ) (xs : List Item) → length (ends_from start xs) ≡ length xs
length_ends start [] = refl
length_ends start (x ∷ xs) = ap suc (length_ends (start + length x) xs)

pub end_at : (start : ℕ) (xs : List Item) (k d : ℕ) → k < length xs →
    get_or (ends_from start xs) k d ≡ start + length (joined (take (suc k) xs))
end_at start [] k d low = absurd (omega arith)
end_at start (x ∷ xs) zero d low = let sum = length-append x [] in omega arith
end_at start (x ∷ xs) (suc k) d low =
    let rest = end_at (start + length x) xs k d (omega arith) in
    let sum = length-append x (joined (take (suc k) xs)) in
    omega arith

pub take_ends : (start n : ℕ) (xs : List Item) → take n (ends_from start xs) ≡ ends_from start (take n xs)
take_ends start zero xs = refl
take_ends start (suc n) [] = refl
take_ends start (suc n) (x ∷ xs) = ap (λ es. (start + length x) ∷ es) (take_ends (start + length x) n xs)

pub drop_ends : (start n : ℕ) (xs : List Item) →
    drop n (ends_from start xs) ≡ ends_from (start + length (joined (take n xs))) (drop n xs)
drop_ends start zero xs = let same : start + 0 ≡ start = omega arith in ap (λ s. ends_from s xs) (sym same)
drop_ends start (suc n) [] = refl
drop_ends start (suc n) (x ∷ xs) =
    let sum = length-append x (joined (take n xs)) in
    let same : start + length x + length (joined (take n xs)) ≡ start + length (x ++ joined (take n xs)) =
    omega arith in
    drop_ends (start + length x) n xs ∙ ap (λ s. ends_from s (drop n xs)) same

pub ends_append : (start : ℕ) (xs ys : List Item) →
    ends_from start (xs ++ ys) ≡ ends_from start xs ++ ends_from (start + length (joined xs)) ys
ends_append start [] ys = let same : start + 0 ≡ start = omega arith in ap (λ s. ends_from s ys) (sym same)
ends_append start (x ∷ xs) ys =
    let sum = length-append x (joined xs) in
    let same : start + length x + length (joined xs) ≡ start + length (x ++ joined xs) = omega arith in
    ap (λ es. (start + length x) ∷ es) (ends_append (start + length x) xs ys
    ∙ ap (λ s. ends_from (start + length x) xs ++ ends_from s ys) same)

pub ends_later : (start n : ℕ) (xs : List Item) → ends_from (start + n) xs ≡ map (λ e. e + n) (ends_from start xs)
ends_later start n [] = refl
ends_later start n (x ∷ xs) =
    let same : start + n + length x ≡ start + length x + n = omega arith in
    ap (λ s. s ∷ ends_from s xs) same
    ∙ ap (λ es. (start + length x + n) ∷ es) (ends_later (start + length x) n xs)

map_back : (n : ℕ) (es : List ℕ) → map (λ e. e - n) (map (λ e. e + n) es) ≡ es
map_back n [] = refl
map_back n (e ∷ es) =
    let same : e + n - n ≡ e = omega arith in
    (λ i. same i ∷ map_back n es i)

pub ends_earlier : (n : ℕ) (xs : List Item) → map (λ e. e - n) (ends_from (0 + n) xs) ≡ ends_from 0 xs
ends_earlier n xs = ap (map (λ e. e - n)) (ends_later 0 n xs) ∙ map_back n (ends_from 0 xs)

pub ends_fit : (start n : ℕ) (xs : List Item) → start + length (joined xs) + n < 2 ^ 16 →
    AllByRecursion (λ e. e + n < 2 ^ 16) (ends_from start xs)
ends_fit start n [] low = tt
ends_fit start n (x ∷ xs) low =
    let sum = length-append x (joined xs) in
    (omega arith, ends_fit (start + length x) n xs (omega arith))

pub ends_above : (start n : ℕ) (xs : List Item) → n ≤ start → AllByRecursion (λ e. n ≤ e) (ends_from start xs)
ends_above start n [] low = tt
ends_above start n (x ∷ xs) low = (omega arith, ends_above (start + length x) n xs (omega arith))

-- ---- the bytes

pub joined_most : (xs : List Item) → AllByRecursion IsItem xs → length (joined xs) ≤ 64 * length xs
joined_most [] all = omega arith
joined_most (x ∷ xs) all =
    let one = all.0.not_long in
    let sum = length-append x (joined xs) in
    let rest = joined_most xs all.1 in
    omega arith

joined_cut : (n : ℕ) (xs : List Item) → joined xs ≡ joined (take n xs) ++ joined (drop n xs)
joined_cut n xs = ap joined (sym (take-append-drop n xs)) ∙ flat_map-append (λ x. x) (take n xs) (drop n xs)

pub joined_front : (n : ℕ) (xs : List Item) → take (length (joined (take n xs))) (joined xs) ≡ joined (take n xs)
joined_front n xs = ap (take (length (joined (take n xs)))) (joined_cut n xs)
    ∙ take_at (joined (take n xs)) (joined (drop n xs)) (length (joined (take n xs))) refl

pub joined_back : (n : ℕ) (xs : List Item) → drop (length (joined (take n xs))) (joined xs) ≡ joined (drop n xs)
joined_back n xs = ap (drop (length (joined (take n xs)))) (joined_cut n xs)
    ∙ drop_at (joined (take n xs)) (joined (drop n xs)) (length (joined (take n xs))) refl

pub start_within : (n : ℕ) (xs : List Item) → length (joined (take n xs)) ≤ length (joined xs)
start_within n xs =
    let all = ap length (joined_cut n xs) in
    let sum = length-append (joined (take n xs)) (joined (drop n xs)) in
    omega arith

-- what stands before `to` is what stands before `from`, and what is between
pub front_span : (from to : ℕ) (xs : List Item) → from ≤ to →
    joined (take to xs) ≡ joined (take from xs) ++ joined (span from to xs)
front_span from to xs low =
    ap joined (sym (ap (λ ys. ys ++ span from to xs) (sym (take-take from to xs low))
    ∙ take-append-drop from (take to xs)))
    ∙ flat_map-append (λ x. x) (take from xs) (span from to xs)

pub starts_rise : (from to : ℕ) (xs : List Item) → from ≤ to →
    length (joined (take from xs)) ≤ length (joined (take to xs))
starts_rise from to xs low =
    let all = ap length (front_span from to xs low) in
    let sum = length-append (joined (take from xs)) (joined (span from to xs)) in
    omega arith

pub joined_span : (from to : ℕ) (xs : List Item) → from ≤ to → to ≤ length xs →
    take (length (joined (take to xs)) - length (joined (take from xs)))
    (drop (length (joined (take from xs))) (joined xs)) ≡ joined (span from to xs)
joined_span from to xs low high =
    let all = ap length (front_span from to xs low) in
    let sum = length-append (joined (take from xs)) (joined (span from to xs)) in
    let len : length (joined (take to xs)) - length (joined (take from xs)) ≡ length (joined (span from to xs)) =
    omega arith in
    let whole : length (take to xs) ≡ to = length-take-le to xs high in
    let rest : drop from xs ≡ span from to xs ++ drop to xs =
    ap (drop from) (sym (take-append-drop to xs)) ∙ drop-append-le from (take to xs) (drop to xs) (omega arith) in
    let bytes : joined (drop from xs) ≡ joined (span from to xs) ++ joined (drop to xs) =
    ap joined rest ∙ flat_map-append (λ x. x) (span from to xs) (drop to xs) in
    (λ i. take (len i) ((joined_back from xs ∙ bytes) i))
    ∙ take_at (joined (span from to xs)) (joined (drop to xs)) (length (joined (span from to xs))) refl

pub span_one : (k : ℕ) (xs : List Item) (d : Item) → k < length xs → span k (k + 1) xs ≡ get_or xs k d ∷ []
span_one k xs d low = ap (drop k) (take_more xs k d low)
    ∙ drop_at (take k xs) (get_or xs k d ∷ []) k (length-take-le k xs (omega arith))

-- the bytes of one item
pub joined_one : (k : ℕ) (xs : List Item) (d : Item) → k < length xs →
    take (length (joined (take (k + 1) xs)) - length (joined (take k xs)))
    (drop (length (joined (take k xs))) (joined xs)) ≡ get_or xs k d
joined_one k xs d low = joined_span k (k + 1) xs (omega arith) (omega arith)
    ∙ ap joined (span_one k xs d low) ∙ append-nil (get_or xs k d)

-- ---- what all of a list meet

pub all_append : {X : Type 0} (P : X → Type 0) (xs ys : List X) → AllByRecursion P xs → AllByRecursion P ys →
    AllByRecursion P (xs ++ ys)
all_append P [] ys first second = second
all_append P (x ∷ xs) ys first second = (first.0, all_append P xs ys first.1 second)

pub all_take : {X : Type 0} (P : X → Type 0) (n : ℕ) (xs : List X) → AllByRecursion P xs → AllByRecursion P (take n xs)
all_take P zero xs all = tt
all_take P (suc n) [] all = tt
all_take P (suc n) (x ∷ xs) all = (all.0, all_take P n xs all.1)

pub all_drop : {X : Type 0} (P : X → Type 0) (n : ℕ) (xs : List X) → AllByRecursion P xs → AllByRecursion P (drop n xs)
all_drop P zero xs all = all
all_drop P (suc n) [] all = tt
all_drop P (suc n) (x ∷ xs) all = all_drop P n xs all.1

pub all_get : {X : Type 0} (P : X → Type 0) (xs : List X) (i : ℕ) (d : X) → i < length xs → AllByRecursion P xs →
    P (get_or xs i d)
all_get P [] i d low all = absurd (omega arith)
all_get P (x ∷ xs) zero d low all = all.0
all_get P (x ∷ xs) (suc i) d low all = all_get P xs i d (omega arith) all.1

-- ---- packed fields, and the items in them

pieces_of : (start : ℕ) (xs : List Item) → pieces start (ends_from start xs) (joined xs) ≡ xs
pieces_of start [] = refl
pieces_of start (x ∷ xs) =
    let len : start + length x - start ≡ length x = omega arith in
    let first : take (start + length x - start) (x ++ joined xs) ≡ x =
    ap (λ n. take n (x ++ joined xs)) len ∙ take_at x (joined xs) (length x) refl in
    let rest : drop (start + length x - start) (x ++ joined xs) ≡ joined xs =
    ap (λ n. drop n (x ++ joined xs)) len ∙ drop_at x (joined xs) (length x) refl in
    (λ i. first i ∷ pieces (start + length x) (ends_from (start + length x) xs) (rest i))
    ∙ ap (λ ys. x ∷ ys) (pieces_of (start + length x) xs)

pub pack_is : (xs : List Item) (bytes ends : List ℕ) (sums : List Lanes) → IsPack xs bytes ends sums →
    pieces 0 ends bytes ≡ xs
pack_is xs bytes ends sums pack = (λ i. pieces 0 (pack.are_ends i) (pack.are_joined i)) ∙ pieces_of 0 xs

pub pack_whole : (xs : List Item) (bytes ends : List ℕ) (sums : List Lanes) → IsPack xs bytes ends sums →
    IsPack (pieces 0 ends bytes) bytes ends sums
pack_whole xs bytes ends sums pack =
    subst (λ ys. IsPack ys bytes ends sums) (sym (pack_is xs bytes ends sums pack)) pack

pub pack_none : IsPack [] [] [] []
pack_none =
    record { are_joined = refl; are_ends = refl; are_sums = refl; are_items = tt; are_few = omega arith }

-- one item more of a list
pub pack_more : (xs : List Item) (i : ℕ) (x : Item) (bytes ends more_bytes more_ends : List ℕ) →
    IsPack (take i xs) bytes ends (running_sums (take i xs)) → i < length xs → length xs < 1024 →
    x ≡ get_or xs i x → IsItem x → more_bytes ≡ bytes ++ x → more_ends ≡ ends ++ length more_bytes ∷ [] →
    IsPack (take (i + 1) xs) more_bytes more_ends (running_sums (take (i + 1) xs))
pack_more xs i x bytes ends more_bytes more_ends pack low few is item in_bytes in_ends =
    let front = take i xs in
    let whole : front ++ x ∷ [] ≡ take (i + 1) xs =
    ap (λ y. front ++ y ∷ []) is ∙ sym (take_more xs i x low) in
    let in_one : bytes ++ x ≡ joined front ++ joined (x ∷ []) =
    (λ j. pack.are_joined j ++ sym (append-nil x) j) in
    let all = ap length in_bytes in
    let both = length-append bytes x in
    let old = ap length pack.are_joined in
    let end : length more_bytes ≡ 0 + length (joined front) + length x = omega arith in
    let short = length-take-le i xs (omega arith) in
    let sum = length-append front (x ∷ []) in
    subst (λ ys. IsPack ys more_bytes more_ends (running_sums ys)) whole (record {
      are_joined = in_bytes ∙ in_one ∙ sym (flat_map-append (λ y. y) front (x ∷ []));
      are_ends = in_ends ∙ (λ j. pack.are_ends j ++ end j ∷ []) ∙ sym (ends_append 0 front (x ∷ []));
      are_sums = refl;
      are_items = all_append IsItem front (x ∷ []) pack.are_items (item, tt);
      are_few = omega arith;
    })

-- and all of them
pub pack_all : (xs : List Item) (i : ℕ) (bytes ends : List ℕ) (sums : List Lanes) →
    IsPack (take i xs) bytes ends (running_sums (take i xs)) → length xs ≤ i → sums ≡ running_sums xs →
    IsPack xs bytes ends sums
pack_all xs i bytes ends sums pack past are =
    subst (λ held. IsPack xs bytes ends held) (sym are)
    (subst (λ ys. IsPack ys bytes ends (running_sums ys)) (take_all i xs past) pack)

-- ---- one item more, at a place

module _ (xs : List Item) (place : ℕ) (x : Item) where
  with_bytes : (bytes : List ℕ) → bytes ≡ joined xs →
      take (length (joined (take place xs))) bytes ++ x ++ drop (length (joined (take place xs))) bytes
      ≡ joined (put place x xs)
  with_bytes bytes is =
      let start = length (joined (take place xs)) in
      ap (λ bs. take start bs ++ x ++ drop start bs) is
      ∙ (λ j. joined_front place xs j ++ x ++ joined_back place xs j)
      ∙ append_assoc (joined (take place xs)) x (joined (drop place xs))
      ∙ sym (flat_map-append (λ y. y) (take place xs) (x ∷ drop place xs))

  with_ends : (ends : List ℕ) → ends ≡ ends_from 0 xs →
      take place ends ++ (length (joined (take place xs)) + length x) ∷ map (λ e. e + length x) (drop place ends)
      ≡ ends_from 0 (put place x xs)
  with_ends ends is =
      let start = length (joined (take place xs)) in
      let end : start + length x ≡ 0 + start + length x = omega arith in
      let rest = drop place xs in
      ap (λ es. take place es ++ (start + length x) ∷ map (λ e. e + length x) (drop place es)) is
      ∙ (λ j. take_ends 0 place xs j ++ (start + length x) ∷ map (λ e. e + length x) (drop_ends 0 place xs j))
      ∙ (λ j. ends_from 0 (take place xs) ++ end j ∷ sym (ends_later (0 + start) (length x) rest) j)
      ∙ sym (ends_append 0 (take place xs) (x ∷ rest))

  pub pack_with : (bytes ends more_bytes more_ends : List ℕ) (sums more_sums : List Lanes) →
      IsPack xs bytes ends sums → length xs < 1023 → IsItem x →
      more_bytes
      ≡ take (length (joined (take place xs))) bytes ++ x ++ drop (length (joined (take place xs))) bytes →
      more_ends ≡ take place ends ++ (length (joined (take place xs)) + length x)
      ∷ map (λ e. e + length x) (drop place ends) →
      more_sums ≡ running_sums (put place x xs) → IsPack (put place x xs) more_bytes more_ends more_sums
  pack_with bytes ends more_bytes more_ends sums more_sums pack few item in_bytes in_ends in_sums =
      let longer = length_put place x xs in
      record {
        are_joined = in_bytes ∙ with_bytes bytes pack.are_joined;
        are_ends = in_ends ∙ with_ends ends pack.are_ends;
        are_sums = in_sums;
        are_items = all_append IsItem (take place xs) (x ∷ drop place xs) (all_take IsItem place xs pack.are_items)
            (item, all_drop IsItem place xs pack.are_items);
        are_few = omega arith;
      }

-- ---- some of the items

pub slice_span : {X : Type 0} (from to : ℕ) (xs : List X) → from ≤ to →
    take (to - from) (drop from xs) ≡ span from to xs
slice_span from to xs low =
    let whole : from + (to - from) ≡ to = omega arith in
    sym (drop-take from (to - from) xs) ∙ ap (λ n. drop from (take n xs)) whole

pub ends_span : (from to : ℕ) (xs : List Item) → from ≤ to →
    span from to (ends_from 0 xs) ≡ ends_from (0 + length (joined (take from xs))) (span from to xs)
ends_span from to xs low =
    ap (drop from) (take_ends 0 to xs) ∙ drop_ends 0 from (take to xs)
    ∙ ap (λ ys. ends_from (0 + length (joined ys)) (span from to xs)) (take-take from to xs low)

pub pack_part : (xs : List Item) (from to : ℕ) (bytes ends some_bytes some_ends : List ℕ)
    (sums some_sums : List Lanes) → IsPack xs bytes ends sums → from ≤ to → to ≤ length xs →
    some_bytes ≡ take (length (joined (take to xs)) - length (joined (take from xs)))
    (drop (length (joined (take from xs))) bytes) →
    some_ends ≡ map (λ e. e - length (joined (take from xs))) (take (to - from) (drop from ends)) →
    some_sums ≡ running_sums (span from to xs) → IsPack (span from to xs) some_bytes some_ends some_sums
pack_part xs from to bytes ends some_bytes some_ends sums some_sums pack low high in_bytes in_ends in_sums =
    let start = length (joined (take from xs)) in
    let end = length (joined (take to xs)) in
    let fewer = length-drop from (take to xs) in
    let front = length-take-le to xs high in
    let few = pack.are_few in
    record {
      are_joined = in_bytes ∙ ap (λ bs. take (end - start) (drop start bs)) pack.are_joined
          ∙ joined_span from to xs low high;
      are_ends = in_ends ∙ ap (map (λ e. e - start)) (slice_span from to ends low ∙ ap (span from to) pack.are_ends
          ∙ ends_span from to xs low) ∙ ends_earlier start (span from to xs);
      are_sums = in_sums;
      are_items = all_drop IsItem from (take to xs) (all_take IsItem to xs pack.are_items);
      are_few = omega arith;
    }

pub part_above : (xs : List Item) (from to : ℕ) (ends : List ℕ) (start : ℕ) → ends ≡ ends_from 0 xs →
    start ≡ length (joined (take from xs)) → from ≤ to →
    AllByRecursion (λ e. start ≤ e) (take (to - from) (drop from ends))
part_above xs from to ends start are is low =
    let cut : take (to - from) (drop from ends) ≡ ends_from (0 + length (joined (take from xs))) (span from to xs) =
    ap (λ es. take (to - from) (drop from es)) are ∙ slice_span from to (ends_from 0 xs) low ∙ ends_span from to xs low
    in
    subst (λ es. AllByRecursion (λ e. start ≤ e) es) (sym cut)
    (ends_above (0 + length (joined (take from xs))) start (span from to xs) (omega arith))

-- 65 to 96 items, cut in two
pub halves : (ys front back : List Item) (n : ℕ) → front ≡ span 0 32 ys → back ≡ span 32 n ys → n ≡ length ys →
    64 < length ys → length ys ≤ 96 → (length front ≡ 32) × (32 ≤ length back) × (length back ≤ 64)
halves ys front back n in_front in_back all more few =
    let first = ap length in_front in
    let first_is = length-take-le 32 ys (omega arith) in
    let second = ap length in_back in
    let second_is = length-drop 32 (take n ys) in
    let whole = length-take-le n ys (omega arith) in
    (omega arith, omega arith, omega arith)

pub halves_are : (ys front back : List Item) (n : ℕ) → front ≡ span 0 32 ys → back ≡ span 32 n ys → n ≡ length ys →
    front ++ back ≡ ys
halves_are ys front back n in_front in_back all =
    (λ j. in_front j ++ in_back j) ∙ ap (λ t. take 32 ys ++ drop 32 t) (take_all n ys (omega arith))
    ∙ take-append-drop 32 ys

-- ---- spans, an item at a time

pub span_same : {X : Type 0} (n : ℕ) (xs : List X) → span n n xs ≡ []
span_same n xs = let front = length-take n xs in drop_all n (take n xs) (omega arith)

pub span_more : {X : Type 0} (from k : ℕ) (xs : List X) (x : X) → from ≤ k → k < length xs →
    slice_get xs k ≡ Some x → span from (k + 1) xs ≡ span from k xs ++ x ∷ []
span_more from k xs x low high is =
    let front = length-take-le k xs (omega arith) in
    ap (drop from) (take_more xs k x high)
    ∙ drop-append-le from (take k xs) (get_or xs k x ∷ []) (omega arith)
    ∙ ap (λ y. span from k xs ++ y ∷ []) (get_or_from_slice_get xs k x x is)

pub first_read : (xs : List Item) (x : Item) → slice_get xs 0 ≡ Some x → x ≡ first_item xs
first_read [] x e = absurd (cc)
first_read (y ∷ ys) x e = cc
