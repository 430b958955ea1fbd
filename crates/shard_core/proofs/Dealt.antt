-- Items dealt to their shards, and lists that become sets one by one.
use Rattle.std.proofs.Common.{◌≡◌, ℕ, ◌+◌, ◌<◌, ◌≤◌, ◌^◌, Bool, true, false, ◌==◌, List, [], ◌∷◌, ◌++◌, length, map}
use Rattle.std.proofs.Common.{get_or}
use Rattle.std.proofs.Common.{set, take, drop, cond, refl, sym, ap, subst, ◌∙◌, arith, append_assoc}
use Rattle.std.specs.List.{AllByRecursion}
use Rattle.std.proofs.lemmas.Bool.{eq-eqb}
use Rattle.std.proofs.Math.ListN.{get_or-map as get_or_map}
use Rattle.std.specs.Prelude.{Vec}
use Rattle.std.specs.declared.alloc.Global.{Global}
use Rattle.std.proofs.lemmas.List.{map-set}
use Rattle.std.proofs.Common.{replicate}
use Rattle.std.proofs.lemmas.List.FromFn.{length-map-range_with_len}
use Rattle.store_core.proofs.Made.{set_of_is_set}
use Rattle.definitions.specs.Sets.{IsSet}
use Rattle.shard_core.specs.Shards.{numbers}
use Rattle.shard_core.specs.Splits.{held}
use Rattle.shard_core.proofs.Numbers.{few}
use Rattle.shard_core.proofs.Cut.{set_shard}
use Rattle.shard_core.proofs.Lists.{replicate_is}
use Rattle.std.proofs.lemmas.List.{append-nil, take_more, take_all, drop_more, length-map, length-take, get_or-map}
use Rattle.std.proofs.lemmas.List.{take-map}
use Rattle.std.proofs.lemmas.List.{map_more}
use Rattle.std.proofs.lemmas.List.Edits.{map_over_more}
use Rattle.std.proofs.lemmas.List.Elements.{filter-append}
use Rattle.std.proofs.lemmas.List.FromFn.{get_or-map-range_with_len}
use Rattle.std.proofs.Math.Seq.{get_or-append_seam}
use Rattle.definitions.specs.Items.{Item}
use Rattle.definitions.specs.Sets.{set_of}
use Rattle.definitions.proofs.Lists.{All-append}
use Rattle.shard_core.specs.Shards.{shard_number, lies_in, shard, shards}
use Rattle.shard_core.specs.Splits.{HasRoom, IsAbove}
use Rattle.shard_core.proofs.Numbers.{number_below}
use Rattle.shard_core.proofs.Lists.{map_set}
use Rattle.shard_core.proofs.Told.{not_equal}

-- ---- one item more

shard_push : (b s : ℕ) (xs : List Item) (x : Item) (c : Bool) → (shard_number b x == s) ≡ c →
    shard b (xs ++ x ∷ []) s ≡ shard b xs s ++ cond c (x ∷ []) []
shard_push b s xs x c e = filter-append (lies_in b s) xs (x ∷ [])
    ∙ ap (λ (d : Bool). shard b xs s ++ cond d (x ∷ []) []) e

dealt_more : (b : ℕ) (xs : List Item) (x : Item) → b ≤ 12 →
    set (shards b xs) (shard_number b x) (get_or (shards b xs) (shard_number b x) [] ++ x ∷ [])
    ≡ shards b (xs ++ x ∷ [])
dealt_more b xs x low =
    let n : ℕ = shard_number b x in
    let below : n < 2 ^ b = number_below b x low in
    let held : get_or (shards b xs) n [] ≡ shard b xs n =
    get_or-map-range_with_len (shard b xs) 0 (2 ^ b) n n [] below (omega arith) in
    map_set (shard b xs) (shard b (xs ++ x ∷ [])) (2 ^ b) n (get_or (shards b xs) n [] ++ x ∷ []) [] below
    (shard_push b n xs x true (eq-eqb n n refl) ∙ ap (λ ys. ys ++ x ∷ []) (sym held))
    (λ k apart. shard_push b k xs x false (not_equal n k (λ same. apart (sym same))) ∙ append-nil (shard b xs k))

-- after the items before and the first i of these, one more
pub dealt_step : (b : ℕ) (before items : List Item) (i : ℕ) (x : Item) (n : ℕ) (old new : List (List Item)) → b ≤ 12 →
    i < length items → x ≡ get_or items i x → n ≡ shard_number b x → old ≡ shards b (before ++ take i items) →
    new ≡ set old n (get_or old n [] ++ x ∷ []) → new ≡ shards b (before ++ take (i + 1) items)
dealt_step b before items i x n old new low inside at number was is =
    let seen : List Item = before ++ take i items in
    let front : seen ++ x ∷ [] ≡ before ++ take (i + 1) items =
    append_assoc before (take i items) (x ∷ [])
    ∙ ap (λ ys. before ++ ys) (ap (λ y. take i items ++ y ∷ []) at ∙ sym (take_more items i x inside)) in
    is ∙ ap (λ Z. set Z n (get_or Z n [] ++ x ∷ [])) was
    ∙ ap (λ k. set (shards b seen) k (get_or (shards b seen) k [] ++ x ∷ [])) number
    ∙ dealt_more b seen x low ∙ ap (λ ys. shards b ys) front

pub dealt_all : (b : ℕ) (before items : List Item) (i : ℕ) → length items ≤ i →
    shards b (before ++ take i items) ≡ shards b (before ++ items)
dealt_all b before items i past = ap (λ ys. shards b (before ++ ys)) (take_all i items past)

pub dealt_none : (b : ℕ) (before : List Item) → shards b before ≡ shards b (before ++ [])
dealt_none b before = ap (λ ys. shards b ys) (sym (append-nil before))

-- ---- one list after another becomes a set

-- the lists before i are sets, and the others are as they were
abbrev pub AreSetsTo : List (List Item) → List (List Item) → ℕ → Type 0
AreSetsTo H L i = L ≡ map set_of (take i H) ++ drop i H

pub next_list : (H L : List (List Item)) (i : ℕ) (d : List Item) → i < length H → AreSetsTo H L i →
    get_or L i d ≡ get_or H i d
next_list H L i d inside so_far =
    let front : List (List Item) = map set_of (take i H) in
    let long : length front ≡ i = simp (length-map, length-take) (omega arith) in
    let left : drop i H ≡ get_or H i d ∷ drop (i + 1) H = drop_more H i d inside in
    ap (λ Z. get_or Z i d) (so_far ∙ ap (λ Z. front ++ Z) left)
    ∙ ap (λ k. get_or (front ++ get_or H i d ∷ drop (i + 1) H) k d) (sym long)
    ∙ get_or-append_seam front (get_or H i d) (drop (i + 1) H) d

pub sets_more : (H L M : List (List Item)) (i : ℕ) (X Y : List Item) → i < length H → AreSetsTo H L i →
    X ≡ get_or L i X → Y ≡ set_of X → M ≡ set L i Y → AreSetsTo H M (i + 1)
sets_more H L M i X Y inside so_far at made is =
    is ∙ ap (λ Z. set L i Z) made ∙ map_over_more set_of H L i X inside so_far at

pub room_more : (H : List (List Item)) (most i : ℕ) (X Y : List Item) → i < length H → X ≡ get_or H i X → Y ≡ set_of X →
    length Y ≤ most → HasRoom most (map set_of (take i H)) → HasRoom most (map set_of (take (i + 1) H))
room_more H most i X Y inside at made few room =
    let last : map set_of (take (i + 1) H) ≡ map set_of (take i H) ++ set_of X ∷ [] =
    map_more set_of H i X inside ∙ ap (λ Z. map set_of (take i H) ++ set_of Z ∷ []) (sym at) in
    let small : length (set_of X) ≤ most = subst (λ Z. length Z ≤ most) made few in
    subst (λ Z. HasRoom most Z) (sym last)
    (All-append (λ Z. length Z ≤ most) (map set_of (take i H)) (set_of X ∷ []) room (small, tt))

pub above : (H : List (List Item)) (most i : ℕ) (X Y : List Item) → i < length H → X ≡ get_or H i X → Y ≡ set_of X →
    most < length Y → HasRoom most (map set_of (take i H)) → IsAbove most (map set_of H) i
above H most i X Y inside at made many room = (
  subst (λ n. i < n) (sym (length-map H set_of)) inside,
  subst (λ Z. most < length Z) (made ∙ ap set_of at ∙ sym (get_or-map set_of H i X [] inside)) many,
  subst (λ Z. HasRoom most Z) (sym (take-map set_of i H)) room,
)

-- ---- the same of vectors

abbrev listed : Vec Item Global → List Item
listed v = v.items

pub deal_at : (vs : List (Vec Item Global)) (n : ℕ) (d v : Vec Item Global) (x : Item) → n < length vs →
    v.items ≡ (get_or vs n d).items ++ x ∷ [] →
    held (set vs n v) ≡ set (held vs) n (get_or (held vs) n [] ++ x ∷ [])
deal_at vs n d v x low grown = map-set listed vs n v
    ∙ ap (λ X. set (held vs) n X) (grown ∙ ap (λ X. X ++ x ∷ []) (sym (get_or-map listed vs n d [] low)))

pub none_dealt : (b n : ℕ) → n ≡ 2 ^ b → replicate n [] ≡ shards b []
none_dealt b n same = replicate_is [] n (2 ^ b) same

pub shards_many : (vs : List (Vec Item Global)) (b : ℕ) (xs : List Item) → held vs ≡ shards b xs → length vs ≡ 2 ^ b
shards_many vs b xs is =
    sym (length-map vs listed) ∙ ap length is ∙ length-map-range_with_len (shard b xs) 0 (2 ^ b)

pub shards_few : (vs : List (Vec Item Global)) (b : ℕ) (xs : List Item) → b ≤ 12 → held vs ≡ shards b xs →
    length vs ≤ 4096
shards_few vs b xs low is =
    let long : length vs ≡ 2 ^ b =
    sym (length-map vs listed) ∙ ap length is ∙ length-map-range_with_len (shard b xs) 0 (2 ^ b) in
    let most : 2 ^ b ≤ 4096 = few b low in
    omega (arith, long, most)

all_sets : (b : ℕ) (A : List Item) → IsSet A → (ss : List ℕ) → AllByRecursion IsSet (map (shard b A) ss)
all_sets b A set [] = tt
all_sets b A set (s ∷ ss) = (set_shard b s A set, all_sets b A set ss)

pub shards_are_sets : (b : ℕ) (xs : List Item) → AllByRecursion IsSet (shards b (set_of xs))
shards_are_sets b xs = all_sets b (set_of xs) (set_of_is_set xs) (numbers b)

module _ (H : List (List Item)) (vs : List (Vec Item Global)) (i : ℕ) (v w : Vec Item Global) (inside : i < length H)
    (so_far : AreSetsTo H (held vs) i) (at : v ≡ get_or vs i v) (made : w.items ≡ set_of (get_or vs i v).items) where
  own : v.items ≡ get_or (held vs) i v.items
  own = ap listed at ∙ sym (get_or_map listed vs i v)

  made_of : w.items ≡ set_of v.items
  made_of = made ∙ ap (λ (u : Vec Item Global). set_of u.items) (sym at)

  pub vec_sets : AreSetsTo H (held (set vs i w)) (i + 1)
  vec_sets =
      sets_more H (held vs) (held (set vs i w)) i v.items w.items inside so_far own made_of (map-set listed vs i w)

  pub vec_room : (most : ℕ) → length w.items ≤ most → HasRoom most (map set_of (take i H)) →
      HasRoom most (map set_of (take (i + 1) H))
  vec_room most small room =
      room_more H most i v.items w.items inside (own ∙ next_list H (held vs) i v.items inside so_far) made_of small room

  pub vec_above : (most : ℕ) → most < length w.items → HasRoom most (map set_of (take i H)) →
      IsAbove most (map set_of H) i
  vec_above most many room =
      above H most i v.items w.items inside (own ∙ next_list H (held vs) i v.items inside so_far) made_of many room
