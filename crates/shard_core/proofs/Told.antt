-- What lists of entries say of each shard, and that the two differences of two directories name the shards that differ.
use Rattle.std.proofs.Common.{◌≡◌, ℕ, zero, suc, ◌+◌, ◌<◌, ◌≤◌, ◌^◌, Bool, true, false, not, ◌&&◌, ◌||◌, ◌==◌, List, []}
use Rattle.std.proofs.Common.{◌∷◌, ◌++◌, length, map, get_or, set, take, drop, Option, Some, None, refl, sym, ap, subst}
use Rattle.std.proofs.Common.{◌∙◌, arith, inl, inr, cond}
use Rattle.std.specs.Prelude.{filter, is_some, if◌then◌else◌}
use Rattle.std.specs.Option.{option_or}
use Rattle.std.specs.List.{list_any, range_with_len}
use Rattle.std.proofs.lemmas.Bool.{false≢true, eqb-true, eq-eqb, and_parts, and_from, or_cases, cases_eq}
use Rattle.std.proofs.lemmas.Bool.Decides.{eqb_tells}
use Rattle.shard_core.proofs.Numbers.{few}
use Rattle.std.proofs.lemmas.List.{take_more, drop_more, drop_all}
use Rattle.std.proofs.lemmas.List.FromFn.{length-map-range_with_len, get_or-map-range_with_len}
use Rattle.definitions.specs.Items.{Item, same_item}
use Rattle.definitions.specs.Sets.{has, difference}
use Rattle.definitions.specs.Talks.{Knowledge}
use Rattle.definitions.specs.Theorems.{KnowsDifference}
use Rattle.definitions.proofs.Equality.{same_item-eq, same_item-itself}
use Rattle.shard_core.specs.declared.entry.BadEntry.{BadEntry}
use Rattle.shard_core.specs.declared.entry.BadEntry.TheVariants.{Twice}
use Rattle.shard_core.specs.declared.unequal.Unequal.{Unequal}
use Rattle.shard_core.specs.Shards.{numbers, shard, entry_for, directory, entries_differ}
use Rattle.shard_core.specs.Directories.{number_in, count_in, count_for, entry_fault, fault_after, fault_from}
use Rattle.shard_core.specs.Directories.{first_fault}
use Rattle.shard_core.specs.Directories.{told_of, is_told, differing, unequal_numbers}
use Rattle.shard_core.proofs.Lists.{map_set, map_same}
use Rattle.shard_core.proofs.Cut.{has_filter}
use Rattle.shard_core.proofs.Entries.{number_of_entry}

-- ---- counts, one entry after another

push_either : {X : Type 0} (c : Bool) (v : X) (p q r : Option X) → p ≡ option_or q r →
    (if c then Some v else p) ≡ option_or (if c then Some v else q) r
push_either true v p q r e = refl
push_either false v p q r e = e

count_push : (seen : List Item) (x : Item) (s : ℕ) → count_for (seen ++ x ∷ []) s
    ≡ option_or (count_for seen s) (if number_in x == s then Some (count_in x) else None)
count_push [] x s = refl
count_push (y ∷ ys) x s =
    push_either (number_in y == s) (count_in y) (count_for (ys ++ x ∷ []) s) (count_for ys s)
    (if number_in x == s then Some (count_in x) else None) (count_push ys x s)

or_nothing : {X : Type 0} (o : Option X) → option_or o None ≡ o
or_nothing None = refl
or_nothing (Some v) = refl

count_here : (seen : List Item) (x : Item) (n : ℕ) → number_in x ≡ n → count_for seen n ≡ None →
    count_for (seen ++ x ∷ []) n ≡ Some (count_in x)
count_here seen x n same none = count_push seen x n
    ∙ ap (λ o. option_or o (if number_in x == n then Some (count_in x) else None)) none
    ∙ ap (λ (c : Bool). if c then Some (count_in x) else None) (eq-eqb (number_in x) n same)

pub not_equal : (a b : ℕ) → (a ≡ b → ⊥) → (a == b) ≡ false
not_equal a b apart = elim (eqb_tells a b) [ inl same ↦ absurd (apart same.1) | inr other ↦ other.0 ]

count_there : (seen : List Item) (x : Item) (k : ℕ) → (number_in x ≡ k → ⊥) →
    count_for (seen ++ x ∷ []) k ≡ count_for seen k
count_there seen x k apart =
    let other : (number_in x == k) ≡ false = not_equal (number_in x) k apart in
    count_push seen x k
    ∙ ap (λ (c : Bool). option_or (count_for seen k) (if c then Some (count_in x) else None)) other
    ∙ or_nothing (count_for seen k)

-- the table of counts, after one entry more
pub table_more : (seen : List Item) (x : Item) (m n count : ℕ) → n < m → number_in x ≡ n → count_in x ≡ count →
    count_for seen n ≡ None →
    set (map (count_for seen) (range_with_len 0 m)) n (Some count)
    ≡ map (count_for (seen ++ x ∷ [])) (range_with_len 0 m)
table_more seen x m n count low number counts none =
    map_set (count_for seen) (count_for (seen ++ x ∷ [])) m n (Some count) None low
    (count_here seen x n number none ∙ ap (λ k. Some k) counts)
    (λ k apart. count_there seen x k (λ same. apart (sym same ∙ number)))

pub table_at : (seen : List Item) (m n : ℕ) → n < m →
    get_or (map (count_for seen) (range_with_len 0 m)) n None ≡ count_for seen n
table_at seen m n low = get_or-map-range_with_len (count_for seen) 0 m n n None low (omega arith)

pub table_length : (T : List (Option ℕ)) (xs : List Item) (b : ℕ) → T ≡ map (count_for xs) (numbers b) →
    length T ≡ 2 ^ b
table_length T xs b is = ap length is ∙ length-map-range_with_len (count_for xs) 0 (2 ^ b)

-- ---- faults, one entry after another

pub fault_twice : (b : ℕ) (seen : List Item) (x : Item) → entry_fault b x ≡ None →
    is_some (count_for seen (number_in x)) ≡ true → fault_after b seen x ≡ Some Twice
fault_twice b seen x none twice =
    ap (λ o. option_or o (if is_some (count_for seen (number_in x)) then Some Twice else None)) none
    ∙ ap (λ (c : Bool). if c then Some Twice else None) twice

pub fault_none : (b : ℕ) (seen : List Item) (x : Item) → entry_fault b x ≡ None →
    count_for seen (number_in x) ≡ None → fault_after b seen x ≡ None
fault_none b seen x none new =
    ap (λ o. option_or o (if is_some (count_for seen (number_in x)) then Some Twice else None)) none
    ∙ ap (λ (o : Option ℕ). if is_some o then Some Twice else None) new

pub fault_own : (b : ℕ) (seen : List Item) (x : Item) (f : BadEntry) → entry_fault b x ≡ Some f →
    fault_after b seen x ≡ Some f
fault_own b seen x f own =
    ap (λ o. option_or o (if is_some (count_for seen (number_in x)) then Some Twice else None)) own

none_there : (o : Option ℕ) → is_some o ≡ false → o ≡ None
none_there None e = refl
none_there (Some v) e = absurd (false≢true (sym e))

-- what is noted of one entry more
module _ (b : ℕ) (seen : List Item) (x : Item) (n : ℕ) (T : List (Option ℕ)) (low : n < 2 ^ b)
    (number : n ≡ number_in x)
    (good : entry_fault b x ≡ None) (table : T ≡ map (count_for seen) (numbers b)) where
  at_own : get_or T n None ≡ count_for seen (number_in x)
  at_own = ap (λ Z. get_or Z n None) table ∙ table_at seen (2 ^ b) n low ∙ ap (λ k. count_for seen k) number

  pub note_twice : is_some (get_or T n None) ≡ true → fault_after b seen x ≡ Some Twice
  note_twice twice = fault_twice b seen x good (ap (λ (o : Option ℕ). is_some o) (sym at_own) ∙ twice)

  new_own : is_some (get_or T n None) ≡ false → count_for seen (number_in x) ≡ None
  new_own new = sym at_own ∙ none_there (get_or T n None) new

  pub note_good : is_some (get_or T n None) ≡ false → fault_after b seen x ≡ None
  note_good new = fault_none b seen x good (new_own new)

  pub note_table : (count : ℕ) → count ≡ count_in x → is_some (get_or T n None) ≡ false →
      set T n (Some count) ≡ map (count_for (seen ++ x ∷ [])) (numbers b)
  note_table count counts new = ap (λ Z. set Z n (Some count)) table
      ∙ table_more seen x (2 ^ b) n count low (sym number) (sym counts)
      (ap (λ k. count_for seen k) number ∙ new_own new)

fault_step : (b : ℕ) (xs : List Item) (i : ℕ) (x : Item) → i < length xs → x ≡ get_or xs i x →
    fault_from b (take i xs) (drop i xs)
    ≡ option_or (fault_after b (take i xs) x) (fault_from b (take (i + 1) xs) (drop (i + 1) xs))
fault_step b xs i x low at =
    let left : drop i xs ≡ x ∷ drop (i + 1) xs = drop_more xs i x low ∙ ap (λ y. y ∷ drop (i + 1) xs) (sym at) in
    let seen : take i xs ++ x ∷ [] ≡ take (i + 1) xs =
    ap (λ y. take i xs ++ y ∷ []) at ∙ sym (take_more xs i x low) in
    ap (λ ys. fault_from b (take i xs) ys) left
    ∙ ap (λ zs. option_or (fault_after b (take i xs) x) (fault_from b zs (drop (i + 1) xs))) seen

pub fault_more : (b : ℕ) (xs : List Item) (i : ℕ) (x : Item) → i < length xs → x ≡ get_or xs i x →
    first_fault b xs ≡ fault_from b (take i xs) (drop i xs) → fault_after b (take i xs) x ≡ None →
    first_fault b xs ≡ fault_from b (take (i + 1) xs) (drop (i + 1) xs)
fault_more b xs i x low at so_far none = so_far ∙ fault_step b xs i x low at
    ∙ ap (λ o. option_or o (fault_from b (take (i + 1) xs) (drop (i + 1) xs))) none

pub fault_here : (b : ℕ) (xs : List Item) (i : ℕ) (x : Item) (f : BadEntry) → i < length xs → x ≡ get_or xs i x →
    first_fault b xs ≡ fault_from b (take i xs) (drop i xs) → fault_after b (take i xs) x ≡ Some f →
    first_fault b xs ≡ Some f
fault_here b xs i x f low at so_far bad = so_far ∙ fault_step b xs i x low at
    ∙ ap (λ o. option_or o (fault_from b (take (i + 1) xs) (drop (i + 1) xs))) bad

pub fault_all : (b : ℕ) (xs : List Item) (i : ℕ) → length xs ≤ i →
    first_fault b xs ≡ fault_from b (take i xs) (drop i xs) → first_fault b xs ≡ None
fault_all b xs i high so_far = so_far ∙ ap (λ ys. fault_from b (take i xs) ys) (drop_all i xs high)

-- ---- two tables side by side

-- what two tables have at one place
abbrev pub at_place : List (Option ℕ) → List (Option ℕ) → ℕ → Unequal
at_place T U s = record { number = s; ours = get_or T s None; theirs = get_or U s None }

pub told_is : (xs ys : List Item) (b : ℕ) (T U : List (Option ℕ)) → T ≡ map (count_for xs) (numbers b) →
    U ≡ map (count_for ys) (numbers b) → filter is_told (map (at_place T U) (numbers b)) ≡ differing b xs ys
told_is xs ys b T U left right =
    ap (λ us. filter is_told us) (map_same (at_place T U) (told_of xs ys) (2 ^ b) (told_of xs ys 0) (λ s low.
    let ours : get_or T s None ≡ count_for xs s = ap (λ Z. get_or Z s None) left ∙ table_at xs (2 ^ b) s low in
    let theirs : get_or U s None ≡ count_for ys s = ap (λ Z. get_or Z s None) right ∙ table_at ys (2 ^ b) s low in
    λ i. record { number = s; ours = ours i; theirs = theirs i }))

-- ---- two directories

counted_any : (xs : List Item) (s : ℕ) → is_some (count_for xs s) ≡ list_any (λ x. number_in x == s) xs
counted_any [] s = refl
counted_any (x ∷ xs) s =
    let either : (c : Bool) → is_some (if c then Some (count_in x) else count_for xs s)
    ≡ (c || list_any (λ y. number_in y == s) xs) = elim [ true ↦ refl | false ↦ counted_any xs s ] in
    either (number_in x == s)

or_later : (a b : Bool) → b ≡ true → (a || b) ≡ true
or_later true b e = refl
or_later false b e = e

-- an element that passes
found : (p : Item → Bool) (xs : List Item) → list_any p xs ≡ true → (x : Item) × (has xs x ≡ true) × (p x ≡ true)
found p [] e = absurd (false≢true e)
found p (x ∷ xs) e = elim (or_cases (p x) (list_any p xs) e) [
  | inl here ↦ (x, ap (λ c. c || has xs x) (same_item-itself x), here)
  | inr later ↦ (
      let there = found p xs later in
      (there.0, or_later (same_item there.0 x) (has xs there.0) there.1, there.2)
      )
]

any_from : (p : Item → Bool) (xs : List Item) (x : Item) → has xs x ≡ true → p x ≡ true → list_any p xs ≡ true
any_from p [] x there passes = absurd (false≢true there)
any_from p (y ∷ ys) x there passes = elim (or_cases (same_item x y) (has ys x) there) [
  | inl same ↦ ap (λ c. c || list_any p ys) (subst (λ z. p z ≡ true) (same_item-eq x y same) passes)
  | inr later ↦ or_later (p y) (list_any p ys) (any_from p ys x later passes)
]

-- what a list made of a function of the number has
has_made : (e : ℕ → Item) (a n : ℕ) (x : Item) → has (map e (range_with_len a n)) x ≡ true →
    (s : ℕ) × (a ≤ s) × (s < a + n) × (x ≡ e s)
has_made e a zero x there = absurd (false≢true there)
has_made e a (suc n) x there = elim (or_cases (same_item x (e a)) (has (map e (range_with_len (a + 1) n)) x) there) [
  | inl same ↦ (a, omega arith, omega arith, same_item-eq x (e a) same)
  | inr later ↦ let at = has_made e (a + 1) n x later in (at.0, omega arith, omega arith, at.3)
]

made_has : (e : ℕ → Item) (a n s : ℕ) → a ≤ s → s < a + n → has (map e (range_with_len a n)) (e s) ≡ true
made_has e a zero s low high = absurd (omega arith)
made_has e a (suc n) s low high = elim (cases_eq s a) [
  | inl same ↦ ap (λ c. c || has (map e (range_with_len (a + 1) n)) (e s))
      (subst (λ k. same_item (e s) (e k) ≡ true) same (same_item-itself (e s)))
  | inr apart ↦ or_later (same_item (e s) (e a)) (has (map e (range_with_len (a + 1) n)) (e s))
      (made_has e (a + 1) n s (omega (arith, apart)) (omega arith))
]

not_true : (c : Bool) → (c ≡ true → ⊥) → c ≡ false
not_true true h = absurd (h refl)
not_true false h = refl

module _ (e g : ℕ → Item) (m : ℕ) (number_e : (s : ℕ) → s < m → number_in (e s) ≡ s)
    (number_g : (s : ℕ) → s < m → number_in (g s) ≡ s) (xs : List Item)
    (same : (x : Item) → has xs x
    ≡ has (difference (map e (range_with_len 0 m)) (map g (range_with_len 0 m))) x) where
  has_apart : (x : Item) → has xs x
      ≡ (not (has (map g (range_with_len 0 m)) x) && has (map e (range_with_len 0 m)) x)
  has_apart x = same x ∙ has_filter (λ y. not (has (map g (range_with_len 0 m)) y)) (map e (range_with_len 0 m)) x

  -- an entry of e that is learned is not that of g
  named_differs : (s : ℕ) → s < m → list_any (λ x. number_in x == s) xs ≡ true → same_item (e s) (g s) ≡ true → ⊥
  named_differs s low named equal =
      let one = found (λ x. number_in x == s) xs named in
      let parts = and_parts (not (has (map g (range_with_len 0 m)) one.0)) (has (map e (range_with_len 0 m)) one.0)
      (sym (has_apart one.0) ∙ one.1) in
      let at = has_made e 0 m one.0 parts.1 in
      let below : at.0 < m = omega (arith, at.2) in
      let number : at.0 ≡ s =
      sym (number_e at.0 below) ∙ ap (λ x. number_in x) (sym at.3) ∙ eqb-true (number_in one.0) s one.2 in
      let is : one.0 ≡ g s = at.3 ∙ ap e number ∙ same_item-eq (e s) (g s) equal in
      let there : has (map g (range_with_len 0 m)) one.0 ≡ true =
      subst (λ x. has (map g (range_with_len 0 m)) x ≡ true) (sym is) (made_has g 0 m s (omega arith) (omega arith)) in
      false≢true (sym (ap (λ c. not c) there) ∙ parts.0)

  -- and an entry of e that is not that of g is learned
  differs_named : (s : ℕ) → s < m → same_item (e s) (g s) ≡ false → list_any (λ x. number_in x == s) xs ≡ true
  differs_named s low apart =
      let own : has (map e (range_with_len 0 m)) (e s) ≡ true = made_has e 0 m s (omega arith) (omega arith) in
      let absent : (c : Bool) → has (map g (range_with_len 0 m)) (e s) ≡ c → not c ≡ true = elim [
        | true ↦ λ there. (
            let at = has_made g 0 m (e s) there in
            let below : at.0 < m = omega (arith, at.2) in
            let number : at.0 ≡ s = sym (number_g at.0 below) ∙ ap (λ x. number_in x) (sym at.3) ∙ number_e s low in
            let equal : e s ≡ g s = at.3 ∙ ap g number in
            absurd (false≢true (sym apart ∙ subst (λ x. same_item (e s) x ≡ true) equal (same_item-itself (e s))))
            )
        | false ↦ λ there. refl
      ] in
      let other : not (has (map g (range_with_len 0 m)) (e s)) ≡ true =
      absent (has (map g (range_with_len 0 m)) (e s)) refl in
      any_from (λ x. number_in x == s) xs (e s) (has_apart (e s) ∙ and_from _ _ other own)
      (eq-eqb (number_in (e s)) s (number_e s low))

  pub named : (s : ℕ) → s < m → is_some (count_for xs s) ≡ not (same_item (e s) (g s))
  named s low =
      let either : (c : Bool) → same_item (e s) (g s) ≡ c → list_any (λ x. number_in x == s) xs ≡ not c = elim [
        | true ↦ λ equal. not_true (list_any (λ x. number_in x == s) xs) (λ told. named_differs s low told equal)
        | false ↦ λ apart. differs_named s low apart
      ] in
      counted_any xs s ∙ either (same_item (e s) (g s)) refl

kept_one : (u : Unequal) (s : ℕ) (c d : Bool) (us : List Unequal) (ss : List ℕ) → c ≡ d → u.number ≡ s →
    map (λ (v : Unequal). v.number) us ≡ ss →
    map (λ (v : Unequal). v.number) (cond c (u ∷ us) us) ≡ cond d (s ∷ ss) ss
kept_one u s true true us ss e number rest = λ i. number i ∷ rest i
kept_one u s true false us ss e number rest = absurd (false≢true (sym e))
kept_one u s false true us ss e number rest = absurd (false≢true e)
kept_one u s false false us ss e number rest = rest

-- numbers that pass a test, by what is made of them
kept : (f : ℕ → Unequal) (q : ℕ → Bool) (a n : ℕ) →
    ((s : ℕ) → a ≤ s → s < a + n → is_told (f s) ≡ q s) → ((s : ℕ) → (f s).number ≡ s) →
    map (λ (u : Unequal). u.number) (filter is_told (map f (range_with_len a n))) ≡ filter q (range_with_len a n)
kept f q a zero same number = refl
kept f q a (suc n) same number =
    let rest = kept f q (a + 1) n (λ s low high. same s (omega arith) (omega arith)) number in
    kept_one (f a) a (is_told (f a)) (q a) (filter is_told (map f (range_with_len (a + 1) n)))
    (filter q (range_with_len (a + 1) n)) (same a (omega arith) (omega arith)) (number a) rest

or_itself : (c : Bool) → (c || c) ≡ c
or_itself true = refl
or_itself false = refl

same_symmetric : (x y : Item) → same_item x y ≡ same_item y x
same_symmetric x y =
    let either : (c d : Bool) → same_item x y ≡ c → same_item y x ≡ d → c ≡ d = elim [
      | true ↦ elim [
        | true ↦ λ e k. refl
        | false ↦ λ e k. absurd (false≢true (sym k
            ∙ subst (λ z. same_item z x ≡ true) (same_item-eq x y e) (same_item-itself x)))
      ]
      | false ↦ elim [
        | true ↦ λ e k. absurd (false≢true (sym e
            ∙ subst (λ z. same_item z y ≡ true) (same_item-eq y x k) (same_item-itself y)))
        | false ↦ λ e k. refl
      ]
    ] in
    either (same_item x y) (same_item y x) refl refl

pub exact : (b : ℕ) (A B : List Item) (k : Knowledge) → b ≤ 12 → KnowsDifference k (directory b A) (directory b B) →
    unequal_numbers (differing b k.ours k.theirs) ≡ filter (entries_differ b A B) (numbers b)
exact b A B k low knows =
    let e : ℕ → Item = λ s. entry_for s (shard b A s) in
    let g : ℕ → Item = λ s. entry_for s (shard b B s) in
    let number_e : (s : ℕ) → s < 2 ^ b → number_in (e s) ≡ s =
    λ s below. number_of_entry s (shard b A s) (omega (arith, few b low, below)) in
    let number_g : (s : ℕ) → s < 2 ^ b → number_in (g s) ≡ s =
    λ s below. number_of_entry s (shard b B s) (omega (arith, few b low, below)) in
    kept (told_of k.ours k.theirs) (entries_differ b A B) 0 (2 ^ b) (λ s least below.
    let small : s < 2 ^ b = omega arith in
    let ours = named e g (2 ^ b) number_e number_g k.ours knows.ours.same s small in
    let theirs = named g e (2 ^ b) number_g number_e k.theirs knows.theirs.same s small in
    ap (λ c. c || is_some (count_for k.theirs s)) ours
    ∙ ap (λ c. entries_differ b A B s || c) (theirs ∙ ap (λ c. not c) (same_symmetric (g s) (e s)))
    ∙ or_itself (entries_differ b A B s)) (λ s. refl)
