-- Histories in which each item stands once.
use Rattle.std.proofs.Common.{◌≡◌, ℕ, ◌+◌, ◌<◌, ◌≤◌, Bool, true, false, List, [], ◌∷◌, ◌++◌, length, take}
use Rattle.std.proofs.Common.{drop, get_or, refl, sym, ap, subst, ◌∙◌, arith}
use Rattle.std.specs.Prelude.{fold, Some, IfSome, Ok, nat_lt, if◌then◌else◌}
use Rattle.std.specs.List.{AllByRecursion, IsDistinct, slice_get}
use Rattle.std.specs.Ordering.{match_ordering}
use Rattle.std.specs.declared.cmp.Ordering.{Ordering}
use Rattle.std.specs.declared.cmp.Ordering.TheVariants.{Less, Equal, Greater}
use Rattle.std.proofs.lemmas.List.Sums.{fold_more}
use Rattle.std.proofs.lemmas.List.{take-append-drop}
use Rattle.std.proofs.lemmas.List.{take_more}
use Rattle.std.proofs.lemmas.Option.{get_or_from_slice_get}
use Rattle.definitions.specs.Items.{Item, item_cmp, same_item}
use Rattle.definitions.specs.Sets.{has, add_item, union, set_of}
use Rattle.definitions.specs.Histories.{History, IsHistory, items_of, content, with_item, opening_history, insertion}
use Rattle.definitions.specs.Histories as histories
use Rattle.version_log.specs.Answers.{insertion_in}
use Rattle.version_log.specs.Logs.{IsLog, log, log_after}
use Rattle.version_log.specs.declared.answer.Added.{Added}
use Rattle.version_log.specs.declared.answer.Added.TheVariants.{New, Already}
use Rattle.store_core.proofs.Made.{add_again, has_set_of, set_of_is_set}
use Rattle.definitions.proofs.Lemmas.{All-append, All-both, All-every, same_item-eq, same_item-itself, item_cmp-eq}
use Rattle.definitions.proofs.Lemmas.{or_parts, or_from, fold-append, length-append, length-map, map-append}

differs_by : (x y : Item) (b : Bool) → same_item y x ≡ b → same_item x y ≡ false → b ≡ false
differs_by x y true there other = let same : y ≡ x = same_item-eq y x there in
    let back : same_item x y ≡ true = rw same (same_item-itself x) in absurd (cc)
differs_by x y false there other = refl

pub differs_back : (x y : Item) → same_item x y ≡ false → same_item y x ≡ false
differs_back x y other = differs_by x y (same_item y x) refl other

-- ---- a set with one new item

length_put : (x y : Item) (ys : List Item) (o : Ordering) → item_cmp x y ≡ o → has (y ∷ ys) x ≡ false →
    length (add_item ys x) ≡ length ys + 1 →
    length (match_ordering o (x ∷ y ∷ ys) (y ∷ ys) (y ∷ add_item ys x)) ≡ length (y ∷ ys) + 1
length_put x y ys Less e lacks rest = omega arith
length_put x y ys Equal e lacks rest = let same : x ≡ y = item_cmp-eq x y e in
    let there : has (y ∷ ys) x ≡ true = rw (same, same_item-itself y) refl in absurd (cc)
length_put x y ys Greater e lacks rest = omega (arith, rest)

pub length-add : (A : List Item) (x : Item) → has A x ≡ false → length (add_item A x) ≡ length A + 1
length-add [] x lacks = refl
length-add (y ∷ ys) x lacks =
    length_put x y ys (item_cmp x y) refl lacks (length-add ys x (or_parts (same_item x y) (has ys x) lacks).1)

lacks_put : (x y q : Item) (ys : List Item) (o : Ordering) → same_item q x ≡ false → has (y ∷ ys) q ≡ false →
    has (add_item ys x) q ≡ false →
    has (match_ordering o (x ∷ y ∷ ys) (y ∷ ys) (y ∷ add_item ys x)) q ≡ false
lacks_put x y q ys Less other lacks rest = rw other lacks
lacks_put x y q ys Equal other lacks rest = lacks
lacks_put x y q ys Greater other lacks rest =
    or_from (same_item q y) (has (add_item ys x) q) (or_parts (same_item q y) (has ys q) lacks).0 rest

lacks_add : (A : List Item) (x q : Item) → same_item q x ≡ false → has A q ≡ false → has (add_item A x) q ≡ false
lacks_add [] x q other lacks = rw other refl
lacks_add (y ∷ ys) x q other lacks =
    lacks_put x y q ys (item_cmp x y) other lacks (lacks_add ys x q other (or_parts (same_item q y) (has ys q) lacks).1)

length_union : (A xs : List Item) → AllByRecursion (λ y. has A y ≡ false) xs → IsDistinct same_item xs →
    length (union A xs) ≡ length A + length xs
unfolding IsDistinct
length_union A [] new once = omega arith
length_union A (x ∷ xs) new once =
    let later : AllByRecursion (λ y. has (add_item A x) y ≡ false) xs =
    All-both (λ y. has A y ≡ false) (λ y. same_item x y ≡ false) (λ y. has (add_item A x) y ≡ false)
    (λ y a b. lacks_add A x y (differs_back x y b) a) xs new.1 once.0 in
    omega (arith, length_union (add_item A x) xs later once.1, length-add A x new.0)

-- a version has as many items as entries
pub length-content : (h : History) → IsHistory h → length (content h) ≡ length h
length-content h once =
    omega (
      arith,
      length_union [] (items_of h) (All-every (λ y. has [] y ≡ false) (λ y. refl) (items_of h)) once,
      length-map h (λ (e : ℕ × Item). e.1),
    )

-- ---- one entry more

distinct_push : (xs : List Item) (x : Item) → IsDistinct same_item xs → has xs x ≡ false →
    IsDistinct same_item (xs ++ x ∷ [])
unfolding IsDistinct
distinct_push [] x once lacks = (tt, tt)
distinct_push (y ∷ ys) x once lacks =
    let parts = or_parts (same_item x y) (has ys x) lacks in (
      All-append (λ z. same_item y z ≡ false) ys (x ∷ []) once.0 (differs_back x y parts.0, tt),
      distinct_push ys x once.1 parts.1,
    )

pub items_push : (h : History) (w : ℕ) (x : Item) → items_of (h ++ (w, x) ∷ []) ≡ items_of h ++ x ∷ []
items_push h w x = map-append (λ (e : ℕ × Item). e.1) h ((w, x) ∷ [])

pub once_push : (h : History) (w : ℕ) (x : Item) → IsHistory h → has (items_of h) x ≡ false →
    IsHistory (h ++ (w, x) ∷ [])
once_push h w x once lacks =
    subst (IsDistinct same_item) (sym (items_push h w x)) (distinct_push (items_of h) x once lacks)

pub content_push : (h : History) (w : ℕ) (x : Item) → content (h ++ (w, x) ∷ []) ≡ add_item (content h) x
content_push h w x = ap set_of (items_push h w x) ∙ fold-append add_item [] (items_of h) (x ∷ [])

pub log_push : (cap next : ℕ) (h : History) (w : ℕ) (x : Item) → IsLog (log cap h next) → has (items_of h) x ≡ false →
    length h < cap → w < next → IsLog (log cap (h ++ (w, x) ∷ []) next)
log_push cap next h w x good lacks room below = record {
  once = once_push h w x good.once lacks;
  fits = omega (arith, length-append h ((w, x) ∷ []));
  cap = good.cap;
  writers = All-append (λ (e : ℕ × Item). e.0 < next) h ((w, x) ∷ []) good.writers (below, tt);
  next_writer = good.next_writer;
}

-- ---- what a log opens with

once_with : (h : History) (x : Item) (b : Bool) → has (items_of h) x ≡ b → IsHistory h →
    IsHistory (if b then h else h ++ (0, x) ∷ [])
once_with h x true e once = once
once_with h x false e once = once_push h 0 x once e

once_after : (h : History) (xs : List Item) → IsHistory h → IsHistory (fold with_item h xs)
once_after h [] once = once
once_after h (x ∷ xs) once = once_after (with_item h x) xs (once_with h x (has (items_of h) x) refl once)

none_once : IsHistory []
unfolding IsDistinct
none_once = tt

pub once_opened : (xs : List Item) → IsHistory (opening_history xs)
once_opened xs = once_after [] xs none_once

writers_with : (n : ℕ) (h : History) (x : Item) (b : Bool) → 1 ≤ n → AllByRecursion (λ e. e.0 < n) h →
    AllByRecursion (λ e. e.0 < n) (if b then h else h ++ (0, x) ∷ [])
writers_with n h x true some below = below
writers_with n h x false some below = All-append (λ (e : ℕ × Item). e.0 < n) h ((0, x) ∷ []) below (omega arith, tt)

writers_after : (n : ℕ) (h : History) (xs : List Item) → 1 ≤ n → AllByRecursion (λ e. e.0 < n) h →
    AllByRecursion (λ e. e.0 < n) (fold with_item h xs)
writers_after n h [] some below = below
writers_after n h (x ∷ xs) some below =
    writers_after n (with_item h x) xs some (writers_with n h x (has (items_of h) x) some below)

pub writers_opened : (n : ℕ) (xs : List Item) → 1 ≤ n → AllByRecursion (λ e. e.0 < n) (opening_history xs)
writers_opened n xs some = writers_after n [] xs some tt

content_by : (h : History) (x : Item) (b : Bool) → has (items_of h) x ≡ b →
    content (if b then h else h ++ (0, x) ∷ []) ≡ add_item (content h) x
content_by h x true e = sym (add_again (content h) x (set_of_is_set (items_of h)) (has_set_of (items_of h) x ∙ e))
content_by h x false e = content_push h 0 x

content_after : (h : History) (xs : List Item) → content (fold with_item h xs) ≡ union (content h) xs
content_after h [] = refl
content_after h (x ∷ xs) =
    content_after (with_item h x) xs ∙ ap (λ A. union A xs) (content_by h x (has (items_of h) x) refl)

pub length_opened : (xs : List Item) → length (opening_history xs) ≡ length (set_of xs)
length_opened xs =
    sym (length-content (opening_history xs) (once_opened xs)) ∙ ap length (content_after [] xs)

-- ---- a history that opens only grows

length_with : (h : History) (x : Item) (b : Bool) → length h ≤ length (if b then h else h ++ (0, x) ∷ [])
length_with h x true = omega arith
length_with h x false = omega (arith, length-append h ((0, x) ∷ []))

length_after : (h : History) (xs : List Item) → length h ≤ length (fold with_item h xs)
length_after h [] = omega arith
length_after h (x ∷ xs) =
    omega (arith, length_with h x (has (items_of h) x), length_after (with_item h x) xs)

-- what the first items make of it has no more entries than what all do
length_of_first : (n : ℕ) (h : History) (xs : List Item) →
    length (fold with_item h (take n xs)) ≤ length (fold with_item h xs)
length_of_first n h xs =
    let all : fold with_item h xs ≡ fold with_item (fold with_item h (take n xs)) (drop n xs) =
    ap (fold with_item h) (sym (take-append-drop n xs)) ∙ fold-append with_item h (take n xs) (drop n xs) in
    omega (arith, ap length all, length_after (fold with_item h (take n xs)) (drop n xs))

-- the first items open a log, and the others come to it
pub opened_on : (n : ℕ) (xs front others : List Item) (h : History) → front ≡ take n xs → others ≡ drop n xs →
    h ≡ opening_history front → fold with_item h others ≡ opening_history xs
opened_on n xs front others h is_front are_others opened =
    (λ i. fold with_item (opened i) (are_others i)) ∙ ap (λ f. fold with_item (opening_history f) (drop n xs)) is_front
    ∙ sym (fold-append with_item [] (take n xs) (drop n xs)) ∙ ap opening_history (take-append-drop n xs)

-- ---- one insert

new_in : (cap : ℕ) (h : History) (x : Item) (v : ℕ) (b : Bool) → has (content h) x ≡ b →
    histories.New v ≡ insertion cap h x → has (items_of h) x ≡ false
new_in cap h x v true e told = absurd (grind arith)
new_in cap h x v false e told = sym (has_set_of (items_of h) x) ∙ e

lacks_in : (cap : ℕ) (h : History) (x : Item) (b : Bool) → has (content h) x ≡ b →
    histories.Full ≡ insertion cap h x → has (items_of h) x ≡ false
lacks_in cap h x true e told = absurd (grind arith)
lacks_in cap h x false e told = sym (has_set_of (items_of h) x) ∙ e

old_by : (cap : ℕ) (h : History) (x : Item) (b room : Bool) → has (content h) x ≡ b →
    nat_lt (length (content h)) cap ≡ room → histories.Already ≡ insertion cap h x → b ≡ true
old_by cap h x true room e r told = refl
old_by cap h x false true e r told = absurd (grind arith)
old_by cap h x false false e r told = absurd (grind arith)

old_in : (cap : ℕ) (h : History) (x : Item) → histories.Already ≡ insertion cap h x → has (items_of h) x ≡ true
old_in cap h x told =
    sym (has_set_of (items_of h) x)
    ∙ old_by cap h x (has (content h) x) (nat_lt (length (content h)) cap) refl refl told

with_new : (h : History) (x : Item) → has (items_of h) x ≡ false → with_item h x ≡ h ++ (0, x) ∷ []
with_new h x new = ap (λ b. if b then h else h ++ (0, x) ∷ []) new

with_old : (h : History) (x : Item) → has (items_of h) x ≡ true → with_item h x ≡ h
with_old h x old = ap (λ b. if b then h else h ++ (0, x) ∷ []) old

-- what an insert by writer 0 makes of a history, where there was room
pub added_is : (cap next : ℕ) (h : History) (x : Item) (a : Added) →
    IfSome (insertion_in (Ok a)) (λ o. o ≡ insertion cap h x) →
    log_after (log cap h next) 0 x (insertion_in (Ok a)) ≡ log cap (with_item h x) next
added_is cap next h x (New v) told = let new = new_in cap h x v (has (content h) x) refl told in
    ap (λ g. log cap g next) (sym (with_new h x new))
added_is cap next h x Already told = ap (λ g. log cap g next) (sym (with_old h x (old_in cap h x told)))

-- where there was none, all items are more than the cap
pub full_is : (cap : ℕ) (h : History) (xs : List Item) (k : ℕ) (x : Item) → k < length xs → x ≡ get_or xs k x →
    length (fold with_item h (take k xs)) ≡ cap →
    histories.Full ≡ insertion cap (fold with_item h (take k xs)) x → cap < length (fold with_item h xs)
full_is cap h xs k x low at same told =
    let g : History = fold with_item h (take k xs) in
    let more : fold with_item h (take (k + 1) xs) ≡ with_item g x =
    fold_more with_item h xs k x low ∙ ap (λ y. with_item g y) (sym at) in
    let new = lacks_in cap g x (has (content g) x) refl told in
    let grown = ap length (more ∙ with_new g x new) in
    omega (arith, length-append g ((0, x) ∷ []), length_of_first (k + 1) h xs)

-- ---- the items of the first entries, one more

pub items_more : (h : History) (k : ℕ) (e : ℕ × Item) → k < length h → slice_get h k ≡ Some e →
    items_of (take (k + 1) h) ≡ items_of (take k h) ++ e.1 ∷ []
items_more h k e low is =
    ap items_of (take_more h k e low)
    ∙ map-append (λ (a : ℕ × Item). a.1) (take k h) (get_or h k e ∷ [])
    ∙ ap (λ (a : ℕ × Item). items_of (take k h) ++ a.1 ∷ []) (get_or_from_slice_get h k e e is)
