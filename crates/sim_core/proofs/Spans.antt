-- The sets of two spans of numbers: what one has and the other lacks.
use Rattle.std.proofs.Common.{◌≡◌, ◌≢◌, ℕ, zero, suc, ◌+◌, ◌-◌, ◌^◌, ◌<◌, ◌≤◌, ◌∙◌, Bool, true, false, not, ◌||◌, List}
use Rattle.std.proofs.Common.{[], ◌∷◌}
use Rattle.std.proofs.Common.{◌/◌, min, if◌then◌else◌, ◌⊎◌, inl, inr, append-nil, append_assoc, ◌++◌, length, filter}
use Rattle.std.proofs.Common.{take, refl, sym, ap, subst, arith}
use Rattle.std.specs.Int.{w32, to_be_bytes, from_be_bytes}
use Rattle.std.specs.List.{list_any}
use Rattle.std.specs.Ordering.{match_ordering}
use Rattle.std.specs.declared.cmp.Ordering.{Ordering}
use Rattle.std.specs.declared.cmp.Ordering.TheVariants.{Less, Equal, Greater}
use Rattle.std.proofs.lemmas.Bool.{cases_lt, false≢true}
use Rattle.std.proofs.lemmas.List.{take-take, take_at}
use Rattle.store_core.proofs.Made.{has_set_of}
use Rattle.sim_core.specs.declared.sample.Sample.{Sample}
use Rattle.std.proofs.lemmas.Nat.{from_be_bytes-to_be_bytes_4}
use Rattle.definitions.proofs.Lemmas.{same_item-eq, same_item-itself, item_cmp-eq, list_any-append, fold-append}
use Rattle.definitions.specs.Items.{Item, item_cmp, same_item}
use Rattle.definitions.specs.Sets.{has, add_item, set_of, difference}
use Rattle.sim_core.specs.Samples.{AreMade, IsSample, only_theirs, only_ours, theirs_of, ours_of, first_word, words_to}
use Rattle.sim_core.specs.Samples.{word_at, items_from, item_text}
use Rattle.sim_core.proofs.Scattered.{first-word-own}

counts-b : (x : Item) (l : List Item) (b : Bool) →
    length (if b then x ∷ l else l) ≡ length (if b then x ∷ [] else []) + length l
counts-b x l true = omega arith
counts-b x l false = omega arith

put-counts : (p : Item → Bool) (x y : Item) (ys : List Item) (o : Ordering) → o ≢ Equal →
    length (filter p (add_item ys x)) ≡ length (filter p (x ∷ [])) + length (filter p ys) →
    length (filter p (match_ordering o (x ∷ y ∷ ys) (y ∷ ys) (y ∷ add_item ys x)))
    ≡ length (filter p (x ∷ [])) + length (filter p (y ∷ ys))
put-counts p x y ys Less differ rest = counts-b x (filter p (y ∷ ys)) (p x)
put-counts p x y ys Equal differ rest = absurd (differ refl)
put-counts p x y ys Greater differ rest = omega (
  arith,
  counts-b y (filter p (add_item ys x)) (p y),
  counts-b y (filter p ys) (p y),
  rest,
)

parted : (a b : Bool) → (a || b) ≡ false → (a ≡ false) × (b ≡ false)
parted true b is = absurd (false≢true (sym is))
parted false b is = (refl, is)

add-counts : (p : Item → Bool) (A : List Item) (x : Item) → has A x ≡ false →
    length (filter p (add_item A x)) ≡ length (filter p (x ∷ [])) + length (filter p A)
add-counts p [] x lacks = omega arith
add-counts p (y ∷ ys) x lacks =
    let both = parted (same_item x y) (has ys x) lacks in
    put-counts p x y ys (item_cmp x y)
    (λ e. false≢true (sym both.0 ∙ subst (λ z. same_item x z ≡ true) (item_cmp-eq x y e) (same_item-itself x)))
    (add-counts p ys x both.1)

-- ---- each number's item

-- it begins with the first word
front : (n k : ℕ) → (rest : List ℕ) × (words_to n (suc k) ≡ to_be_bytes w32 (first_word n) ++ rest)
front n zero = ([], sym (append-nil (to_be_bytes w32 (first_word n))))
front n (suc k) =
    let word = to_be_bytes w32 (word_at n (suc k)) in
    let before = front n k in
    (before.0 ++ word, ap (λ l. l ++ word) before.1 ∙ append_assoc (to_be_bytes w32 (first_word n)) before.0 word)

first-of : (size n : ℕ) → 4 ≤ size → take 4 (item_text size n) ≡ to_be_bytes w32 (first_word n)
first-of size n long =
    let before = front n 15 in
    take-take 4 size (words_to n 16) long ∙ ap (λ l. take 4 l) before.1
    ∙ take_at (to_be_bytes w32 (first_word n)) before.0 4 refl

pub item-own : (size n m : ℕ) → 4 ≤ size → n < 2 ^ 32 → m < 2 ^ 32 → item_text size n ≡ item_text size m → n ≡ m
item-own size n m long few few2 same =
    let below : first_word n < 2 ^ 32 = omega arith in
    let below2 : first_word m < 2 ^ 32 = omega arith in
    let words : to_be_bytes w32 (first_word n) ≡ to_be_bytes w32 (first_word m) = sym (first-of size n long)
    ∙ ap (λ l. take 4 l) same ∙ first-of size m long in
    first-word-own n m few few2 (sym (from_be_bytes-to_be_bytes_4 (first_word n) below)
    ∙ ap (λ l. from_be_bytes w32 l) words ∙ from_be_bytes-to_be_bytes_4 (first_word m) below2)

other : (x y : Item) (b : Bool) → same_item x y ≡ b → x ≢ y → b ≡ false
other x y true is differ = absurd (differ (same_item-eq x y is))
other x y false is differ = refl

or-false : (a b : Bool) → a ≡ false → b ≡ false → (a || (b || false)) ≡ false
or-false a b is is2 = subst (λ c. (c || (b || false)) ≡ false) (sym is)
    (subst (λ c. (c || false) ≡ false) (sym is2) refl)

or-first : (a b : Bool) → a ≡ true → (a || b) ≡ true
or-first a b is = subst (λ c. (c || b) ≡ true) (sym is) refl

or-last : (a b : Bool) → b ≡ true → (a || (b || false)) ≡ true
or-last true b is = refl
or-last false b is = subst (λ c. (c || false) ≡ true) (sym is) refl

-- no number of the span is n
has-none : (size b m n : ℕ) → 4 ≤ size → n < 2 ^ 32 → b + m ≤ 2 ^ 32 → ((j : ℕ) → j < m → n ≢ b + j) →
    has (items_from size b m) (item_text size n) ≡ false
has-none size b zero n long few room away = refl
has-none size b (suc m) n long few room away =
    let x = item_text size n in
    let y = item_text size (b + m) in
    let rest = has-none size b m n long few (omega (arith, room)) (λ j less. away j (omega (arith, less))) in
    let last : same_item x y ≡ false = other x y (same_item x y) refl
    (λ e. away m (omega arith) (item-own size n (b + m) long few (omega (arith, room)) e)) in
    list_any-append (same_item x) (items_from size b m) (y ∷ [])
    ∙ or-false (has (items_from size b m) x) (same_item x y) rest last

-- one number of the span is n
has-at : (size b m j n : ℕ) → j < m → n ≡ b + j → has (items_from size b m) (item_text size n) ≡ true
has-at size b zero j n less is = absurd (omega (arith, less))
has-at size b (suc m) j n less is =
    let x = item_text size n in
    let y = item_text size (b + m) in
    let last : (j ≡ m) → same_item x y ≡ true =
    (λ e. subst (λ k. same_item x (item_text size k) ≡ true) (is ∙ ap (λ i. b + i) e) (same_item-itself x)) in
    list_any-append (same_item x) (items_from size b m) (y ∷ []) ∙ elim (cases_lt j m) [
      | inl before ↦ or-first (has (items_from size b m) x) (same_item x y || false) (has-at size b m j n before is)
      | inr after ↦ or-last (has (items_from size b m) x) (same_item x y) (last (omega (arith, after, less)))
    ]

-- ---- counts

set-counts : (p : Item → Bool) (size a k : ℕ) → 4 ≤ size → a + suc k ≤ 2 ^ 32 →
    length (filter p (set_of (items_from size a (suc k))))
    ≡ length (filter p (item_text size (a + k) ∷ [])) + length (filter p (set_of (items_from size a k)))
set-counts p size a k long room =
    let xs = items_from size a k in
    let x = item_text size (a + k) in
    let lacks : has (set_of xs) x ≡ false = has_set_of xs x
    ∙ has-none size a k (a + k) long (omega (arith, room)) (omega (arith, room)) (λ j less e. omega (arith, less, e)) in
    ap (λ l. length (filter p l)) (fold-append add_item [] xs (x ∷ [])) ∙ add-counts p (set_of xs) x lacks

-- where each number adds what g adds
counts-to : (p : Item → Bool) (size a : ℕ) (g : ℕ → ℕ) (k : ℕ) → 4 ≤ size → a + k ≤ 2 ^ 32 → g 0 ≡ 0 →
    ((j : ℕ) → j < k → length (filter p (item_text size (a + j) ∷ [])) + g j ≡ g (suc j)) →
    length (filter p (set_of (items_from size a k))) ≡ g k
counts-to p size a g zero long room none each = sym none
counts-to p size a g (suc k) long room none each =
    let before = counts-to p size a g k long (omega (arith, room)) none (λ j less. each j (omega (arith, less))) in
    set-counts p size a k long room ∙ ap (λ n. length (filter p (item_text size (a + k) ∷ [])) + n) before
    ∙ each k (omega arith)

passes : (p : Item → Bool) (x : Item) → p x ≡ true → length (filter p (x ∷ [])) ≡ 1
passes p x is = subst (λ b. length (if b then x ∷ [] else []) ≡ 1) (sym is) refl

stops : (p : Item → Bool) (x : Item) → p x ≡ false → length (filter p (x ∷ [])) ≡ 0
stops p x is = subst (λ b. length (if b then x ∷ [] else []) ≡ 0) (sym is) refl

lacking : (size b m n : ℕ) → 4 ≤ size → n < 2 ^ 32 → b + m ≤ 2 ^ 32 → ((j : ℕ) → j < m → n ≢ b + j) →
    not (has (set_of (items_from size b m)) (item_text size n)) ≡ true
lacking size b m n long few room away = ap not (has_set_of (items_from size b m) (item_text size n)
    ∙ has-none size b m n long few room away)

having : (size b m j n : ℕ) → j < m → n ≡ b + j →
    not (has (set_of (items_from size b m)) (item_text size n)) ≡ false
having size b m j n less is = ap not (has_set_of (items_from size b m) (item_text size n)
    ∙ has-at size b m j n less is)

-- the numbers from 0 to n, and those from d to e
theirs-alone : (size n d m : ℕ) → 4 ≤ size → n ≤ 2 ^ 32 → d + m ≤ 2 ^ 32 → d ≤ n → n ≤ d + m →
    length (difference (set_of (items_from size 0 n)) (set_of (items_from size d m))) ≡ d
theirs-alone size n d m long room room2 less reach =
    let p : Item → Bool = λ x. not (has (set_of (items_from size d m)) x) in
    counts-to p size 0 (λ j. min j d) n long (omega (arith, room)) (omega arith) (λ j few. elim (cases_lt j d) [
      | inl before ↦ omega (
        arith,
        before,
        passes p (item_text size (0 + j)) (lacking size d m (0 + j) long
            (omega (arith, few, room)) room2 (λ i small e. omega (arith, e, before))),
      )
      | inr after ↦ omega (
        arith,
        after,
        stops p (item_text size (0 + j)) (having size d m (j - d) (0 + j)
            (omega (arith, after, few, reach)) (omega (arith, after))),
      )
    ]) ∙ omega (arith, less)

ours-alone : (size n d m : ℕ) → 4 ≤ size → n ≤ 2 ^ 32 → d + m ≤ 2 ^ 32 → d ≤ n → n ≤ d + m →
    length (difference (set_of (items_from size d m)) (set_of (items_from size 0 n))) ≡ d + m - n
ours-alone size n d m long room room2 less reach =
    let p : Item → Bool = λ x. not (has (set_of (items_from size 0 n)) x) in
    counts-to p size d (λ j. d + j - n) m long room2 (omega (arith, less)) (λ j few. elim (cases_lt (d + j) n) [
      | inl before ↦ omega (
        arith,
        before,
        stops p (item_text size (d + j)) (having size 0 n (d + j) (d + j) before
            (omega arith)),
      )
      | inr after ↦ omega (
        arith,
        after,
        passes p (item_text size (d + j)) (lacking size 0 n (d + j) long
            (omega (arith, few, room2)) (omega (arith, room)) (λ i small e. omega (arith, e, small, after))),
      )
    ])

every : (xs : List Item) → filter (λ (x : Item). true) xs ≡ xs
every [] = refl
every (x ∷ xs) = ap (λ l. x ∷ l) (every xs)

size-of : (size a k : ℕ) → 4 ≤ size → a + k ≤ 2 ^ 32 → length (set_of (items_from size a k)) ≡ k
size-of size a k long room = ap length (sym (every (set_of (items_from size a k))))
    ∙ counts-to (λ x. true) size a (λ j. j) k long room refl (λ j less. omega arith)

pub are_made : (s : Sample) (theirs ours : List Item) → IsSample s → theirs ≡ theirs_of s → ours ≡ ours_of s →
    AreMade s theirs ours
are_made s theirs ours is one two =
    let d = only_theirs s in
    let m = s.items + only_ours s - d in
    let half : s.differences / 2 ≤ s.differences = omega arith in
    let less : d ≤ s.items = omega (arith, is.differences) in
    let room : s.items ≤ 2 ^ 32 = omega (arith, is.items) in
    let room2 : d + m ≤ 2 ^ 32 = omega (arith, is.items, is.differences, half, less) in
    let reach : s.items ≤ d + m = omega (arith, less) in
    let first = theirs-alone s.length s.items d m is.long room room2 less reach in
    let second = ours-alone s.length s.items d m is.long room room2 less reach in
    record {
      first = one;
      second = two;
      first_size = ap length one ∙ size-of s.length 0 s.items is.long (omega (arith, room));
      second_size = ap length two ∙ size-of s.length d m is.long room2;
      first_alone = subst (λ l. length (difference l ours) ≡ d) (sym one)
          (subst (λ l. length (difference (theirs_of s) l) ≡ d) (sym two) first);
      second_alone = subst (λ l. length (difference l theirs) ≡ only_ours s) (sym two)
          (subst (λ l. length (difference (ours_of s) l) ≡ only_ours s) (sym one)
          (second ∙ omega (arith, less, reach)));
    }

pub fit : (s : Sample) (theirs ours : List Item) → AreMade s theirs ours →
    (length theirs ≤ s.items) × (length ours ≤ s.items)
fit s theirs ours made = (omega (arith, made.first_size), omega (arith, made.second_size))

pub made_alike : (s : Sample) (theirs ours A B : List Item) → AreMade s theirs ours → A ≡ theirs → B ≡ ours →
    AreMade s A B
made_alike s theirs ours A B made one two =
    subst (λ l. AreMade s l B) (sym one) (subst (λ l. AreMade s theirs l) (sym two) made)
