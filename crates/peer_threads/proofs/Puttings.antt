-- What was put in after some of the first items.
--
-- Whatever the items that are left come to, the items so far come to it from the start on, with what was left out so
-- far. So one item more is one step of the same, by cases on what came of it.
use Rattle.std.proofs.Common.{◌≡◌, ℕ, ◌+◌, ◌-◌, ◌<◌, ◌≤◌, List, [], ◌∷◌, ◌++◌, length, take, drop, Some, Option}
use Rattle.std.proofs.Common.{Bool, true, ◌&&◌, sym, ap, subst, ◌∙◌, arith, inl, inr}
use Rattle.std.specs.List.{slice_get}
use Rattle.std.proofs.lemmas.List.{drop_all, length-drop, length-take-le}
use Rattle.definitions.specs.Items.{Item}
use Rattle.definitions.specs.Histories.{History}
use Rattle.definitions.proofs.Lemmas.{and_parts}
use Rattle.store_core.proofs.Packs.{first_at}
use Rattle.version_log.specs.declared.answer.Added.TheVariants.{New, Already}
use Rattle.version_lock.specs.declared.view.View.{View}
use Rattle.shard_core.specs.declared.shard.OneShard.{OneShard}
use Rattle.shard_core.specs.Floors.{keeps}
use Rattle.shard_core.specs.declared.floor.Floor.{Floor}
use Rattle.peer_threads.specs.Workers.{PutInOrDropped, PutInAll, IsSettled, Says, are_own, is_own, may_stand}

-- `All xs old now out`: these were put in, and so many of them left out
module _ {V : Type 0} (All : List Item → V → V → ℕ → Type 0) where
  -- what the rest comes to, all come to
  abbrev pub Puts : List Item → List Item → V → V → ℕ → Type 0
  Puts xs rest old now out = (w : V) (n : ℕ) → All rest now w n → All xs old w (out + n)

  pub puts-none : (xs : List Item) (v : V) → Puts xs xs v v 0
  puts-none xs v w n all = subst (All xs v w) (omega arith) all

  -- what came of the item at this place is a step of all that may come after it
  pub puts-one : (items : List Item) (first i : ℕ) (x : Item) (old now next : V) (out one : ℕ) →
      first ≤ length items → i < first → slice_get items i ≡ Some x →
      Puts (take first items) (drop i (take first items)) old now out →
      ((left : List Item) (w : V) (n : ℕ) → All left next w n → All (x ∷ left) now w (one + n)) →
      Puts (take first items) (drop (i + 1) (take first items)) old next (out + one)
  puts-one items first i x old now next out one within low is so step w n all =
      let xs = take first items in
      let at = first_at items first i x within low is in
      let same : out + (one + n) ≡ out + one + n = omega arith in
      subst (All xs old w) same (so w (one + n)
      (subst (λ l. All l now w (one + n)) (sym at) (step (drop (i + 1) xs) w n all)))

  -- the item at this place is left out, and all after it
  pub drops-rest : (items : List Item) (first i : ℕ) (x : Item) (old now next : V) (out : ℕ) →
      first ≤ length items → i < first → slice_get items i ≡ Some x →
      Puts (take first items) (drop i (take first items)) old now out →
      ((left : List Item) (n : ℕ) → n ≡ length (x ∷ left) → All (x ∷ left) now next n) →
      All (take first items) old next (out + (first - i))
  drops-rest items first i x old now next out within low is so step =
      let xs = take first items in
      let at = first_at items first i x within low is in
      let size = length-take-le first items within in
      let rest = length-drop i xs in
      let count : first - i ≡ length (drop i xs) = omega arith in
      so next (first - i) (subst (λ l. All l now next (first - i)) (sym at)
      (step (drop (i + 1) xs) (first - i) (count ∙ ap (λ (l : List Item). length l) at)))

  -- no item is left
  pub puts-all : (items : List Item) (first i : ℕ) (old now : V) (out : ℕ) → first ≤ length items → first ≤ i →
      Puts (take first items) (drop i (take first items)) old now out → All [] now now 0 →
      All (take first items) old now out
  puts-all items first i old now out within past so none =
      let xs = take first items in
      let size = length-take-le first items within in
      let nothing = drop_all i xs (omega arith) in
      subst (All xs old now) (omega arith) (so now 0 (subst (λ l. All l now now 0) (sym nothing) none))

-- the first of what was learned, as many as are let in
pub settled : (gate : Says) (own : Option OneShard) (floor : Floor) (xs ys : List Item) (v w : View)
    (serial size count first dropped : ℕ) → ys ≡ xs → size ≡ length ys → gate.lets_in serial size count →
    gate.floors floor → take first ys ≡ take count ys → first ≡ length (take count ys) →
    PutInAll (may_stand own floor) (take first ys) v w dropped →
    IsSettled gate serial own xs v w (size - first + dropped)
settled gate own floor xs ys v w serial size count first dropped same sized admits below front counted puts =
    subst (λ (zs : List Item). IsSettled gate serial own zs v w (size - first + dropped)) same (
      count,
      dropped,
      floor,
      subst (λ (n : ℕ). gate.lets_in serial n count) sized admits,
      below,
      subst (λ (zs : List Item). PutInAll (may_stand own floor) zs v w dropped) front puts,
      λ i. sized i - counted i + dropped,
    )

-- ---- what was entered is of the shard

are_own_push : (own : Option OneShard) (h : History) (e : ℕ × Item) → are_own own h ≡ true → is_own own e.1 ≡ true →
    are_own own (h ++ e ∷ []) ≡ true
are_own_push own [] e all one = ap (λ b. b && true) one
are_own_push own (d ∷ h) e all one =
    let parts = and_parts (is_own own d.1) (are_own own h) all in
    ap (λ b. b && are_own own (h ++ e ∷ [])) parts.0 ∙ are_own_push own h e parts.1 one

-- what may be put in is of the shard
abbrev Only : Option OneShard → (Item → Bool) → Type 0
Only own may = (x : Item) → may x ≡ true → is_own own x ≡ true

one_own : (own : Option OneShard) (may : Item → Bool) (x : Item) (v w : View) (out : ℕ) → Only own may →
    PutInOrDropped may x v w out → are_own own v.entered ≡ true → are_own own w.entered ≡ true
one_own own may x v w out only (inl (is, inl ((New version, entered), none))) all =
    subst (λ h. are_own own h ≡ true) (sym entered.entered.0)
    (are_own_push own v.entered (entered.writer, x) all (only x is))
one_own own may x v w out only (inl (is, inl ((Already, looked), none))) all =
    subst (λ h. are_own own h ≡ true) (sym looked.0.nothing.0) all
one_own own may x v w out only (inl (is, inr (full, one))) all =
    subst (λ h. are_own own h ≡ true) (sym full.0.nothing.0) all
one_own own may x v w out only (inr (foreign, same, one)) all =
    subst (λ (u : View). are_own own u.entered ≡ true) (sym same) all

pub all_own : (own : Option OneShard) (may : Item → Bool) (xs : List Item) (v w : View) (out : ℕ) → Only own may →
    PutInAll may xs v w out → are_own own v.entered ≡ true → are_own own w.entered ≡ true
all_own own may [] v w out only (same, none) all = subst (λ (u : View). are_own own u.entered ≡ true) (sym same) all
all_own own may (x ∷ xs) v w out only (inl (next, one, others, put, rest, sum)) all =
    all_own own may xs next w others only rest (one_own own may x v next one only put all)
all_own own may (x ∷ xs) v w out only (inr (memory, count)) all =
    subst (λ h. are_own own h ≡ true) (sym memory.0.nothing.0) all

pub settled_own : (gate : Says) (serial : ℕ) (own : Option OneShard) (xs : List Item) (v w : View) (left : ℕ) →
    IsSettled gate serial own xs v w left → are_own own v.entered ≡ true → are_own own w.entered ≡ true
settled_own gate serial own xs v w left (count, dropped, floor, lets, below, puts, is) all =
    all_own own (may_stand own floor) (take count xs) v w dropped
    (λ x stands. (and_parts (is_own own x) (keeps floor x) stands).0) puts all
