-- A seat takes in items one after the other.
-- What a log has it has from then on (`has_more`), and a beginning of what a seat has seen is one of what it has seen
-- later (`starts_further`), so what was said of an item before stays true (`there_later`). Of the item itself it is
-- true after it was added or left out (`there_now`). So one item more is taken after the others (`took_next`).
use Rattle.std.proofs.Common.{◌≡◌, ◌⊎◌, ℕ, ◌+◌, ◌<◌, List, [], ◌∷◌, ◌++◌, Bool, true, false, inl, inr, refl, sym, ap}
use Rattle.std.proofs.Common.{◌∙◌, subst, length, take, get_or, suc, arith, append_assoc, append-nil}
use Rattle.std.proofs.Common.{Option, Some, Result, Ok, Err, ◌≤◌, if◌then◌else◌}
use Rattle.std.specs.Prelude.{nat_lt}
use Rattle.std.specs.List.{Contains, list_any}
use Rattle.std.proofs.lemmas.List.Elements.{Contains-push_cases, Contains-append_cases, Contains-push}
use Rattle.std.proofs.lemmas.List.Elements.{Contains-append_left}
use Rattle.std.proofs.lemmas.List.Folds.{list_any-append}
use Rattle.std.proofs.lemmas.List.{map-append}
use Rattle.std.proofs.Math.Seq.{take-suc}
use Rattle.std.proofs.lemmas.Bool.{or_left, or_right}
use Rattle.definitions.specs.Items.{Item, same_item}
use Rattle.definitions.specs.Sets.{has}
use Rattle.definitions.specs.Histories.{History, content, insertion, items_of}
use Rattle.definitions.specs.Histories as histories
use Rattle.definitions.proofs.Equality.{same_item-itself}
use Rattle.store_core.proofs.Made.{has_set_of}
use Rattle.shard_core.specs.declared.shard.OneShard.{OneShard}
use Rattle.version_log.specs.declared.answer.Added.{Added}
use Rattle.version_log.specs.declared.answer.Added.TheVariants.{New, Already}
use Rattle.version_log.specs.declared.answer.LogFault.TheVariants.{Full, Memory}
use Rattle.version_lock.specs.declared.view.View.{View}
use Rattle.version_lock.specs.Beginnings.{Entry, StartsWith}
use Rattle.version_lock.specs.Calls.{Looked}
use Rattle.peer_loops.specs.Chains.{IsThere, Took, left_out_by}
use Rattle.peer_loops.specs.Hands.{Adds}
use Rattle.peer_loops.specs.declared.hand.HandFault.{HandFault}
use Rattle.peer_loops.specs.declared.hand.HandFault.TheVariants.{Elsewhere, Log}

starts_further : (h seen old : History) → StartsWith h seen → StartsWith seen old → StartsWith h old
starts_further h seen old s t = (t.0 ++ s.0, s.1 ∙ (ap (λ (x : History). x ++ s.0) t.1 ∙ append_assoc old t.0 s.0))

has_more : (h g : History) (x : Item) → has (items_of h) x ≡ true → has (items_of (h ++ g)) x ≡ true
has_more h g x is =
    ap (list_any (same_item x)) (map-append (λ (e : Entry). e.1) h g)
    ∙ (list_any-append (same_item x) (items_of h) (items_of g)
    ∙ or_left (has (items_of h) x) (has (items_of g) x) is)

has_last : (h : History) (n : ℕ) (x : Item) → has (items_of (h ++ (n, x) ∷ [])) x ≡ true
has_last h n x =
    ap (list_any (same_item x)) (map-append (λ (e : Entry). e.1) h ((n, x) ∷ []))
    ∙ (list_any-append (same_item x) (items_of h) (x ∷ [])
    ∙ or_right (has (items_of h) x) (has (x ∷ []) x) (or_left (same_item x x) false (same_item-itself x)))

has_later : (h seen : History) (x : Item) → StartsWith h seen → has (items_of seen) x ≡ true →
    has (items_of h) x ≡ true
has_later h seen x begins is =
    ap (λ (l : History). has (items_of l) x) begins.1 ∙ has_more seen begins.0 x is

-- ---- one item

already_there : (b c : Bool) (n : ℕ) → (if b then histories.Already else if c then histories.New n else histories.Full)
    ≡ histories.Already → b ≡ true
already_there true c n e = refl
already_there false true n e = absurd (cc)
already_there false false n e = absurd (cc)

has_already : (cap : ℕ) (h : History) (x : Item) → insertion cap h x ≡ histories.Already → has (items_of h) x ≡ true
has_already cap h x e =
    sym (has_set_of (items_of h) x)
    ∙ already_there (has (content h) x) (nat_lt (length (content h)) cap) (length h + 1) e

same_seen : (v w : View) → Looked v w → StartsWith w.seen w.base
same_seen v w looked = ([], looked.seen ∙ sym (append-nil w.base))

looked_grew : (v w : View) → Looked v w → StartsWith w.seen v.seen
looked_grew v w looked = starts_further w.seen w.base v.seen (same_seen v w looked) looked.once.begins

grew : (own : Option OneShard) (x : Item) (v w : View) (r : Result Added HandFault) → Adds own x v w r →
    StartsWith w.seen v.seen
grew own x v w (Ok (New version)) (is, e) =
    starts_further w.seen w.base v.seen ((e.writer, x) ∷ [], e.seen) e.once.begins
grew own x v w (Ok Already) (is, (looked, already)) = looked_grew v w looked
grew own x v w (Err Elsewhere) (is, same) = ([], ap (λ (u : View). u.seen) same ∙ sym (append-nil v.seen))
grew own x v w (Err (Log Full)) (is, (looked, full, count)) = looked_grew v w looked
grew own x v w (Err (Log Memory)) (is, (looked, room)) = looked_grew v w looked

same_cap : (own : Option OneShard) (x : Item) (v w : View) (r : Result Added HandFault) → Adds own x v w r →
    w.cap ≡ v.cap
same_cap own x v w (Ok (New version)) (is, e) = e.once.cap
same_cap own x v w (Ok Already) (is, (looked, already)) = looked.once.cap
same_cap own x v w (Err Elsewhere) (is, same) = ap (λ (u : View). u.cap) same
same_cap own x v w (Err (Log Full)) (is, (looked, full, count)) = looked.once.cap
same_cap own x v w (Err (Log Memory)) (is, (looked, room)) = looked.once.cap

none_in : {X : Type 0} (x : X) → Contains [] x → ⊥
none_in x (i, below, is) = omega (arith, below)

-- what the seat has entered for it
abbrev Entering : Item → View → View → Type 0
Entering x v w = (more : History) × (w.entered ≡ v.entered ++ more) × ((e : Entry) → Contains more e → x ≡ e.1)

no_entry : (x : Item) (v w : View) → w.entered ≡ v.entered → Entering x v w
no_entry x v w same = ([], same ∙ sym (append-nil v.entered), (λ e c. absurd (none_in e c)))

one_of : (n : ℕ) (x : Item) (e : Entry) → Contains [] e ⊎ ((n, x) ≡ e) → x ≡ e.1
one_of n x e (inl none) = absurd (none_in e none)
one_of n x e (inr is) = ap (λ (d : Entry). d.1) is

one_entry : (n : ℕ) (x : Item) (e : Entry) → Contains ((n, x) ∷ []) e → x ≡ e.1
one_entry n x e c = one_of n x e (Contains-push_cases [] (n, x) e c)

entering : (own : Option OneShard) (x : Item) (v w : View) (r : Result Added HandFault) → Adds own x v w r →
    Entering x v w
entering own x v w (Ok (New version)) (is, e) = ((e.writer, x) ∷ [], e.entered.0, one_entry e.writer x)
entering own x v w (Ok Already) (is, (looked, already)) = no_entry x v w looked.nothing.0
entering own x v w (Err Elsewhere) (is, same) = no_entry x v w (ap (λ (u : View). u.entered) same)
entering own x v w (Err (Log Full)) (is, (looked, full, count)) = no_entry x v w looked.nothing.0
entering own x v w (Err (Log Memory)) (is, (looked, room)) = no_entry x v w looked.nothing.0

has_now : (own : Option OneShard) (x : Item) (v w : View) (did : Added) → Adds own x v w (Ok did) →
    has (items_of w.seen) x ≡ true
has_now own x v w (New version) (is, e) =
    ap (λ (l : History). has (items_of l) x) e.seen ∙ has_last w.base e.writer x
has_now own x v w Already (is, (looked, already)) =
    ap (λ (l : History). has (items_of l) x) looked.seen ∙ has_already w.cap w.base x already

-- ---- one item more

there_later : (own : Option OneShard) (cap : ℕ) (h seen : History) (x : Item) → StartsWith h seen →
    IsThere own cap seen x → IsThere own cap h x
there_later own cap h seen x begins (inl is) = inl (has_later h seen x begins is)
there_later own cap h seen x begins (inr (inl other)) = inr (inl other)
there_later own cap h seen x begins (inr (inr (g, early, full))) =
    inr (inr (g, starts_further h seen g begins early, full))

one_more : (xs : List Item) (x : Item) (before more : History) (e : Entry) →
    ((d : Entry) → Contains before d → Contains xs d.1) → ((d : Entry) → Contains more d → x ≡ d.1) →
    Contains before e ⊎ Contains more e → Contains (xs ++ x ∷ []) e.1
one_more xs x before more e all each (inl early) = Contains-append_left xs (x ∷ []) e.1 (all e early)
one_more xs x before more e all each (inr late) =
    subst (λ (y : Item). Contains (xs ++ x ∷ []) y) (each e late) (Contains-push xs x)

entered_more : (xs : List Item) (x : Item) (v m w : View) (left : ℕ) (own : Option OneShard) → Took own xs v m left →
    Entering x m w → (more : History) × (w.entered ≡ v.entered ++ more)
    × ((e : Entry) → Contains more e → Contains (xs ++ x ∷ []) e.1)
entered_more xs x v m w left own took (more, is, each) =
    let (before, was, all) = took.only in (
      before ++ more,
      is ∙ (ap (λ (l : History). l ++ more) was ∙ append_assoc v.entered before more),
      (λ e c. one_more xs x before more e all each (Contains-append_cases before more e c)),
    )

-- of the items before and of this one
of_each : (P : Item → Type 0) (xs : List Item) (x y : Item) → ((z : Item) → Contains xs z → P z) → P x →
    Contains xs y ⊎ (x ≡ y) → P y
of_each P xs x y all now (inl early) = all y early
of_each P xs x y all now (inr is) = subst P is now

took_put : (own : Option OneShard) (xs : List Item) (x : Item) (v m w : View) (left : ℕ) (did : Added) →
    Took own xs v m left → Adds own x m w (Ok did) → Took own (xs ++ x ∷ []) v w left
took_put own xs x v m w left did took adds =
    let begins = grew own x m w (Ok did) adds in
    let now = has_now own x m w did adds in
    let cap = sym (same_cap own x m w (Ok did) adds) in
    record {
      each = λ y c. of_each (IsThere own w.cap w.seen) xs x y
          (λ z d. there_later own w.cap w.seen m.seen z begins
          (subst (λ (k : ℕ). IsThere own k m.seen z) cap (took.each z d)))
          (inl now) (Contains-push_cases xs x y c);
      none = λ none y c. of_each (λ (z : Item). has (items_of w.seen) z ≡ true) xs x y
          (λ z d. has_later w.seen m.seen z begins (took.none none z d)) now (Contains-push_cases xs x y c);
      only = entered_more xs x v m w left own took (entering own x m w (Ok did) adds);
    }

left_now : (own : Option OneShard) (x : Item) (m w : View) (fault : HandFault) → Adds own x m w (Err fault) →
    (fault ≡ Log Memory → ⊥) → IsThere own w.cap w.seen x
left_now own x m w Elsewhere (is, same) other = inr (inl is)
left_now own x m w (Log Full) (is, (looked, full, count)) other = inr (inr (w.base, same_seen m w looked, full))
left_now own x m w (Log Memory) (is, (looked, room)) other = absurd (other refl)

took_left : (own : Option OneShard) (xs : List Item) (x : Item) (v m w : View) (left : ℕ) (fault : HandFault) →
    Took own xs v m left → Adds own x m w (Err fault) → (fault ≡ Log Memory → ⊥) →
    Took own (xs ++ x ∷ []) v w (left + 1)
took_left own xs x v m w left fault took adds other =
    let begins = grew own x m w (Err fault) adds in
    let cap = sym (same_cap own x m w (Err fault) adds) in
    record {
      each = λ y c. of_each (IsThere own w.cap w.seen) xs x y
          (λ z d. there_later own w.cap w.seen m.seen z begins
          (subst (λ (k : ℕ). IsThere own k m.seen z) cap (took.each z d)))
          (left_now own x m w fault adds other) (Contains-push_cases xs x y c);
      none = λ none. absurd (omega (arith, none));
      only = entered_more xs x v m w left own took (entering own x m w (Err fault) adds);
    }

some_is : (n count : ℕ) → Some n ≡ Some count → n ≡ count
some_is n count is = cc

took_more : (own : Option OneShard) (xs : List Item) (x : Item) (v m w : View) (left count : ℕ)
    (did : Result Added HandFault) → Took own xs v m left → Adds own x m w did → left_out_by did ≡ Some count →
    Took own (xs ++ x ∷ []) v w (left + count)
took_more own xs x v m w left count (Ok did) took adds is =
    subst (λ (n : ℕ). Took own (xs ++ x ∷ []) v w n) (omega (arith, some_is 0 count is))
    (took_put own xs x v m w left did took adds)
took_more own xs x v m w left count (Err Elsewhere) took adds is =
    subst (λ (n : ℕ). Took own (xs ++ x ∷ []) v w n) (omega (arith, some_is 1 count is))
    (took_left own xs x v m w left Elsewhere took adds (λ same. absurd (cc)))
took_more own xs x v m w left count (Err (Log Full)) took adds is =
    subst (λ (n : ℕ). Took own (xs ++ x ∷ []) v w n) (omega (arith, some_is 1 count is))
    (took_left own xs x v m w left (Log Full) took adds (λ same. absurd (cc)))
took_more own xs x v m w left count (Err (Log Memory)) took adds is = absurd (cc)

pub few_more : (did : Result Added HandFault) (count : ℕ) → left_out_by did ≡ Some count → count ≤ 1
few_more (Ok did) count is = omega (arith, some_is 0 count is)
few_more (Err Elsewhere) count is = omega (arith, some_is 1 count is)
few_more (Err (Log Full)) count is = omega (arith, some_is 1 count is)
few_more (Err (Log Memory)) count is = absurd (cc)

pub took_none : (own : Option OneShard) (v : View) → Took own [] v v 0
took_none own v = record {
  each = λ y c. absurd (none_in y c);
  none = λ is y c. absurd (none_in y c);
  only = ([], sym (append-nil v.entered), (λ e c. absurd (none_in e c)));
}

-- one item more of a slice
pub took_next : (own : Option OneShard) (xs : List Item) (n : ℕ) (x : Item) (v m w : View) (left count : ℕ)
    (did : Result Added HandFault) → n < length xs → x ≡ get_or xs n x → Took own (take n xs) v m left →
    Adds own x m w did → left_out_by did ≡ Some count → Took own (take (n + 1) xs) v w (left + count)
took_next own xs n x v m w left count did within is took adds more =
    let next : n + 1 ≡ suc n = omega arith in
    let front : take (n + 1) xs ≡ take n xs ++ x ∷ [] =
    ap (λ (k : ℕ). take k xs) next ∙ take-suc xs n x within ∙ ap (λ (y : Item). take n xs ++ y ∷ []) (sym is) in
    subst (λ (l : List Item). Took own l v w (left + count)) (sym front)
    (took_more own (take n xs) x v m w left count did took adds more)
