-- Each step at the word keeps the rule. The one log stays as it is while it is taken and looked at. Only the seat
-- that holds it gives it back: as it was, with one entry more, which is then in what its view entered, or with one
-- writer number given out, which its view counts. What every other view says of the log holds of the longer one too.
use Rattle.std.proofs.Common.{◌≡◌, ◌≢◌, ℕ, ◌+◌, ◌<◌, true, false, inl, inr, ⊎_elim, List, [], ◌∷◌, ◌++◌, length}
use Rattle.std.proofs.Common.{set, All, Contains, Option, Some, None}
use Rattle.std.proofs.Common.{refl, sym, ap, subst, ◌∙◌, arith, length-set, append-nil, append_assoc, get_or, Bool}
use Rattle.std.proofs.Common.{cond, ◌==◌, ◌⊎◌, eq-eqb, ne_eqb}
use Rattle.std.specs.List.{AllByRecursion}
use Rattle.std.proofs.lemmas.List.{append_cancel_left, length-append}
use Rattle.std.proofs.lemmas.List.Elements.{filter-append, All-nil, All-cons, All-append, Contains-push}
use Rattle.std.proofs.lemmas.List.Elements.{Contains-append_left}
use mathlib.Core.Option as maybe
use mathlib.Core.Option.{some, none}
use lib.ListN.{get_elem?}
use native.Mathlib.Decide.{ℕ_discrete}
use Rattle.atomic_table.specs.Table.{takes, keeps, gives, stepped, rest, Allows}
use Rattle.atomic_table.proofs.Lists.{set_else}
use Rattle.definitions.specs.Histories.{History}
use Rattle.version_log.specs.Logs.{LogState, IsLog, with_writer_given}
use Rattle.version_lock.specs.declared.view.View.{View}
use Rattle.version_lock.specs.Beginnings.{Entry, StartsWith, entries_by}
use Rattle.version_lock.specs.Lawful.{Table, Free, Held, Fits, Apart, OneLog, Blank, Shared, HasLog, Lawful, EnteredBy}
use Rattle.version_lock.specs.Lawful.{total}
use Rattle.version_lock.specs.Views.{HasWhole, MadeBy, found, with_entry, waited, holding, gave_back, added, enrolled}
use Rattle.version_lock.specs.Steps.{Mine, Tried, GaveBack, Added, Enrolled}
use Rattle.version_lock.proofs.Counts.{content_fits}
use Rattle.version_lock.proofs.Totals.{total_set, total_kept, total_more}
use Rattle.version_lock.proofs.Shares.{shared_step, holder_has_part, all_in_one, others_blank}
use Rattle.version_lock.proofs.Entering.{entered_set, entered_more}
use Rattle.version_lock.proofs.Seated.{At, not_both, not_true, set_only, set_there, same_view, each_set}
use Rattle.version_lock.proofs.Seated.{apart_set, apart_new}

-- the slots that a seat holds
abbrev Slots : Type 0
Slots = List (ℕ × Option LogState)

pub slot_first : {A : Type 0} (c : List (ℕ × A)) (x : ℕ × A) → c ≡ x ∷ [] → c ≡ x ∷ rest c
slot_first c x e = rw e refl

-- ---- histories with one entry more

still : (h : History) (e : Entry) (seen : History) → StartsWith h seen → StartsWith (h ++ e ∷ []) seen
still h e seen s = (s.0 ++ e ∷ [], ap (λ (x : History). x ++ e ∷ []) s.1 ∙ append_assoc seen s.0 (e ∷ []))

all_still : (h : History) (e : Entry) (joined : List History) → All (λ seen. StartsWith h seen) joined →
    All (λ seen. StartsWith (h ++ e ∷ []) seen) joined
all_still h e joined all k d low = still h e _ (all k d low)

own_more : (n : ℕ) (h : History) (e : Entry) → e.0 ≡ n → entries_by n (h ++ e ∷ []) ≡ entries_by n h ++ e ∷ []
own_more n h e same =
    filter-append (λ (x : Entry). x.0 == n) h (e ∷ [])
    ∙ ap (λ (b : Bool). entries_by n h ++ cond b (e ∷ []) []) (eq-eqb e.0 n same)

other_more : (n : ℕ) (h : History) (e : Entry) → e.0 ≢ n → entries_by n (h ++ e ∷ []) ≡ entries_by n h
other_more n h e other =
    filter-append (λ (x : Entry). x.0 == n) h (e ∷ []) ∙
    (ap (λ (b : Bool). entries_by n h ++ cond b (e ∷ []) []) (ne_eqb e.0 n other) ∙ append-nil (entries_by n h))

pub none_yet : (n : ℕ) (h : History) → AllByRecursion (λ (e : Entry). e.0 < n) h → entries_by n h ≡ []
none_yet n [] all = refl
none_yet n (e ∷ h) all = let low : e.0 < n = all.0 in rw (ne_eqb e.0 n (λ same. omega arith)) (none_yet n h all.1)

-- ---- what the views entered

-- how many entries these views entered, and how many numbers they were given
abbrev entries_of : List View → ℕ
entries_of = total (λ v. length v.entered)

abbrev numbers_of : List View → ℕ
numbers_of = total (λ v. v.numbers)

-- the log began as the opened one, and has what these views entered
abbrev pub Began : LogState → LogState → List View → Type 0
Began o l views =
    (l.cap ≡ o.cap)
    × ((b : StartsWith l.history o.history) × (length b.0 ≡ entries_of views) × All (EnteredBy views) b.0)
    × (l.next_writer ≡ o.next_writer + numbers_of views)

pub began_kept : (o l : LogState) (views : List View) (id : ℕ) (v w : View) → At views id v → w.entered ≡ v.entered →
    w.numbers ≡ v.numbers → Began o l views → Began o l (set views id w)
began_kept o l views id v w at same same' b = (
  b.0,
  (
    b.1.0,
    b.1.1 ∙ sym (total_kept (λ (u : View). length u.entered) views id v w at (ap length same)),
    λ k d low. entered_set views id v w at (λ e has. subst (λ (h : History). Contains h e) (sym same) has) _
        (b.1.2 k d low),
  ),
  b.2 ∙ ap (λ (n : ℕ). o.next_writer + n) (sym (total_kept (λ (u : View). u.numbers) views id v w at same')),
)

pub began_more : (o l : LogState) (views : List View) (w : View) → w.entered ≡ [] → w.numbers ≡ 0 → Began o l views →
    Began o l (views ++ w ∷ [])
began_more o l views w empty zero_of b =
    let len : length w.entered ≡ 0 = ap length empty in (
      b.0,
      (
        b.1.0,
        omega (arith, b.1.1, total_more (λ (u : View). length u.entered) views w),
        λ k d low. entered_more views w _ (b.1.2 k d low),
      ),
      omega (arith, b.2, zero_of, total_more (λ (u : View). u.numbers) views w),
    )

pub began : {o l : LogState} (s : Table) (r : OneLog o l s) → Began o l s.views
began s r = (r.cap, (r.begins, r.entries, r.each_later), r.numbers)

-- what the rule says of the word, the log at home and each view
abbrev pub Stands : LogState → Table → Type 0
Stands l s =
    (Free s l ⊎ Held s l) × ((j : ℕ) (u : View) → At s.views j u → u.spent ≡ false → Fits l u) × Apart s.views

-- that, and how the log began, are the rule
pub logs : (o l : LogState) (s : Table) → IsLog l → Stands l s → Began o l s.views → OneLog o l s
logs o l s good r b = record {
  is_log = good;
  place = r.0;
  each = r.1;
  apart = r.2;
  cap = b.0;
  begins = b.1.0;
  entries = b.1.1;
  each_later = b.1.2;
  numbers = b.2;
}

-- ---- a try

-- a view looks for the log: what it entered and counts stays, and what it says of the log
looked_at : {o l : LogState} (s : Table) (r : OneLog o l s) (id : ℕ) (v w : View) (words : List ℕ)
    (homes : List (maybe.Option (Option LogState))) → At s.views id v → (Fits l v → Fits l w) → w.spent ≡ v.spent →
    w.writer ≡ v.writer → w.entered ≡ v.entered → w.numbers ≡ v.numbers →
    Free record { words = words; homes = homes; views = set s.views id w } l
    ⊎ Held record { words = words; homes = homes; views = set s.views id w } l →
    OneLog o l record { words = words; homes = homes; views = set s.views id w }
looked_at {o} {l} s r id v w words homes at fits spent writer entered numbers place =
    logs o l record { words = words; homes = homes; views = set s.views id w } r.is_log (
      place,
      each_set (λ j u. u.spent ≡ false → Fits l u) s.views id w (λ live. fits (r.each id v at (sym spent ∙ live)))
          (λ j u _ e. r.each j u e),
      apart_set s.views id v w at spent writer r.apart,
    ) (began_kept o l s.views id v w at entered numbers (began s r))

-- the log is at home, and the seat takes it
takes_log : {o l : LogState} (s : Table) (r : OneLog o l s) (id : ℕ) (v : View) → At s.views id v → Free s l →
    OneLog o l (stepped s 0 1 id [] (holding l v) (takes 0 (Some l)))
takes_log {o} {l} s r id v at free = let w : View = holding l v in
    looked_at s r id v w (set s.words 0 1) (set s.homes 0 none) at
    (λ k. record { cap = k.cap; seen = k.seen; joined = k.joined; mine = k.mine }) refl refl refl refl
    (inr record {
      word = ap (λ (ws : List ℕ). set ws 0 1) free.word;
      away = length-set s.homes 0 none ∙ ap length free.home;
      holder = id;
      view = w;
      at = set_there s.views id w v at;
      holds = refl;
      base = (refl, refl);
      alone = each_set (λ j u. u.holding ≡ true → j ≡ id) s.views id w (λ _. refl)
          (λ j u _ e h. absurd (not_both h (free.nobody j u e)));
    })

-- where this view is not holding, the holder is another seat, and has the log after the view has changed
pub still_held : (s : Table) (l : LogState) (id : ℕ) (v w : View) (word : List ℕ) → At s.views id v →
    v.holding ≡ false → w.holding ≡ false → word ≡ 1 ∷ [] →
    Held s l → Held record { words = word; homes = s.homes; views = set s.views id w } l
still_held s l id v w word at idle idle' one held =
    let holding_at : held.holder ≡ id → held.view ≡ v = same_view s.views held.holder id held.view v held.at at in
    let other : held.holder ≢ id = λ e. not_both held.holds (ap (λ (u : View). u.holding) (holding_at e) ∙ idle) in
    record {
      word = one;
      away = held.away;
      holder = held.holder;
      view = held.view;
      at = set_else s.views id held.holder w other ∙ held.at;
      holds = held.holds;
      base = held.base;
      alone = each_set (λ j u. u.holding ≡ true → j ≡ held.holder) s.views id w (λ t. absurd (not_both t idle'))
          (λ j u _ e h. held.alone j u e h);
    }

-- another seat has the log
misses : {o l : LogState} (s : Table) (r : OneLog o l s) (id : ℕ) (v : View) (busy : ℕ) → At s.views id v →
    v.holding ≡ false → Held s l → OneLog o l (stepped s 0 1 id [] (waited busy v) keeps)
misses {o} {l} s r id v busy at idle held = let w : View = waited busy v in
    looked_at s r id v w (set s.words 0 1) s.homes at
    (λ k. record { cap = k.cap; seen = k.seen; joined = k.joined; mine = k.mine }) refl refl refl refl
    (inr (still_held s l id v w (set s.words 0 1) at idle idle (ap (λ (ws : List ℕ). set ws 0 1) held.word) held))

-- an entry that some view entered is one of this view's, if all others are blank
in_one : (views : List View) (id : ℕ) (v : View) (at : At views id v) →
    ((j : ℕ) (u : View) → j ≢ id → At views j u → Blank u) → (e : Entry) → (by : EnteredBy views e) → Dec (by.0 ≡ id) →
    Contains v.entered e
in_one views id v at blank e by (yes same) =
    subst (λ (u : View). Contains u.entered e) (same_view views by.0 id by.1 v by.2 at same) by.3
in_one views id v at blank e by (no other) =
    let none : by.1.entered ≡ [] = (blank by.0 by.1 other by.2).entered in
    let has : Contains [] e = subst (λ (h : History). Contains h e) none by.3 in
    absurd (omega (arith, has.1))

-- what the log has, where one view has the whole
made_by : {o l : LogState} (s : Table) (k : HasLog o l s) (id : ℕ) (v : View) → At s.views id v → v.spent ≡ false →
    HasWhole v → MadeBy v l.history l.next_writer
made_by {o} {l} s k id v at live whole =
    let same = k.shared.same id v at live in
    let b = k.one.begins in
    let all : (g : View → ℕ) → ((u : View) → Blank u → g u ≡ 0) → total g s.views ≡ g v =
    all_in_one o s.views id v at whole k.shared in
    let entries : entries_of s.views ≡ length v.entered = all (λ u. length u.entered) (λ u x. ap length x.entered) in
    let numbers : numbers_of s.views ≡ v.numbers = all (λ u. u.numbers) (λ u x. x.numbers) in
    let others = others_blank o s.views id v at whole k.shared in
    record {
      more = b.0;
      history = b.1 ∙ ap (λ (h : History). h ++ b.0) (sym same.0);
      count = k.one.entries ∙ entries;
      each = λ i d low. let by = k.one.each_later i d low in
          in_one s.views id v at others _ by (ℕ_discrete by.0 id);
      next = omega (arith, k.one.numbers, numbers, same.1);
    }

-- the two of a try keep the rule
pub has_taken : {o l : LogState} (s : Table) (k : HasLog o l s) (id : ℕ) (v : View) → At s.views id v →
    v.spent ≡ false → 0 < v.parts → Free s l →
    HasLog o l (stepped s 0 1 id [] (holding l v) (takes 0 (Some l)))
has_taken {o} {l} s k id v at live has free = record {
  one = takes_log s k.one id v at free;
  shared = shared_step o s.views id v (holding l v) at live has refl refl refl refl k.shared;
}

pub has_missed : {o l : LogState} (s : Table) (k : HasLog o l s) (id : ℕ) (v : View) (busy : ℕ) → At s.views id v →
    v.holding ≡ false → v.spent ≡ false → 0 < v.parts → Held s l →
    HasLog o l (stepped s 0 1 id [] (waited busy v) keeps)
has_missed {o} s k id v busy at idle live has held = record {
  one = misses s k.one id v busy at idle held;
  shared = shared_step o s.views id v (waited busy v) at live has refl refl refl refl k.shared;
}

pub tries : {o : LogState} (slots id : ℕ) (m : Mine) → m.1 ≡ [] → m.0.holding ≡ false → m.0.spent ≡ false →
    0 < m.0.parts → Allows (Lawful o) slots id m 0 (λ _. 1) (Tried m)
tries {o} slots id m empty idle live has s a _ at _ =
    let v : View = m.0 in
    let l : LogState = a.log in
    let r : OneLog o l s = a.has.one in ⊎_elim
    (λ (free : Free s l).
    let w : View = holding l v in
    let word : get_or s.words 0 0 ≡ 0 = ap (λ (ws : List ℕ). get_or ws 0 0) free.word in
    let now : (w, (0, Some l) ∷ m.1) ≡ (w, (0, Some l) ∷ []) = ap (λ (c : Slots). (w, (0, Some l) ∷ c)) empty in (
      w,
      takes 0 (Some l),
      ap (λ (hs : List (maybe.Option (Option LogState))). get_elem? hs 0) free.home,
      subst (λ (c : Slots). Lawful o (stepped s 0 1 id c w (takes 0 (Some l)))) (sym empty)
          record { log = l; has = has_taken s a.has id v at live has free },
      (
        (λ _. let fits = r.each id v at live in
            let room = content_fits l v.cap r.is_log fits.cap in
            let whole = made_by s a.has id v at live in
            record { log = l; is_log = r.is_log; fits = fits; room = room; whole = whole; now = now }),
        (λ n. absurd (n word)),
      ),
    ))
    (λ (held : Held s l).
    let w : View = waited (v.busy + 1) v in
    let word : get_or s.words 0 0 ≡ 1 = ap (λ (ws : List ℕ). get_or ws 0 0) held.word in (
      w,
      keeps,
      tt,
      subst (λ (c : Slots). Lawful o (stepped s 0 1 id c w keeps)) (sym empty)
          record { log = l; has = has_missed s a.has id v (v.busy + 1) at idle live has held },
      ((λ z. absurd (omega arith)), (λ _. refl)),
    ))
    r.place

-- ---- the log is given back

-- what a view that is holding found is the log
held_by : {o l : LogState} (s : Table) (r : OneLog o l s) (id : ℕ) (v : View) → At s.views id v → v.holding ≡ true →
    Held s l
held_by {o} {l} s r id v at holds = ⊎_elim (λ (free : Free s l). absurd (not_both holds (free.nobody id v at)))
    (λ (held : Held s l). held) r.place

pub found_log : {o l : LogState} (s : Table) (r : OneLog o l s) (id : ℕ) (v : View) → At s.views id v →
    v.holding ≡ true → v.spent ≡ false → found v ≡ l
found_log {o} {l} s r id v at holds live =
    let held = held_by s r id v at holds in
    let same : v ≡ held.view = same_view s.views id held.holder v held.view at held.at (held.alone id v at holds) in
    let b : v.base ≡ l.history = ap (λ (u : View). u.base) same ∙ held.base.0 in
    let n : v.next_writer ≡ l.next_writer = ap (λ (u : View). u.next_writer) same ∙ held.base.1 in
    let c : v.cap ≡ l.cap = (r.each id v at live).cap in
    λ i. record { cap = c i; history = b i; next_writer = n i }

-- the seat that has the log gives one back, after which nobody has it
frees : {o l' : LogState} (s : Table) (r : OneLog o l' s) (id : ℕ) (v w : View) (l : LogState) → At s.views id v →
    v.holding ≡ true → w.holding ≡ false → IsLog l →
    (w.spent ≡ false → Fits l w) → ((j : ℕ) (u : View) → j ≢ id → At s.views j u → u.spent ≡ false → Fits l u) →
    Apart (set s.views id w) → Began o l (set s.views id w) →
    OneLog o l (stepped s 0 0 id ((0, Some l) ∷ []) w gives)
frees {o} s r id v w l at holds idle good mine others apart b =
    let held = held_by s r id v at holds in
    let nobody : (j : ℕ) (u : View) → j ≢ id → At s.views j u → u.holding ≡ false =
    λ j u other e. not_true (λ t. other (held.alone j u e t ∙ sym (held.alone id v at holds))) in
    logs o l (stepped s 0 0 id ((0, Some l) ∷ []) w gives) good (
      inl record {
        word = ap (λ (ws : List ℕ). set ws 0 0) held.word;
        home = set_only s.homes (some (Some l)) held.away;
        nobody = each_set (λ j u. u.holding ≡ false) s.views id w idle nobody;
      },
      each_set (λ j u. u.spent ≡ false → Fits l u) s.views id w mine others,
      apart,
    ) b

-- by the views of a table whose log the view found
module _ {o l : LogState} (s : Table) (r : OneLog o l s) (id : ℕ) (v : View) (at : At s.views id v)
    (holds : v.holding ≡ true) (live : v.spent ≡ false) where
  log_is : found v ≡ l
  log_is = found_log s r id v at holds live

  found_is_log : IsLog (found v)
  found_is_log = subst IsLog (sym log_is) r.is_log

  fits_found : (j : ℕ) (u : View) → At s.views j u → u.spent ≡ false → Fits (found v) u
  fits_found j u atj livej = subst (λ (l : LogState). Fits l u) (sym log_is) (r.each j u atj livej)

  began_found : Began o (found v) s.views
  began_found = subst (λ (l : LogState). Began o l s.views) (sym log_is) (began s r)

  -- as it was
  back : OneLog o (found v) (stepped s 0 0 id ((0, Some (found v)) ∷ []) (gave_back v) gives)
  back =
      let k = fits_found id v at live in
      frees s r id v (gave_back v) (found v) at holds refl found_is_log
      (λ _. record {
        cap = refl;
        seen = ([], sym (append-nil v.base));
        joined = k.joined;
        mine = λ n is. ((k.mine n is).0, (k.mine n is).0, (k.mine n is).2);
      })
      (λ j u _ e livej. fits_found j u e livej)
      (apart_set s.views id v (gave_back v) at refl refl r.apart)
      (began_kept o (found v) s.views id v (gave_back v) at refl refl began_found)

  -- with one entry more
  back_with : (e : Entry) → v.writer ≡ Some e.0 → IsLog (with_entry (found v) e) →
      OneLog o (with_entry (found v) e) (stepped s 0 0 id ((0, Some (with_entry (found v) e)) ∷ []) (added e v) gives)
  back_with e mine good =
      let w : View = added e v in
      let k = fits_found id v at live in
      let b = began_found in
      let more : History = b.1.0.0 ++ e ∷ [] in
      let longer : v.base ++ e ∷ [] ≡ o.history ++ more =
      ap (λ (x : History). x ++ e ∷ []) b.1.0.1 ∙ append_assoc o.history b.1.0.0 (e ∷ []) in
      let later : length more ≡ entries_of (set s.views id w) =
      omega (
        arith,
        b.1.1,
        length-append b.1.0.0 (e ∷ []),
        length-append v.entered (e ∷ []),
        total_set (λ (u : View). length u.entered) s.views id v w at,
      ) in
      let P : Entry → Type 0 = EnteredBy (set s.views id w) in
      let own : P e = (id, w, set_there s.views id w v at, Contains-push v.entered e) in
      let each : All P more = All-append P b.1.0.0 (e ∷ [])
      (λ k d low. entered_set s.views id v w at
      (λ x has. Contains-append_left v.entered (e ∷ []) x has) _ (b.1.2 k d low))
      (All-cons P e [] own (All-nil P)) in
      let numbers : numbers_of s.views ≡ numbers_of (set s.views id w) =
      sym (total_kept (λ (u : View). u.numbers) s.views id v w at refl) in
      frees s r id v w (with_entry (found v) e) at holds refl good
      (λ _. record {
        cap = refl;
        seen = ([], sym (append-nil w.seen));
        joined = all_still v.base e v.joined k.joined;
        mine = λ n is.
            let own : e.0 ≡ n = cc in
            let both : entries_by n w.seen ≡ w.mine =
            own_more n v.base e own ∙ ap (λ (h : History). h ++ e ∷ []) (k.mine n is).0 in
            (both, both, (k.mine n is).2);
      })
      (λ j u other atj livej. let f = fits_found j u atj livej in record {
        cap = f.cap;
        seen = still v.base e u.seen f.seen;
        joined = all_still v.base e u.joined f.joined;
        mine = λ n is.
            let differs : e.0 ≢ n = λ own. other (r.apart j id u v n atj at livej live is (mine ∙ ap Some own)) in
            (other_more n v.base e differs ∙ (f.mine n is).0, (f.mine n is).1, (f.mine n is).2);
      })
      (apart_set s.views id v w at refl refl r.apart) (
        b.0,
        ((more, longer), later, each),
        b.2 ∙ ap (λ (n : ℕ). o.next_writer + n) numbers,
      )

  -- with one writer number given out
  back_numbered : IsLog (with_writer_given (found v)) →
      OneLog o (with_writer_given (found v))
      (stepped s 0 0 id ((0, Some (with_writer_given (found v))) ∷ []) (enrolled v) gives)
  back_numbered good =
      let w : View = enrolled v in
      let none : entries_by v.next_writer v.base ≡ [] = none_yet v.next_writer v.base found_is_log.writers in
      let b = began_found in
      let entries : entries_of s.views ≡ entries_of (set s.views id w) =
      sym (total_kept (λ (u : View). length u.entered) s.views id v w at refl) in
      let given : v.next_writer + 1 ≡ o.next_writer + numbers_of (set s.views id w) =
      omega (arith, b.2, total_set (λ (u : View). u.numbers) s.views id v w at) in
      frees s r id v w (with_writer_given (found v)) at holds refl good
      (λ _. record {
        cap = refl;
        seen = ([], sym (append-nil v.base));
        joined = (fits_found id v at live).joined;
        mine = λ n is.
            let own : v.next_writer ≡ n = cc in
            let empty : entries_by n v.base ≡ [] = ap (λ (x : ℕ). entries_by x v.base) (sym own) ∙ none in
            (empty, empty, omega arith);
      })
      (λ j u other atj livej. let f = fits_found j u atj livej in record {
        cap = f.cap;
        seen = f.seen;
        joined = f.joined;
        mine = λ n is. let low = (f.mine n is).2 in ((f.mine n is).0, (f.mine n is).1, omega arith);
      })
      (apart_new s.views id w v.next_writer refl
      (λ j u n other atj livej is. ((fits_found j u atj livej).mine n is).2) r.apart) (
        b.0,
        (
          b.1.0,
          b.1.1 ∙ entries,
          λ k d low. entered_set s.views id v w at (λ x has. has) _ (b.1.2 k d low),
        ),
        given,
      )

-- the three ways to give it back keep the rule, and say what the one log is then
module _ {o l : LogState} (s : Table) (k : HasLog o l s) (id : ℕ) (v : View) (at : At s.views id v)
    (holds : v.holding ≡ true) (live : v.spent ≡ false) where
  shares : (w : View) → w.parts ≡ v.parts → w.halvings ≡ v.halvings → w.opened ≡ v.opened →
      w.first_number ≡ v.first_number → Shared o (set s.views id w)
  shares w parts halvings opened number =
      shared_step o s.views id v w at live (holder_has_part o s.views id v at holds k.shared) parts halvings opened
      number k.shared

  pub has_back : HasLog o (found v) (stepped s 0 0 id ((0, Some (found v)) ∷ []) (gave_back v) gives)
  has_back = record { one = back s k.one id v at holds live; shared = shares (gave_back v) refl refl refl refl }

  pub has_added : (e : Entry) → v.writer ≡ Some e.0 → IsLog (with_entry (found v) e) →
      HasLog o (with_entry (found v) e)
      (stepped s 0 0 id ((0, Some (with_entry (found v) e)) ∷ []) (added e v) gives)
  has_added e mine good =
      record { one = back_with s k.one id v at holds live e mine good; shared = shares (added e v) refl refl refl refl }

  pub has_numbered : IsLog (with_writer_given (found v)) →
      HasLog o (with_writer_given (found v))
      (stepped s 0 0 id ((0, Some (with_writer_given (found v))) ∷ []) (enrolled v) gives)
  has_numbered good =
      record { one = back_numbered s k.one id v at holds live good; shared = shares (enrolled v) refl refl refl refl }

pub gives_back : {o : LogState} (slots id : ℕ) (m : Mine) → m.1 ≡ (0, Some (found m.0)) ∷ [] → m.0.holding ≡ true →
    m.0.spent ≡ false → Allows (Lawful o) slots id m 0 (λ _. 0) (λ _. GaveBack m)
gives_back {o} slots id m slot holds live s a _ at _ = let w : View = gave_back m.0 in (
  w,
  gives,
  tt,
  subst (λ (c : Slots). Lawful o (stepped s 0 0 id c w gives)) (sym slot)
      record { log = found m.0; has = has_back s a.has id m.0 at holds live },
  (λ _. ap (λ (c : Slots). (w, rest c)) slot),
)

abbrev history_in : Option LogState → History
history_in None = []
history_in (Some l) = l.history

abbrev slot_history : Slots → History
slot_history [] = []
slot_history (c ∷ cs) = history_in c.1

pub adds : {o : LogState} (slots id : ℕ) (m : Mine) (e : Entry) → m.1 ≡ (0, Some (with_entry (found m.0) e)) ∷ [] →
    m.0.holding ≡ true → m.0.spent ≡ false →
    m.0.writer ≡ Some e.0 → IsLog (with_entry (found m.0) e) → Allows (Lawful o) slots id m 0 (λ _. 0) (λ _. Added m)
adds {o} slots id m e slot holds live mine good s a _ at _ = let w : View = added e m.0 in (
  w,
  gives,
  tt,
  subst (λ (c : Slots). Lawful o (stepped s 0 0 id c w gives)) (sym slot)
      record { log = with_entry (found m.0) e; has = has_added s a.has id m.0 at holds live e mine good },
  (λ e' slot'.
      let one : e ∷ [] ≡ e' ∷ [] =
      append_cancel_left m.0.base (e ∷ []) (e' ∷ []) (ap slot_history (sym slot ∙ slot')) in
      let is : e ≡ e' = cc in
      ap (λ (c : Slots). (w, rest c)) slot ∙ ap (λ (x : Entry). (added x m.0, [])) is),
)

pub enrolls : {o : LogState} (slots id : ℕ) (m : Mine) → m.1 ≡ (0, Some (with_writer_given (found m.0))) ∷ [] →
    m.0.holding ≡ true → m.0.spent ≡ false →
    IsLog (with_writer_given (found m.0)) → Allows (Lawful o) slots id m 0 (λ _. 0) (λ _. Enrolled m)
enrolls {o} slots id m slot holds live good s a _ at _ = let w : View = enrolled m.0 in (
  w,
  gives,
  tt,
  subst (λ (c : Slots). Lawful o (stepped s 0 0 id c w gives)) (sym slot)
      record { log = with_writer_given (found m.0); has = has_numbered s a.has id m.0 at holds live good },
  (λ _. ap (λ (c : Slots). (w, rest c)) slot),
)
