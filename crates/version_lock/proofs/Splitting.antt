-- Splits and joins of seats and notes keep the rule, and the one log as it is. A view that comes has entered nothing
-- and fits the log, since what it has seen is what another has seen. A seat that is joined hands on what it entered
-- and its numbers, so the sums stay; a note has none.
use Rattle.std.proofs.Common.{◌≡◌, ℕ, ◌+◌, ◌<◌, true, false, inl, inr, ⊎_elim, ◌⊎◌, [], ◌∷◌, ◌++◌, length}
use Rattle.std.proofs.Common.{set, All, None, refl, sym, ap, subst, ◌∙◌, arith}
use Rattle.std.proofs.lemmas.List.{length-append}
use Rattle.std.proofs.lemmas.List.Elements.{All-nil, All-cons, All-append}
use Rattle.atomic_table.specs.Table.{Splits, Joins}
use Rattle.atomic_table.proofs.Lists.{set_else, at_longer, at_snoc}
use Rattle.definitions.specs.Histories.{History}
use Rattle.version_log.specs.Logs.{LogState}
use Rattle.version_lock.specs.declared.view.View.{View}
use Rattle.version_lock.specs.Beginnings.{StartsWith, entries_by}
use Rattle.version_lock.specs.Lawful.{Table, Free, Held, Fits, Apart, OneLog, Blank, HasLog, Lawful, total}
use Rattle.version_lock.specs.Tables.{split_table, joined_table}
use Rattle.version_lock.specs.Views.{split_from, split_off, joined_with, spent, note_of, noted}
use Rattle.version_lock.proofs.Totals.{total_set}
use Rattle.version_lock.proofs.Shares.{shared_set, shared_more, shared_split, shared_joined, shared_noted}
use Rattle.version_lock.proofs.Entering.{entered_joined}
use Rattle.version_lock.proofs.Keeps.{Began, Stands, logs, began, began_kept, began_more, still_held}
use Rattle.version_lock.proofs.Seated.{At, no_writer, not_both, each_set, apart_set, apart_spent, apart_more}

-- a new view comes, which is not enrolled
comes : {o l : LogState} (s : Table) (r : OneLog o l s) (w : View) → w.holding ≡ false → w.writer ≡ None →
    w.entered ≡ [] → w.numbers ≡ 0 → Fits l w →
    OneLog o l record { words = s.words; homes = s.homes; views = s.views ++ w ∷ [] }
comes {o} {l} s r w idle unnamed empty zero_of fits =
    let now : (j : ℕ) (u : View) → At (s.views ++ w ∷ []) j u → At s.views j u ⊎ (w ≡ u) =
    λ j u e. at_snoc s.views w u j e in
    let idle_as : (u : View) → w ≡ u → u.holding ≡ false = λ u e. subst (λ (x : View). x.holding ≡ false) e idle in
    logs o l record { words = s.words; homes = s.homes; views = s.views ++ w ∷ [] } r.is_log (
      ⊎_elim
          (λ (free : Free s l). inl record {
            word = free.word;
            home = free.home;
            nobody = λ j u e. ⊎_elim (free.nobody j u) (λ (t : w ≡ u). idle_as u t) (now j u e);
          })
          (λ (held : Held s l). inr record {
            word = held.word;
            away = held.away;
            holder = held.holder;
            view = held.view;
            at = at_longer s.views (w ∷ []) held.holder held.view held.at;
            holds = held.holds;
            base = held.base;
            alone = λ j u e h.
                ⊎_elim (λ (t : At s.views j u). held.alone j u t h) (λ (t : w ≡ u). absurd (not_both h (idle_as u t)))
                (now j u e);
          })
          r.place,
      λ j u e live.
          ⊎_elim (λ (t : At s.views j u). r.each j u t live) (λ (t : w ≡ u). subst (Fits l) t fits) (now j u e),
      apart_more s.views w unnamed r.apart,
    ) (began_more o l s.views w empty zero_of (began s r))

-- a view that is not holding changes, and the log stays
quiet : (l : LogState) (s : Table) (r : Stands l s) (id : ℕ) (v w : View) → At s.views id v → v.holding ≡ false →
    w.holding ≡ false → (w.spent ≡ false → Fits l w) → Apart (set s.views id w) →
    Stands l record { words = s.words; homes = s.homes; views = set s.views id w }
quiet l s r id v w at idle idle' fits apart = (
  ⊎_elim
      (λ (free : Free s l). inl record {
        word = free.word;
        home = free.home;
        nobody = each_set (λ j u. u.holding ≡ false) s.views id w idle' (λ j u _ e. free.nobody j u e);
      })
      (λ (held : Held s l). inr (still_held s l id v w s.words at idle idle' held.word held))
      r.0,
  each_set (λ j u. u.spent ≡ false → Fits l u) s.views id w fits (λ j u _ e. r.1 j u e),
  apart,
)

stands : {o l : LogState} (s : Table) (r : OneLog o l s) → Stands l s
stands s r = (r.place, r.each, r.apart)

-- ---- a seat or a note is split off

-- the parent, of the view v, becomes w, and its log is as before
parts : {o l : LogState} (s : Table) (r : OneLog o l s) (id : ℕ) (v w new : View) → At s.views id v →
    v.holding ≡ false → w.holding ≡ false → (w.spent ≡ false → Fits l w) → w.spent ≡ v.spent → w.writer ≡ v.writer →
    w.entered ≡ v.entered → w.numbers ≡ v.numbers → new.holding ≡ false → new.writer ≡ None → new.entered ≡ [] →
    new.numbers ≡ 0 → Fits l new → OneLog o l (split_table s id w new)
parts {o} {l} s r id v w new at idle idle' fits gone writer entered numbers still unnamed empty zero_of fits' =
    let mid : Table = record { words = s.words; homes = s.homes; views = set s.views id w } in
    let stand : Stands l mid =
    quiet l s (stands s r) id v w at idle idle' fits (apart_set s.views id v w at gone writer r.apart) in
    let b : Began o l mid.views = began_kept o l s.views id v w at entered numbers (began s r) in
    comes mid (logs o l mid r.is_log stand b) new still unnamed empty zero_of fits'

-- what a new view fits that has seen what the view v has seen
new_fits : (l : LogState) (v w : View) → Fits l v → w.seen ≡ v.seen → w.cap ≡ v.cap → w.joined ≡ [] →
    w.writer ≡ None → Fits l w
new_fits l v w k seen cap joined unnamed = record {
  cap = cap ∙ k.cap;
  seen = subst (StartsWith l.history) (sym seen) k.seen;
  joined = subst (All (λ (x : History). StartsWith l.history x)) (sym joined)
      (All-nil (λ (x : History). StartsWith l.history x));
  mine = λ n e. absurd (no_writer (sym unnamed ∙ e));
}

pub has_split : {o l : LogState} (s : Table) (k : HasLog o l s) (id : ℕ) (v : View) → At s.views id v →
    v.spent ≡ false → v.holding ≡ false → 0 < v.parts →
    HasLog o l (split_table s id (split_from v) (split_off v))
has_split {o} {l} s k id v at live idle some =
    let f : Fits l v = k.one.each id v at live in
    let fits : Fits l (split_from v) = record { cap = f.cap; seen = f.seen; joined = f.joined; mine = f.mine } in
    record {
      one = parts s k.one id v (split_from v) (split_off v) at idle idle (λ _. fits)
          refl refl refl refl refl refl refl refl (new_fits l v (split_off v) f refl refl refl refl);
      shared = shared_split o s.views id v at live some k.shared;
    }

pub has_note : {o l : LogState} (s : Table) (k : HasLog o l s) (id : ℕ) (v : View) → At s.views id v →
    v.spent ≡ false → v.holding ≡ false → HasLog o l (split_table s id v (note_of v))
has_note {o} {l} s k id v at live idle =
    let f : Fits l v = k.one.each id v at live in
    record {
      one = parts s k.one id v v (note_of v) at idle idle (λ _. f) refl refl refl refl refl refl refl refl
          (new_fits l v (note_of v) f refl refl refl refl);
      shared = shared_more o (set s.views id v) (note_of v) refl refl
          record { holding = refl; writer = refl; entered = refl; numbers = refl } (λ _. k.shared.same id v at live)
          (shared_set o s.views id v v at refl refl (k.shared.blank id v at) (k.shared.same id v at) k.shared);
    }

pub splits : {o : LogState} (id : ℕ) (v : View) → v.spent ≡ false → v.holding ≡ false → 0 < v.parts →
    Splits (Lawful o) id v (split_from v) (split_off v)
splits id v live idle some s a at = record { log = a.log; has = has_split s a.has id v at live idle some }

pub splits_note : {o : LogState} (id : ℕ) (v : View) → v.spent ≡ false → v.holding ≡ false →
    Splits (Lawful o) id v v (note_of v)
splits_note id v live idle s a at = record { log = a.log; has = has_note s a.has id v at live idle }

-- ---- a seat or a note is joined to a seat

-- the two views change, and the log is as before
meets : {o l : LogState} (s : Table) (r : OneLog o l s) (id : ℕ) (v both : View) (other : ℕ) (w gone : View) →
    At s.views id v → v.holding ≡ false → both.holding ≡ false → (both.spent ≡ false → Fits l both) →
    both.spent ≡ v.spent → both.writer ≡ v.writer → At (set s.views id both) other w → w.holding ≡ false →
    gone.holding ≡ false → gone.spent ≡ true → Began o l (joined_table s id both other gone).views →
    OneLog o l (joined_table s id both other gone)
meets {o} {l} s r id v both other w gone at idle idle' fits same writer there idle'' still spent_of b =
    let mid : Table = record { words = s.words; homes = s.homes; views = set s.views id both } in
    let first : Stands l mid =
    quiet l s (stands s r) id v both at idle idle' fits (apart_set s.views id v both at same writer r.apart) in
    let last : Stands l (joined_table s id both other gone) =
    quiet l mid first other w gone there idle'' still (λ e. absurd (not_both spent_of e))
    (apart_spent mid.views other gone spent_of first.2) in
    logs o l (joined_table s id both other gone) r.is_log last b

-- what the first has joined is longer by what the other has seen
both_fits : (l : LogState) (v w both : View) → Fits l v → Fits l w → both.cap ≡ v.cap → both.seen ≡ v.seen →
    both.joined ≡ v.joined ++ w.seen ∷ [] → both.writer ≡ v.writer → both.mine ≡ v.mine → Fits l both
both_fits l v w both k more cap seen joined writer mine =
    let P : History → Type 0 = λ x. StartsWith l.history x in
    let all : All P (v.joined ++ w.seen ∷ []) =
    All-append P v.joined (w.seen ∷ []) k.joined (All-cons P w.seen [] more.seen (All-nil P)) in
    record {
      cap = cap ∙ k.cap;
      seen = subst P (sym seen) k.seen;
      joined = subst (All P) (sym joined) all;
      mine = λ n e. let m = k.mine n (sym writer ∙ e) in
          (m.0 ∙ sym mine, ap (entries_by n) seen ∙ (m.1 ∙ sym mine), m.2);
    }

-- where the other stands before the first one changes
before : (s : Table) (id : ℕ) (both : View) (other : ℕ) (w : View) → (other ≡ id → ⊥) →
    At (set s.views id both) other w → At s.views other w
before s id both other w apart there = sym (set_else s.views id other both apart) ∙ there

pub has_joined : {o l : LogState} (s : Table) (k : HasLog o l s) (id : ℕ) (v : View) (other : ℕ) (w : View) →
    v.spent ≡ false → v.holding ≡ false → 0 < v.parts → w.spent ≡ false → w.holding ≡ false →
    At s.views id v → (other ≡ id → ⊥) → At (set s.views id (joined_with v w)) other w →
    HasLog o l (joined_table s id (joined_with v w) other spent)
has_joined {o} {l} s k id v other w live idle some live' idle' at apart there =
    let r : OneLog o l s = k.one in
    let both : View = joined_with v w in
    let f : Fits l v = r.each id v at live in
    let g : Fits l w = r.each other w (before s id both other w apart there) live' in
    let fits : Fits l both = both_fits l v w both f g refl refl refl refl refl in
    let end : Table = joined_table s id both other spent in
    let b : Began o l s.views = began s r in
    let E : View → ℕ = λ u. length u.entered in
    let N : View → ℕ = λ u. u.numbers in
    let entries : total E end.views ≡ total E s.views = omega (
      arith,
      total_set E s.views id v both at,
      total_set E (set s.views id both) other w spent there,
      length-append v.entered w.entered,
    ) in
    let numbers : total N end.views ≡ total N s.views =
    omega (arith, total_set N s.views id v both at, total_set N (set s.views id both) other w spent there) in
    let b' : Began o l end.views = (
      b.0,
      (
        b.1.0,
        b.1.1 ∙ sym entries,
        λ k d low. entered_joined s.views id other v w at apart there _ (b.1.2 k d low),
      ),
      b.2 ∙ ap (λ (n : ℕ). o.next_writer + n) (sym numbers),
    ) in
    record {
      one = meets s r id v both other w spent at idle idle (λ _. fits) refl refl there idle' refl refl b';
      shared = shared_joined o s.views id other v w at live some apart there k.shared;
    }

pub has_noted : {o l : LogState} (s : Table) (k : HasLog o l s) (id : ℕ) (v : View) (other : ℕ) (w : View) →
    v.spent ≡ false → v.holding ≡ false → 0 < v.parts → w.spent ≡ false → w.parts ≡ 0 →
    At s.views id v → (other ≡ id → ⊥) → At (set s.views id (noted v w)) other w →
    HasLog o l (joined_table s id (noted v w) other spent)
has_noted {o} {l} s k id v other w live idle some live' none at apart there =
    let r : OneLog o l s = k.one in
    let both : View = noted v w in
    let mid = set s.views id both in
    let there_before : At s.views other w = before s id both other w apart there in
    let is : Blank w = k.shared.blank other w there_before none in
    let f : Fits l v = r.each id v at live in
    let g : Fits l w = r.each other w there_before live' in
    let fits : Fits l both = both_fits l v w both f g refl refl refl refl refl in
    let b : Began o l mid = began_kept o l s.views id v both at refl refl (began s r) in
    let b' : Began o l (set mid other spent) =
    began_kept o l mid other w spent there (sym is.entered) (sym is.numbers) b in
    record {
      one = meets s r id v both other w spent at idle idle (λ _. fits) refl refl there is.holding refl refl b';
      shared = shared_noted o s.views id other v w at live some there none k.shared;
    }

pub joins : {o : LogState} (id : ℕ) (v : View) (other : ℕ) (w : View) → v.spent ≡ false → v.holding ≡ false →
    0 < v.parts → w.spent ≡ false → w.holding ≡ false → Joins (Lawful o) id v other w (joined_with v w) spent
joins id v other w live idle some live' idle' s a at apart there =
    record { log = a.log; has = has_joined s a.has id v other w live idle some live' idle' at apart there }

pub joins_note : {o : LogState} (id : ℕ) (v : View) (other : ℕ) (w : View) → v.spent ≡ false → v.holding ≡ false →
    0 < v.parts → w.spent ≡ false → w.parts ≡ 0 → Joins (Lawful o) id v other w (noted v w) spent
joins_note id v other w live idle some live' none s a at apart there =
    record { log = a.log; has = has_noted s a.has id v other w live idle some live' none at apart there }
