-- The shares of all seats are the whole. A step at the word changes no share. A split halves one, so all weights are
-- doubled and two new ones take the place of the old. A join puts two together. A note has no part, and what has none
-- is blank. So the seat that has the whole is the only one that is not blank, and its view has what all views
-- entered.
use Rattle.std.proofs.Common.{◌≡◌, ◌≢◌, ℕ, ◌+◌, ◌-◌, ◌<◌, ◌≤◌, zero, suc, true, false, ⊎_elim, List, [], ◌∷◌, ◌++◌}
use Rattle.std.proofs.Common.{set, refl, sym, ap, subst, ◌∙◌, arith}
use Rattle.atomic_table.proofs.Lists.{set_else, at_snoc}
use Rattle.version_log.specs.Logs.{LogState}
use Rattle.version_lock.specs.declared.view.View.{View}
use Rattle.version_lock.specs.Views.{doubled, split_from, split_off, joined_with, spent, noted, HasWhole}
use Rattle.version_lock.specs.Lawful.{total, weight, Blank, Shared}
use Rattle.version_lock.proofs.Doubling.{doubled_sum, doubled_again, doubled_none, none_doubled, doubled_more}
use Rattle.version_lock.proofs.Seated.{At, each_set, not_both}
use Rattle.version_lock.proofs.Totals.{total_set, total_kept, total_more, total_has, total_none}

-- ---- steps at the word

-- what a view says that is not spent
abbrev Says : LogState → View → Type 0
Says o v = v.spent ≡ false → (v.opened ≡ o.history) × (v.first_number ≡ o.next_writer)

weight_same : (level : ℕ) (v w : View) → w.parts ≡ v.parts → w.halvings ≡ v.halvings → weight level w ≡ weight level v
weight_same level v w parts halvings =
    ap (λ (x : ℕ × ℕ). doubled (level - x.1) x.0) (λ i. (parts i, halvings i))

-- a view changes, and its share stays
pub shared_set : (o : LogState) (views : List View) (id : ℕ) (v w : View) → At views id v → w.parts ≡ v.parts →
    w.halvings ≡ v.halvings → (w.parts ≡ 0 → Blank w) → Says o w → Shared o views → Shared o (set views id w)
shared_set o views id v w at parts halvings blank says k = record {
  level = k.level;
  low = each_set (λ _ u. u.halvings ≤ k.level) views id w
      (let low = k.low id v at in omega arith) (λ j u _ e. k.low j u e);
  sum = total_kept (weight k.level) views id v w at (weight_same k.level v w parts halvings) ∙ k.sum;
  blank = each_set (λ _ u. u.parts ≡ 0 → Blank u) views id w blank (λ j u _ e. k.blank j u e);
  same = each_set (λ _ u. Says o u) views id w says (λ j u _ e. k.same j u e);
}

pub no_part : (v : View) → 0 < v.parts → v.parts ≡ 0 → ⊥
no_part v some none = omega arith

-- the view of a seat that has a part
pub shared_step : (o : LogState) (views : List View) (id : ℕ) (v w : View) → At views id v → v.spent ≡ false →
    0 < v.parts → w.parts ≡ v.parts → w.halvings ≡ v.halvings → w.opened ≡ v.opened →
    w.first_number ≡ v.first_number → Shared o views → Shared o (set views id w)
shared_step o views id v w at live some parts halvings opened number k =
    let same = k.same id v at live in
    shared_set o views id v w at parts halvings (λ e. absurd (no_part v some (sym parts ∙ e)))
    (λ _. (opened ∙ same.0, number ∙ same.1)) k

some_of : (n : ℕ) → (n ≡ 0 → ⊥) → 0 < n
some_of zero never = absurd (never refl)
some_of (suc n) never = omega arith

-- a holding view has a part
pub holder_has_part : (o : LogState) (views : List View) (id : ℕ) (v : View) → At views id v → v.holding ≡ true →
    Shared o views → 0 < v.parts
holder_has_part o views id v at holds k =
    some_of v.parts (λ e. not_both holds (k.blank id v at e).holding)

-- ---- splits

-- a view comes that has no part
pub shared_more : (o : LogState) (views : List View) (w : View) → w.parts ≡ 0 → w.halvings ≡ 0 → Blank w → Says o w →
    Shared o views → Shared o (views ++ w ∷ [])
shared_more o views w none zero_of blank says k =
    let nothing : weight k.level w ≡ 0 =
    ap (λ (n : ℕ). doubled (k.level - w.halvings) n) none ∙ none_doubled (k.level - w.halvings) in
    record {
      level = k.level;
      low = λ j u e. ⊎_elim (k.low j u) (λ (t : w ≡ u). let is = ap (λ (x : View). x.halvings) t in omega arith)
          (at_snoc views w u j e);
      sum = omega (arith, k.sum, nothing, total_more (weight k.level) views w);
      blank = λ j u e. ⊎_elim (k.blank j u) (λ (t : w ≡ u). subst (λ (x : View). x.parts ≡ 0 → Blank x) t (λ _. blank))
          (at_snoc views w u j e);
      same = λ j u e. ⊎_elim (k.same j u) (λ (t : w ≡ u). subst (Says o) t says) (at_snoc views w u j e);
    }

-- the weight where the whole was halved once more
weight_more : (level : ℕ) (v : View) → v.halvings ≤ level → weight (level + 1) v ≡ weight level v + weight level v
weight_more level v low = doubled_more (level + 1 - v.halvings) (level - v.halvings) v.parts (omega arith)

weights_more : (level : ℕ) (views : List View) → ((id : ℕ) (v : View) → At views id v → v.halvings ≤ level) →
    total (weight (level + 1)) views ≡ total (weight level) views + total (weight level) views
weights_more level [] low = refl
weights_more level (v ∷ views) low =
    let rest = weights_more level views (λ id u e. low (suc id) u e) in
    let first = weight_more level v (low 0 v refl) in omega arith

-- a seat is split off
pub shared_split : (o : LogState) (views : List View) (id : ℕ) (v : View) → At views id v → v.spent ≡ false →
    0 < v.parts → Shared o views → Shared o (set views id (split_from v) ++ split_off v ∷ [])
shared_split o views id v at live some k =
    let from : View = split_from v in
    let new : View = split_off v in
    let f : View → ℕ = weight (k.level + 1) in
    let low : v.halvings ≤ k.level = k.low id v at in
    let once : k.level + 1 - (v.halvings + 1) ≡ k.level - v.halvings = omega arith in
    let half : f from ≡ weight k.level v = ap (λ (n : ℕ). doubled n v.parts) once in
    let half' : f new ≡ weight k.level v = half in
    let twice : f v ≡ weight k.level v + weight k.level v = weight_more k.level v low in
    let whole : doubled (k.level + 1) 1 ≡ doubled k.level 1 + doubled k.level 1 =
    doubled_more (k.level + 1) k.level 1 refl in
    let same = k.same id v at live in
    record {
      level = k.level + 1;
      low = λ j u e. ⊎_elim
          (each_set (λ _ u. u.halvings ≤ k.level + 1) views id from (omega arith)
          (λ j u _ e. let x = k.low j u e in omega arith) j u)
          (λ (t : new ≡ u). let is = ap (λ (x : View). x.halvings) t in omega arith)
          (at_snoc (set views id from) new u j e);
      sum = omega (
        arith,
        half,
        half',
        twice,
        whole,
        k.sum,
        weights_more k.level views k.low,
        total_set f views id v from at,
        total_more f (set views id from) new,
      );
      blank = λ j u e. ⊎_elim
          (each_set (λ _ u. u.parts ≡ 0 → Blank u) views id from (λ e. absurd (no_part v some e))
          (λ j u _ e. k.blank j u e) j u)
          (λ (t : new ≡ u). subst (λ (x : View). x.parts ≡ 0 → Blank x) t (λ e. absurd (no_part v some e)))
          (at_snoc (set views id from) new u j e);
      same = λ j u e. ⊎_elim
          (each_set (λ _ u. Says o u) views id from (λ _. same) (λ j u _ e. k.same j u e) j u)
          (λ (t : new ≡ u). subst (Says o) t (λ _. same))
          (at_snoc (set views id from) new u j e);
    }

-- ---- joins

-- a share that is halved oftener weighs the same
raised : (level a b x : ℕ) → a + b ≤ level → doubled (level - (a + b)) (doubled b x) ≡ doubled (level - a) x
raised level a b x low =
    let same : b + (level - (a + b)) ≡ level - a = omega arith in
    doubled_again b (level - (a + b)) x ∙ ap (λ (n : ℕ). doubled n x) same

weight_joined : (level : ℕ) (v w : View) → v.halvings ≤ level → w.halvings ≤ level →
    weight level (joined_with v w) ≡ weight level v + weight level w
weight_joined level v w low low' =
    let a : ℕ = w.halvings - v.halvings in
    let b : ℕ = v.halvings - w.halvings in
    let top : ℕ = v.halvings + a in
    let other : w.halvings + b ≡ top = omega arith in
    let mine = raised level v.halvings a v.parts (omega arith) in
    let theirs : doubled (level - top) (doubled b w.parts) ≡ doubled (level - w.halvings) w.parts =
    ap (λ (n : ℕ). doubled (level - n) (doubled b w.parts)) (sym other) ∙
    raised level w.halvings b w.parts (omega arith) in
    let both = doubled_sum (level - top) (doubled a v.parts) (doubled b w.parts) in
    omega (arith, mine, theirs, both)

pub joined_some : (v w : View) → 0 < v.parts → 0 < (joined_with v w).parts
joined_some v w some =
    some_of (joined_with v w).parts
    (λ none. no_part v some (doubled_none (w.halvings - v.halvings) v.parts (omega (arith, none))))

blank_spent : Blank spent
blank_spent = record { holding = refl; writer = refl; entered = refl; numbers = refl }

pub shared_joined : (o : LogState) (views : List View) (id other : ℕ) (v w : View) → At views id v → v.spent ≡ false →
    0 < v.parts → (other ≡ id → ⊥) → At (set views id (joined_with v w)) other w → Shared o views →
    Shared o (set (set views id (joined_with v w)) other spent)
shared_joined o views id other v w at live some apart there k =
    let both : View = joined_with v w in
    let mid : List View = set views id both in
    let there_before : At views other w = sym (set_else views id other both apart) ∙ there in
    let f : View → ℕ = weight k.level in
    let low : v.halvings ≤ k.level = k.low id v at in
    let low' : w.halvings ≤ k.level = k.low other w there_before in
    let weighs = weight_joined k.level v w low low' in
    let nothing : f spent ≡ 0 = none_doubled (k.level - 0) in
    let same = k.same id v at live in
    record {
      level = k.level;
      low = each_set (λ _ u. u.halvings ≤ k.level) mid other spent (omega arith)
          (λ j u _ e.
          each_set (λ _ u. u.halvings ≤ k.level) views id both (omega arith) (λ j u _ e. k.low j u e) j u e);
      sum = omega (arith, k.sum, weighs, nothing, total_set f views id v both at, total_set f mid other w spent there);
      blank = each_set (λ _ u. u.parts ≡ 0 → Blank u) mid other spent (λ _. blank_spent)
          (λ j u _ e.
          each_set (λ _ u. u.parts ≡ 0 → Blank u) views id both
          (λ e. absurd (no_part both (joined_some v w some) e)) (λ j u _ e. k.blank j u e) j u e);
      same = each_set (λ _ u. Says o u) mid other spent (λ e. absurd (not_both refl e))
          (λ j u _ e. each_set (λ _ u. Says o u) views id both (λ _. same) (λ j u _ e. k.same j u e) j u e);
    }

-- a note is joined to a seat
pub shared_noted : (o : LogState) (views : List View) (id other : ℕ) (v w : View) → At views id v → v.spent ≡ false →
    0 < v.parts → At (set views id (noted v w)) other w → w.parts ≡ 0 → Shared o views →
    Shared o (set (set views id (noted v w)) other spent)
shared_noted o views id other v w at live some there none k =
    let mid : List View = set views id (noted v w) in
    let first : Shared o mid = shared_step o views id v (noted v w) at live some refl refl refl refl k in
    let f : View → ℕ = weight k.level in
    let nothing : f w ≡ 0 =
    ap (λ (n : ℕ). doubled (k.level - w.halvings) n) none ∙ none_doubled (k.level - w.halvings) in
    let nothing' : f spent ≡ 0 = none_doubled (k.level - 0) in
    record {
      level = k.level;
      low = each_set (λ _ u. u.halvings ≤ k.level) mid other spent (omega arith)
          (λ j u _ e.
          each_set (λ _ u. u.halvings ≤ k.level) views id (noted v w) (k.low id v at) (λ j u _ e. k.low j u e) j u e);
      sum = omega (
        arith,
        k.sum,
        nothing,
        nothing',
        total_set f mid other w spent there,
        total_kept f views id v (noted v w) at refl,
      );
      blank = each_set (λ _ u. u.parts ≡ 0 → Blank u) mid other spent (λ _. blank_spent)
          (λ j u _ e. first.blank j u e);
      same = each_set (λ _ u. Says o u) mid other spent (λ e. absurd (not_both refl e)) (λ j u _ e. first.same j u e);
    }

-- ---- the whole

-- the other views weigh nothing where one has all
module _ (o : LogState) (views : List View) (id : ℕ) (v : View) (at : At views id v) (whole : HasWhole v)
    (k : Shared o views) where
  pub weighs_all : weight k.level v ≡ total (weight k.level) views
  weighs_all =
      let low : v.halvings ≤ k.level = k.low id v at in
      let same : v.halvings + (k.level - v.halvings) ≡ k.level = omega arith in
      ap (doubled (k.level - v.halvings)) whole ∙
      (doubled_again v.halvings (k.level - v.halvings) 1 ∙ (ap (λ (n : ℕ). doubled n 1) same ∙ sym k.sum))

  pub others_blank : (j : ℕ) (u : View) → j ≢ id → At views j u → Blank u
  others_blank j u other e =
      let f : View → ℕ = weight k.level in
      let nothing : f spent ≡ 0 = none_doubled (k.level - 0) in
      let none : total f (set views id spent) ≡ 0 =
      omega (arith, weighs_all, nothing, total_set f views id v spent at) in
      let there : At (set views id spent) j u = set_else views id j spent other ∙ e in
      let low = total_has f (set views id spent) j u there in
      k.blank j u e (doubled_none (k.level - u.halvings) u.parts (omega (arith, none, low)))

  -- so what blank views have none of is all in this one
  pub all_in_one : (g : View → ℕ) → ((u : View) → Blank u → g u ≡ 0) → total g views ≡ g v
  all_in_one g blank =
      let none : total g (set views id spent) ≡ 0 = total_none g (set views id spent)
      (each_set (λ _ u. g u ≡ 0) views id spent (blank spent blank_spent)
      (λ j u other e. blank u (others_blank j u other e))) in
      omega (arith, none, blank spent blank_spent, total_set g views id v spent at)
