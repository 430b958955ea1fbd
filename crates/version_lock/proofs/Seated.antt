-- Lists of views in which one changes. What holds of the new view and of each other one holds of all, so that writers
-- stay apart is proved by cases: two others were apart before, and the changed one keeps its writer, gets a new one,
-- or is spent.
use Rattle.std.proofs.Common.{◌≡◌, ◌≢◌, ℕ, zero, suc, ◌<◌, Bool, true, false, ⊎_elim, List, [], ◌∷◌, ◌++◌, length, set}
use Rattle.std.proofs.Common.{Some, None, refl, sym, ap, subst, ◌∙◌, arith}
use mathlib.Core.Option.{some, some-injective, some-ne-none}
use lib.ListN.{get_elem?}
use Rattle.atomic_table.proofs.Lists.{at_set, at_snoc}
use Rattle.version_lock.specs.declared.view.View.{View}
use Rattle.version_lock.specs.Lawful.{Apart}

-- the seat of this number has this view
abbrev pub At : List View → ℕ → View → Type 0
At views id v = get_elem? views id ≡ some v

pub no_writer : {n : ℕ} → None ≡ Some n → ⊥
no_writer e = cc

pub not_both : {b : Bool} → b ≡ true → b ≡ false → ⊥
not_both t f = cc

pub not_true : {b : Bool} → (b ≡ true → ⊥) → b ≡ false
not_true {b} = elim b as (λ (x : Bool). (x ≡ true → ⊥) → x ≡ false) [ true ↦ λ n. absurd (n refl) | false ↦ λ n. refl ]

some_is : {a b : ℕ} → Some a ≡ Some b → a ≡ b
some_is e = cc

pub set_only : {A : Type 0} (l : List A) (a : A) → length l ≡ 1 → set l 0 a ≡ a ∷ []
set_only [] a e = absurd (omega arith)
set_only (x ∷ []) a e = refl
set_only (x ∷ y ∷ l) a e = absurd (omega arith)

pub set_there : (views : List View) (id : ℕ) (w v : View) → At views id v → At (set views id w) id w
set_there [] id w v at = absurd (some-ne-none v (sym at))
set_there (u ∷ views) zero w v at = refl
set_there (u ∷ views) (suc id) w v at = set_there views id w v at

pub same_view : (views : List View) (i j : ℕ) (v w : View) → At views i v → At views j w → i ≡ j → v ≡ w
same_view views i j v w x y e = some-injective v w (sym x ∙ (ap (get_elem? views) e ∙ y))

-- what holds of the new view, and of the others, holds of all
pub each_set : (K : ℕ → View → Type 0) (views : List View) (id : ℕ) (w : View) → K id w →
    ((j : ℕ) (u : View) → j ≢ id → At views j u → K j u) → (j : ℕ) (u : View) → At (set views id w) j u → K j u
each_set K views id w mine others j u e =
    ⊎_elim (λ (t : (j ≡ id) × (w ≡ u)). subst (λ (x : ℕ × View). K x.0 x.1) (λ i. (sym t.0 i, t.1 i)) mine)
    (λ (t : (j ≢ id) × At views j u). others j u t.0 t.1)
    (at_set views id j w u e)

-- ---- writers stay apart

-- the view that stood there before, of the same writer
abbrev Was : List View → ℕ → View → Type 0
Was views j u = (old : View) × At views j old × (old.spent ≡ u.spent) × (old.writer ≡ u.writer)

-- where the view keeps its writer
pub apart_set : (views : List View) (id : ℕ) (v w : View) → At views id v → w.spent ≡ v.spent → w.writer ≡ v.writer →
    Apart views → Apart (set views id w)
apart_set views id v w at spent writer apart i j a b n ati atj livea liveb wa wb =
    let was = each_set (Was views) views id w (v, at, sym spent, sym writer) (λ j u _ e. (u, e, refl, refl)) in
    let x = was i a ati in
    let y = was j b atj in
    apart i j x.0 y.0 n x.1 y.1 (x.2 ∙ livea) (y.2 ∙ liveb) (x.3 ∙ wa) (y.3 ∙ wb)

-- where the view gets a writer that is above all others
pub apart_new : (views : List View) (id : ℕ) (w : View) (top : ℕ) → w.writer ≡ Some top →
    ((j : ℕ) (u : View) (n : ℕ) → j ≢ id → At views j u → u.spent ≡ false → u.writer ≡ Some n → n < top) → Apart views →
    Apart (set views id w)
apart_new views id w top is low apart i j a b n ati atj livea liveb wa wb =
    let top_is : (u : View) → w ≡ u → u.writer ≡ Some n → top ≡ n =
    λ u e un. some_is (sym is ∙ (ap (λ (x : View). x.writer) e ∙ un)) in
    ⊎_elim
    (λ (x : (i ≡ id) × (w ≡ a)). ⊎_elim
    (λ (y : (j ≡ id) × (w ≡ b)). x.0 ∙ sym y.0)
    (λ (y : (j ≢ id) × At views j b). let below : n < top = low j b n y.0 y.1 liveb wb in let e = top_is a x.1 wa in
    absurd (omega arith))
    (at_set views id j w b atj))
    (λ (x : (i ≢ id) × At views i a). ⊎_elim
    (λ (y : (j ≡ id) × (w ≡ b)). let below : n < top = low i a n x.0 x.1 livea wa in let e = top_is b y.1 wb in
    absurd (omega arith))
    (λ (y : (j ≢ id) × At views j b). apart i j a b n x.1 y.1 livea liveb wa wb)
    (at_set views id j w b atj))
    (at_set views id i w a ati)

-- where the view is spent
pub apart_spent : (views : List View) (id : ℕ) (w : View) → w.spent ≡ true → Apart views → Apart (set views id w)
apart_spent views id w spent apart i j a b n ati atj livea liveb wa wb =
    let gone : (u : View) → w ≡ u → u.spent ≡ false → ⊥ =
    λ u e live. not_both spent (ap (λ (x : View). x.spent) e ∙ live) in
    ⊎_elim
    (λ (x : (i ≡ id) × (w ≡ a)). absurd (gone a x.1 livea))
    (λ (x : (i ≢ id) × At views i a). ⊎_elim
    (λ (y : (j ≡ id) × (w ≡ b)). absurd (gone b y.1 liveb))
    (λ (y : (j ≢ id) × At views j b). apart i j a b n x.1 y.1 livea liveb wa wb)
    (at_set views id j w b atj))
    (at_set views id i w a ati)

-- where a view comes that is not enrolled
pub apart_more : (views : List View) (w : View) → w.writer ≡ None → Apart views → Apart (views ++ w ∷ [])
apart_more views w unnamed apart i j a b n ati atj livea liveb wa wb =
    let none : (u : View) → w ≡ u → u.writer ≡ Some n → ⊥ =
    λ u e un. no_writer (sym unnamed ∙ (ap (λ (x : View). x.writer) e ∙ un)) in
    ⊎_elim
    (λ (x : At views i a). ⊎_elim
    (λ (y : At views j b). apart i j a b n x y livea liveb wa wb)
    (λ (y : w ≡ b). absurd (none b y wb))
    (at_snoc views w b j atj))
    (λ (x : w ≡ a). absurd (none a x wa))
    (at_snoc views w a i ati)
