-- The greatest rank of some counts is the rank of the greatest.
use Rattle.std.proofs.Common.{◌≡◌, ℕ, ◌+◌, ◌≤◌, ◌<◌, List, [], ◌∷◌, Bool, true, false, refl, sym, ap, ◌∙◌, subst, arith}
use Rattle.std.proofs.Common.{length, max, sum, inl, inr}
use Rattle.std.specs.Prelude.{◌==◌, ◌&&◌, if◌then◌else◌, IsTrue}
use Rattle.std.proofs.lemmas.Bool.{cases_order}
use Rattle.definitions.specs.Strategies.{Table, IsTable, act, is_cut, is_split, shares, opening_counts}
use Rattle.definitions.specs.Ranks as ranks
use Rattle.definitions.specs.Ranks.{rank_by}
use Rattle.laws.specs.Ranks.{IsCut}
use Rattle.laws.proofs.Checks.{rank_by-rises, rank_by-no}
use Rattle.laws.proofs.Tables.{sum-cons}
use Rattle.strategy_core.specs.Acts.{greatest, kind_of}
use Rattle.strategy_core.specs.declared.act.Act.TheVariants as acts
use Rattle.definitions.specs.Strategies as strategies

rank_by-zero : (steps : List ℕ) → rank_by steps 0 ≡ 0
rank_by-zero [] = refl
rank_by-zero (s ∷ ss) = rank_by-no s ss 0 (omega arith) ∙ rank_by-zero ss

rank_by-max : (steps : List ℕ) (m n : ℕ) → max (rank_by steps m) (rank_by steps n) ≡ rank_by steps (max m n)
rank_by-max steps m n = elim (cases_order m n) [
  | inl same ↦ let e : max m n ≡ n = omega arith in omega (arith, ap (rank_by steps) e, ap (rank_by steps) same)
  | inr (inl below) ↦
      let e : max m n ≡ n = omega arith in
      omega (arith, ap (rank_by steps) e, rank_by-rises steps m n (omega arith))
  | inr (inr above) ↦
      let e : max m n ≡ m = omega arith in
      omega (arith, ap (rank_by steps) e, rank_by-rises steps n m (omega arith))
]

pub greatest-rank : (steps ns : List ℕ) → ranks.greatest (rank_by steps) ns ≡ rank_by steps (greatest ns)
greatest-rank steps [] = sym (rank_by-zero steps)
greatest-rank steps (n ∷ ns) = omega (arith, greatest-rank steps ns, rank_by-max steps n (greatest ns))

pub greatest-sum : (ns : List ℕ) → greatest ns ≤ sum ns
greatest-sum [] = omega arith
greatest-sum (n ∷ ns) = omega (arith, greatest-sum ns, sum-cons n ns)

pub splits : (a : strategies.Act) → kind_of a ≡ acts.Split → is_split a ≡ true
splits strategies.List_items h = cc
splits (strategies.Split weights) h = refl
splits (strategies.Peel front) h = refl

-- the parts of n, where the row of n cuts
abbrev pub Cuts : Type 0
Cuts = (T : Table) → IsTable T → (n : ℕ) → IsTrue (is_split (act T n)) → IsCut n (shares T n)

-- the greatest share is no greater than n
pub share-le : Cuts → (T : Table) (n : ℕ) → IsTable T → kind_of (act T n) ≡ acts.Split → greatest (shares T n) ≤ n
share-le law T n is k = omega (arith, greatest-sum (shares T n), (law T is n (splits (act T n) k)).total)

counts-cut : (a b c : Bool) (ns ms : List ℕ) → a ≡ true → b ≡ true → c ≡ true →
    (if a && b && c then ns else ms) ≡ ns
counts-cut a b c ns ms h k l = cc

pub cut-rank : (T : Table) (steps : List ℕ) (n : ℕ) (may : Bool) → may ≡ true → is_cut T.opening ≡ true →
    kind_of (act T n) ≡ acts.Split →
    rank_by steps (greatest (shares T n)) ≡ ranks.greatest (rank_by steps) (opening_counts may T n)
cut-rank T steps n may h k l = sym (ap (ranks.greatest (rank_by steps)) (counts-cut may (is_cut T.opening)
    (is_split (act T n)) (shares T n) (n ∷ []) h k (splits (act T n) l)) ∙ greatest-rank steps (shares T n))
