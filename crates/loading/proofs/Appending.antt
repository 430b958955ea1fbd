-- A new file that holds the first so many bytes of a text, and then more of them.
use Rattle.std.proofs.Common.{◌≡◌, ◌∙◌, ℕ, ◌+◌, ◌-◌, ◌≤◌, Bool, true, false, List, ◌++◌, length, take, drop, arith}
use Rattle.std.proofs.Common.{Option, Some, None, refl, sym, ap, subst}
use Rattle.std.specs.Prelude.{option_map, ◌||◌, cond}
use Rattle.std.proofs.lemmas.List.{take_rest}
use Rattle.std.proofs.Math.Seq.{take-add}
use Rattle.loading.specs.Folders.{FolderState, Lifts, Writes, appended}

or_false : (a b : Bool) → b ≡ false → (a || b) ≡ a
or_false true b off = refl
or_false false b off = off

more_calls : (n m : ℕ) (short : Bool) → n ≤ m → n ≤ cond short (m + 1) m
more_calls n m true few = omega arith
more_calls n m false few = few

writes_next : (xs ys : List ℕ) (short : Bool) (p q : FolderState) → Writes xs p q →
    Writes (xs ++ ys) p (appended ys short q)
writes_next xs ys short p q w = record {
  there = ap (λ (b : Bool). cond b (q.fresh ++ ys) q.there) w.beside ∙ w.there;
  leaves = w.leaves;
  found = w.found;
  spoiled = or_false q.is_spoiled q.is_renamed w.beside ∙ w.spoiled;
  fresh = ap (λ (l : List ℕ). l ++ ys) w.fresh;
  beside = w.beside;
  counts = more_calls p.refusals q.refusals short w.counts;
}

-- the piece that is left, of which n bytes are taken
abbrev pub piece : List ℕ → ℕ → ℕ → List ℕ
piece text i n = take n (take (length text - i) (drop i text))

pub writes_more : (text : List ℕ) (i n : ℕ) (short : Bool) (a b c : Option FolderState) →
    Lifts (Writes (take i text)) a b → c ≡ option_map (appended (piece text i n) short) b →
    Lifts (Writes (take (i + n) text)) a c
writes_more text i n short None b c writes is = tt
writes_more text i n short (Some p) None c writes is = absurd writes
writes_more text i n short (Some p) (Some q) c writes is =
    let joined = ap (λ (l : List ℕ). take i text ++ take n l) (take_rest text i) ∙ sym (take-add i n text) in
    subst (Lifts (Writes (take (i + n) text)) (Some p)) (sym is)
    (subst (λ (l : List ℕ). Writes l p (appended (piece text i n) short q)) joined
    (writes_next (take i text) (piece text i n) short p q writes))
