-- A loose box owns what a box owns, part for part: the pointer, the handle of the allocator, the value after the
-- pointer and the right to give its block back. The two differ in the names of their fields alone, and a name owns
-- nothing. So a loose box is read as a box, and what the kit proves of a box is used for both. A pair of a pointer
-- and a handle is a box as well, once the value that its pointer points to lies beside it.
use Prim.Native.Nat.{ℕ}
use mathlib.Core.List.{List, [], ◌∷◌, ◌++◌}
use mathlib.Core.Path.{◌≡◌, refl, sym, ap, subst}
use lib.Dec.{T}
use seplogic.Ra.Ura.{Ura}
use mir.Syntax.{Args, Dict, a_type, dcons, dnil}
use mir.Val.{Val, has_ty, WT}
use base.Logic.{SProp}
use base.Fml.{Fml}
use types.Logic.{Logic}
use types.Kit.{Item, Goal, Seq, Step, ‵, prop, ◌$◌, fjoin, rewrite, regoal}
use denote.Param.{bounded}
use denote.RattleType.{RattleType}
use denote.RawPtr.{Ptr, RawPtr, block_ptr}
use denote.Steps.{only}
use denote.Struct.Tuple.{Tuple}
use Rattle.core.proofs.alloc.Calls.{Fits, token}
use Rattle.std_alloc.specs.Box.Ownership.{box_owns}
use Rattle.std_alloc.proofs.BoxSteps.Form.{Bx, X, D, R, P, B, word, box_ty, box_typed}
use Rattle.std_alloc.proofs.BoxSteps.Steps.{box_out, box_in}
use Rattle.rangesync_c.specs.contracts.loose.Loose as loose

module _ (E : Bx) where
  -- a loose box, and such a pair, as types of the logic
  abbrev pub Row : RattleType
  Row = loose.the_row (R E) (P E) E.al.g

  abbrev pub Pair : RattleType
  Pair = Tuple (RawPtr ∷ P E ∷ [])

  -- the box with the parts of a loose box, and back
  abbrev pub as_box : Row.Denot → D E
  as_box l = record { ptr = l.at; alloc = l.alloc; value = l.value }

  abbrev pub as_loose : D E → Row.Denot
  as_loose b = record { at = b.ptr; alloc = b.alloc; value = b.value }

  -- what a box owns, at the machine values that it is
  abbrev pub Owns : D E → List Val → Fml
  Owns = (B E).own_val

  -- what a function over `T: Drop` and `A: Allocator` is called with
  abbrev pub Called : Dict → Args
  Called dx = bounded (a_type ∷ a_type ∷ []) (E.row, (E.al.row, tt)) (dcons E.al.d (dcons dx (dcons E.al.drops dnil)))

  module _ {M : Type 1} {𝓤 : Ura M} {𝓛 : Logic 𝓤} {K : Type 0} {Γ : List (Item 𝓤)} {G : Goal 𝓤 𝓛.H} where
    -- a box is one machine word, and its pointer leads into a block
    pub in_one_word : K → (d : D E) (vs : List Val)
        → ((b o : ℕ) (h : Val) → vs ≡ word E h b o ∷ [] → Fits E.al h
        → Seq K 𝓛 (‵ (Owns (record d { ptr = block_ptr b o }) (word E h b o ∷ [])) ∷ Γ) G)
        → Seq K 𝓛 (‵ (Owns d vs) ∷ Γ) G
    in_one_word t d vs next =
        box_out E t d vs (λ b o h at_b is fits.
        box_in E t (record d { ptr = block_ptr b o }) b o d.value refl refl $ next b o h is fits)

    -- where its one word is not known, that word still has a box's type
    pub is_typed : K → (d : D E) (u : Val)
        → (T (has_ty (box_ty E) u) × WT u → Seq K 𝓛 (‵ (Owns d (u ∷ [])) ∷ Γ) G)
        → Seq K 𝓛 (‵ (Owns d (u ∷ [])) ∷ Γ) G
    is_typed t d u next =
        box_out E t d (u ∷ []) (λ b o h at_b is fits. box_in E t d b o d.value at_b refl $
        let back : word E h b o ≡ u = sym (ap only is) in
        rewrite t 0 (λ (w : Val). ‵ (Owns d (w ∷ []))) back refl $
        next (subst (λ (w : Val). T (has_ty (box_ty E) w) × WT w) back (box_typed E h b o fits)))

    -- a pair, and the memory that its pointer points to, are a box
    pub paired : K → (r : Ptr × E.al.row.Denot) (x : X E) (vs : List Val)
        → Step K 𝓛 (‵ (Owns (record { ptr = r.0; alloc = r.1; value = x }) vs) ∷ Γ) G
        (‵ (Pair.own_val r vs) ∷ ‵ (box_owns (token E.al r.1) (R E) r.0 x) ∷ Γ) G
    paired t r x vs = fjoin t

module _ {M : Type 1} {𝓤 : Ura M} {𝓛 : Logic 𝓤} {K : Type 0} {Γ : List (Item 𝓤)} where
  -- a function may be walked from the word that its one argument turned out to be
  pub from_the_word : K → (Run : List Val → SProp 𝓤) {vs : List Val} {w : Val} → vs ≡ w ∷ []
      → Step K 𝓛 Γ (prop (Run (w ∷ []))) Γ (prop (Run (vs ++ [])))
  from_the_word t Run {vs} {w} is = regoal t (λ (us : List Val). prop (Run (us ++ []))) is refl
