-- `of_loose` and `into_loose` are one piece of code: the two fields of a struct are moved out, the pointer is cast,
-- which copies it, and another struct is made of both. The two differ in the names of the structs, which the machine
-- does not read. So one walk, over any two names, serves for both: the struct that is made is the word that was taken,
-- and whatever followed from what that word owns follows still.
use Prim.Native.Nat.{ℕ}
use mathlib.Core.List.{[], ◌∷◌}
use mathlib.Core.Path.{refl}
use seplogic.Ra.Ura.{Ura}
use mir.Syntax.{Sym, Ty, Fn, ty_ptr, ty_struct, tnil, tcons, local, value_local}
use mir.Syntax.{place, field, copy, rv_opd, aggregate, assign, seq, return}
use mir.Val.{Val}
use base.Fml.{Fml}
use base.Logic.{SProp, ent}
use prog.Wp.{Calls, Loops, WpFn}
use types.Logic.{Logic, sem}
use types.Kit.{‵, ◌$◌, ◌∵◌, !, qed, by}
use types.Run.{enter, of_opd, no_more, and_then, stop, fld, returns}
use types.ByLocal.{alloc_all, pass_all, free_all, look_at, get, get_in, sets}
use types.Part.{agg, sub, whole}
use Rattle.core.proofs.alloc.Calls.{α, Fits}
use Rattle.std_alloc.proofs.BoxSteps.Form.{word, box_typed}
use Rattle.rangesync_c.proofs.ThingBox.{E}

-- a struct of a pointer and a handle of the heap
abbrev of_two : Sym → Ty
of_two name = ty_struct name (tcons ty_ptr (tcons (α E.al) tnil))

abbrev pub remade : Sym → Sym → Fn
remade to from = record {
  lifetimes = 0;
  outlives = [];
  ty_params = [];
  givens = 0;
  params = 1;
  locals =
      local (of_two to) value_local ∷
      local (of_two from) value_local ∷
      local ty_ptr value_local ∷ local (α E.al) value_local ∷ local ty_ptr value_local ∷ [];
  body =
      seq (assign (place 2 []) (rv_opd (copy (place 1 (field 0 ∷ [])))))
      (seq (assign (place 3 []) (rv_opd (copy (place 1 (field 1 ∷ [])))))
      (seq (assign (place 4 []) (rv_opd (copy (place 2 []))))
      (seq (assign (place 0 []) (aggregate (copy (place 4 []) ∷ copy (place 3 []) ∷ []))) return)));
}

module _ {M : Type 1} {𝓤 : Ura M} (𝓛 : Logic 𝓤) (C : Calls 𝓤 𝓛.H) (Λ : Loops 𝓤 𝓛.H) (to from : Sym) where
  pub remakes : (b o : ℕ) (h : Val) → Fits E.al h → (F : Fml) (Post : Val → SProp 𝓤)
      → ent 𝓤 (sem 𝓛 F) (Post (word E h b o))
      → ent 𝓤 (sem 𝓛 F) (WpFn 𝓤 𝓛.H C Λ (remade to from) (word E h b o ∷ []) Post)
  remakes b o h fits F Post after =
      let typed = box_typed E h b o fits in
      qed 𝓛 (‵ F ∷ []) ∵ enter ! C Λ (remade to from) (word E h b o ∷ []) Post $
      alloc_all ! (λ l. pass_all ! refl (typed, tt) $
      sets ! (of_opd ! (get_in ! (fld ! refl (stop !)) (sub ! 0 refl (whole !)))) refl (tt, tt) $
      sets ! (of_opd ! (get_in ! (fld ! refl (stop !)) (sub ! 1 refl (whole !)))) refl fits $
      sets ! (of_opd ! (get ! refl)) refl (tt, tt) $
      sets ! (agg ! (and_then ! (get ! refl) (and_then ! (get ! refl) (no_more !)))) refl typed $
      returns ! (look_at ! 0 refl) $ free_all ! refl $ by ! after)
