-- `of` is one call, of `Box::into_raw_with_allocator`, and a move of its two results into the fields.
-- The call gives up the box and returns a pair of a pointer and a handle, and beside the pair lies the memory after
-- the pointer. Pair and memory together are a box again (`paired`), of the same value; and what a box owns is what
-- the loose box owns that is made of the two words. The walk is in four steps: `asked` hands the box over, `given`
-- reads what came back as such a box, `moved` goes through the statements, and `left` ends with the loose box.
use Rattle.rangesync_c.proofs.AsBox.{Pair, as_loose, Owns, Called, in_one_word, paired, from_the_word}
use Prim.Native.Nat.{ℕ}
use mathlib.Core.List.{List, [], ◌∷◌}
use mathlib.Core.Path.{◌≡◌, refl, sym, ap}
use seplogic.Ra.Ura.{Ura}
use mir.MapTy.{inst_fn}
use mir.Syntax.{Fn, Dict, a_type, dcons, dnil}
use mir.Val.{Val}
use base.Logic.{SProp, ent, sep, id⊢}
use contract.Lifetimes.{Lfts, Shares}
use contract.Monad.{Fun, fact}
use contract.Running.{Running, MachineTables, tables}
use prog.Memory.{Memory}
use prog.Model.{Model}
use prog.Routine.{Routine}
use prog.Wp.{WpFn}
use types.Logic.{Logic, sem}
use types.Kit.{Item, Goal, Seq, Step, step, Soaks, ‵, raw, ◌⊛◌, some, later, ◌$◌, ◌∵◌, !, qed, by, move, drop, rewrite}
use types.Kit.{split, split3, join, fsplit, fjoin, pick, use1, await, suffices, done}
use types.Run.{enter, of_opd, no_more, and_then, stop, fld, returns}
use types.ByLocal.{alloc_all, pass_all, free_all, look_at, get, get_in, sets, lands_as}
use types.Part.{agg, sub, whole}
use denote.Exit.{no}
use denote.Param.{bounded}
use denote.RawPtr.{Ptr, block_ptr}
use denote.RattleType.{owns}
use denote.Signature.{plain, types_at}
use denote.Steps.{heard, nothing, only}
use denote.Triple.Call.{calls_at}
use denote.Triple.Clauses.{Ended, Clauses, Lasts, lasts}
use denote.Triple.Entry.{alive}
use denote.Triple.Spec.{triple_of}
use denote.Triple.Statement.{Contract, Triple}
use denote.Triple.Walked.{Stays, stay_dropped, walk_of, says, ends_at}
use Rattle.core.proofs.alloc.Calls.{Fits, token, Goes-blank}
use Rattle.core.proofs.atomic.Steps.{fm}
use Rattle.std.proofs.raw_atomic.Walks.{proved_at}
use Rattle.std_alloc.specs.Box.Ownership.{box_owns}
use Rattle.std_alloc.proofs.BoxSteps.Form.{Bx, D, R, B, word, box_typed}
use Rattle.std_alloc.specs.contracts.boxed.Box.into_raw_with_allocator as callee
use Rattle.std_alloc.proofs.boxed.Box.into_raw_with_allocator.Met.{met}
use Rattle.std_alloc.proofs.boxed.Box.into_raw_with_allocator.Symbol as symbol
use Rattle.rangesync_c.specs.contracts.loose.Loose.of as f
use Rattle.rangesync_c.specs.contracts.loose.Loose.of.Key.{name as called}
use Rattle.rangesync_c.proofs.loose.Loose.of.Statement.{statement}
use Rattle.rangesync_c.proofs.loose.Loose.of.Code as code

module _ (E : Bx) (dx : Dict) where
  abbrev ended : Ended
  ended = f.ended E.row E.al.row E.al.g E.al.d dx E.al.drops

  abbrev stayed : Stays ended.signature.params ended.kept
  stayed = (stay_dropped (plain (λ _. B E)) no, tt)

  abbrev code_of : Fn
  code_of = inst_fn (Called E dx) code.function

  module _ {M : Type 1} {𝓤 : Ura M} (𝓛 : Logic 𝓤) (mem : Memory → SProp 𝓤) (run : Routine → Fun 𝓤) where
    abbrev clauses : Clauses 𝓤 ended
    clauses = f.clauses E.row E.al.row E.al.g E.al.d dx E.al.drops 𝓛 mem run

    abbrev Apart : Contract 𝓤
    Apart = triple_of 𝓛 (callee.signature E.row E.al.row E.al.g E.al.d E.al.drops dx)
        (callee.spec E.row E.al.row E.al.g E.al.d E.al.drops dx 𝓛 mem run)

    module _ (κs : Lfts 2) (qs : Shares 2) (v : D E) (w : Val) where
      -- the call, at the box `v`, which is the word `w`
      abbrev at_box : Apart.Ghost
      at_box = ((κs, qs, tt, (v, tt), (w ∷ [], tt)), tt)

      abbrev tokens : Item 𝓤
      tokens = raw (alive 𝓛 ended.signature κs qs)

      abbrev bounds : Item 𝓤
      bounds = raw ((clauses κs (v, tt)).requires tt)

      module _ {K : Type 0} {Γ : List (Item 𝓤)} {G : Goal 𝓤 𝓛.H} where
        pub asked : K → Step K 𝓛 (raw (Apart.pre at_box) ∷ Γ) G (‵ (Owns E v (w ∷ [])) ∷ tokens ∷ bounds ∷ Γ) G
        asked t = step (λ next. nothing t $ move t (1 ∷ 0 ∷ []) $ fjoin t $ move t (1 ∷ 0 ∷ []) $ join t $ join t $
            use1 𝓛 (raw (Apart.pre at_box)) (id⊢ 𝓤 _) $ next)

        pub given : K → Soaks G → (u : Val)
            → ((b o : ℕ) (h : Val) (a : E.al.row.Denot) → u ≡ word E h b o → Fits E.al h
            → Seq K 𝓛 (‵ (Owns E (record { ptr = block_ptr b o; alloc = a; value = v.value }) (word E h b o ∷ []))
            ∷ tokens ∷ Γ) G)
            → Seq K 𝓛 (raw (Apart.post at_box u) ∷ Γ) G
        given t z u next =
            use1 𝓛 (later (some (λ (r : Ptr × E.al.row.Denot). (tokens ⊛ ‵ ((Pair E).own_val r (u ∷ [])))
            ⊛ some (λ (ws : Lasts (callee.ended E.row E.al.row E.al.g E.al.d E.al.drops dx) κs (v, tt)).
            ‵ (lasts (callee.ended E.row E.al.row E.al.g E.al.d E.al.drops dx) κs (v, tt) ws)
            ⊛ (raw (fact 𝓤 (r.1 ≡ v.alloc)) ⊛ ‵ (box_owns (token E.al v.alloc) (R E) r.0 v.value)))))) (id⊢ 𝓤 _) $
            await t z $ pick t (λ r. split t $ move t (1 ∷ []) $ pick t (λ ws. split3 t $ drop t $
            heard t (r.1 ≡ v.alloc) (λ same.
            -- [the memory of the pointer; the tokens and the pair]
            rewrite t 0 (λ (a : E.al.row.Denot). ‵ (box_owns (token E.al a) (R E) r.0 v.value)) (sym same) refl $
            move t (1 ∷ []) $ split t $ move t (1 ∷ 2 ∷ []) $ paired E t r v.value (u ∷ []) $
            in_one_word E t (record { ptr = r.0; alloc = r.1; value = v.value }) (u ∷ []) (λ b o h is fits.
            next b o h r.1 (ap only is) fits))))

  module _ {M : Type 1} {𝓤 : Ura M} (𝓛 : Logic 𝓤) (𝓜 : Model 𝓤 𝓛.H) (𝓡 : Running 𝓤 𝓛.H 𝓜) where
    abbrev 𝓣 : MachineTables 𝓤 𝓛.H 𝓜
    𝓣 = tables 𝓤 𝓛.H 𝓜 𝓡 𝓡.env

    abbrev W : Contract 𝓤
    W = walk_of 𝓛 ended stayed (clauses 𝓛 𝓜.mem 𝓡.returns)

    abbrev Pulls : Type 1
    Pulls = Triple 𝓤 (𝓣.C (symbol.name (bounded (a_type ∷ a_type ∷ []) (E.row, (E.al.row, tt))
        (dcons E.al.d (dcons E.al.drops (dcons dx dnil)))))) (Apart 𝓛 𝓜.mem 𝓡.returns)

    left : (y : W.Ghost) (d : D E) (w : Val) → d.value ≡ y.0.3.0.value
        → ent 𝓤 (sep 𝓤 (sem 𝓛 (Owns E d (w ∷ []))) (alive 𝓛 ended.signature y.0.0 y.0.1)) (W.post y w)
    left y d w same =
        let made = as_loose E d in let c = clauses 𝓛 𝓜.mem 𝓡.returns in
        qed 𝓛 (‵ (Owns E d (w ∷ [])) ∷ raw (alive 𝓛 ended.signature y.0.0 y.0.1) ∷ []) ∵
        suffices ! _ (ends_at 𝓛 ended stayed c y w made ((tt, (tt, tt)), tt) (tt, tt)) $ says ! same $
        nothing ! $ nothing ! $ fjoin ! $ join ! $ move ! (1 ∷ 0 ∷ []) $ join ! $ done !

    moved : Pulls → (y : W.Ghost) → ent 𝓤 (W.pre y) (WpFn 𝓤 𝓛.H 𝓣.C 𝓣.Λ code_of (W.args y) (W.post y))
    moved pulls y =
        let κs = y.0.0 in let qs = y.0.1 in let v = y.0.3.0 in
        let Run : List Val → SProp 𝓤 = λ us. WpFn 𝓤 𝓛.H 𝓣.C 𝓣.Λ code_of us (W.post y) in
        qed 𝓛 ((raw (alive 𝓛 ended.signature κs qs) ⊛ ‵ (owns (types_at ended.signature.params κs) (v, tt) y.0.4))
        ∷ raw ((clauses 𝓛 𝓜.mem 𝓡.returns κs (v, tt)).requires tt) ∷ []) ∵ split ! $ move ! (1 ∷ []) $ fsplit ! $
        in_one_word E ! v y.0.4.0 (λ b o h is fits.
        let w = word E h b o in let z : D E = record v { ptr = block_ptr b o } in
        from_the_word ! Run is $ move ! (1 ∷ []) $ drop ! $
        enter ! 𝓣.C 𝓣.Λ code_of (w ∷ []) (W.post y) $ alloc_all ! (λ l. pass_all ! refl (box_typed E h b o fits, tt) $
        sets ! (of_opd ! (get ! refl)) refl (box_typed E h b o fits) $
        asked 𝓛 𝓜.mem 𝓡.returns κs qs z w ! $
        calls_at ! (fm 𝓛 𝓜 𝓡) (Apart 𝓛 𝓜.mem 𝓡.returns) pulls (at_box 𝓛 𝓜.mem 𝓡.returns κs qs z w)
        (and_then ! (get ! refl) (no_more !)) (λ u.
        given 𝓛 𝓜.mem 𝓡.returns κs qs z w ! tt u (λ b' o' h' a' is' fits'.
        lands_as ! is' refl (box_typed E h' b' o' fits') $
        sets ! (of_opd ! (get_in ! (fld ! refl (stop !)) (sub ! 0 refl (whole !)))) refl (tt, tt) $
        sets ! (of_opd ! (get_in ! (fld ! refl (stop !)) (sub ! 1 refl (whole !)))) refl fits' $
        sets ! (of_opd ! (get ! refl)) refl fits' $
        sets ! (agg ! (and_then ! (get ! refl) (and_then ! (get ! refl) (no_more !)))) refl
        (box_typed E h' b' o' fits') $
        returns ! (look_at ! 0 refl) $ free_all ! refl $
        let d : D E = record { ptr = block_ptr b' o'; alloc = a'; value = v.value } in
        by ! (left y d (word E h' b' o') refl)))))

pub of_spec : {M : Type 1} → statement M
of_spec 𝓤 𝓛 𝓜 𝓡 wired T A LT LA g d dx dd allocator glue glued =
    let E : Bx = record { row = T; laws = LT; al = record { row = A; laws = LA; g = g; d = d; drops = dd } } in
    proved_at 𝓛 (ended E dx) (stayed E dx) (clauses E dx 𝓛 𝓜.mem 𝓡.returns) 𝓜 𝓡
    (Goes-blank 𝓛 2 (plain (λ _. B E)) no (λ κs x f. tt), tt)
    (called (Called E dx)) (code_of E dx) (code.unfolded 𝓤 𝓛.H 𝓜 𝓡 wired (T, (A, tt)) d dx dd)
    (λ y are. moved E dx 𝓛 𝓜 𝓡
    (met 𝓤 𝓛 𝓜 𝓡 (code.calls-std_alloc::boxed::Box::into_raw_with_allocator 𝓡.env wired) T A LT LA g d dd dx
    allocator glued glue) y)
