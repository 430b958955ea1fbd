-- `into_box` takes the two fields out and hands them to `Box::from_raw`, which asks for the memory of the pointer.
-- A loose box owns just that beside its handle, since it is read as a box with the same parts. The box that comes back
-- has the value that the call was promised. The walk is in four steps: `asked` makes what the call requires,
-- `given` reads what it returns as one machine word, `moved` goes through the statements, and `left` ends.
use Rattle.rangesync_c.proofs.AsBox.{Row, as_box, Owns, Called, is_typed, from_the_word}
use Prim.Native.Nat.{ℕ}
use mathlib.Core.List.{List, [], ◌∷◌}
use mathlib.Core.Path.{◌≡◌, refl}
use lib.Dec.{T}
use seplogic.Ra.Ura.{Ura}
use mir.MapTy.{inst_fn}
use mir.Syntax.{Fn, Dict, a_type, dcons, dnil}
use mir.Val.{Val, vptr, has_ty, WT}
use base.Fml.{ftrue}
use base.Logic.{SProp, ent, sep, id⊢}
use contract.BorrowLft.{◌⊑◌}
use contract.Lifetimes.{Lfts, Shares}
use contract.Monad.{Fun, fact}
use contract.Running.{Running, MachineTables, tables}
use prog.Memory.{Memory}
use prog.Model.{Model}
use prog.Routine.{Routine}
use prog.Wp.{WpFn}
use types.Logic.{Logic, sem}
use types.Kit.{Item, Goal, Seq, Step, step, Soaks, ‵, raw, ◌⊛◌, some, later, at_ret, ◌$◌, ◌∵◌, ! }
use types.Kit.{qed, by, move, drop, group, mean, split, split3, join, fsplit, fjoin, feq_i, pick, use1, await}
use types.Kit.{suffices, done}
use types.Run.{enter, of_opd, no_more, and_then, stop, fld, first, blocks, exec, returns}
use types.ByLocal.{alloc_all, pass_all, free_all, look_at, get, get_in, sets, lands_last, env}
use types.Part.{sub, whole}
use denote.Exit.{no}
use denote.Param.{bounded}
use denote.RawPtr.{block_ptr}
use denote.RattleType.{owns}
use denote.Signature.{plain, types_at}
use denote.Steps.{heard, nothing}
use denote.Triple.Call.{calls_at_last}
use denote.Triple.Clauses.{Ended, Clauses, Lasts, lasts}
use denote.Triple.Entry.{alive}
use denote.Triple.Spec.{triple_of}
use denote.Triple.Statement.{Contract, Triple}
use denote.Triple.Walked.{Stays, stay_dropped, walk_of, says, ends_at}
use Rattle.core.proofs.alloc.Calls.{token, Goes-blank}
use Rattle.core.proofs.alloc.Shapes.{after}
use Rattle.core.proofs.atomic.Steps.{fm}
use Rattle.std.proofs.raw_atomic.Walks.{proved_at}
use Rattle.std_alloc.specs.Box.Ownership.{box_owns}
use Rattle.std_alloc.proofs.BoxSteps.Form.{Bx, X, D, R, word, handle, box_ty, box_typed}
use Rattle.std_alloc.proofs.BoxSteps.Steps.{box_out}
use Rattle.std_alloc.specs.contracts.boxed.Box.from_raw as callee
use Rattle.std_alloc.proofs.boxed.Box.from_raw.Met.{met}
use Rattle.std_alloc.proofs.boxed.Box.from_raw.Symbol as symbol
use Rattle.rangesync_c.specs.contracts.loose.Loose.into_box as f
use Rattle.rangesync_c.specs.contracts.loose.Loose.into_box.Key.{name as called}
use Rattle.rangesync_c.proofs.loose.Loose.into_box.Statement.{statement}
use Rattle.rangesync_c.proofs.loose.Loose.into_box.Code as code

module _ (E : Bx) (dx : Dict) where
  abbrev ended : Ended
  ended = f.ended E.row E.al.row E.al.g E.al.d dx E.al.drops

  abbrev stayed : Stays ended.signature.params ended.kept
  stayed = (stay_dropped (plain (λ _. Row E)) no, tt)

  abbrev code_of : Fn
  code_of = inst_fn (Called E dx) code.function

  module _ {M : Type 1} {𝓤 : Ura M} (𝓛 : Logic 𝓤) (mem : Memory → SProp 𝓤) (run : Routine → Fun 𝓤) where
    abbrev clauses : Clauses 𝓤 ended
    clauses = f.clauses E.row E.al.row E.al.g E.al.d dx E.al.drops 𝓛 mem run

    abbrev Together : Contract 𝓤
    Together = triple_of 𝓛 (callee.signature E.row E.al.row E.al.g E.al.d E.al.drops)
        (callee.spec E.row E.al.row E.al.g E.al.d E.al.drops 𝓛 mem run)

    abbrev returned : Ended
    returned = callee.ended E.row E.al.row E.al.g E.al.d E.al.drops

    module _ (κs : Lfts 2) (qs : Shares 2) (b o : ℕ) (a : E.al.row.Denot) (h : Val) (x : X E) where
      -- the call, at the handle `a`, which is the word `h`, and the pointer to `x`
      abbrev at_words : Together.Ghost
      at_words = ((κs, qs, tt, (a, (block_ptr b o, tt)), (h ∷ [], (vptr b o ∷ [], tt))), x)

      abbrev tokens : Item 𝓤
      tokens = raw (alive 𝓛 ended.signature κs qs)

      abbrev live_on : Item 𝓤
      live_on = raw (fact 𝓤 (κs.0 ⊑ E.row.lives)) ⊛ raw (fact 𝓤 (κs.1.0 ⊑ E.al.row.lives)) ⊛ ‵ ftrue

      module _ {K : Type 0} {Γ : List (Item 𝓤)} {G : Goal 𝓤 𝓛.H} where
        asked : K → Step K 𝓛 (raw (Together.pre at_words) ∷ Γ) G
            (‵ (box_owns (token E.al a) (R E) (block_ptr b o) x) ∷ ‵ (handle E a h) ∷ tokens
            ∷ raw (mean 𝓛 live_on) ∷ Γ) G
        asked t = step (λ next.
            move t (3 ∷ []) $ use1 𝓛 live_on (id⊢ 𝓤 _) $ split3 t $ move t (2 ∷ []) $ drop t $ group t 3 $
            -- [what is required; the handle; the tokens]
            nothing t $ feq_i t (List Val) (vptr b o ∷ []) (vptr b o ∷ []) refl $ fjoin t $
            move t (2 ∷ 0 ∷ []) $ fjoin t $ move t (2 ∷ 0 ∷ []) $ join t $ join t $
            use1 𝓛 (raw (Together.pre at_words)) (id⊢ 𝓤 _) $ next)

        given : K → Soaks G → (u : Val)
            → ((r : D E) → r.value ≡ x → T (has_ty (box_ty E) u) × WT u
            → Seq K 𝓛 (‵ (Owns E r (u ∷ [])) ∷ tokens ∷ Γ) G)
            → Seq K 𝓛 (raw (Together.post at_words u) ∷ Γ) G
        given t z u next =
            use1 𝓛 (later (some (λ (r : D E). (tokens ⊛ ‵ (Owns E r (u ∷ [])))
            ⊛ some (λ (ws : Lasts returned κs at_words.0.3). ‵ (lasts returned κs at_words.0.3 ws)
            ⊛ (raw (fact 𝓤 (r.value ≡ x)) ⊛ raw (fact 𝓤 (r.alloc ≡ a))))))) (id⊢ 𝓤 _) $
            await t z $ pick t (λ r. split t $ move t (1 ∷ []) $ pick t (λ ws. split3 t $ drop t $
            heard t (r.value ≡ x) (λ same. drop t $ split t $ move t (1 ∷ []) $
            is_typed E t r u (next r same))))

  module _ {M : Type 1} {𝓤 : Ura M} (𝓛 : Logic 𝓤) (𝓜 : Model 𝓤 𝓛.H) (𝓡 : Running 𝓤 𝓛.H 𝓜) where
    abbrev 𝓣 : MachineTables 𝓤 𝓛.H 𝓜
    𝓣 = tables 𝓤 𝓛.H 𝓜 𝓡 𝓡.env

    abbrev W : Contract 𝓤
    W = walk_of 𝓛 ended stayed (clauses 𝓛 𝓜.mem 𝓡.returns)

    abbrev Puts : Type 1
    Puts = Triple 𝓤 (𝓣.C (symbol.name (bounded (a_type ∷ a_type ∷ []) (E.row, (E.al.row, tt))
        (dcons E.al.d (dcons E.al.drops dnil))))) (Together 𝓛 𝓜.mem 𝓡.returns)

    left : (y : W.Ghost) (d : D E) (w : Val) → d.value ≡ y.0.3.0.value
        → ent 𝓤 (sep 𝓤 (sem 𝓛 (Owns E d (w ∷ []))) (alive 𝓛 ended.signature y.0.0 y.0.1)) (W.post y w)
    left y d w same =
        qed 𝓛 (‵ (Owns E d (w ∷ [])) ∷ raw (alive 𝓛 ended.signature y.0.0 y.0.1) ∷ []) ∵
        suffices ! _ (ends_at 𝓛 ended stayed (clauses 𝓛 𝓜.mem 𝓡.returns) y w d ((tt, (tt, tt)), tt) (tt, tt)) $
        says ! same $ nothing ! $ nothing ! $ fjoin ! $ join ! $ move ! (1 ∷ 0 ∷ []) $ join ! $ done !

    moved : Puts → (y : W.Ghost) → ent 𝓤 (W.pre y) (WpFn 𝓤 𝓛.H 𝓣.C 𝓣.Λ code_of (W.args y) (W.post y))
    moved puts y =
        let κs = y.0.0 in let qs = y.0.1 in let v = y.0.3.0 in let a = v.alloc in let x = v.value in
        let Run : List Val → SProp 𝓤 = λ us. WpFn 𝓤 𝓛.H 𝓣.C 𝓣.Λ code_of us (W.post y) in
        qed 𝓛 ((raw (alive 𝓛 ended.signature κs qs) ⊛ ‵ (owns (types_at ended.signature.params κs) (v, tt) y.0.4))
        ∷ raw ((clauses 𝓛 𝓜.mem 𝓡.returns κs (v, tt)).requires tt) ∷ []) ∵ split ! $ move ! (1 ∷ []) $ fsplit ! $
        box_out E ! (as_box E v) y.0.4.0 (λ b o h at_b is fits.
        from_the_word ! Run is $ fjoin ! $ move ! (2 ∷ []) $ drop ! $
        -- [the memory; the handle; the tokens; how long the types live]
        enter ! 𝓣.C 𝓣.Λ code_of (word E h b o ∷ []) (W.post y) $
        alloc_all ! (λ l. pass_all ! refl (box_typed E h b o fits, tt) $
        sets ! (of_opd ! (get_in ! (fld ! refl (stop !)) (sub ! 0 refl (whole !)))) refl (tt, tt) $
        sets ! (of_opd ! (get_in ! (fld ! refl (stop !)) (sub ! 1 refl (whole !)))) refl fits $
        first ! $ blocks ! $ sets ! (of_opd ! (get ! refl)) refl fits $
        asked 𝓛 𝓜.mem 𝓡.returns κs qs b o a h x ! $
        calls_at_last ! (fm 𝓛 𝓜 𝓡) (Together 𝓛 𝓜.mem 𝓡.returns) puts (at_words 𝓛 𝓜.mem 𝓡.returns κs qs b o a h x)
        (and_then ! (get ! refl) (and_then ! (get ! refl) (no_more !))) (λ u.
        given 𝓛 𝓜.mem 𝓡.returns κs qs b o a h x ! tt u (λ r same fits'.
        lands_last ! refl fits' $ exec ! 𝓣.C 𝓣.Λ (env code_of.locals l) (after 3 code_of.body) (at_ret _ (W.post y)) $
        sets ! (of_opd ! (get ! refl)) refl fits' $
        returns ! (look_at ! 0 refl) $ free_all ! refl $ by ! (left y r u same)))))

pub into_box_spec : {M : Type 1} → statement M
into_box_spec 𝓤 𝓛 𝓜 𝓡 wired T A LT LA g d dx dd allocator glue glued =
    let E : Bx = record { row = T; laws = LT; al = record { row = A; laws = LA; g = g; d = d; drops = dd } } in
    proved_at 𝓛 (ended E dx) (stayed E dx) (clauses E dx 𝓛 𝓜.mem 𝓡.returns) 𝓜 𝓡
    (Goes-blank 𝓛 2 (plain (λ _. Row E)) no (λ κs x f. tt), tt)
    (called (Called E dx)) (code_of E dx) (code.unfolded 𝓤 𝓛.H 𝓜 𝓡 wired (T, (A, tt)) d dx dd)
    (λ y are. moved E dx 𝓛 𝓜 𝓡
    (met 𝓤 𝓛 𝓜 𝓡 (code.calls-std_alloc::boxed::Box::from_raw 𝓡.env wired) T A LT LA g d dd allocator glued) y)
