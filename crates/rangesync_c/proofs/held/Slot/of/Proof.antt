-- `Slot::of` writes the two words of a handle where C has room for one. What a slot owns once a handle is there is
-- what the handle owned, which is what a box owns, and the code only moves the words (`remakes`). That a handle is
-- there, and of which value, is what the walk says of the slot that it makes.
use mathlib.Core.List.{List, [], ◌∷◌}
use mathlib.Core.Path.{◌≡◌, refl, ap}
use seplogic.Ra.Ura.{Ura}
use mir.Val.{Val}
use base.Logic.{SProp, ent}
use contract.Running.{Running, MachineTables, tables}
use prog.Model.{Model}
use prog.Wp.{WpFn}
use types.Logic.{Logic, sem}
use types.Kit.{‵, raw, ◌⊛◌, ◌$◌, ◌∵◌, !, qed, by, keep, move, split, join, fsplit, fjoin, suffices, done}
use denote.Exit.{yes}
use denote.RawPtr.{block_ptr}
use denote.RattleType.{owns}
use denote.Signature.{plain, types_at}
use denote.Steps.{nothing}
use denote.Triple.Clauses.{Clauses}
use denote.Triple.Entry.{alive}
use denote.Triple.Statement.{Contract}
use denote.Triple.Walked.{Stays, stay_dropped, Goes-dropped, walk_of, says, ends_at}
use Rattle.std.specs.Prelude.{Some}
use Rattle.std.proofs.raw_atomic.Walks.{proved_at}
use Rattle.std_alloc.proofs.BoxSteps.Form.{D, word}
use Rattle.rangesync_c.proofs.AsBox.{Owns, in_one_word, from_the_word}
use Rattle.rangesync_c.proofs.ThingBox.{E, Handle, boxed, slot_of, handle_name, slot_name}
use Rattle.rangesync_c.proofs.Remade.{remakes}
use Rattle.rangesync_c.specs.contracts.held.Slot.of as f
use Rattle.rangesync_c.proofs.held.Slot.of.Statement.{statement}
use Rattle.rangesync_c.proofs.held.Slot.of.Code as code

abbrev stayed : Stays f.ended.signature.params f.ended.kept
stayed = (stay_dropped (plain (λ _. Handle)) yes, tt)

module _ {M : Type 1} {𝓤 : Ura M} (𝓛 : Logic 𝓤) (𝓜 : Model 𝓤 𝓛.H) (𝓡 : Running 𝓤 𝓛.H 𝓜) where
  abbrev 𝓣 : MachineTables 𝓤 𝓛.H 𝓜
  𝓣 = tables 𝓤 𝓛.H 𝓜 𝓡 𝓡.env

  abbrev c : Clauses 𝓤 f.ended
  c = f.clauses 𝓛 𝓜.mem 𝓡.returns

  abbrev W : Contract 𝓤
  W = walk_of 𝓛 f.ended stayed c

  left : (y : W.Ghost) (d : D E) (w : Val) → d.value ≡ y.0.3.0.value → ent 𝓤 (sem 𝓛 (Owns E d (w ∷ []))) (W.post y w)
  left y d w same =
      qed 𝓛 (‵ (Owns E d (w ∷ [])) ∷ []) ∵
      suffices ! _ (ends_at 𝓛 f.ended stayed c y w (slot_of d) (tt, tt) (tt, tt)) $ says ! (ap Some same) $
      nothing ! $ nothing ! $ fjoin ! $ join ! $ nothing ! $ join ! $ done !

  moved : (y : W.Ghost) → ent 𝓤 (W.pre y) (WpFn 𝓤 𝓛.H 𝓣.C 𝓣.Λ code.function (W.args y) (W.post y))
  moved y =
      let v = boxed y.0.3.0 in
      let Run : List Val → SProp 𝓤 = λ us. WpFn 𝓤 𝓛.H 𝓣.C 𝓣.Λ code.function us (W.post y) in
      qed 𝓛 ((raw (alive 𝓛 f.ended.signature tt tt) ⊛ ‵ (owns (types_at f.ended.signature.params tt) y.0.3 y.0.4))
      ∷ raw ((c tt y.0.3).requires tt) ∷ []) ∵ split ! $ move ! (1 ∷ []) $ fsplit ! $
      in_one_word E ! v y.0.4.0 (λ b o h is fits.
      let d : D E = record v { ptr = block_ptr b o } in
      from_the_word ! Run is $ keep ! (0 ∷ []) $
      by ! (remakes 𝓛 𝓣.C 𝓣.Λ slot_name handle_name b o h fits (Owns E d (word E h b o ∷ [])) (W.post y)
      (left y d (word E h b o) refl)))

pub of_spec : {M : Type 1} → statement M
of_spec 𝓤 𝓛 𝓜 𝓡 wired =
    proved_at 𝓛 f.ended stayed (c 𝓛 𝓜 𝓡) 𝓜 𝓡 (Goes-dropped 𝓛 0 (plain (λ _. Handle)) yes (λ κs x w. refl), tt)
    f.Key.name code.function (code.unfolded 𝓤 𝓛.H 𝓜 𝓡 wired) (λ y are. moved 𝓛 𝓜 𝓡 y)
