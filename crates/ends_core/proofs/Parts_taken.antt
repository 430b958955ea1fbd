-- Parts that are taken one after another, up to the first that is refused.
use Rattle.std.proofs.Common.{◌≡◌, ℕ, ◌+◌, ◌<◌, ◌≤◌, true, false, Bool, [], ◌∷◌, ◌++◌, length, get_or, take, drop}
use Rattle.std.proofs.Common.{Option, Some, None, IfSome, IfNone, refl, sym, ap, ◌∙◌, subst}
use Rattle.std.specs.Prelude.{fold, if◌then◌else◌, Err}
use Rattle.std.proofs.lemmas.List.{drop_more, drop_all, take_more, take_all}
use Rattle.definitions.proofs.Lemmas.{fold-append}
use Rattle.definitions.specs.Fingerprints.{Summary}
use Rattle.definitions.specs.Messages.{Part, Message}
use Rattle.definitions.specs.Placing.{Refused, next, finish, refusal}
use Rattle.definitions.specs.Ends.{Stage, Fresh, Waits, Over, Spent, Answer, Replies, Ends, Refuses, after}
use Rattle.definitions.specs.Ends.{after_answer, answer, answer_unless, stage_fault, is_live}
use Rattle.definitions.specs.Refusals.{spent}
use Rattle.definitions.specs.Talks.{nothing}
use Rattle.laws.specs.Taking.{PartsAreTaken}
use Rattle.definitions.specs.Taking.{Taken, taken, taken_all, ended, ended_unless, after_ended, by_parts, refuses_or}
use Rattle.ends_core.specs.Drafts.{Drafted}
use Rattle.ends_core.specs.EndStates.{EndState, HasNone, IsAble, stage_of, taken_of}
use Rattle.ends_core.specs.Turns.{told_in, refusal_of, end_after, after_part, after_parts, after_end, after_message}
use Rattle.ends_core.specs.Turns.{fresh, spend}
use Rattle.ends_core.specs.declared.turn.EndFault.{EndFault}
use Rattle.ends_core.specs.declared.turn.EndFault.TheVariants as faults
use Rattle.ends_core.specs.declared.stage.Stage as own
use Rattle.ends_core.specs.declared.stage.Stage.TheVariants as stages
use Rattle.ends_core.proofs.Refusing.{open-live}

module _ {F : Type 0} (S : Summary F) where
  -- where a loop over the parts stands: those so far were taken, and the rest will tell the answer
  pub record IsAmong (old now : EndState F) (parts : Message F) (i : ℕ) : Type 0 where
    pub same : now ≡ record old { taken = now.taken }
    pub taken_is : now.taken ≡ fold (taken S old.end) old.taken (take i parts)
    pub answer_is : by_parts S old.end old.taken parts ≡ by_parts S old.end now.taken (drop i parts)

  pub among-first : (old : EndState F) (parts : Message F) → IsAmong old old parts 0
  among-first old parts = record { same = refl; taken_is = refl; answer_is = refl }

  -- a part more
  pub among-next : (old now new : EndState F) (parts : Message F) (i : ℕ) (p : Part F) → i < length parts →
      get_or parts i p ≡ p → IsAmong old now parts i →
      None ≡ refusal (next now.taken.place p) → new ≡ after_part S now p None → IsAmong old new parts (i + 1)
  among-next old now new parts i p low here at fine is =
      let end : now.end ≡ old.end = ap (λ h. h.end) at.same in
      let steps : now.steps ≡ old.steps = ap (λ h. h.steps) at.same in
      let t : Taken F = taken S old.end now.taken p in
      let took : new.taken ≡ t = ap (λ h. h.taken) is ∙ ap (λ e. taken S e now.taken p) end in
      let more : take (i + 1) parts ≡ take i parts ++ p ∷ [] = take_more parts i p low
      ∙ ap (λ (q : Part F). take i parts ++ q ∷ []) here in
      let rest : drop i parts ≡ p ∷ drop (i + 1) parts = drop_more parts i p low
      ∙ ap (λ (q : Part F). q ∷ drop (i + 1) parts) here in
      record {
        same =
            is ∙ (λ j. record { steps = steps j; end = end j; taken = taken S (end j) now.taken p })
            ∙ (λ j. record old { taken = sym took j });
        taken_is =
            took ∙ ap (λ u. taken S old.end u p) at.taken_is
            ∙ sym (fold-append (taken S old.end) old.taken (take i parts) (p ∷ []))
            ∙ ap (fold (taken S old.end) old.taken) (sym more);
        answer_is =
            at.answer_is ∙ ap (by_parts S old.end now.taken) rest
            ∙ ap (λ o. refuses_or o (by_parts S old.end t (drop (i + 1) parts))) (sym fine)
            ∙ ap (λ u. by_parts S old.end u (drop (i + 1) parts)) (sym took);
      }

  -- all parts
  pub among-last : (old now : EndState F) (parts : Message F) (i : ℕ) → length parts ≤ i → IsAmong old now parts i →
      now ≡ record old { taken = fold (taken S old.end) old.taken parts }
  among-last old now parts i all at =
      at.same ∙ ap (λ t. record old { taken = t })
      (at.taken_is ∙ ap (fold (taken S old.end) old.taken) (take_all i parts all))

  pub among-answer : (old now : EndState F) (parts : Message F) (i : ℕ) → length parts ≤ i → IsAmong old now parts i →
      by_parts S old.end old.taken parts ≡ ended now.taken
  among-answer old now parts i all at = at.answer_is ∙ ap (by_parts S old.end now.taken) (drop_all i parts all)

  -- a part that is refused
  pub among-refused : (old now new : EndState F) (parts : Message F) (i : ℕ) (p : Part F) (code : ℕ) →
      i < length parts →
      get_or parts i p ≡ p → IsAmong old now parts i →
      Some code ≡ refusal (next now.taken.place p) → by_parts S old.end old.taken parts ≡ Refuses code
  among-refused old now new parts i p code low here at told =
      let rest : drop i parts ≡ p ∷ drop (i + 1) parts = drop_more parts i p low
      ∙ ap (λ (q : Part F). q ∷ drop (i + 1) parts) here in
      at.answer_is ∙ ap (by_parts S old.end now.taken) rest
      ∙ ap (λ o. refuses_or o (by_parts S old.end (taken S old.end now.taken p) (drop (i + 1) parts))) (sym told)

-- ---- a message that is taken by its parts

pub still-able : {F : Type 0} (old now : EndState F) → now ≡ record old { taken = now.taken } → IsAble old → IsAble now
still-able old now same able =
    subst IsAble (sym same) (record { checked = able.checked; room = able.room; apart = able.apart })

-- a refusal leaves the end as it would have been with no part taken
pub spent-among : {F : Type 0} (old now new : EndState F) → is_live old.end.stage ≡ true →
    now ≡ record old { taken = now.taken } → new ≡ spend now → new ≡ spend old
spent-among {F} old now new live same is =
    let t = now.taken in
    let gone : EndState F = fresh old.steps (record old.end { stage = Spent; learned = nothing }) in
    is ∙ ap spend same ∙ ap (λ b. if b then gone else record old { taken = t }) live
    ∙ sym (ap (λ b. if b then gone else old) live)

-- an end that takes none
pub dead-place : {F : Type 0} (s : own.Stage F) (d : Drafted F) → is_live (stage_of s) ≡ false →
    (taken_of s d).place ≡ Refused spent
dead-place (stages.Open x) d none = open-live x none
dead-place stages.Over d none = refl
dead-place stages.Spent d none = refl

pub dead-spends : {F : Type 0} (h : EndState F) → is_live h.end.stage ≡ false → h ≡ spend h
dead-spends {F} h dead =
    let gone : EndState F = fresh h.steps (record h.end { stage = Spent; learned = nothing }) in
    sym (ap (λ b. if b then gone else h) dead)

pub whole-memory : {F : Type 0} (h new : EndState F) (o : Option (Answer F)) → IfNone o (new ≡ fresh h.steps h.end) →
    HasNone h →
    IfNone o (new ≡ h)
whole-memory h new None is none = is ∙ sym (λ i. record h { taken = none i })
whole-memory h new (Some a) is none = tt

module _ {F : Type 0} (S : Summary F) where
  -- after a part that is refused
  pub among-stops : (old now new : EndState F) (parts : Message F) (i : ℕ) (p : Part F) (f : EndFault) →
      i < length parts →
      get_or parts i p ≡ p → IsAmong S old now parts i → is_live old.end.stage ≡ true →
      IfSome (told_in (Err f)) (λ o. o ≡ refusal (next now.taken.place p)) →
      IfSome (told_in (Err f)) (λ o. new ≡ after_part S now p o) →
      IfSome (refusal_of {F = F} f) (λ a. (by_parts S old.end old.taken parts ≡ a) × (new ≡ spend old))
  among-stops old now new parts i p (faults.Placing g) low here at live told is =
      (among-refused S old now new parts i p _ low here at told, spent-among old now new live at.same is)
  among-stops old now new parts i p faults.TooManyParts low here at live told is =
      (among-refused S old now new parts i p _ low here at told, spent-among old now new live at.same is)
  among-stops old now new parts i p faults.Spent low here at live told is =
      (among-refused S old now new parts i p _ low here at told, spent-among old now new live at.same is)
  among-stops old now new parts i p faults.Memory low here at live told is = tt

  -- after the parts of a message and its end
  pub message-end : (h : EndState F) (M : Message F) (a : Answer F) → is_live h.end.stage ≡ true →
      after_message S h M a ≡ after_end (after_parts S h M) a
  message-end h M (Replies N) live = refl
  message-end h M Ends live = refl
  message-end h M (Refuses code) live =
      let gone : EndState F = fresh h.steps (record h.end { stage = Spent; learned = nothing }) in
      ap (λ b. if b then gone else h) live ∙ sym (ap (λ b. if b then gone else after_parts S h M) live)

  pub message-after : (h new : EndState F) (M : Message F) (o : Option (Answer F)) → is_live h.end.stage ≡ true →
      IfSome o (λ a. new ≡ after_end (after_parts S h M) a) → IfSome o (λ a. new ≡ after_message S h M a)
  message-after h new M None live is = tt
  message-after h new M (Some a) live is = is ∙ sym (message-end h M a live)

  pub dead-answers : (h : EndState F) (M : Message F) → h.taken.place ≡ Refused spent →
      Refuses spent ≡ by_parts S h.end h.taken M
  dead-answers h [] at = sym (ap (λ x. ended_unless h.taken (finish x)) at)
  dead-answers h (p ∷ M) at =
      let rest : Answer F = by_parts S h.end (taken S h.end h.taken p) M in
      sym (ap (λ x. refuses_or (refusal (next x p)) rest) at)

  -- ---- a message of which nothing was taken before

  -- what all parts leave, and the end of the message
  received : (h : EndState F) (M : Message F) (a : Answer F) → PartsAreTaken S → is_live h.end.stage ≡ true →
      HasNone h → a ≡ answer S h.end M → after_message S h M a ≡ end_after S h M
  received h M a law live none told =
      let e = h.end in
      let alike = law e M in
      let all : (after_parts S h M).taken ≡ taken_all S e M = ap (λ t. fold (taken S e) t M) none in
      let after_is : after S e M ≡ after_answer e M (answer S e M) =
      ap (λ b. if b then after_answer e M (answer S e M) else e) live in
      ap (after_message S h M) told
      ∙ by (answer S e M) (ap (λ t. after_ended e t (answer S e M)) all ∙ alike.after_it ∙ sym after_is) where
        by : (b : Answer F) → after_ended h.end (after_parts S h M).taken b ≡ after S h.end M →
            after_message S h M b ≡ end_after S h M
        by (Replies N) is = ap (fresh h.steps) is
        by Ends is = ap (fresh h.steps) is
        by (Refuses code) is =
            let gone : EndState F = fresh h.steps (record h.end { stage = Spent; learned = nothing }) in
            ap (λ b. if b then gone else h) live ∙ ap (fresh h.steps) is

  -- an end that takes none
  dead-received : (h : EndState F) (M : Message F) → is_live h.end.stage ≡ false → HasNone h →
      (answer S h.end M ≡ Refuses spent) × (h ≡ end_after S h M)
  dead-received h M dead none = (
    by h.end.stage dead,
    (λ i. record h { taken = none i })
        ∙ ap (fresh h.steps) (sym (ap (λ b. if b then after_answer h.end M (answer S h.end M) else h.end) dead)),
  ) where
    by : (s : Stage F) → is_live s ≡ false → answer_unless S h.end.peer M (stage_fault s M) ≡ Refuses spent
    by (Fresh cut) none = absurd cc
    by (Waits own) none = absurd cc
    by Over none = refl
    by Spent none = refl

  pub whole-answer : (h : EndState F) (M : Message F) (o : Option (Answer F)) → PartsAreTaken S →
      IfSome o (λ a. a ≡ by_parts S h.end h.taken M) → HasNone h → IfSome o (λ a. a ≡ answer S h.end M)
  whole-answer h M None law is none = tt
  whole-answer h M (Some a) law is none = is ∙ ap (λ t. by_parts S h.end t M) none ∙ (law h.end M).at_the_first

  pub whole-after : (h new : EndState F) (M : Message F) (o : Option (Answer F)) → PartsAreTaken S →
      IfSome o (λ a. a ≡ by_parts S h.end h.taken M) → IfSome o (λ a. new ≡ after_message S h M a) → HasNone h →
      IfSome o (λ a. new ≡ end_after S h M)
  whole-after h new M None law is at none = tt
  whole-after h new M (Some a) law is at none = at ∙ by (is_live h.end.stage) refl where
    told : a ≡ answer S h.end M
    told = whole-answer h M (Some a) law is none

    by : (b : Bool) → is_live h.end.stage ≡ b → after_message S h M a ≡ end_after S h M
    by true live = received h M a law live none told
    by false dead =
        let gone = dead-received h M dead none in
        ap (after_message S h M) (told ∙ gone.0) ∙ sym (dead-spends h dead) ∙ gone.1
