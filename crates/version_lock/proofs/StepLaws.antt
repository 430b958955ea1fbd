-- The laws of the kinds of step. The word says whether the log is at home or with a seat, a holding seat found the
-- one log, and the steps themselves keep the rule (Keeps and Splitting). An entry of the one history stands in the
-- opened one or after it, and there each is one that a view entered.
use Rattle.std.proofs.Common.{◌≡◌, ◌≢◌, ℕ, ◌+◌, ◌<◌, true, false, ⊎_elim, ◌⊎◌, inl, inr, List, [], ◌∷◌, Some, Contains}
use Rattle.std.proofs.Common.{sym, ap, subst, ◌∙◌, arith, get_or}
use Rattle.std.proofs.lemmas.List.Elements.{All-contains, Contains-push, Contains-append_cases}
use Rattle.atomic_table.proofs.Lists.{set_else}
use Rattle.version_log.specs.Logs.{LogState, IsLog, with_writer_given}
use Rattle.version_lock.specs.declared.view.View.{View}
use Rattle.version_lock.specs.Beginnings.{Entry}
use Rattle.version_lock.specs.Lawful.{Table, Free, Held, HasLog, EnteredBy}
use Rattle.version_lock.specs.Tables.{IsSeat, taken, missed, given_back, one_longer, numbered, split_table}
use Rattle.version_lock.specs.Tables.{joined_table}
use Rattle.version_lock.specs.Views.{found, with_entry, added, split_from, split_off, joined_with, spent, note_of}
use Rattle.version_lock.specs.Views.{noted}
use Rattle.version_lock.proofs.Keeps.{found_log, has_taken, has_missed, has_back, has_added, has_numbered}
use Rattle.version_lock.proofs.Splitting.{has_split, has_note, has_joined, has_noted}
use Rattle.version_lock.proofs.Shares.{no_part}
use Rattle.version_lock.proofs.Seated.{At, same_view}

apart_words : (a b : ℕ) → a ≡ b → a < b → ⊥
apart_words a b same below = omega (arith, same)

one_word : (s : Table) → s.words ≡ 0 ∷ [] → s.words ≡ 1 ∷ [] → ⊥
one_word s free held = apart_words 0 1 (ap (λ (ws : List ℕ). get_or ws 0 0) (sym free ∙ held)) (omega arith)

pub takes_it : (o l : LogState) (s : Table) (id : ℕ) (v : View) → HasLog o l s → IsSeat s id v → s.words ≡ 0 ∷ [] →
    HasLog o l (taken l s id v)
takes_it o l s id v k is free = ⊎_elim
    (λ (x : Free s l). has_taken s k id v is.at is.live is.some x)
    (λ (x : Held s l). absurd (one_word s free x.word))
    k.one.place

pub misses_it : (o l : LogState) (s : Table) (id : ℕ) (v : View) → HasLog o l s → IsSeat s id v → v.holding ≡ false →
    s.words ≡ 1 ∷ [] → HasLog o l (missed s id v)
misses_it o l s id v k is idle held = ⊎_elim
    (λ (x : Free s l). absurd (one_word s x.word held))
    (λ (x : Held s l). has_missed s k id v (v.busy + 1) is.at idle is.live is.some x)
    k.one.place

module _ (o l : LogState) (s : Table) (id : ℕ) (v : View) (k : HasLog o l s) (is : IsSeat s id v)
    (holds : v.holding ≡ true) where
  found_it : found v ≡ l
  found_it = found_log s k.one id v is.at holds is.live

pub gives_it_back : (o l : LogState) (s : Table) (id : ℕ) (v : View) → HasLog o l s → IsSeat s id v → v.holding ≡ true →
    (found v ≡ l) × HasLog o l (given_back s id v)
gives_it_back o l s id v k is holds =
    let same = found_it o l s id v k is holds in
    (same, subst (λ (x : LogState). HasLog o x (given_back s id v)) same (has_back s k id v is.at holds is.live))

pub adds_one : (o l : LogState) (s : Table) (id : ℕ) (v : View) (e : Entry) → HasLog o l s → IsSeat s id v →
    v.holding ≡ true → v.writer ≡ Some e.0 → IsLog (with_entry l e) →
    HasLog o (with_entry l e) (one_longer e s id v) × Contains (added e v).entered e
adds_one o l s id v e k is holds mine good =
    let same = found_it o l s id v k is holds in
    let good' : IsLog (with_entry (found v) e) = subst (λ (x : LogState). IsLog (with_entry x e)) (sym same) good in
    let now = has_added s k id v is.at holds is.live e mine good' in (
      subst (λ (x : LogState). HasLog o (with_entry x e) (one_longer e s id v)) same now,
      Contains-push v.entered e,
    )

pub gives_a_number : (o l : LogState) (s : Table) (id : ℕ) (v : View) → HasLog o l s → IsSeat s id v →
    v.holding ≡ true → IsLog (with_writer_given l) → HasLog o (with_writer_given l) (numbered s id v)
gives_a_number o l s id v k is holds good =
    let same = found_it o l s id v k is holds in
    let good' : IsLog (with_writer_given (found v)) =
    subst (λ (x : LogState). IsLog (with_writer_given x)) (sym same) good in
    subst (λ (x : LogState). HasLog o (with_writer_given x) (numbered s id v)) same
    (has_numbered s k id v is.at holds is.live good')

pub splits_a_seat : (o l : LogState) (s : Table) (id : ℕ) (v : View) → HasLog o l s → IsSeat s id v →
    v.holding ≡ false → HasLog o l (split_table s id (split_from v) (split_off v))
splits_a_seat o l s id v k is idle = has_split s k id v is.at is.live idle is.some

pub splits_a_note : (o l : LogState) (s : Table) (id : ℕ) (v : View) → HasLog o l s → IsSeat s id v →
    v.holding ≡ false → HasLog o l (split_table s id v (note_of v))
splits_a_note o l s id v k is idle = has_note s k id v is.at is.live idle

pub joins_a_seat : (o l : LogState) (s : Table) (id : ℕ) (v : View) (other : ℕ) (w : View) → HasLog o l s →
    IsSeat s id v → v.holding ≡ false → IsSeat s other w → w.holding ≡ false → other ≢ id →
    HasLog o l (joined_table s id (joined_with v w) other spent)
joins_a_seat o l s id v other w k is idle is' idle' apart =
    has_joined s k id v other w is.live idle is.some is'.live idle' is.at apart
    (set_else s.views id other (joined_with v w) apart ∙ is'.at)

-- a seat has a part, and a note has none
apart_of : (s : Table) (id other : ℕ) (v w : View) → IsSeat s id v → At s.views other w → w.parts ≡ 0 → other ≢ id
apart_of s id other v w is there none same =
    no_part v is.some (ap (λ (x : View). x.parts) (sym (same_view s.views other id w v there is.at same)) ∙ none)

pub joins_a_note : (o l : LogState) (s : Table) (id : ℕ) (v : View) (other : ℕ) (w : View) → HasLog o l s →
    IsSeat s id v → v.holding ≡ false → At s.views other w → w.spent ≡ false → w.parts ≡ 0 →
    HasLog o l (joined_table s id (noted v w) other spent)
joins_a_note o l s id v other w k is idle there live' none =
    let apart : other ≢ id = apart_of s id other v w is there none in
    has_noted s k id v other w is.live idle is.some live' none is.at apart
    (set_else s.views id other (noted v w) apart ∙ there)

pub entered_it : (o l : LogState) (s : Table) → HasLog o l s → (e : Entry) → Contains l.history e →
    Contains o.history e ⊎ EnteredBy s.views e
entered_it o l s k e has =
    let b = k.one.begins in
    ⊎_elim (λ (x : Contains o.history e). inl x)
    (λ (x : Contains b.0 e). inr (All-contains (EnteredBy s.views) b.0 e k.one.each_later x))
    (Contains-append_cases o.history b.0 e (subst (λ (h : List Entry). Contains h e) b.1 has))
