-- What the steps of one call make of its seat's view. A seat that takes the log learns that its view fits it
-- (`Took`), and the steps after that are equations on views, so each part of what a call says is read off the two.
use Rattle.std.proofs.Common.{◌≡◌, ℕ, ◌<◌, [], ◌∷◌, ◌++◌, List, Option, Some, None, refl, sym, ap, subst, ◌∙◌, arith}
use Rattle.std.proofs.Common.{Bool, true, false}
use Rattle.std.proofs.lemmas.List.Elements.{All-contains, Contains-push}
use Rattle.definitions.specs.Histories.{History}
use Rattle.version_lock.specs.declared.view.View.{View}
use Rattle.version_lock.specs.Beginnings.{StartsWith, entries_by}
use Rattle.version_lock.specs.Views.{found, waited, holding, gave_back, enrolled, note_of, noted}
use Rattle.version_log.specs.Logs.{LogState}
use Rattle.version_lock.specs.Steps.{Mine, Took}
use Rattle.version_lock.specs.Calls.{TookOnce, Met, ClosedWith}
use Rattle.version_lock.proofs.Keeps.{none_yet}
use Rattle.version_lock.proofs.Prefixes.{starts_by}

module _ (m m' : Mine) (k : Took m m') where
  pub below_next : (n : ℕ) → m.0.writer ≡ Some n → n < m'.0.next_writer
  below_next n is =
      let below = (k.fits.mine n is).2 in
      let same : m'.0.next_writer ≡ k.log.next_writer = ap (λ (x : Mine). x.0.next_writer) k.now in omega arith

  -- the entries of the new writer
  pub mine_enrolled : (n : ℕ) → (enrolled m'.0).writer ≡ Some n →
      entries_by n (enrolled m'.0).seen ≡ (enrolled m'.0).mine
  mine_enrolled n is =
      let base : m'.0.base ≡ k.log.history = ap (λ (x : Mine). x.0.base) k.now in
      let next : n ≡ k.log.next_writer = cc in
      let none : entries_by k.log.next_writer k.log.history ≡ [] =
      none_yet k.log.next_writer k.log.history k.is_log.writers in
      ap (entries_by n) base ∙ (ap (λ (x : ℕ). entries_by x k.log.history) next ∙ none)

-- the log is taken once, whatever was joined before and is seen then
took_once : (v : View) (busy : ℕ) (joined : List History) (seen : History) (held : Bool) (m : Mine)
    (k : Took (record (waited busy v) { joined = joined }, []) m) →
    TookOnce v (record (holding k.log (waited busy v)) { joined = joined; seen = seen; holding = held })
took_once v busy joined seen held m k = record {
  took = refl;
  begins = k.fits.seen;
  cap = refl;
  share = (refl, refl);
  opened = (refl, refl);
  fits = k.room;
  whole = k.whole;
}

-- a note is split off the other and joined, and then the log is looked at
pub met : (v u : View) (busy : ℕ) (m : Mine) → Took (waited busy (noted v (note_of u)), []) m →
    ((n : ℕ) → u.writer ≡ Some n → entries_by n u.seen ≡ u.mine) → Met v u (gave_back m.0)
met v u busy m k theirs =
    let all = Contains-push v.joined u.seen in
    let other : StartsWith k.log.history u.seen =
    All-contains (λ (seen : History). StartsWith k.log.history seen)
    (v.joined ++ u.seen ∷ []) u.seen k.fits.joined all in
    subst (λ (x : Mine). Met v u (gave_back x.0)) (sym k.now) record {
      once = took_once v busy (v.joined ++ u.seen ∷ []) k.log.history false m k;
      seen = refl;
      same = (refl, refl);
      other = other;
      own = λ n is. (k.fits.mine n is).0;
      others = λ n is. subst (λ (mine : History). StartsWith (entries_by n k.log.history) mine) (theirs n is)
          (starts_by n k.log.history u.seen other);
      joined = refl;
      nothing = (refl, refl);
    }

abbrev log_in : LogState → Option LogState → LogState
log_in l None = l
log_in l (Some l') = l'

abbrev first_log : LogState → List (ℕ × Option LogState) → LogState
first_log l [] = l
first_log l (c ∷ cs) = log_in l c.1

-- the log was taken for good
pub closed : (v : View) (busy : ℕ) (m : Mine) (l : LogState) → Took (waited busy v, []) m → m.1 ≡ (0, Some l) ∷ [] →
    ClosedWith v l
closed v busy m l k slot =
    let w : View = holding k.log (waited busy v) in
    let same : k.log ≡ l = sym (ap (first_log l) (sym slot ∙ ap (λ (x : Mine). x.1) k.now)) in
    let is : k.log ≡ found w = λ i. record {
      cap = sym k.fits.cap i;
      history = k.log.history;
      next_writer = k.log.next_writer;
    } in
    let once : TookOnce v w = took_once v busy v.joined v.seen true m k in
    subst (λ (x : LogState). ClosedWith v x) same (w, once, is)
