-- What a placed part tells is what is learned from it: the list that an Answer answers is the first that was open
-- there.
use Rattle.std.proofs.Common.{◌≡◌, ℕ, zero, suc, Bool, true, false, List, [], ◌∷◌, drop, refl, sym, ap, ◌∙◌, subst}
use Rattle.std.proofs.Common.{append-nil}
use Rattle.std.specs.Prelude.{if◌then◌else◌, Some, None, not, ◌==◌, length, IsFalse, ⊤}
use Rattle.std.specs.List.{AllByRecursion, list_any, items_where_true}
use Rattle.std.proofs.lemmas.Bool.{false≢true}
use Rattle.definitions.specs.Fingerprints.{Summary}
use Rattle.definitions.specs.Items.{Item, Range, Apart, Rises, is_below, same_range}
use Rattle.definitions.specs.Sets.{has, items_in, difference}
use Rattle.definitions.specs.Messages.{Part, Sum, Listing, Answer, Message, is_open, open_parts, open_ranges}
use Rattle.definitions.specs.Placing.{Refused, next, next_outside, next_answer, placed, refusal}
use Rattle.definitions.specs.Refusals.{misplaced, mark_count, answer_repeats}
use Rattle.definitions.specs.Replies.{Peer}
use Rattle.definitions.specs.Talks.{nothing, and_then, listed_in, learn}
use Rattle.definitions.specs.Ends.{Fresh, Waits, own_of}
use Rattle.definitions.specs.Taking.{taken}
use Rattle.definitions.proofs.Equality.{same_range-eq, same_range-itself}
use Rattle.place_core.specs.Cursors.{place_at}
use Rattle.place_core.specs.Placements.{Placement, first_list, due}
use Rattle.place_core.specs.declared.cursor.Cursor.{Cursor}
use Rattle.place_core.specs.declared.cursor.Cursor.TheVariants as cursors
use Rattle.ends_core.specs.Learning.{told}
use Rattle.ends_core.specs.Drafts.{Drafted, drafted, taken_at}
use Rattle.ends_core.specs.EndStates.{stage_at}

-- ---- each List of a message whose open ranges do not overlap is found by its range

-- the list of each List is found by its range
abbrev pub Finds : {F : Type 0} → Message F → Part F → Type 0
Finds sent (Sum X f) = ⊤
Finds sent (Listing X listed) = listed_in sent X ≡ listed
Finds sent (Answer X marks items) = ⊤

-- a later range is another one
other_range : (X Y : Range) → Rises X → IsFalse (is_below Y.lower X.upper) → same_range X Y ≡ false
other_range X Y rises apart = by (same_range X Y) refl where
  by : (b : Bool) → same_range X Y ≡ b → b ≡ false
  by false e = refl
  by true e =
      let is : X ≡ Y = same_range-eq X Y e in
      let lower : is_below Y.lower X.upper ≡ true = subst (λ (Z : Range). is_below Z.lower X.upper ≡ true) is rises in
      absurd (false≢true (sym apart ∙ lower))

-- a List in front of the others
finds_later : {F : Type 0} (Z : Range) (held : List Item) (sent ps : Message F) → Rises Z →
    AllByRecursion (λ Y. IsFalse (is_below Y.lower Z.upper)) (open_ranges ps) →
    AllByRecursion (Finds sent) ps → AllByRecursion (Finds (Listing Z held ∷ sent)) ps
finds_later Z held sent [] rises apart h = tt
finds_later Z held sent (Sum X f ∷ ps) rises apart h = (tt, finds_later Z held sent ps rises apart.1 h.1)
finds_later Z held sent (Answer X marks items ∷ ps) rises apart h = (tt, finds_later Z held sent ps rises apart h.1)
finds_later Z held sent (Listing X listed ∷ ps) rises apart h = (
  ap (λ b. if b then held else listed_in sent X) (other_range Z X rises apart.0)
      ∙ h.0,
  finds_later Z held sent ps rises apart.1 h.1,
)

-- another part in front of them
finds_past : {F : Type 0} (own : Part F) (sent ps : Message F) →
    ((X : Range) → listed_in (own ∷ sent) X ≡ listed_in sent X) → AllByRecursion (Finds sent) ps →
    AllByRecursion (Finds (own ∷ sent)) ps
finds_past own sent [] same h = tt
finds_past own sent (Sum Y f ∷ ps) same h = (tt, finds_past own sent ps same h.1)
finds_past own sent (Listing Y listed ∷ ps) same h = (same Y ∙ h.0, finds_past own sent ps same h.1)
finds_past own sent (Answer Y ms xs ∷ ps) same h = (tt, finds_past own sent ps same h.1)

all_found : {F : Type 0} (sent : Message F) → Apart (open_ranges sent) → AllByRecursion (Finds sent) sent
all_found [] apart = tt
all_found (Sum X f ∷ sent) apart = (tt, finds_past (Sum X f) sent sent (λ Y. refl) (all_found sent apart.2))
all_found (Listing X listed ∷ sent) apart = (
  ap (λ b. if b then listed else listed_in sent X)
      (same_range-itself X),
  finds_later X listed sent sent apart.0 apart.1 (all_found sent apart.2),
)
all_found (Answer X marks items ∷ sent) apart =
    (tt, finds_past (Answer X marks items) sent sent (λ Y. refl) (all_found sent apart))

found-drop : {F : Type 0} (sent ps : Message F) (n : ℕ) → AllByRecursion (Finds sent) ps →
    AllByRecursion (Finds sent) (drop n ps)
found-drop sent ps zero h = h
found-drop sent [] (suc n) h = tt
found-drop sent (p ∷ ps) (suc n) h = found-drop sent ps n h.1

-- ---- the list that an Answer answers

-- an Answer after an open List is one of its range
answers-range : {F : Type 0} (left : Message F) (Y : Range) (listed : List Item) (X : Range) (marks : List Bool)
    (items : List Item) →
    refusal (next_answer left Y listed X marks items) ≡ None → same_range Y X ≡ true
answers-range {F} left Y listed X marks items h = by (same_range Y X) refl where
  by : (b : Bool) → same_range Y X ≡ b → b ≡ true
  by true e = refl
  by false e =
      let refuses : refusal (next_answer left Y listed X marks items) ≡ Some misplaced
      = ap (λ b. refusal (if not b then Refused misplaced else if not
      (length marks == length listed) then Refused mark_count else if list_any
      (has listed) items then Refused answer_repeats else placed left)) e in
      let wrong : None ≡ Some misplaced = sym h ∙ refuses in
      absurd cc

first_answered : {F : Type 0} (own ps : Message F) (X : Range) (marks : List Bool) (items : List Item) →
    AllByRecursion (Finds own) ps →
    refusal (next_outside (open_parts ps) (Answer X marks items)) ≡ None → listed_in own X ≡ first_list ps
first_answered own [] X marks items found h = absurd cc
first_answered own (Sum Y f ∷ ps) X marks items found h = first_answered own ps X marks items found.1 h
first_answered own (Answer Y ms xs ∷ ps) X marks items found h = first_answered own ps X marks items found.1 h
first_answered own (Listing Y listed ∷ ps) X marks items found h =
    let same : Y ≡ X = same_range-eq Y X (answers-range (open_parts ps) Y listed X marks items h) in
    ap (listed_in own) (sym same) ∙ found.0

-- where a cursor stands
pub due_answered : {F : Type 0} (own : Message F) (c : Cursor) (X : Range) (marks : List Bool) (items : List Item) →
    Apart (open_ranges own) →
    refusal (next (place_at own c) (Answer X marks items)) ≡ None → listed_in own X ≡ due own c
due_answered own (cursors.First cut) X marks items apart h = absurd cc
due_answered own (cursors.After at None) X marks items apart h =
    first_answered own (drop at own) X marks items (found-drop own own at (all_found own apart)) h
due_answered own (cursors.After at (Some Z)) X marks items apart h = absurd cc
due_answered own (cursors.Refused f) X marks items apart h = absurd cc

-- ---- what is told

told-learned : {F : Type 0} (A : List Item) (own : Message F) (c : Cursor) (p : Part F) → Apart (open_ranges own) →
    refusal (next (place_at own c) p) ≡ None → told A (due own c) p ≡ learn A own (p ∷ [])
told-learned A own c (Sum X f) apart h = refl
told-learned A own c (Listing X listed) apart h =
    λ i. record {
      ours = sym (append-nil (difference (items_in A X) listed)) i;
      theirs = sym
          (append-nil (difference listed A)) i;
    }
told-learned A own c (Answer X marks items) apart h = λ i. record {
  ours =
      (ap (λ (l : List Item). items_where_true marks l) (sym (due_answered own c X marks items apart h))
      ∙ sym (append-nil (items_where_true marks (listed_in own X)))) i;
  theirs = sym (append-nil items) i;
}

-- only an Answer tells by the list that it answers
told-alike : {F : Type 0} (A l m : List Item) (p : Part F) → (is_open p ≡ false → l ≡ m) → told A l p ≡ told A m p
told-alike A l m (Sum X f) same = refl
told-alike A l m (Listing X items) same = refl
told-alike {F} A l m (Answer X marks items) same = ap (λ k. told {F = F} A k (Answer X marks items)) (same refl)

-- the own message at a place: the first message of all answers none
own-at : {F : Type 0} (x : Placement F) → (x.first ≡ true → x.own ≡ []) → own_of (stage_at x) ≡ x.own
own-at x none = by x.first refl where
  by : (b : Bool) → x.first ≡ b → own_of (if b then Fresh x.cut else Waits x.own) ≡ x.own
  by true e = sym (none e)
  by false e = refl

-- a part that was placed and drafted was taken
pub part-taken : {F : Type 0} (S : Summary F) (P : Peer) (x y : Placement F) (c : Cursor) (d e : Drafted F)
    (listed : List Item) (p : Part F) → (x.first ≡ true → x.own ≡ []) → Apart (open_ranges (own_of (stage_at x))) →
    x.now ≡ place_at x.own c → (is_open p ≡ false → listed ≡ due x.own c) →
    y ≡ record x { now = next x.now p } → refusal (next x.now p) ≡ None → e ≡ drafted S P d listed p →
    taken_at y e ≡ taken S (record { peer = P; stage = stage_at x; sent = 0; learned = nothing }) (taken_at x d) p
part-taken S P x y c d e listed p none apart at answered placed_at fine added =
    let learns : told P.items listed p ≡ learn P.items (own_of (stage_at x)) (p ∷ []) =
    told-alike P.items listed (due x.own c) p answered
    ∙ told-learned P.items x.own c p (subst (λ o. Apart (open_ranges o)) (own-at x none) apart)
    (ap (λ z. refusal (next z p)) (sym at) ∙ fine) ∙ ap (λ o. learn P.items o (p ∷ [])) (sym (own-at x none)) in
    let t = taken S (record { peer = P; stage = stage_at x; sent = 0; learned = nothing }) (taken_at x d) p in
    (λ i. taken_at (placed_at i) (added i)) ∙
    (λ i. record { place = t.place; opens = t.opens; reply = t.reply; learned = and_then d.learned (learns i) })
