-- One end, whatever its peer sends: what its own message opens does not overlap, what it learned is settled, and it
-- has sent few messages.
-- The invariant goes by the stage (`FirmBy`). An end that has heard nothing knows nothing. An end that waits sent a
-- message that is honest, whose open ranges do not overlap, and whose open ranges hold nothing that is known
-- (`IsSent`). An end that is over or spent knows each item once.
-- One message keeps it. If it is refused, nothing is known and nothing is open. If it is placed, what it opens does
-- not overlap, since what our message opens does not; nor does what our reply opens; and what it teaches was not known
-- and is not open again (Once). A first message teaches nothing and opens one range. Induction over the messages; that
-- few were sent is Stops, with the count of Saying.
-- docs/LAWS.md: An end stands firm.
use Rattle.std.proofs.Common.{◌≡◌, ℕ, Bool, ◌+◌, ◌≤◌, ◌∙◌, List, [], ◌∷◌, Option, Some, None, refl, sym, subst, arith}
use Rattle.std.specs.List.{IsDistinct}
use Rattle.definitions.proofs.Words.{AllByRecursion, Item, Apart, Summary, Message, has_open, open_ranges, opening}
use Rattle.definitions.proofs.Words.{opening_fault, place_fault, Profile, AreParts, Peer, reply, Knowledge, nothing}
use Rattle.definitions.proofs.Words.{and_then, learn, IsHonest, IsSettled, Ready, rank, RangesRise, EndsStandFirm}
use Rattle.definitions.proofs.Words.{StandsFirm, End, Fresh, Over, Spent, Stage, Waits, after, after_answer}
use Rattle.definitions.proofs.Words.{answer_unless, gained, heard, initiator, responder}
use Rattle.definitions.proofs.Lemmas.{cond_both, All-map}
use Rattle.laws.proofs.Placing.{Placed-from_accepted, opening_exact}
use Rattle.laws.proofs.OpenRanges.{placed_are_apart, replies_are_apart, opening_apart, opens_apart}
use Rattle.laws.proofs.Openings.{opening_honest}
use Rattle.definitions.proofs.Words.{AreSums, cut_range, whole, Range, Sum, Listing, Answer, opened}
use Rattle.laws.proofs.Tallies.{replies_are_honest}
use Rattle.laws.proofs.Once.{learns_once}
use Rattle.laws.proofs.Saying.{answer-cases, after-peer, answers-counted}
use Rattle.laws.proofs.Ends.{parts_have_ranges}
use Rattle.laws.proofs.Stops.{initiator_stops, responder_stops}
use Rattle.laws.proofs.Opens.{All-open, apart-open, settled-open}
use Rattle.definitions.specs.Messages.{open_parts}

-- ---- what is settled

nothing_settled : {F : Type 0} (M : Message F) → IsSettled nothing M
unfolding IsDistinct
nothing_settled M = record { ours = tt; theirs = tt; ours_closed = tt; theirs_closed = tt }

-- and stays so where nothing is open
settled_over : {F : Type 0} (k : Knowledge) (M : Message F) → IsSettled k M → IsSettled {F = F} k []
settled_over k M h = record {
  ours = h.ours;
  theirs = h.theirs;
  ours_closed = All-map _ _ (λ x e. refl) k.ours h.ours_closed;
  theirs_closed = All-map _ _ (λ x e. refl) k.theirs h.theirs_closed;
}

-- ---- the invariant, by the stage

-- an own message, and what is known when it is sent
record IsSent {F : Type 0} (S : Summary F) (P : Peer) (known : Knowledge) (own : Message F) : Type 0 where
  honest : AllByRecursion (IsHonest S P.items) own
  apart : Apart (open_ranges own)
  settled : IsSettled known own

abbrev FirmBy : {F : Type 0} → Summary F → Peer → Knowledge → Stage F → Type 0
FirmBy S P known (Fresh cut) = known ≡ nothing
FirmBy S P known (Waits own) = IsSent S P known own
FirmBy {F} S P known Over = IsSettled {F = F} known []
FirmBy {F} S P known Spent = IsSettled {F = F} known []

abbrev FirmEnd : {F : Type 0} → Summary F → End F → Type 0
FirmEnd S e = FirmBy S e.peer e.learned e.stage

firm_stands : {F : Type 0} (S : Summary F) (most : ℕ) (e : End F) → e.sent ≤ most → FirmEnd S e → StandsFirm most e
firm_stands {F} S most e few h = by e.stage h where
  by : (s : Stage F) → FirmBy S e.peer e.learned s → StandsFirm most (record e { stage = s })
  by (Fresh cut) none =
      record { apart = tt; few = few; settled = subst (λ k. IsSettled {F = F} k []) (sym none) (nothing_settled []) }
  by (Waits own) h = record { apart = h.apart; few = few; settled = h.settled }
  by Over settled = record { apart = tt; few = few; settled = settled }
  by Spent settled = record { apart = tt; few = few; settled = settled }

-- ---- one message

-- the end after an answer to a message that is placed
answered : {F : Type 0} (S : Summary F) (f : List ℕ) (e : End F) → Ready e.peer f → (M : Message F) →
    Apart (open_ranges M) → IsSettled (gained e M) (reply S e.peer M) →
    FirmEnd S (after_answer e M (answer_unless S e.peer M None))
answered {F} S f e r M apart settled =
    let N = reply S e.peer M in
    let over = settled_over (gained e M) N settled in
    answer-cases S e.peer M (λ a. FirmEnd S (after_answer e M a))
    (λ o. cond_both (has_open N) (Waits (open_parts N)) Over (FirmBy S e.peer (gained e M))
    (λ more. record {
      honest = All-open (IsHonest S e.peer.items) N (replies_are_honest S e.peer M);
      apart = apart-open N (replies_are_apart S e.peer f M r apart);
      settled = settled-open (gained e M) N settled;
    })
    (λ none. over))
    over
    (nothing_settled [])

-- what an opening teaches, and what it opens
opened_apart : {F : Type 0} (cut : Bool) (M : Message F) → RangesRise M → opening_fault cut M ≡ None →
    Apart (open_ranges M)
opened_apart cut M rise h = opens_apart cut M rise ((opening_exact cut M).0 h)

sums_teach : {F : Type 0} (A : List Item) (Xs : List Range) (M : Message F) → AreSums Xs M → learn A [] M ≡ nothing
sums_teach A [] [] h = refl
sums_teach A [] (p ∷ M) h = absurd h
sums_teach A (X ∷ Xs) [] h = absurd h
sums_teach A (X ∷ Xs) (Sum Y f ∷ M) h = sums_teach A Xs M h.1
sums_teach A (X ∷ Xs) (Listing Y items ∷ M) h = absurd h
sums_teach A (X ∷ Xs) (Answer Y marks items ∷ M) h = absurd h

opening_teaches : {F : Type 0} (A : List Item) (cut : Bool) (M : Message F) → opening_fault cut M ≡ None →
    learn A [] M ≡ nothing
opening_teaches A cut M h = let is = (opening_exact cut M).0 h in sums_teach A (cut_range whole is.0) M is.2

after_firm : {F : Type 0} (S : Summary F) (Q : Profile F) (f : List ℕ) (e : End F) (M : Message F) → Ready e.peer f →
    AreParts Q M → FirmEnd S e → FirmEnd S (after S e M)
after_firm {F} S Q f e M r right h = by e.stage h where
  by : (s : Stage F) → FirmBy S e.peer e.learned s → FirmEnd S (after S (record e { stage = s }) M)
  by (Fresh cut) none = fault (opening_fault cut M) refl where
    fault : (o : Option ℕ) → opening_fault cut M ≡ o →
        FirmEnd S (after_answer (record e { stage = Fresh cut }) M (answer_unless S e.peer M o))
    fault (Some code) h = nothing_settled []
    fault None h = answered S f (record e { stage = Fresh cut }) r M
        (opened_apart cut M (parts_have_ranges Q M right) h)
        (subst (λ k. IsSettled k (reply S e.peer M))
        (λ i. and_then (sym none i) (sym (opening_teaches e.peer.items cut M h) i))
        (nothing_settled (reply S e.peer M)))
  by (Waits own) h = fault (place_fault own M) refl where
    fault : (o : Option ℕ) → place_fault own M ≡ o →
        FirmEnd S (after_answer (record e { stage = Waits own }) M (answer_unless S e.peer M o))
    fault (Some code) p = nothing_settled []
    fault None p =
        let rises = parts_have_ranges Q M right in
        let placed = Placed-from_accepted own M p in
        answered S f (record e { stage = Waits own }) r M (placed_are_apart own M h.apart rises placed)
        (learns_once S Q e.peer e.learned own M r.set h.honest h.apart right placed h.settled)
  by Over h = h
  by Spent h = h

-- ---- many

heard_firm : {F : Type 0} (S : Summary F) (Q : Profile F) (f : List ℕ) (P : Peer) (Ms : List (Message F)) (e : End F) →
    Ready P f → AllByRecursion (AreParts Q) Ms → e.peer ≡ P →
    FirmEnd S e → FirmEnd S (heard S e Ms)
heard_firm S Q f P [] e r right is h = h
heard_firm S Q f P (M ∷ Ms) e r right is h =
    heard_firm S Q f P Ms (after S e M) r right.1 (after-peer S e M ∙ is)
    (after_firm S Q f e M (subst (λ p. Ready p f) (sym is) r) right.0 h)

pub ends_stand_firm : {F : Type 0} (S : Summary F) → EndsStandFirm S
ends_stand_firm {F} S Q P f Ms r right =
    let rise = All-map (AreParts Q) RangesRise (parts_have_ranges Q) Ms right in (
      firm_stands S (opened S f P + 2) (heard S (initiator S P) Ms)
          (omega (arith, answers-counted S (initiator S P) Ms, initiator_stops S P f Ms r rise))
          (heard_firm S Q f P Ms (initiator S P) r right refl record {
            honest = opening_honest S P;
            apart = opening_apart S P r.set;
            settled = nothing_settled (opening S P);
          }),
      firm_stands S (rank f P + 1) (heard S (responder S P) Ms)
          (omega (arith, answers-counted S (responder S P) Ms, responder_stops S P f Ms r rise))
          (heard_firm S Q f P Ms (responder S P) r right refl refl),
    )
