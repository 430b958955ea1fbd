-- The open parts of a message stand for it where the next message is placed and in what that teaches.
-- An end keeps the open parts of its own message and not its Answers. So all that is said of an end with the whole
-- message has to hold with the open parts: the open parts of the open parts are these; the open ranges are the same;
-- the same messages are placed, by the same refusals; the same Lists are found for a range, so the same is learned;
-- and what is settled stays so. Each is an induction over the parts, in which an Answer falls out on both sides.
-- docs/LAWS.md: no law of its own. An end stands firm, What an end learned and Two ends hand each other the talk need
-- it.
use Rattle.std.proofs.Common.{◌≡◌, List, [], ◌∷◌, refl, sym, ap, subst}
use Rattle.std.specs.Prelude.{if◌then◌else◌, flat_map, map, fold, None, IsFalse}
use Rattle.std.specs.List.{AllByRecursion, list_any, items_where_true}
use Rattle.definitions.proofs.Words.{Item, Range, contains, same_range, Apart, Part, Sum, Listing, Answer, Message}
use Rattle.definitions.proofs.Words.{range_of, open_parts, open_ranges, After, next, finish, place_fault, Knowledge}
use Rattle.definitions.proofs.Words.{learn, knows, and_then, listed_in, IsSettled}
use Rattle.definitions.specs.Talks.{ours_by, theirs_by}

pub open_twice : {F : Type 0} (M : Message F) → open_parts (open_parts M) ≡ open_parts M
open_twice [] = refl
open_twice (Sum X f ∷ M) = ap (λ N. Sum X f ∷ N) (open_twice M)
open_twice (Listing X items ∷ M) = ap (λ N. Listing X items ∷ N) (open_twice M)
open_twice (Answer X marks items ∷ M) = open_twice M

pub ranges_twice : {F : Type 0} (M : Message F) → open_ranges (open_parts M) ≡ open_ranges M
ranges_twice M = ap (map range_of) (open_twice M)

pub apart-open : {F : Type 0} (M : Message F) → Apart (open_ranges M) → Apart (open_ranges (open_parts M))
apart-open M apart = subst Apart (sym (ranges_twice M)) apart

pub place-open : {F : Type 0} (own M : Message F) → place_fault (open_parts own) M ≡ place_fault own M
place-open own M = ap (λ l. finish (fold next (After l None) M)) (open_twice own)

pub listed-open : {F : Type 0} (M : Message F) (X : Range) → listed_in (open_parts M) X ≡ listed_in M X
listed-open [] X = refl
listed-open (Sum Y f ∷ M) X = listed-open M X
listed-open (Listing Y items ∷ M) X = ap (λ (l : List Item). if same_range Y X then items else l) (listed-open M X)
listed-open (Answer Y marks items ∷ M) X = listed-open M X

ours-open : {F : Type 0} (A : List Item) (own : Message F) (p : Part F) → ours_by A (open_parts own) p ≡ ours_by A own p
ours-open A own (Sum X f) = refl
ours-open A own (Listing X listed) = refl
ours-open A own (Answer X marks items) = ap (λ (l : List Item). items_where_true marks l) (listed-open own X)

pub learn-open : {F : Type 0} (A : List Item) (own M : Message F) → learn A (open_parts own) M ≡ learn A own M
learn-open {F} A own M = λ i. record { ours = flat_map (λ p. ours-open A own p i) M; theirs = flat_map (theirs_by A) M }

pub knows-open : {F : Type 0} (A : List Item) (own : Message F) (owns Ms : List (Message F)) →
    knows A (open_parts own ∷ owns) Ms ≡ knows A (own ∷ owns) Ms
knows-open A own owns [] = refl
knows-open A own owns (M ∷ Ms) = ap (λ k. and_then k (knows A owns Ms)) (learn-open A own M)

pub settled-open : {F : Type 0} (k : Knowledge) (M : Message F) → IsSettled k M → IsSettled k (open_parts M)
settled-open k M h = record {
  ours = h.ours;
  theirs = h.theirs;
  ours_closed = subst (λ (Rs : List Range). AllByRecursion (λ x. IsFalse (list_any (λ X. contains X x) Rs)) k.ours)
      (sym (ranges_twice M)) h.ours_closed;
  theirs_closed = subst (λ (Rs : List Range). AllByRecursion (λ x. IsFalse (list_any (λ X. contains X x) Rs)) k.theirs)
      (sym (ranges_twice M)) h.theirs_closed;
}

pub All-open : {F : Type 0} (P : Part F → Type 0) (M : Message F) → AllByRecursion P M → AllByRecursion P (open_parts M)
All-open P [] a = tt
All-open P (Sum X f ∷ M) a = (a.0, All-open P M a.1)
All-open P (Listing X items ∷ M) a = (a.0, All-open P M a.1)
All-open P (Answer X marks items ∷ M) a = All-open P M a.1
