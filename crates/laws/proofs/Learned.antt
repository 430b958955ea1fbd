-- What an end learned, whatever its peer sends.
-- The claim is made for an end at any stage, the message of its own that waits, and the messages that come: what it
-- has learned after them is what it knew, and then what its set learns from the messages that it takes, each beside
-- the end's own message that it answers (`learns_by`). Induction over the messages, by the answer to the first one:
-- a reply: the end knows what the message teaches, and the reply is the message of its own that waits next;
-- Ends: it takes nothing more, so nothing is added (`learns_no_more`);
-- a refusal: the end stays spent, and of such ends nothing is claimed.
-- An end keeps the open parts of its own message alone. They teach as much as the whole message (Opens).
-- docs/LAWS.md: What an end learned.
use Rattle.std.proofs.Common.{◌≡◌, ◌∙◌, true, false, List, [], ◌∷◌, ◌++◌, refl, sym, ap, append_assoc}
use Rattle.std.specs.Prelude.{◌≢◌, Bool, if◌then◌else◌}
use Rattle.definitions.proofs.Words.{Summary, Message, has_open, opening, open_parts, Item, Knowledge, nothing}
use Rattle.definitions.proofs.Words.{and_then, knows, learn, InitiatorLearns, ResponderLearns, End, Ends, Fresh, Over}
use Rattle.definitions.proofs.Words.{Refuses, Replies, Spent, Stage, Waits, after, after_answer, answer, answers}
use Rattle.definitions.proofs.Words.{gained, heard, initiator, responder, is_live, own_of, replied, unless_refused}
use Rattle.definitions.proofs.Words.{takes}
use Rattle.definitions.specs.Ends.{Answer}
use Rattle.definitions.proofs.Lemmas.{append-nil, cond-true}
use Rattle.laws.proofs.Openings.{sums_open}
use Rattle.definitions.proofs.Words.{opening_ranges}
use Rattle.laws.proofs.Opens.{learn-open}
use Rattle.laws.proofs.Saying.{says_none, takes_none}

-- ---- knowledge

same_knowledge : (k l : Knowledge) → k.ours ≡ l.ours → k.theirs ≡ l.theirs → k ≡ l
same_knowledge k l e f = λ t. record { ours = e t; theirs = f t }

then_nothing : (k : Knowledge) → and_then k nothing ≡ k
then_nothing k = same_knowledge (and_then k nothing) k (append-nil k.ours) (append-nil k.theirs)

then_assoc : (k l m : Knowledge) → and_then (and_then k l) m ≡ and_then k (and_then l m)
then_assoc k l m = same_knowledge (and_then (and_then k l) m) (and_then k (and_then l m))
    (append_assoc k.ours l.ours m.ours) (append_assoc k.theirs l.theirs m.theirs)

knows_none : {F : Type 0} (A : List Item) (owns : List (Message F)) → knows A owns [] ≡ nothing
knows_none A [] = refl
knows_none A (own ∷ owns) = refl

-- ---- an end that takes no more

-- it takes none of these messages
takes_no_more : {F : Type 0} (S : Summary F) (e : End F) (Ms : List (Message F)) → is_live e.stage ≡ false →
    takes S e Ms ≡ []
takes_no_more S e [] over = refl
takes_no_more {F} S e (M ∷ Ms) over =
    ap (λ Ns. Ns ++ takes S (after S e M) Ms) (refused e.stage over)
    ∙ ap (λ d. takes S d Ms) (takes_none S e M over).1 ∙ takes_no_more S e Ms over where
      refused : (s : Stage F) → is_live s ≡ false → unless_refused M (answer S (record e { stage = s }) M) ≡ []
      refused (Fresh cut) h = absurd cc
      refused (Waits own) h = absurd cc
      refused Over h = refl
      refused Spent h = refl

-- so it learns nothing more
learns_no_more : {F : Type 0} (S : Summary F) (e : End F) (owns Ms : List (Message F)) → is_live e.stage ≡ false →
    (heard S e Ms).learned ≡ and_then e.learned (knows e.peer.items owns (takes S e Ms))
learns_no_more S e owns Ms over =
    ap (λ d. d.learned) (says_none S e Ms over).1
    ∙ sym (ap (λ Ns. and_then e.learned (knows e.peer.items owns Ns)) (takes_no_more S e Ms over)
    ∙ ap (and_then e.learned) (knows_none e.peer.items owns) ∙ then_nothing e.learned)

-- ---- one message

waits_for : {F : Type 0} (wanted : Bool) (N : Message F) →
    is_live (if wanted then Waits (open_parts N) else Over) ≡ true →
    own_of (if wanted then Waits (open_parts N) else Over) ≡ open_parts N
waits_for true N live = refl
waits_for false N live = absurd cc

-- what is known after it, and from later messages
gained_then : {F : Type 0} (e : End F) (own M : Message F) (k : Knowledge) → own_of e.stage ≡ open_parts own →
    and_then (gained e M) k ≡ and_then e.learned (and_then (learn e.peer.items own M) k)
gained_then e own M k is = then_assoc e.learned (learn e.peer.items (own_of e.stage) M) k
    ∙ ap (λ N. and_then e.learned (and_then (learn e.peer.items N M) k)) is
    ∙ ap (λ l. and_then e.learned (and_then l k)) (learn-open e.peer.items own M)

-- the end d after this answer, and what it learns from later messages
goes_on : {F : Type 0} (S : Summary F) (e d : End F) (own M : Message F) (a : Answer F) (Ms : List (Message F)) →
    d ≡ after_answer e M a → own_of e.stage ≡ open_parts own →
    ((N : Message F) → (is_live d.stage ≡ true → own_of d.stage ≡ open_parts N) →
    (heard S d Ms).learned ≡ and_then d.learned (knows d.peer.items (N ∷ answers S d Ms) (takes S d Ms))) →
    (heard S d Ms).stage ≢ Spent →
    (heard S d Ms).learned ≡ and_then e.learned
    (knows e.peer.items (own ∷ (replied a ++ answers S d Ms)) (unless_refused M a ++ takes S d Ms))
goes_on S e d own M (Replies N) Ms is sent later ok =
    let k : Knowledge = knows d.peer.items (N ∷ answers S d Ms) (takes S d Ms) in
    later N (λ live. ap (λ x. own_of x.stage) is ∙ waits_for (has_open N) N (sym (ap (λ x. is_live x.stage) is) ∙ live))
    ∙ ap (λ x. and_then x.learned k) is ∙ gained_then e own M k sent
    ∙ ap (λ x. and_then e.learned
    (and_then (learn e.peer.items own M) (knows x.peer.items (N ∷ answers S d Ms) (takes S d Ms)))) is
goes_on S e d own M Ends Ms is sent later ok =
    let k : Knowledge = knows d.peer.items (answers S d Ms) (takes S d Ms) in
    learns_no_more S d (answers S d Ms) Ms (ap (λ x. is_live x.stage) is)
    ∙ ap (λ x. and_then x.learned k) is ∙ gained_then e own M k sent
    ∙ ap (λ x. and_then e.learned
    (and_then (learn e.peer.items own M) (knows x.peer.items (answers S d Ms) (takes S d Ms)))) is
goes_on S e d own M (Refuses code) Ms is sent later ok =
    absurd (ok (ap (λ x. x.stage) (says_none S d Ms (ap (λ x. is_live x.stage) is)).1 ∙ ap (λ x. x.stage) is))

heard_one : {F : Type 0} (S : Summary F) (e : End F) (own M : Message F) (Ms : List (Message F)) (b : Bool) →
    is_live e.stage ≡ b → (is_live e.stage ≡ true → own_of e.stage ≡ open_parts own) →
    ((N : Message F) → (is_live (after S e M).stage ≡ true → own_of (after S e M).stage ≡ open_parts N) →
    (heard S (after S e M) Ms).learned ≡ and_then (after S e M).learned
    (knows (after S e M).peer.items (N ∷ answers S (after S e M) Ms) (takes S (after S e M) Ms))) →
    (heard S (after S e M) Ms).stage ≢ Spent →
    (heard S e (M ∷ Ms)).learned ≡ and_then e.learned
    (knows e.peer.items (own ∷ answers S e (M ∷ Ms)) (takes S e (M ∷ Ms)))
heard_one S e own M Ms true live sent later ok =
    goes_on S e (after S e M) own M (answer S e M) Ms
    (cond-true (is_live e.stage) (after_answer e M (answer S e M)) e live) (sent live) later ok
heard_one S e own M Ms false over sent later ok = learns_no_more S e (own ∷ answers S e (M ∷ Ms)) (M ∷ Ms) over

-- ---- many

pub learns_by : {F : Type 0} (S : Summary F) (e : End F) (own : Message F) (Ms : List (Message F)) →
    (is_live e.stage ≡ true → own_of e.stage ≡ open_parts own) → (heard S e Ms).stage ≢ Spent →
    (heard S e Ms).learned ≡ and_then e.learned (knows e.peer.items (own ∷ answers S e Ms) (takes S e Ms))
learns_by S e own [] sent ok = sym (then_nothing e.learned)
learns_by {F} S e own (M ∷ Ms) sent ok =
    let later : (N : Message F) → (is_live (after S e M).stage ≡ true → own_of (after S e M).stage ≡ open_parts N) →
    (heard S (after S e M) Ms).learned ≡ and_then (after S e M).learned
    (knows (after S e M).peer.items (N ∷ answers S (after S e M) Ms) (takes S (after S e M) Ms)) =
    λ N waits. learns_by S (after S e M) N Ms waits ok in
    heard_one S e own M Ms (is_live e.stage) refl sent later ok

pub initiator_learns : {F : Type 0} (S : Summary F) → InitiatorLearns S
initiator_learns S P Ms ok = learns_by S (initiator S P) (opening S P) Ms
    (λ live. sym (sums_open S P.items (opening_ranges S P))) ok

pub responder_learns : {F : Type 0} (S : Summary F) → ResponderLearns S
responder_learns S P Ms ok = learns_by S (responder S P) [] Ms (λ live. refl) ok
