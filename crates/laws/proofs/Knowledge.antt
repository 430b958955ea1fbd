-- What both sides of a talk learn: the difference of their sets, counted for one item x.
-- It goes by induction over the messages that follow (`Learns`), with the sums of Tallies. From a message on, each side
-- learns x once for each open range that has x and where x is in the one set alone; the hearer also learns what the
-- Answers of the message tell. The ranges of the opening do not overlap, and one of them
-- has x. So x is learned once if only one set has
-- it, and never otherwise.
-- For soundness the same with at most in place of equal: a Sum that is wrongly taken for equal loses x and adds
-- nothing.
-- Last: a talk grows by the reply to its last message, and only the hearer of a message learns from it.
-- docs/LAWS.md: Knowledge is exact; Nothing wrong is learned; Talks grow by replies; Ranges and cuts
-- (`whole_has_all`).
use Rattle.std.proofs.Common.{◌≡◌, ℕ, ◌+◌, Bool, true, false, not, List, [], ◌∷◌, ◌++◌, length, if◌then◌else◌, refl}
use Rattle.std.proofs.Common.{sym, ap, ◌∙◌, arith, ◌<◌, zero, suc, ◌≤◌, take, get_or, slice_get, Some, subst}
use Rattle.std.proofs.Common.{append_assoc}
use Rattle.definitions.proofs.Words.{AllByRecursion, Item, IsSet, difference, Summary}
use Rattle.definitions.proofs.Words.{IsExact, Part, Sum, Listing, Answer, Message, has_open, opening, Peer, reply_to}
use Rattle.definitions.proofs.Words.{reply, learn, talk_from, knows, of_first, IsClear, talk, sender}
use Rattle.definitions.proofs.Words.{Knowledge, nothing, and_then, of_second, IsHonest, KnowledgeIsExact, ListsSome}
use Rattle.definitions.proofs.Words.{KnowledgeIsSound}
use Rattle.definitions.proofs.Lemmas.{lt-ltb, ltb-true, append-nil, All-both}
use Rattle.laws.specs.Growing.{TalksGrow, is_even, answered, KnowledgeGrows}
use Rattle.laws.proofs.Times.{times, times-append, ListsOnce-from_times, difference-IsSet, has-times}
use Rattle.laws.proofs.Times.{times_le_one, IsDistinct-from_times}
use Rattle.laws.proofs.PeerCuts.{spread-cutup, peer_cutup}
use Rattle.laws.proofs.Openings.{opening_honest, opening_spread}
use Rattle.definitions.proofs.Words.{opening_ranges}
use Rattle.laws.proofs.Tallies.{tally, in_sum, in_open, marked, offered, tally-append, tally-in_open, tally-no_open}
use Rattle.laws.proofs.Tallies.{learn-ours, learn-theirs, tally-sums, tally-in_open-sums, replies_are_honest}
use Rattle.laws.proofs.Tallies.{NoneWhereSame}
use Rattle.laws.proofs.Tallies.{NoneWhereSame-difference, reply-marked, reply-offered, reply-in_open}

-- ==== What both learn from a message on is the difference of their sets, once for each open range: counted for one
--      item x

-- the messages that follow M, of which there are at most k
abbrev following : {F : Type 0} → Summary F → Peer → Peer → Message F → ℕ → List (Message F)
following S P Q M k = if has_open M then talk_from S Q P (reply S Q M) k else []

-- What the speaker learns after its message M, to which Ms follow, and what the hearer learns from M on: R of what is
-- open, which is as much or at most as much.
record Learns {F : Type 0} (R : ℕ → ℕ → Type 0) (x : Item) (A B : List Item) (M : Message F) (Ms : List (Message F)) :
    Type 0 where
  speaker_ours : R (times x (knows A (of_first (M ∷ Ms)) (of_first Ms)).ours)
      (tally (in_open x (times x (difference A B))) M)
  speaker_theirs : R (times x (knows A (of_first (M ∷ Ms)) (of_first Ms)).theirs)
      (tally (in_open x (times x (difference B A))) M)
  hearer_ours : (sent : Message F) → R (times x (knows B (sent ∷ of_first Ms) (of_first (M ∷ Ms))).ours)
      (tally (marked x sent) M + tally (in_open x (times x (difference B A))) M)
  hearer_theirs : (sent : Message F) → R (times x (knows B (sent ∷ of_first Ms) (of_first (M ∷ Ms))).theirs)
      (tally (offered x) M + tally (in_open x (times x (difference A B))) M)

-- what was said counts on as it is: what one speaker learns is what the other hears in the reply, and what a hearer
-- learns is what M tells and what it learns as the next speaker
record CountsOn (R : ℕ → ℕ → Type 0) : Type 0 where
  speaks : (k m o l s t : ℕ) → R k (m + o) → m ≡ l → R o s → t ≡ s + l → R k t
  hears : (k l n m i o s t : ℕ) → k ≡ l + n → l ≡ m + i → R n o → R o s → t ≡ s + i → R k (m + t)

abbrev Exactly : ℕ → ℕ → Type 0
Exactly m n = m ≡ n

exactly : CountsOn Exactly
exactly = record {
  speaks = λ k m o l s t later in_reply opens all. omega (arith, later, in_reply, opens, all);
  hears = λ k l n m i o s t parts here later opens all. omega (arith, parts, here, later, opens, all);
}

abbrev AtMost : ℕ → ℕ → Type 0
AtMost m n = m ≤ n

at_most : CountsOn AtMost
at_most = record {
  speaks = λ k m o l s t later in_reply opens all. omega (arith, later, in_reply, opens, all);
  hears = λ k l n m i o s t parts here later opens all. omega (arith, parts, here, later, opens, all);
}

module _ {F : Type 0} (S : Summary F) (R : ℕ → ℕ → Type 0) (on : CountsOn R) (x : Item) where
  -- nothing is learned of what is open, and nothing follows
  Learns-last : (A B : List Item) (M : Message F) → AllByRecursion (IsHonest S A) M → R 0 0 →
      ((n : ℕ) → R 0 (tally (in_open x n) M)) → ((n : ℕ) → R 0 (tally (in_sum x n) M)) → Learns R x A B M []
  Learns-last A B M honest none opens sums =
      let a : ℕ = times x (difference A B) in
      let b : ℕ = times x (difference B A) in
      record {
        speaker_ours = opens a;
        speaker_theirs = opens b;
        hearer_ours = λ sent. on.hears _ _ _ _ _ _ _ _ (times-append x (learn B sent M).ours [])
            (learn-ours S x B A sent M honest) none (sums b) (tally-in_open x b M);
        hearer_theirs = λ sent. on.hears _ _ _ _ _ _ _ _ (times-append x (learn B sent M).theirs [])
            (learn-theirs S x B A sent M honest) none (sums a) (tally-in_open x a M);
      }

  -- the reply N to M, and what is learned from N on
  Learns-more : (P Q : Peer) (M : Message F) (Ms : List (Message F)) → AllByRecursion (IsHonest S P.items) M →
      R (tally (in_open x (times x (difference P.items Q.items))) (reply S Q M))
      (tally (in_sum x (times x (difference P.items Q.items))) M) →
      R (tally (in_open x (times x (difference Q.items P.items))) (reply S Q M))
      (tally (in_sum x (times x (difference Q.items P.items))) M) →
      Learns R x Q.items P.items (reply S Q M) Ms → Learns R x P.items Q.items M (reply S Q M ∷ Ms)
  Learns-more P Q M Ms honest open_a open_b later =
      let a : ℕ = times x (difference P.items Q.items) in
      let b : ℕ = times x (difference Q.items P.items) in
      let known = knows Q.items (of_first (reply S Q M ∷ Ms)) (of_first Ms) in
      record {
        speaker_ours = on.speaks _ _ _ _ _ _ (later.hearer_ours M) (reply-marked S P Q x M honest) open_a
            (tally-in_open x a M);
        speaker_theirs = on.speaks _ _ _ _ _ _ (later.hearer_theirs M) (reply-offered S P Q x M honest) open_b
            (tally-in_open x b M);
        hearer_ours = λ sent. on.hears _ _ _ _ _ _ _ _ (times-append x (learn Q.items sent M).ours known.ours)
            (learn-ours S x Q.items P.items sent M honest) later.speaker_ours open_b (tally-in_open x b M);
        hearer_theirs = λ sent. on.hears _ _ _ _ _ _ _ _ (times-append x (learn Q.items sent M).theirs known.theirs)
            (learn-theirs S x Q.items P.items sent M honest) later.speaker_theirs open_a (tally-in_open x a M);
      }

-- where nothing is open, there is no Sum
no_sums : {F : Type 0} (x : Item) (n : ℕ) (M : Message F) → has_open M ≡ false → 0 ≡ tally (in_sum x n) M
no_sums x n M closed = omega (arith, tally-in_open x n M, tally-no_open x n M closed)

NoneWhereSame-flip : (x : Item) (A B : List Item) → NoneWhereSame x (times x (difference B A)) A B
NoneWhereSame-flip x A B X e = NoneWhereSame-difference x B A X (sym e)

IsClear-flip : {F : Type 0} (S : Summary F) (A B : List Item) (Ms : List (Message F)) → IsClear S A B Ms →
    IsClear S B A Ms
IsClear-flip S A B [] h = tt
IsClear-flip S A B (M ∷ Ms) (here, rest) = grind (arith, IsClear-flip S A B Ms rest, All-both, here)

-- once the talk has ended
Learns-talk : {F : Type 0} (S : Summary F) (x : Item) → IsExact S → (k : ℕ) (P Q : Peer) (M : Message F) →
    IsSet P.items → IsSet Q.items →
    AllByRecursion (IsHonest S P.items) M → length (following S P Q M k) < k →
    IsClear S P.items Q.items (M ∷ following S P Q M k) →
    Learns Exactly x P.items Q.items M (following S P Q M k)
Learns-talk S x exact zero P Q M own other honest ended clear = absurd (omega arith)
Learns-talk S x exact (suc k) P Q M own other honest ended clear =
    let N = reply S Q M in
    let either : (b : Bool) → has_open M ≡ b → length (if b then talk_from S Q P N (suc k) else []) < suc k →
    IsClear S P.items Q.items (M ∷ (if b then talk_from S Q P N (suc k) else [])) →
    Learns Exactly x P.items Q.items M (if b then talk_from S Q P N (suc k) else []) =
    elim [
      | true ↦ λ e ended clear. Learns-more S Exactly exactly x P Q M (following S Q P N k) honest
          (reply-in_open S P Q x _ exact other (NoneWhereSame-difference x P.items Q.items) M honest clear.0)
          (reply-in_open S P Q x _ exact other (NoneWhereSame-flip x P.items Q.items) M honest clear.0)
          (Learns-talk S x exact k Q P N other own (replies_are_honest S Q M) (omega arith)
          (IsClear-flip S P.items Q.items (N ∷ following S Q P N k) clear.1))
      | false ↦ λ e ended clear. Learns-last S Exactly exactly x P.items Q.items M honest refl
          (λ n. sym (tally-no_open x n M e)) (λ n. no_sums x n M e)
    ] in
    either (has_open M) refl ended clear

-- What the opening teaches is all. Only the sets matter: the tables may be any.
pub exact_knowledge : {F : Type 0} (S : Summary F) → KnowledgeIsExact S
exact_knowledge S exact I R zero left right ended clear = absurd (omega arith)
exact_knowledge S exact I R (suc k) left right ended clear =
    let M = opening S I in
    let learns : (x : Item) → Learns Exactly x I.items R.items M (following S I R M k) =
    λ x. Learns-talk S x exact k I R M left right (opening_honest S I) (omega arith) clear in
    let all : (x : Item) (n : ℕ) → tally (in_open x n) M ≡ n =
    λ x n. tally-in_open-sums S I.items x n (opening_ranges S I) ∙ opening_spread S I left x n in
    let unmarked : (x : Item) → tally (marked x []) M ≡ 0 =
    λ x. tally-sums S I.items (marked x []) (λ X. refl) (opening_ranges S I) in
    let unoffered : (x : Item) → tally (offered x) M ≡ 0 =
    λ x. tally-sums S I.items (offered x) (λ X. refl) (opening_ranges S I) in (
      record {
        ours =
            ListsOnce-from_times _ _ (difference-IsSet I.items R.items left) (λ x. (learns x).speaker_ours ∙ all x _);
        theirs = ListsOnce-from_times _ _ (difference-IsSet R.items I.items right)
            (λ x. (learns x).speaker_theirs ∙ all x _);
      },
      record {
        ours = ListsOnce-from_times _ _ (difference-IsSet R.items I.items right)
            (λ x. omega (arith, (learns x).hearer_ours [], unmarked x, all x (times x (difference R.items I.items))));
        theirs = ListsOnce-from_times _ _ (difference-IsSet I.items R.items left)
            (λ x. omega (arith, (learns x).hearer_theirs [], unoffered x, all x (times x (difference I.items R.items))));
      },
    )

-- ==== What is learned is never wrong, whatever the fingerprints and before the end of the talk: counted for one item
--      x, it is at most the difference

ListsSome-from_times : (items A : List Item) → IsSet A → ((x : Item) → times x items ≤ times x A) → ListsSome items A
ListsSome-from_times items A set few = record {
  once = IsDistinct-from_times items (λ x. omega (arith, few x, times_le_one x A set));
  among = λ x h. has-times x A
      ∙ lt-ltb 0 (times x A) (omega (arith, few x, ltb-true 0 (times x items) (sym (has-times x items) ∙ h)));
}

-- the open parts of the reply to a part cover no more than a Sum does
reply_to-in_open_le : {F : Type 0} (S : Summary F) (Q : Peer) (x : Item) (n : ℕ) → IsSet Q.items → (p : Part F) →
    tally (in_open x n) (reply_to S Q p) ≤ in_sum x n p
reply_to-in_open_le S Q x n set (Sum X f) =
    grind (arith, tally-in_open-sums S Q.items x n (peer_cutup Q X), spread-cutup x n Q X set)
reply_to-in_open_le S Q x n set (Listing X items) = omega arith
reply_to-in_open_le S Q x n set (Answer X marks items) = omega arith

pub reply-in_open_le : {F : Type 0} (S : Summary F) (Q : Peer) (x : Item) (n : ℕ) → IsSet Q.items → (M : Message F) →
    tally (in_open x n) (reply S Q M) ≤ tally (in_sum x n) M
reply-in_open_le S Q x n set [] = omega arith
reply-in_open_le S Q x n set (p ∷ ps) =
    grind (arith, reply-in_open_le S Q x n set ps, tally-append, reply_to-in_open_le)

some-last : {F : Type 0} (S : Summary F) (x : Item) (A B : List Item) (M : Message F) →
    AllByRecursion (IsHonest S A) M → Learns AtMost x A B M []
some-last S x A B M honest =
    Learns-last S AtMost at_most x A B M honest (omega arith) (λ n. omega arith) (λ n. omega arith)

-- as Learns-talk, but at most
LearnsSome-talk : {F : Type 0} (S : Summary F) (x : Item) (k : ℕ) (P Q : Peer) (M : Message F) → IsSet P.items →
    IsSet Q.items → AllByRecursion (IsHonest S P.items) M →
    Learns AtMost x P.items Q.items M (if has_open M then talk_from S Q P (reply S Q M) k else [])
LearnsSome-talk S x zero P Q M own other honest = grind (arith, some-last S x P.items Q.items M honest)
LearnsSome-talk S x (suc k) P Q M own other honest =
    let more = Learns-more S AtMost at_most x P Q M _ honest (reply-in_open_le S Q x _ other M)
    (reply-in_open_le S Q x _ other M)
    (LearnsSome-talk S x k Q P (reply S Q M) other own (replies_are_honest S Q M)) in
    elim (has_open M)
    as (λ b. Learns AtMost x P.items Q.items M (if b then talk_from S Q P (reply S Q M) (suc k) else [])) [
      | true ↦ more
      | false ↦ some-last S x P.items Q.items M honest
    ]

pub sound_knowledge : {F : Type 0} (S : Summary F) → KnowledgeIsSound S
sound_knowledge S I R zero left right =
    let none : (A : List Item) → ListsSome [] A =
    λ A. record { once = IsDistinct-from_times [] (λ x. omega arith); among = λ x h. cc } in
    (record { ours = none _; theirs = none _ }, record { ours = none _; theirs = none _ })
sound_knowledge S I R (suc k) left right =
    let M = opening S I in
    let Ms = following S I R M k in
    let learns : (x : Item) → Learns AtMost x I.items R.items M Ms =
    λ x. LearnsSome-talk S x k I R M left right (opening_honest S I) in
    let all : (x : Item) (n : ℕ) → tally (in_open x n) M ≡ n =
    λ x n. tally-in_open-sums S I.items x n (opening_ranges S I) ∙ opening_spread S I left x n in
    let unmarked : (x : Item) → tally (marked x []) M ≡ 0 =
    λ x. tally-sums S I.items (marked x []) (λ X. refl) (opening_ranges S I) in
    let unoffered : (x : Item) → tally (offered x) M ≡ 0 =
    λ x. tally-sums S I.items (offered x) (λ X. refl) (opening_ranges S I) in (
      record {
        ours = ListsSome-from_times _ _ (difference-IsSet I.items R.items left)
            (λ x. omega (arith, (learns x).speaker_ours, all x (times x (difference I.items R.items))));
        theirs = ListsSome-from_times _ _ (difference-IsSet R.items I.items right)
            (λ x. omega (arith, (learns x).speaker_theirs, all x (times x (difference R.items I.items))));
      },
      record {
        ours = ListsSome-from_times _ _ (difference-IsSet R.items I.items right)
            (λ x. omega (arith, (learns x).hearer_ours [], unmarked x, all x (times x (difference R.items I.items))));
        theirs = ListsSome-from_times _ _ (difference-IsSet I.items R.items left)
            (λ x. omega (arith, (learns x).hearer_theirs [], unoffered x, all x (times x (difference I.items R.items))));
      },
    )

-- ==== A talk grows by the reply to its last message, and only the hearer of a message learns from it

-- ---- talks

abbrev Grown : {F : Type 0} → Summary F → Peer → Peer → Message F → ℕ → Message F → Type 0
Grown S P Q M k N = talk_from S P Q M (suc (suc k))
    ≡ talk_from S P Q M (suc k) ++ (if has_open N then reply S (sender P Q (suc k)) N ∷ [] else [])

pub some_is : {X : Type 0} (x y : X) → Some x ≡ Some y → x ≡ y
some_is x y e = cc

first_reply : {F : Type 0} (S : Summary F) (P Q : Peer) (M : Message F) → Grown S P Q M zero M
first_reply S P Q M = grind arith

talk_from-grows : {F : Type 0} (S : Summary F) (P Q : Peer) (M : Message F) (k : ℕ) (N : Message F) →
    slice_get (talk_from S P Q M (suc k)) k ≡ Some N → Grown S P Q M k N
talk_from-grows S P Q M zero N h = subst (Grown S P Q M zero) (some_is M N h) (first_reply S P Q M)
talk_from-grows S P Q M (suc k) N h = grind (arith, talk_from-grows S Q P (reply S Q M) k N, slice_get)

pub talks_grow : {F : Type 0} (S : Summary F) → TalksGrow S
talks_grow S I R k M h =
    let one : k + 1 ≡ suc k = omega arith in
    let two : k + 2 ≡ suc (suc k) = omega arith in
    let there : slice_get (talk S I R (suc k)) k ≡ Some M = subst (λ n. slice_get (talk S I R n) k ≡ Some M) one h in
    ap (talk S I R) two ∙ talk_from-grows S I R (opening S I) k M there
    ∙ (λ i. talk S I R (sym one i) ++ (if has_open M then reply S (sender I R (sym one i)) M ∷ [] else []))

-- ---- knowledge

pub then_nothing : (k : Knowledge) → and_then k nothing ≡ k
then_nothing k i = record { ours = append-nil k.ours i; theirs = append-nil k.theirs i }

pub then_then : (j k l : Knowledge) → and_then (and_then j k) l ≡ and_then j (and_then k l)
then_then j k l i =
    record { ours = append_assoc j.ours k.ours l.ours i; theirs = append_assoc j.theirs k.theirs l.theirs i }

-- what A knows of messages that it begins, and of messages that the other begins and of which the first answers sent
abbrev begun : {F : Type 0} → List Item → List (Message F) → Knowledge
begun A Ms = knows A (of_first Ms) (of_second Ms)

abbrev heard : {F : Type 0} → List Item → Message F → List (Message F) → Knowledge
heard A sent Ms = knows A (sent ∷ of_second Ms) (of_first Ms)

pub of_first-cons : {F : Type 0} (M : Message F) (Ms : List (Message F)) → of_first (M ∷ Ms) ≡ M ∷ of_second Ms
of_first-cons M Ms = grind arith

pub begun-cons : {F : Type 0} (A : List Item) (M : Message F) (Ms : List (Message F)) → begun A (M ∷ Ms) ≡ heard A M Ms
begun-cons A M Ms = ap (λ Os. knows A Os (of_first Ms)) (of_first-cons M Ms)

pub heard-cons : {F : Type 0} (A : List Item) (sent M : Message F) (Ms : List (Message F)) →
    heard A sent (M ∷ Ms) ≡ and_then (learn A sent M) (begun A Ms)
heard-cons A sent M Ms = ap (λ Os. knows A (sent ∷ of_first Ms) Os) (of_first-cons M Ms)

abbrev BegunGrows : {F : Type 0} → ℕ → List Item → List (Message F) → Message F → Type 0
BegunGrows k A Ms M = begun A (take (suc k) Ms)
    ≡ (if is_even k then begun A (take k Ms) else and_then (begun A (take k Ms)) (learn A (answered Ms k) M))

abbrev HeardGrows : {F : Type 0} → ℕ → List Item → Message F → List (Message F) → Message F → Type 0
HeardGrows k A sent Ms M = heard A sent (take (suc k) Ms) ≡ (if is_even k
    then and_then (heard A sent (take k Ms)) (learn A (get_or (sent ∷ Ms) k []) M) else heard A sent (take k Ms))

pub turned : {X : Type 0} (b : Bool) (x y : X) → (if b then y else x) ≡ (if not b then x else y)
turned b x y = grind arith

regrouped : (j k l m : Knowledge) (b : Bool) → (b ≡ false → l ≡ m) →
    and_then j (if b then k else and_then k l) ≡ (if not b then and_then (and_then j k) m else and_then j k)
regrouped j k l m b same = grind (arith, then_then)

-- a message of odd number answers one of these, and not the one before them all
odd_answers : {F : Type 0} (A : List Item) (N M : Message F) (Ms : List (Message F)) (k : ℕ) → is_even k ≡ false →
    learn A (answered Ms k) M ≡ learn A (get_or (N ∷ Ms) k []) M
odd_answers A N M Ms k h = grind arith

grows : {F : Type 0} (k : ℕ) (A : List Item) (Ms : List (Message F)) (M : Message F) → slice_get Ms k ≡ Some M →
    BegunGrows k A Ms M × ((sent : Message F) → HeardGrows k A sent Ms M)
grows k A [] M h = absurd cc
grows zero A (N ∷ Ms) M h = (refl, λ sent. then_nothing (learn A sent N) ∙ ap (learn A sent) (some_is N M h))
grows (suc k) A (N ∷ Ms) M h =
    let later = grows k A Ms M h in
    let l : Knowledge = learn A (get_or (N ∷ Ms) k []) M in (
      begun-cons A N (take (suc k) Ms) ∙ later.1 N
          ∙ turned (is_even k) (heard A N (take k Ms)) (and_then (heard A N (take k Ms)) l)
          ∙ ap (λ o. if not (is_even k) then o else and_then o l) (sym (begun-cons A N (take k Ms))),
      λ sent. heard-cons A sent N (take (suc k) Ms) ∙ ap (and_then (learn A sent N)) later.0
          ∙ regrouped (learn A sent N) (begun A (take k Ms)) (learn A (answered Ms k) M) l (is_even k)
          (odd_answers A N M Ms k)
          ∙ ap (λ o. if not (is_even k) then and_then o l else o) (sym (heard-cons A sent N (take k Ms))),
    )

pub knowledge_grows : {F : Type 0} → KnowledgeGrows F
knowledge_grows A Ms k M h = grind (arith, grows k A Ms M h)
