-- What is learned from one message, counted for one item x over the parts of the message.
-- Each part has numbers, added up over a message (`tally`): n if it is open and its range has x; how often an Answer
-- marks x, or offers it; how often a List tells x. What a set learns from an honest message is such a sum
-- (`learn-ours`, `learn-theirs`), and so are the parts of its reply: the Answers to the Lists, and the open parts,
-- which cover exactly what the Sums covered (`reply-in_open`), if the talk is clear and the test of fingerprints is
-- exact. For then a Sum that is taken for equal is of a range where both sets agree, in which x counts 0.
-- docs/LAWS.md: A reply is honest; the sums are those of Knowledge is exact and of Nothing wrong is learned.
use Rattle.std.proofs.Common.{rules, ◌≡◌, ℕ, ◌+◌, false, List, [], ◌∷◌, ◌++◌, map, refl, sym, ◌∙◌, arith}
use Rattle.std.specs.Prelude.{⊤}
use Rattle.definitions.proofs.Words.{AllByRecursion, items_where_true, Item, Range, contains, IsSet, items_in}
use Rattle.definitions.proofs.Words.{difference, Summary, IsExact, Part, Sum, Listing, Answer, Message, has_open, Peer}
use Rattle.definitions.proofs.Words.{sum_of, reply_to, reply, listed_in, learn, IsClearAt, IsHonest, RepliesAreHonest}
use Rattle.definitions.proofs.Lemmas.{All-both, All-every}
use Rattle.laws.proofs.Times.{when, times, times-append, times-difference_in, times-difference_of}
use Rattle.laws.proofs.Times.{times-difference_same, items_where_true-map}
use Rattle.laws.proofs.Cuts.{spread}
use Rattle.laws.proofs.PeerCuts.{reply-each, spread-cutup, peer_cutup, reply_to_sum}

-- ==== What is learned from honest parts, for one item x, as numbers that add up over the parts of a message

-- ---- words

-- g of each part, added up
abbrev pub tally : {F : Type 0} → (Part F → ℕ) → Message F → ℕ
tally g [] = 0
tally g (p ∷ ps) = g p + tally g ps

-- n where the part is a Sum of a range that has x
abbrev pub in_sum : {F : Type 0} → Item → ℕ → Part F → ℕ
in_sum x n (Sum X f) = when (contains X x) n
in_sum x n (Listing X items) = 0
in_sum x n (Answer X marks items) = 0

-- n where the part is a Listing of a range that has x
abbrev pub in_list : {F : Type 0} → Item → ℕ → Part F → ℕ
in_list x n (Sum X f) = 0
in_list x n (Listing X items) = when (contains X x) n
in_list x n (Answer X marks items) = 0

-- n where the part is open and its range has x
abbrev pub in_open : {F : Type 0} → Item → ℕ → Part F → ℕ
in_open x n (Sum X f) = when (contains X x) n
in_open x n (Listing X items) = when (contains X x) n
in_open x n (Answer X marks items) = 0

-- how often an Answer marks x in the own lists sent
abbrev pub marked : {F : Type 0} → Item → Message F → Part F → ℕ
marked x sent (Sum X f) = 0
marked x sent (Listing X items) = 0
marked x sent (Answer X marks items) = times x (items_where_true marks (listed_in sent X))

-- how often x stands in an Answer's items
abbrev pub offered : {F : Type 0} → Item → Part F → ℕ
offered x (Sum X f) = 0
offered x (Listing X items) = 0
offered x (Answer X marks items) = times x items

-- for the range of a Listing the message sent lists what A has there
abbrev pub IsListed : {F : Type 0} → List Item → Message F → Part F → Type 0
IsListed A sent (Sum X f) = Unit {0}
IsListed A sent (Listing X items) = listed_in sent X ≡ items_in A X
IsListed A sent (Answer X marks items) = Unit {0}

-- ---- sums over parts

pub tally-append : {F : Type 0} (g : Part F → ℕ) (M N : Message F) → tally g (M ++ N) ≡ tally g M + tally g N
tally-append g [] N = omega arith
tally-append g (p ∷ ps) N = omega (arith, tally-append g ps N)

pub tally-in_open : {F : Type 0} (x : Item) (n : ℕ) (M : Message F) →
    tally (in_open x n) M ≡ tally (in_sum x n) M + tally (in_list x n) M
tally-in_open x n [] = omega arith
tally-in_open x n (p ∷ ps) = grind (arith, tally-in_open x n ps)

pub tally-no_open : {F : Type 0} (x : Item) (n : ℕ) (M : Message F) → has_open M ≡ false → tally (in_open x n) M ≡ 0
tally-no_open x n [] h = refl
tally-no_open x n (Sum X f ∷ ps) h = cc
tally-no_open x n (Listing X items ∷ ps) h = cc
tally-no_open x n (Answer X marks items ∷ ps) h = omega (arith, tally-no_open x n ps h)

-- what adds up over the reply to each part adds up over the reply
pub tally-reply : {F : Type 0} (S : Summary F) (P : Peer) (g h : Part F → ℕ) (M : Message F) →
    AllByRecursion (λ p. tally g (reply_to S P p) ≡ h p) M → tally g (reply S P M) ≡ tally h M
tally-reply S P g h [] all = refl
tally-reply S P g h (p ∷ ps) (here, rest) =
    omega (arith, tally-append g (reply_to S P p) (reply S P ps), here, tally-reply S P g h ps rest)

-- ---- lists

-- an own list before the others does not lead the look-up astray
IsListed-cons : {F : Type 0} (S : Summary F) (A : List Item) (p : Part F) (ps : Message F) → IsHonest S A p →
    (q : Part F) → IsListed A ps q → IsListed A (p ∷ ps) q
IsListed-cons S A p ps honest (Sum X f) h = tt
IsListed-cons S A p ps honest (Answer X marks items) h = tt
IsListed-cons S A (Sum Y f) ps honest (Listing X items) h = h
IsListed-cons S A (Answer Y marks listed) ps honest (Listing X items) h = h
IsListed-cons S A (Listing Y listed) ps honest (Listing X items) h = search rules

-- an honest message lists what it says it lists
pub IsListed-from_honest : {F : Type 0} (S : Summary F) (A : List Item) (M : Message F) →
    AllByRecursion (IsHonest S A) M → AllByRecursion (IsListed A M) M
IsListed-from_honest S A [] h = tt
IsListed-from_honest S A (p ∷ ps) (here, rest) =
    search (rules, IsListed-from_honest S A ps rest, here, All-both, IsListed-cons)

-- ---- what one message teaches

pub learn-ours : {F : Type 0} (S : Summary F) (x : Item) (A B : List Item) (sent M : Message F) →
    AllByRecursion (IsHonest S B) M →
    times x (learn A sent M).ours ≡ tally (marked x sent) M + tally (in_list x (times x (difference A B))) M
learn-ours S x A B sent [] h = omega arith
learn-ours S x A B sent (p ∷ ps) (here, rest) =
    grind (arith, learn-ours S x A B sent ps rest, here, times-difference_in, times-append)

pub learn-theirs : {F : Type 0} (S : Summary F) (x : Item) (A B : List Item) (sent M : Message F) →
    AllByRecursion (IsHonest S B) M →
    times x (learn A sent M).theirs ≡ tally (offered x) M + tally (in_list x (times x (difference B A))) M
learn-theirs S x A B sent [] h = omega arith
learn-theirs S x A B sent (p ∷ ps) (here, rest) =
    grind (arith, learn-theirs S x A B sent ps rest, here, times-difference_of, times-append)

-- ---- what a reply is made of

pub tally-sums : {F : Type 0} (S : Summary F) (A : List Item) (g : Part F → ℕ) → ((X : Range) → g (sum_of S A X) ≡ 0) →
    (Xs : List Range) → tally g (map (sum_of S A) Xs) ≡ 0
tally-sums S A g none [] = refl
tally-sums S A g none (X ∷ Xs) = omega (arith, none X, tally-sums S A g none Xs)

pub tally-in_open-sums : {F : Type 0} (S : Summary F) (A : List Item) (x : Item) (n : ℕ) (Xs : List Range) →
    tally (in_open x n) (map (sum_of S A) Xs) ≡ spread x n Xs
tally-in_open-sums S A x n [] = refl
tally-in_open-sums S A x n (X ∷ Xs) = omega (arith, tally-in_open-sums S A x n Xs)

pub replies_are_honest : {F : Type 0} (S : Summary F) → RepliesAreHonest S
replies_are_honest S P M =
    reply-each S P (λ p. ⊤) (IsHonest S P.items)
    (λ X g h s. All-every (λ Y. S.of (items_in P.items Y) ≡ S.of (items_in P.items Y)) (λ Y. refl) (peer_cutup P X))
    (λ X g h s. refl) (λ X items h. tt) M (All-every (λ p. ⊤) (λ p. tt) M)

-- the answer to a list marks what its sender has and the other lacks
reply_to-marked : {F : Type 0} (S : Summary F) (P Q : Peer) (x : Item) (sent : Message F) (p : Part F) →
    IsHonest S P.items p → IsListed P.items sent p →
    tally (marked x sent) (reply_to S Q p) ≡ in_list x (times x (difference P.items Q.items)) p
reply_to-marked S P Q x sent p honest listed =
    grind (arith, reply_to_sum, tally-sums, items_where_true-map, times-difference_of)

-- and has the items that its sender has and the other lacks
reply_to-offered : {F : Type 0} (S : Summary F) (P Q : Peer) (x : Item) (p : Part F) → IsHonest S P.items p →
    tally (offered x) (reply_to S Q p) ≡ in_list x (times x (difference Q.items P.items)) p
reply_to-offered S P Q x p honest = grind (arith, reply_to_sum, tally-sums, times-difference_in)

-- n is 0 in each range where A and B agree
abbrev pub NoneWhereSame : Item → ℕ → List Item → List Item → Type 0
NoneWhereSame x n A B = (X : Range) → items_in A X ≡ items_in B X → when (contains X x) n ≡ 0

pub NoneWhereSame-difference : (x : Item) (A B : List Item) → NoneWhereSame x (times x (difference A B)) A B
NoneWhereSame-difference x A B X e = cc (times-difference_in x X A B, times-difference_same x (items_in B X))

-- the open parts of the reply to a Sum cover what the Sum does, but where both agree
reply_to-in_open : {F : Type 0} (S : Summary F) (P Q : Peer) (x : Item) (n : ℕ) → IsExact S → IsSet Q.items →
    NoneWhereSame x n P.items Q.items →
    (p : Part F) → IsHonest S P.items p → IsClearAt S P.items Q.items p →
    tally (in_open x n) (reply_to S Q p) ≡ in_sum x n p
reply_to-in_open S P Q x n exact set none (Sum X f) honest clear =
    reply_to_sum S Q X f (λ M. tally (in_open x n) M ≡ when (contains X x) n)
    (λ e. sym (none X (clear (sym ((exact (S.of (items_in Q.items X)) f).0 e ∙ honest)))))
    (λ e s. tally-in_open-sums S Q.items x n (peer_cutup Q X) ∙ spread-cutup x n Q X set)
    (λ e s. omega arith)
reply_to-in_open S P Q x n exact set none (Listing X items) honest clear = refl
reply_to-in_open S P Q x n exact set none (Answer X marks items) honest clear = refl

-- ---- whole replies

pub reply-marked : {F : Type 0} (S : Summary F) (P Q : Peer) (x : Item) (M : Message F) →
    AllByRecursion (IsHonest S P.items) M →
    tally (marked x M) (reply S Q M) ≡ tally (in_list x (times x (difference P.items Q.items))) M
reply-marked S P Q x M honest = search (rules, tally-reply, All-both, reply_to-marked, IsListed-from_honest)

pub reply-offered : {F : Type 0} (S : Summary F) (P Q : Peer) (x : Item) (M : Message F) →
    AllByRecursion (IsHonest S P.items) M →
    tally (offered x) (reply S Q M) ≡ tally (in_list x (times x (difference Q.items P.items))) M
reply-offered S P Q x M honest = search (rules, tally-reply, All-both, reply_to-offered)

pub reply-in_open : {F : Type 0} (S : Summary F) (P Q : Peer) (x : Item) (n : ℕ) → IsExact S → IsSet Q.items →
    NoneWhereSame x n P.items Q.items →
    (M : Message F) → AllByRecursion (IsHonest S P.items) M → AllByRecursion (IsClearAt S P.items Q.items) M →
    tally (in_open x n) (reply S Q M) ≡ tally (in_sum x n) M
reply-in_open S P Q x n exact set none M honest clear = search (rules, tally-reply, All-both, reply_to-in_open)
