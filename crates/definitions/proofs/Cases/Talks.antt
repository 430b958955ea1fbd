-- Talks of two peers, message by message, and what each side learns. The fingerprint of a set is the set.
use Rattle.std.specs.Prelude.{◌≡◌, ℕ, true, false, length, map, List, [], ◌∷◌, ◌++◌, refl, codes}
use Rattle.definitions.specs.Items.{Item, Range, whole}
use Rattle.definitions.specs.Messages.{Part, Sum, Listing, Answer, Message}
use Rattle.definitions.specs.Replies.{Peer, opening_ranges}
use Rattle.definitions.specs.Sets.{items_in}
use Rattle.definitions.specs.Strategies.{opening_counts}
use Rattle.definitions.specs.Ranks.{least_ranks}
use Rattle.definitions.specs.Talks.{talk, Knowledge, nothing, initiator_knows, responder_knows}
use Rattle.definitions.specs.Refusals.{missing_answer}
use Rattle.definitions.specs.Ends.{Over, Spent, Replies, Refuses, answer, after, initiator_at, responder_at}
use Rattle.definitions.specs.Cost.{part_bound, most_parts}
use Rattle.definitions.specs.Theorems.{opened, rank}
use Rattle.definitions.specs.Worlds.{message_bound}
use Rattle.definitions.proofs.Cases.Examples.{itself, binary, binary8, binary16, peeling, letters, knows_letters, peer}
use Rattle.definitions.proofs.Cases.Examples.{abc, no_items, has_abc, from_to, below, from, itself_cutting, cutting}

-- the whole talk: none of these has more than 20 messages
abbrev pub talk_of : Peer → Peer → List (Message (List Item))
talk_of I R = talk itself I R 20

-- the Sum of these letters
abbrev pub sum : Range → List ℕ → Part (List Item)
sum X bytes = Sum X (letters bytes)

-- the list of these letters
abbrev pub list : Range → List ℕ → Part (List Item)
list X bytes = Listing X (letters bytes)

-- the Answer with these letters
abbrev pub with_letters : Range → List ℕ → Part (List Item)
with_letters X bytes = Answer X [] (letters bytes)

abbrev pub first : List ℕ → Message (List Item)
first bytes = sum whole bytes ∷ []

-- the Sums of a first range and of what comes after it
abbrev pub sums : Range → List ℕ → List ℕ → List ℕ → Message (List Item)
sums X bytes bound later = sum X bytes ∷ sum (from bound) later ∷ []

-- the bound of the messages by the least ranks, the bound of the parts, and the most parts that a message has
abbrev pub counts_of : Peer → Peer → ℕ × ℕ × ℕ
counts_of I R = (
  message_bound (opened itself (least_ranks I.table) I) (rank (least_ranks R.table) R),
  part_bound itself I R,
  most_parts (talk_of I R),
)

-- what the initiator learns, and what the responder does
abbrev pub both_know : Peer → Peer → Knowledge × Knowledge
both_know I R = (initiator_knows I.items (talk_of I R), responder_knows R.items (talk_of I R))

pub both_empty : talk_of no_items no_items ≡ first [] ∷ [] ∷ []
both_empty = refl

pub empty_meets_abc : talk_of no_items has_abc
    ≡ first [] ∷ (Listing whole abc ∷ []) ∷ (Answer whole (true ∷ []) [] ∷ []) ∷ []
empty_meets_abc = refl

pub empty_meets_abc_knowledge : both_know no_items has_abc
    ≡ (record { ours = []; theirs = abc }, record { ours = abc; theirs = [] })
empty_meets_abc_knowledge = refl

pub equal_singletons : talk_of has_abc has_abc ≡ (Sum whole abc ∷ []) ∷ [] ∷ []
equal_singletons = refl

-- two pairs that cross

abbrev pub cd : Peer
cd = peer (binary 2 1) (codes "cd")

abbrev pub ab : Peer
ab = peer (binary 2 1) (codes "ab")

pub two_pairs_that_cross : talk_of cd ab ≡
    first (codes "cd")
    ∷ sums (below (codes "b")) (codes "a") (codes "b") (codes "b")
    ∷ (list (below (codes "b")) [] ∷ sum (from_to (codes "b") (codes "d")) (codes "c")
    ∷ sum (from (codes "d")) (codes "d") ∷ [])
    ∷ (with_letters (below (codes "b")) (codes "a") ∷ list (from_to (codes "b") (codes "d")) (codes "b")
    ∷ list (from (codes "d")) [] ∷ [])
    ∷ (Answer (from_to (codes "b") (codes "d")) (true ∷ []) (letters (codes "c"))
    ∷ with_letters (from (codes "d")) (codes "d") ∷ [])
    ∷ []
two_pairs_that_cross = refl

pub two_pairs_that_cross_counts : counts_of cd ab ≡ (5, 8, 3)
two_pairs_that_cross_counts = refl

-- the same by two ends

pub the_responder_replies : answer itself (responder_at itself cd ab 0) (first (codes "cd"))
    ≡ Replies (sums (below (codes "b")) (codes "a") (codes "b") (codes "b"))
the_responder_replies = refl

pub the_initiator_ends : initiator_at itself cd ab 5
    ≡ record { peer = cd; stage = Over; sent = 3; learned = knows_letters (codes "cd") (codes "ab") }
the_initiator_ends = refl

pub the_responder_ends : responder_at itself cd ab 5
    ≡ record { peer = ab; stage = Over; sent = 2; learned = knows_letters (codes "ab") (codes "cd") }
the_responder_ends = refl

-- an opening that comes again is refused, and nothing stays learned
pub an_opening_again : answer itself (responder_at itself cd ab 3) (first (codes "cd")) ≡ Refuses missing_answer
an_opening_again = refl

pub spent_by_it : after itself (responder_at itself cd ab 3) (first (codes "cd"))
    ≡ record { peer = ab; stage = Spent; sent = 2; learned = nothing }
spent_by_it = refl

-- one missing of eight

abbrev pub eight : Peer
eight = peer binary8 (codes "abcdefgh")

abbrev pub seven : Peer
seven = peer binary8 (codes "abcdefg")

pub one_missing_of_eight : talk_of eight seven ≡
    first (codes "abcdefgh")
    ∷ sums (below (codes "d")) (codes "abc") (codes "d") (codes "defg")
    ∷ sums (from_to (codes "d") (codes "f")) (codes "de") (codes "f") (codes "fgh")
    ∷ sums (from_to (codes "f") (codes "g")) (codes "f") (codes "g") (codes "g")
    ∷ sums (from_to (codes "g") (codes "h")) (codes "g") (codes "h") (codes "h")
    ∷ (list (from (codes "h")) [] ∷ [])
    ∷ (with_letters (from (codes "h")) (codes "h") ∷ [])
    ∷ []
one_missing_of_eight = refl

pub one_missing_of_eight_counts : counts_of eight seven ≡ (9, 2, 2)
one_missing_of_eight_counts = refl

pub one_missing_of_eight_knowledge : both_know eight seven
    ≡ (knows_letters (codes "h") [], knows_letters [] (codes "h"))
one_missing_of_eight_knowledge = refl

pub equal_eights : talk_of eight eight ≡ first (codes "abcdefgh") ∷ [] ∷ []
equal_eights = refl

pub equal_eights_counts : counts_of eight eight ≡ (9, 1, 1)
equal_eights_counts = refl

-- inserts between sessions: the second session

abbrev pub nine : Peer
nine = record { table = binary16; items = eight.items ++ letters (codes "i") }

abbrev pub other_eight : Peer
other_eight = record { table = binary16; items = seven.items ++ letters (codes "j") }

pub inserts_between_sessions : talk_of nine other_eight ≡
    first (codes "abcdefghi")
    ∷ sums (below (codes "e")) (codes "abcd") (codes "e") (codes "efgj")
    ∷ sums (from_to (codes "e") (codes "g")) (codes "ef") (codes "g") (codes "ghi")
    ∷ sums (from_to (codes "g") (codes "j")) (codes "g") (codes "j") (codes "j")
    ∷ (sum (from_to (codes "g") (codes "h")) (codes "g") ∷ sum (from_to (codes "h") (codes "j")) (codes "hi")
    ∷ list (from (codes "j")) [] ∷ [])
    ∷ (list (from_to (codes "h") (codes "j")) [] ∷ with_letters (from (codes "j")) (codes "j") ∷ [])
    ∷ (with_letters (from_to (codes "h") (codes "j")) (codes "hi") ∷ [])
    ∷ []
inserts_between_sessions = refl

pub inserts_between_sessions_counts : counts_of nine other_eight ≡ (9, 6, 3)
inserts_between_sessions_counts = refl

pub inserts_between_sessions_knowledge : both_know nine other_eight
    ≡ (knows_letters (codes "hi") (codes "j"), knows_letters (codes "j") (codes "hi"))
inserts_between_sessions_knowledge = refl

-- rows that peel

abbrev pub peeled : List ℕ → Peer
peeled bytes = peer (peeling 3 3) bytes

pub peeling_by_threes : talk_of (peeled (codes "abcdefg")) (peeled (codes "abcdef")) ≡
    first (codes "abcdefg")
    ∷ sums (below (codes "d")) (codes "abc") (codes "d") (codes "def")
    ∷ sums (from_to (codes "d") (codes "g")) (codes "def") (codes "g") (codes "g")
    ∷ (list (from (codes "g")) [] ∷ [])
    ∷ (with_letters (from (codes "g")) (codes "g") ∷ [])
    ∷ []
peeling_by_threes = refl

pub peeling_by_threes_counts : counts_of (peeled (codes "abcdefg")) (peeled (codes "abcdef")) ≡ (5, 2, 2)
peeling_by_threes_counts = refl

pub peeling_by_threes_knowledge : both_know (peeled (codes "abcdefg")) (peeled (codes "abcdef"))
    ≡ (knows_letters (codes "g") [], knows_letters [] (codes "g"))
peeling_by_threes_knowledge = refl

-- ---- a session that begins with a cut

abbrev pub eight_cutting : Peer
eight_cutting = cutting eight

-- with one Sum it has seven messages, and a bound of nine
pub one_missing_of_eight_cut : talk itself_cutting eight_cutting seven 20 ≡
    sums (below (codes "e")) (codes "abcd") (codes "e") (codes "efgh")
    ∷ sums (from_to (codes "e") (codes "f")) (codes "e") (codes "f") (codes "fg")
    ∷ sums (from_to (codes "f") (codes "g")) (codes "f") (codes "g") (codes "gh")
    ∷ (list (from (codes "g")) (codes "g") ∷ [])
    ∷ (Answer (from (codes "g")) (false ∷ []) (letters (codes "h")) ∷ [])
    ∷ []
one_missing_of_eight_cut = refl

abbrev pub counts_of_cut : ℕ × ℕ × ℕ
counts_of_cut = (
  message_bound (opened itself_cutting (least_ranks binary8) eight_cutting) (rank (least_ranks binary8) seven),
  part_bound itself_cutting eight_cutting seven,
  most_parts (talk itself_cutting eight_cutting seven 20),
)

pub one_missing_of_eight_cut_counts : counts_of_cut ≡ (8, 2, 2)
one_missing_of_eight_cut_counts = refl

pub parts_of_the_cut : map (λ X. length (items_in eight_cutting.items X)) (opening_ranges itself_cutting eight_cutting)
    ≡ opening_counts true eight_cutting.table 8
parts_of_the_cut = refl

-- where the profile lets no session begin with a cut, the table's word counts for nothing
pub no_cut_in_other_profiles : talk itself eight_cutting seven 20 ≡ talk_of eight seven
no_cut_in_other_profiles = refl

-- a set that its row lists is not cut, nor is an empty one
pub one_item_is_not_cut : talk itself_cutting (cutting has_abc) no_items 20 ≡ talk_of has_abc no_items
one_item_is_not_cut = refl

pub nothing_is_not_cut : talk itself_cutting (cutting no_items) has_abc 20 ≡ talk_of no_items has_abc
nothing_is_not_cut = refl

-- equal sets
pub equal_eights_cut : talk itself_cutting eight_cutting eight 20
    ≡ sums (below (codes "e")) (codes "abcd") (codes "e") (codes "efgh") ∷ [] ∷ []
equal_eights_cut = refl

-- the responder takes it
pub the_responder_takes_a_cut : answer itself_cutting (responder_at itself_cutting eight_cutting eight 0)
    (sums (below (codes "e")) (codes "abcd") (codes "e") (codes "efgh")) ≡ Replies []
the_responder_takes_a_cut = refl
