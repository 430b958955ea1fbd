-- The laws at examples, in the words of Theorems: a wrong definition breaks one of these.
use Rattle.std.specs.Prelude.{◌≡◌, ℕ, ◌==◌, true, false, List, [], ◌∷◌, length, map, flat_map, None, refl, codes}
use Rattle.std.proofs.Common.{ap}
use Rattle.definitions.specs.Items.{Item, Range, cut_range, whole}
use Rattle.definitions.specs.Sets.{has, set_of, items_in, difference}
use Rattle.definitions.specs.Fingerprints.{Summary}
use Rattle.definitions.specs.Messages.{Listing, Message}
use Rattle.definitions.specs.Replies.{Peer, cutup, reply}
use Rattle.definitions.specs.Strategies.{At_items, Short}
use Rattle.definitions.specs.Placing.{place_fault}
use Rattle.definitions.specs.Talks.{talk, Knowledge, initiator_knows, responder_knows, IsClear}
use Rattle.definitions.specs.Cost.{part_bound}
use Rattle.definitions.proofs.Cases.Examples.{itself, binary, binary8, letters, peer}

abbrev left : Peer
left = peer (binary 4 2) (codes "abd")

abbrev right : Peer
right = peer (binary 4 2) (codes "ace")

-- own items that the other lacks, and the other's that one lacks
abbrev differences : Peer → Peer → Knowledge
differences own other = record { ours = difference own.items other.items; theirs = difference other.items own.items }

-- what is known, in rising order
abbrev in_order : Knowledge → Knowledge
in_order k = record { ours = set_of k.ours; theirs = set_of k.theirs }

-- ---- cuts are exact

abbrev pieces : List Range
pieces = cutup At_items left.items whole (2 ∷ 1 ∷ [])

abbrev long_items : List Item
long_items = codes "aaa" ∷ codes "abb" ∷ codes "bc" ∷ codes "bcab" ∷ []

abbrev short_pieces : List Range
short_pieces = cutup Short long_items whole (2 ∷ 1 ∷ 1 ∷ [])

pub sizes_are_the_shares : map (λ Y. length (items_in left.items Y)) pieces ≡ 2 ∷ 1 ∷ []
sizes_are_the_shares = refl

pub parts_make_up_the_whole : flat_map (items_in left.items) pieces ≡ left.items
parts_make_up_the_whole = refl

-- the same with short bounds, and where they differ
pub short_sizes_are_the_shares : map (λ Y. length (items_in long_items Y)) short_pieces ≡ 2 ∷ 1 ∷ 1 ∷ []
short_sizes_are_the_shares = refl

pub short_bounds : cutup Short long_items whole (2 ∷ 1 ∷ 1 ∷ []) ≡ cut_range whole (codes "b" ∷ codes "bca" ∷ [])
short_bounds = refl

-- ---- a reply is placed, and its message has few parts

abbrev listed : Message (List Item)
listed = Listing whole right.items ∷ []

pub answer_is_placed : place_fault listed (reply itself left listed) ≡ None
answer_is_placed = refl

abbrev eight : Peer
eight = peer binary8 (codes "abcdefgh")

abbrev seven : Peer
seven = peer binary8 (codes "abcdefg")

pub parts_are_few : map (λ M. length M) (talk itself eight seven 9) ≡ 1 ∷ 2 ∷ 2 ∷ 2 ∷ 2 ∷ 1 ∷ 1 ∷ []
parts_are_few = refl

pub two_are_allowed : part_bound itself eight seven ≡ 2
two_are_allowed = refl

-- ---- knowledge is exact

pub left_knows : in_order (initiator_knows left.items (talk itself left right 9)) ≡ differences left right
left_knows = refl

pub right_knows : in_order (responder_knows right.items (talk itself left right 9)) ≡ differences right left
right_knows = refl

-- the fingerprint of a set is its size
abbrev counting : Summary ℕ
counting = record { of = length; same = λ m n. m == n; may_cut = false }

-- two sets of one item each have one fingerprint, so nothing is learned, and the talk is not clear
pub nothing_is_learned : initiator_knows (letters (codes "a"))
    (talk counting (peer binary8 (codes "a")) (peer binary8 (codes "b")) 9) ≡ record { ours = []; theirs = [] }
nothing_is_learned = refl

pub nor_is_the_talk_clear : IsClear counting (letters (codes "a")) (letters (codes "b"))
    (talk counting (peer binary8 (codes "a")) (peer binary8 (codes "b")) 9) → ⊥
nor_is_the_talk_clear clear = let wrong : true ≡ false = ap (λ A. has A (codes "a")) (clear.0.0 refl) in absurd cc
