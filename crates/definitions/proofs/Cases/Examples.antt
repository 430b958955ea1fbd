-- Tables, sets and a fingerprint that the cases speak of.
use Rattle.std.specs.Prelude.{ℕ, List, [], ◌∷◌, map, Some, None, codes, true, false}
use Rattle.std.specs.Cmp.Lexicographic.{pointwise}
use Rattle.definitions.specs.Items.{Item, Range, same_item}
use Rattle.definitions.specs.Fingerprints.{Summary}
use Rattle.definitions.specs.Strategies.{Table, Row, Act, List_items, Split, Peel, At_items, Open_sum}
use Rattle.definitions.specs.Strategies.{Open_split}
use Rattle.definitions.specs.Replies.{Peer}
use Rattle.definitions.specs.Talks.{Knowledge}

-- the fingerprint of a set is the set: no two sets share one
abbrev pub itself : Summary (List Item)
itself = record { of = λ A. A; same = pointwise same_item; may_cut = false }

-- the same of sessions that may begin with a cut
abbrev pub itself_cutting : Summary (List Item)
itself_cutting = record itself { may_cut = true }

abbrev pub row_upto : ℕ → Act → Row
row_upto n act = record { upto = n; act = act }

abbrev pub halves : Act
halves = Split (1 ∷ 1 ∷ [])

-- a table that cuts at items
abbrev pub table_of : ℕ → ℕ → ℕ → List Row → Table
table_of cap limit rounds rows =
    record { cap = cap; limit = limit; rounds = rounds; rows = rows; bounds = At_items; opening = Open_sum }

abbrev pub binary : ℕ → ℕ → Table
binary cap rounds = table_of cap 1 rounds (row_upto 1 List_items ∷ row_upto cap halves ∷ [])

abbrev pub binary8 : Table
binary8 = binary 8 3

abbrev pub binary16 : Table
binary16 = binary 16 4

abbrev pub peeling : ℕ → ℕ → Table
peeling rounds front = table_of 10 3 rounds (row_upto 3 List_items ∷ row_upto 10 (Peel front) ∷ [])

-- the one-byte items of a text
abbrev pub letters : List ℕ → List Item
letters bytes = map (λ b. b ∷ []) bytes

abbrev pub knows_letters : List ℕ → List ℕ → Knowledge
knows_letters ours theirs = record { ours = letters ours; theirs = letters theirs }

abbrev pub peer : Table → List ℕ → Peer
peer T bytes = record { table = T; items = letters bytes }

-- the peer begins its sessions with a cut
abbrev pub cutting : Peer → Peer
cutting P = record P { table = record P.table { opening = Open_split } }

-- one item of three bytes
abbrev pub abc : List Item
abc = codes "abc" ∷ []

abbrev pub no_items : Peer
no_items = record { table = binary8; items = [] }

abbrev pub has_abc : Peer
has_abc = record { table = binary8; items = abc }

abbrev pub from_to : List ℕ → List ℕ → Range
from_to x y = record { lower = x; upper = Some y }

abbrev pub below : List ℕ → Range
below y = from_to [] y

abbrev pub from : List ℕ → Range
from x = record { lower = x; upper = None }
