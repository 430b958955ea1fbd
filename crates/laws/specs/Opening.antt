-- What an initiator opens with.
--     OpeningsAreExact S       it is a first message, honest, and its parts make up everything
--     OpeningsHaveCounts S     how many own items are in its ranges, by the table and the number of all
--     OpeningsAreLower S       their greatest rank: that of the set where it is one Sum, and a lower one where it cuts
use Rattle.std.specs.Prelude.{◌≡◌, ℕ, ◌<◌, ◌≤◌, Bool, true, false, ◌&&◌, List, length, map, max, flat_map}
use Rattle.std.specs.List.{AllByRecursion}
use Rattle.definitions.specs.Items.{Item}
use Rattle.definitions.specs.Sets.{IsSet, items_in}
use Rattle.definitions.specs.Fingerprints.{Summary}
use Rattle.definitions.specs.Strategies.{act, is_cut, is_split, opening_counts}
use Rattle.definitions.specs.Messages.{RangesRise, open_parts}
use Rattle.definitions.specs.Replies.{Peer, opening, opening_ranges}
use Rattle.definitions.specs.Placing.{IsOpening}
use Rattle.definitions.specs.Theorems.{Ready, IsHonest, opened, rank}

pub record IsExactOpening {F : Type 0} (S : Summary F) (P : Peer) : Type 0 where
  -- what a peer of the same profile takes first
  pub first : IsOpening S.may_cut (opening S P)
  pub honest : AllByRecursion (IsHonest S P.items) (opening S P)
  pub rise : RangesRise (opening S P)
  -- each part wants a reply
  pub all_open : open_parts (opening S P) ≡ opening S P
  -- a set is what it has in the ranges, in order
  pub whole : (D : List Item) → IsSet D → flat_map (items_in D) (opening_ranges S P) ≡ D
  -- no more parts than items, or one
  pub few : length (opening S P) ≤ max 1 (length P.items)

abbrev pub OpeningsAreExact : {F : Type 0} → Summary F → Type 0
OpeningsAreExact S = (P : Peer) → IsSet P.items → IsExactOpening S P

abbrev pub OpeningsHaveCounts : {F : Type 0} → Summary F → Type 0
OpeningsHaveCounts S = (P : Peer) (f : List ℕ) → Ready P f →
    map (λ X. length (items_in P.items X)) (opening_ranges S P) ≡ opening_counts S.may_cut P.table (length P.items)

-- the first message of P has more than one part
abbrev pub opens_cut : {F : Type 0} → Summary F → Peer → Bool
opens_cut S P = S.may_cut && is_cut P.table.opening && is_split (act P.table (length P.items))

pub record IsLower {F : Type 0} (S : Summary F) (P : Peer) (f : List ℕ) : Type 0 where
  pub at_most : opened S f P ≤ rank f P
  pub one : opens_cut S P ≡ false → opened S f P ≡ rank f P
  pub lower : opens_cut S P ≡ true → opened S f P < rank f P

abbrev pub OpeningsAreLower : {F : Type 0} → Summary F → Type 0
OpeningsAreLower S = (P : Peer) (f : List ℕ) → Ready P f → IsLower S P f
