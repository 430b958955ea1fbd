-- Few messages, short lists, and knowledge as told, whatever the bytes are: the laws of the ends, of an accepted table
-- and of the messages in the bytes, whose ranges rise.
use Rattle.std.proofs.Common.{◌≡◌, ◌≢◌, IsTrue, ℕ, ◌≤◌, ◌+◌, List, [], ◌∷◌, length, slice_index, arith, ap}
use Rattle.std.specs.List.{AllByRecursion}
use Rattle.definitions.specs.Fingerprints.{Summary}
use Rattle.definitions.specs.Items.{IsBytes, Item}
use Rattle.definitions.specs.Sets.{IsSet}
use Rattle.definitions.specs.Messages.{Message, RangesRise}
use Rattle.definitions.specs.Ranks.{greatest, ranks_by, rank_by}
use Rattle.definitions.specs.Strategies.{opening_counts}
use Rattle.definitions.specs.Replies.{Peer}
use Rattle.definitions.specs.Wire.{Profile, IsMessage}
use Rattle.definitions.specs.Ends.{Stage, Fresh, Waits, Over, Spent, is_over}
use Rattle.definitions.specs.Engines.{Speaker, initiating, responding, messages_in}
use Rattle.definitions.specs.Theorems.{Ready, IsShort, opened}
use Rattle.laws.proofs.Openings.{opened_is}
use Rattle.strategy_check.specs.Checked.{Checked, IsChecked}
use Rattle.ends_core.specs.Sides.{KeepsBounds, BoundLaws, peer_of, said_to, called_by, session_at, known_at}

each-rises : {F : Type 0} (W : Profile F) (Ms : List (Message F)) →
    ((M : Message F) → IsMessage W M → RangesRise M) → AllByRecursion (IsMessage W) Ms → AllByRecursion RangesRise Ms
each-rises W [] law all = tt
each-rises W (M ∷ Ms) law all = (law M all.0, each-rises W Ms law all.1)

-- a session that is over was not refused
not_spent : {F : Type 0} (s : Stage F) → IsTrue (is_over s) → s ≢ Spent
not_spent (Fresh cut) over is = cc
not_spent (Waits own) over is = cc
not_spent Over over is = cc
not_spent Spent over is = cc

module _ {F : Type 0} (S : Summary F) (W : Profile F) (laws : BoundLaws S W) (a : Checked) (A : List Item)
    (bytes : List ℕ) (checked : IsChecked a) (set : IsSet A) (are : IsBytes bytes) (room : length A ≤ a.table.cap) where
  abbrev P : Peer
  P = peer_of a A

  abbrev f : List ℕ
  f = ranks_by a.steps a.table.cap

  abbrev Ms : List (Message F)
  Ms = messages_in W bytes

  ready : Ready P f
  ready = record { ranks = checked.serving.ranks; set = set; room = room }

  -- the messages in bytes have ranges that rise
  rise : AllByRecursion RangesRise Ms
  rise = each-rises W Ms laws.rise (laws.heard bytes are)

  abbrev AreShort : List (Message F) → Type 0
  AreShort Ns = AllByRecursion (AllByRecursion (IsShort a.table.limit)) Ns

  -- what the laws say of a side, read from the staircase
  keeps : (s : Speaker F) (most bound : ℕ) → most ≡ bound → length (said_to S W s bytes) ≤ most →
      length (called_by S W s bytes) ≤ most → AreShort (said_to S W s bytes) →
      AreShort (called_by S W s bytes) →
      ((session_at S W s bytes).stage ≢ Spent → (session_at S W s bytes).learned ≡ known_at S W s bytes) →
      KeepsBounds S W s bytes bound a.table.limit
  keeps s most bound is few few_called short short_called learned = record {
    few = omega (arith, few, is);
    few_called = omega (arith, few_called, is);
    short = short;
    short_called = short_called;
    learned = λ over. learned (not_spent _ over);
  }

  pub first_keeps : KeepsBounds S W (initiating S P) bytes
      (greatest (rank_by a.steps) (opening_counts S.may_cut a.table (length A)) + 2) a.table.limit
  first_keeps =
      keeps (initiating S P) (opened S f P + 2) _ (ap (λ n. n + 2) (opened_is S a.steps P ready))
      (laws.first_stops P f Ms ready rise) (laws.few P f Ms ready rise).0
      (laws.limits P Ms checked.is_table checked.accepted room).0
      (laws.short P Ms checked.is_table checked.accepted room).0 (laws.first_learns P Ms)

  pub second_keeps : KeepsBounds S W (responding S P) bytes (rank_by a.steps (length A) + 1) a.table.limit
  second_keeps =
      keeps (responding S P) (slice_index f (length A) + 1) _
      (ap (λ n. n + 1) (laws.read a.steps a.table.cap (length A) room)) (laws.second_stops P f Ms ready rise)
      (laws.few P f Ms ready rise).1
      (laws.limits P Ms checked.is_table checked.accepted room).1
      (laws.short P Ms checked.is_table checked.accepted room).1 (laws.second_learns P Ms)
