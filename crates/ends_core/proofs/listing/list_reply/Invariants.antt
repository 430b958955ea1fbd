use Rattle.std.proofs.Common.{◌≡◌, ◌≤◌, length, take}
use Rattle.std.specs.Prelude.{IsTrue}
use Rattle.definitions.specs.Fingerprints.{two_lanes}
use Rattle.definitions.specs.Replies as replies
use Rattle.store_core.specs.Flat.{flat_items}
use Rattle.ends_core.specs.ListPeer.{list_peer, are_sums}
use Rattle.ends_core.proofs.listing.list_reply.Given as goal

abbrev pub invariant-loop-part : goal.invariant-loop-part
invariant-loop-part l = record {
  same : l.part-items ≡ l.message;
  few : length l.parts.items ≤ l.part-index;
  sums : IsTrue (are_sums (take l.part-index l.part-items));
  replied : l.parts.items ≡ replies.reply two_lanes (list_peer (flat_items l.store)) (take l.part-index l.part-items);
}
