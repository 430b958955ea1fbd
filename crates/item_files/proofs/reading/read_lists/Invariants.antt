use Rattle.std.proofs.Common.{◌≡◌, ◌+◌, ◌-◌, ◌<◌, ◌≤◌, ◌^◌, false, length, vec_len}
use Rattle.shard_core.specs.Shards.{max_bits}
use Rattle.item_files.specs.PieceTexts.{most_bytes}
use Rattle.item_files.specs.Loads.{IsReading}
use Rattle.item_files.proofs.reading.read_lists.Given as goal

abbrev pub invariant-pieces : goal.invariant-pieces
invariant-pieces g l = record {
  reading : IsReading l.dealing.options (g.R.Read.remaining l.fn.reader.inner) (g.R.Read.remaining l.reader.inner)
      l.dealing;
  same : l.dealing.options ≡ l.fn.options;
  fine : l.reader.failed ≡ false;
  room : 0 < vec_len l.room;
  low : l.dealing.options.bits ≤ max_bits;
  all : length l.dealing.lists.items ≡ 2 ^ l.dealing.options.bits;
  few : l.dealing.feeds + length l.dealing.waiting.items ≤ l.dealing.taken;
  short : l.dealing.taken ≤ most_bytes l.dealing.options.bits;
}

abbrev pub decreases-pieces : goal.decreases-pieces
decreases-pieces g l = most_bytes l.fn.options.bits + 1 - l.dealing.taken
