-- What is counted of what goes over a connection.
--     MeteredState T            a reader or a writer, and what went through it
--     metered inner             the same, if nothing did
--     bytes_after tally n       how many bytes went, if n more do: the number stops at the greatest one
--     unread reader             the frames of a reader, of which nothing was read
--     unwritten writer          a writer of frames, to which nothing was written
--     tally_as tally bytes      messages and parts as they are, and other bytes
use Rattle.std.specs.Prelude.{ℕ, ◌+◌, ◌-◌, ◌^◌, min, [], Some, None}
use Rattle.printing_core.specs.declared.sync_stats.Tally.{Tally}
use Rattle.compact_core.specs.Unpackings.{UnpackingState}
use Rattle.compact_core.specs.Sendings.{PackingState}

pub record MeteredState (T : Type 0) : Type 0 where
  pub inner : T
  pub tally : Tally

abbrev pub metered : {T : Type 0} → T → MeteredState T
metered inner = record { inner = inner; tally = record { messages = 0; parts = 0; bytes = 0 } }

abbrev pub bytes_after : Tally → ℕ → ℕ
bytes_after tally n = min (tally.bytes + n) (2 ^ 64 - 1)

abbrev pub unread : {R : Type 0} → R → MeteredState (UnpackingState (MeteredState R))
unread reader = metered (record {
  reader = metered reader;
  opening = record { hello = []; unpacker = record { to = Some []; kept = []; fault = None } };
  piece = [];
  ready = [];
})

abbrev pub unwritten : {W : Type 0} → W → MeteredState (PackingState (MeteredState W))
unwritten writer = metered (record {
  writer = metered writer;
  sending = record { hello = []; packer = record { to = Some []; kept = [] } };
  pending = [];
  untold = 0;
})

abbrev pub tally_as : Tally → ℕ → Tally
tally_as tally bytes = record { messages = tally.messages; parts = tally.parts; bytes = bytes }
