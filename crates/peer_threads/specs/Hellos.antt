-- The four bytes with which a stream begins.
--     IsHello h                        four bytes, and at most a read for each
--     NoHello s bytes stop             fewer have come, and why no more come
--     NoMore s stop                    the reader gave an error, or ended
--     HelloRead unread left s result   what reading them leaves
use Rattle.std.specs.Prelude.{◌≡◌, ℕ, ◌<◌, ◌≤◌, List, length, Option, Result, Ok, Err, IsTrue}
use Rattle.std.specs.Io.KnownBytes.{Consumes}
use Rattle.definitions.specs.Accounts.{Seen}
use Rattle.definitions.specs.Items.{IsBytes}
use Rattle.definitions.specs.Refusals.{truncated}
use Rattle.peer_threads.specs.declared.hello.Hello.{Hello}
use Rattle.session_table.specs.declared.outcome.Direction.TheVariants as directions
use Rattle.peer_threads.specs.declared.stop.Stop.{Stop}
use Rattle.peer_threads.specs.declared.stop.Stop.TheVariants as stops

pub record IsHello (h : Hello) : Type 0 where
  pub fits : IsBytes h.bytes
  pub four : length h.bytes ≡ 4
  pub few : h.reads ≤ 4

-- the reader gave an error, or ended
abbrev pub NoMore : Seen → Stop → Type 0
NoMore s (stops.Refused code) = (code ≡ truncated) × IsTrue s.ended
NoMore s (stops.PeerRefused code) = ⊥
NoMore s (stops.Io side) = (side ≡ directions.Read) × IsTrue s.failed
NoMore s stops.Memory = ⊥

pub record NoHello (s : Seen) (bytes : List ℕ) (stop : Stop) : Type 0 where
  pub fits : IsBytes bytes
  pub less : length bytes < 4
  pub why : NoMore s stop

abbrev pub HelloRead : Option (List ℕ) → Option (List ℕ) → Seen → Result Hello Stop → Type 0
HelloRead unread left s (Ok h) = IsHello h × Consumes unread left h.bytes
HelloRead unread left s (Err stop) = (bytes : List ℕ) × NoHello s bytes stop × Consumes unread left bytes
