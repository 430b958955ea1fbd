-- What those who watch are told of a peer that is gone.
--     profile_in phase       the wire profile of its session, if that was opened
--     ours_in o, theirs_in o how many own items its peer lacked, and of the peer's were lacked here, if it came to its
--                            end
--     IsTold l o v           what is told of a peer of which this is known, and whose session ended so
use Rattle.std.specs.Prelude.{◌≡◌, ℕ, ◌-◌, false, length, Option, Some, None}
use Rattle.session_table.specs.Sent.{sent_in}
use Rattle.session_table.specs.declared.outcome.Outcome.{Outcome}
use Rattle.session_table.specs.declared.outcome.Outcome.TheVariants as outcomes
use Rattle.hub_core.specs.declared.phase.Phase.{Phase}
use Rattle.hub_core.specs.declared.phase.Phase.TheVariants as phases
use Rattle.watch_core.specs.Counting.{ending_of}
use Rattle.watch_core.specs.declared.profile.SpokenProfile.{SpokenProfile}
use Rattle.watch_core.specs.declared.profile.SpokenProfile.TheVariants as profiles
use Rattle.watch_core.specs.declared.visit.Visit.{Visit}
use Rattle.peer_loops.specs.declared.visiting.Leaver.{Leaver}

abbrev pub profile_in : Phase → Option SpokenProfile
profile_in (phases.Greeting g) = None
profile_in (phases.Plain c) = Some profiles.One
profile_in (phases.Counted c) = Some profiles.Two
profile_in (phases.Compact c) = Some profiles.Compact

abbrev pub ours_in : Outcome → ℕ
ours_in (outcomes.Ended learned sent version) = length learned.ours
ours_in o = 0

abbrev pub theirs_in : Outcome → ℕ
theirs_in (outcomes.Ended learned sent version) = length learned.theirs
theirs_in o = 0

pub record IsTold (l : Leaver) (o : Outcome) (v : Visit) : Type 0 where
  pub address : v.address ≡ l.address
  pub called : v.is_called ≡ false
  pub profile : v.profile ≡ l.profile
  pub serial : v.serial ≡ l.serial
  pub which : v.which ≡ l.which
  pub range : v.range ≡ l.range
  pub ending : v.ending ≡ ending_of o
  pub messages : v.traffic.messages ≡ sent_in o
  pub ours : v.traffic.ours ≡ ours_in o
  pub theirs : v.traffic.theirs ≡ theirs_in o
  pub millis : v.millis ≡ l.now - l.arrived
  pub ended : v.ended ≡ l.now
