-- What an end keeps of a message that has not ended, beside its place.
--     Drafted, nothing_drafted
--     drafted S P d listed p      after one part more, which answers this list if it is an Answer
--     taken_at x d                the same with its place, as the definitions have it
--     reply_kept overlong M       the reply so far, if it is kept
use Rattle.std.specs.Prelude.{Bool, false, ◌||◌, List, [], Option, Some, None, if◌then◌else◌}
use Rattle.definitions.specs.Fingerprints.{Summary}
use Rattle.definitions.specs.Items.{Item}
use Rattle.definitions.specs.Messages.{Part, Message, is_open}
use Rattle.definitions.specs.Replies.{Peer, reply_to}
use Rattle.definitions.specs.Talks.{Knowledge, nothing, and_then}
use Rattle.definitions.specs.Taking.{Taken, grown}
use Rattle.place_core.specs.Placements.{Placement}
use Rattle.ends_core.specs.Learning.{told}

pub record Drafted (F : Type 0) : Type 0 where
  pub opens : Bool
  pub reply : Option (Message F)
  pub learned : Knowledge

abbrev pub nothing_drafted : {F : Type 0} → Drafted F
nothing_drafted = record { opens = false; reply = Some []; learned = nothing }

abbrev pub drafted : {F : Type 0} → Summary F → Peer → Drafted F → List Item → Part F → Drafted F
drafted S P d listed p = record {
  opens = d.opens || is_open p;
  reply = grown d.reply (reply_to S P p);
  learned = and_then d.learned (told P.items listed p);
}

abbrev pub taken_at : {F : Type 0} → Placement F → Drafted F → Taken F
taken_at x d = record { place = x.now; opens = d.opens; reply = d.reply; learned = d.learned }

abbrev pub reply_kept : {F : Type 0} → Bool → Message F → Option (Message F)
reply_kept overlong M = if overlong then None else Some M
