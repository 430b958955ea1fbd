-- What became of an input that was to be answered.
--     Reading, Writing              what a reader gave and a writer took
--     Asks reading M                the input spells a message
--     Answered A reading writing result      what each outcome says
use Rattle.std.specs.Prelude.{◌≡◌, ◌⊎◌, ℕ, Bool, List, take, Option, Result, Ok, Err, IsTrue, IsFalse, ⊤}
use Rattle.std.specs.Io.KnownBytes.{Appends, Keeps}
use Rattle.definitions.specs.Items.{Item}
use Rattle.definitions.specs.Fingerprints.{Lanes, two_lanes}
use Rattle.definitions.specs.Messages.{Message}
use Rattle.definitions.specs.Wire.{two_lane_profile, Spells, message_text}
use Rattle.definitions.specs.Faults.{FaultyMessage}
use Rattle.definitions.specs.Replies.{reply}
use Rattle.wire_core.specs.Refused.{fault_number}
use Rattle.io_core.specs.Inputs.{WasRead, IsTooLong}
use Rattle.ends_core.specs.ListPeer.{list_peer, are_sums}
use Rattle.ends_core.specs.declared.answering.AnswerFault.{AnswerFault}
use Rattle.ends_core.specs.declared.answering.AnswerFault.TheVariants as faults

-- the bytes that a reader has left before and after, and whether it failed
pub record Reading : Type 0 where
  pub old : Option (List ℕ)
  pub new : Option (List ℕ)
  pub failed : Bool

-- the bytes that a writer holds before and after, and whether it failed
pub record Writing : Type 0 where
  pub old : Option (List ℕ)
  pub new : Option (List ℕ)
  pub failed : Bool

-- the input spells this message
pub record Asks (r : Reading) (M : Message Lanes) : Type 0 where
  pub input : List ℕ
  pub was : WasRead r.old r.new r.failed input
  pub spells : Spells two_lane_profile M input

-- the spelling of the reply to M, by the items of A
abbrev pub reply_text : List Item → Message Lanes → List ℕ
reply_text A M = message_text two_lane_profile (reply two_lanes (list_peer A) M)

-- the reader failed, or the input is too long
abbrev pub Unread : Reading → Type 0
Unread r = IsTrue r.failed ⊎ IsTooLong r.old r.new

-- the input spells no message: its fault
pub record Faulty (r : Reading) (code : ℕ) : Type 0 where
  pub input : List ℕ
  pub was : WasRead r.old r.new r.failed input
  pub fault : FaultyMessage two_lane_profile input code

-- a part of the message is no Sum
pub record IsMisplaced (r : Reading) : Type 0 where
  pub message : Message Lanes
  pub asks : Asks r message
  pub no_sum : IsFalse (are_sums message)

-- why there is no reply; for want of memory nothing is said
abbrev pub Refused : Reading → AnswerFault → Type 0
Refused r faults.CannotRead = Unread r
Refused r (faults.Wire f) = Faulty r (fault_number f)
Refused r faults.Misplaced = IsMisplaced r
Refused r faults.Io = ⊥
Refused r faults.Memory = ⊤

-- the message that the input spells, or why there is none
abbrev pub Asked : Reading → Result (Message Lanes) AnswerFault → Type 0
Asked r (Ok M) = Asks r M
Asked r (Err e) = Refused r e

-- the reply that is due: to a message of Sums
pub record IsReply (A : List Item) (r : Reading) (text : List ℕ) : Type 0 where
  pub message : Message Lanes
  pub asks : Asks r message
  pub sums : IsTrue (are_sums message)
  pub text_is : text ≡ reply_text A message

abbrev pub Prepared : {V : Type 0} → (V → List ℕ) → List Item → Reading → Result V AnswerFault → Type 0
Prepared bytes A r (Ok v) = IsReply A r (bytes v)
Prepared bytes A r (Err e) = Refused r e

-- the reply was written
pub record Replied (A : List Item) (r : Reading) (w : Writing) : Type 0 where
  pub text : List ℕ
  pub reply : IsReply A r text
  pub written : Appends w.old w.new text

-- a beginning of the reply was written, and then the writer failed
pub record BrokeOff (A : List Item) (r : Reading) (w : Writing) : Type 0 where
  pub text : List ℕ
  pub reply : IsReply A r text
  pub count : ℕ
  pub written : Appends w.old w.new (take count text)
  pub failed : IsTrue w.failed

-- after any other refusal nothing was written
abbrev pub AnsweredFault : List Item → Reading → Writing → AnswerFault → Type 0
AnsweredFault A r w faults.Io = BrokeOff A r w
AnsweredFault A r w e = Refused r e × Keeps w.old w.new

abbrev pub Answered : List Item → Reading → Writing → Result (Unit {0}) AnswerFault → Type 0
Answered A r w (Ok x) = Replied A r w
Answered A r w (Err e) = AnsweredFault A r w e
