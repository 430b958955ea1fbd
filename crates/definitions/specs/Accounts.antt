-- What each outcome of a session tells, by what is seen from outside: who spoke, what was read and written, and how
-- many messages were written whole.
--     Role, speaker_of S role P              which side speaks first
--     Call F                                 what is seen of one session
--     called_for S P c, said S P c k         what the bytes read call for, and the text of the first k messages of it
--     IsEnded, IsRefused, IsMemory, IsPeerRefused, IsIo      what the outcome tells, each with k messages written
--     IsFew S P c bound limit                whatever was read, few messages are called for, and their lists are short
use Rattle.std.specs.Prelude.{◌≡◌, ℕ, ◌+◌, ◌≤◌, ◌<◌, ◌^◌, ◌⊎◌, Bool, List, ◌++◌, length, Some, slice_get}
use Rattle.std.specs.Prelude.{IsTrue, IsFalse}
use Rattle.std.specs.List.{AllByRecursion}
use Rattle.definitions.specs.Fingerprints.{Summary}
use Rattle.definitions.specs.Messages.{Message}
use Rattle.definitions.specs.Replies.{Peer}
use Rattle.definitions.specs.Talks.{Knowledge}
use Rattle.definitions.specs.Wire.{Profile, fault_text}
use Rattle.definitions.specs.Refusals.{too_many_parts, no_memory, table_full, gate_closed}
use Rattle.definitions.specs.Ends.{End, is_sendable, is_over}
use Rattle.definitions.specs.Engines.{Speaker, initiating, responding, own, session, messages_in, text}
use Rattle.definitions.specs.Hearing.{Hearing, Peer_refused, Refused_for, hearing_to}
use Rattle.definitions.specs.Theorems.{IsShort}

-- ---- what is seen

pub data Role : Type 0 where
  Initiates : Role
  Responds : Role

abbrev pub speaker_of : {F : Type 0} → Summary F → Role → Peer → Speaker F
speaker_of S Initiates P = initiating S P
speaker_of S Responds P = responding S P

-- a watched reader or writer, over one call: whether it failed, and whether it came to its end
pub record Seen : Type 0 where
  pub failed : Bool
  pub ended : Bool

pub record Call (F : Type 0) : Type 0 where
  -- by its role, its table and its set
  pub speaker : Speaker F
  -- the number of entries of the history that the set was taken from
  pub version : ℕ
  pub read : List ℕ
  pub written : List ℕ
  pub reader : Seen
  pub writer : Seen

-- all that the bytes read call for
abbrev pub called_for : {F : Type 0} → Summary F → Profile F → Call F → List (Message F)
called_for S P c = own S c.speaker (messages_in P c.read)

-- a hello, and the first k messages of it
abbrev pub said : {F : Type 0} → Summary F → Profile F → Call F → ℕ → List ℕ
said S P c k = text P k (called_for S P c)

-- the end after all that was read
abbrev pub session_of : {F : Type 0} → Summary F → Profile F → Call F → End F
session_of S P c = session S c.speaker (messages_in P c.read)

-- what was heard, frame by frame
abbrev pub heard_in : {F : Type 0} → Summary F → Profile F → Call F → Hearing F
heard_in S P c = hearing_to S P c.speaker c.reader.ended c.read

-- ---- what was written

abbrev pub IsBeginningOf : List ℕ → List ℕ → Type 0
IsBeginningOf front all = (rest : List ℕ) × (all ≡ front ++ rest)

-- all of these bytes; or a beginning of them, and then the writer failed
abbrev pub Wrote : {F : Type 0} → Call F → List ℕ → Type 0
Wrote c bytes = (c.written ≡ bytes) ⊎ (IsTrue c.writer.failed × IsBeginningOf c.written bytes)

-- the first k messages, and one fault frame
pub record WroteFault {F : Type 0} (S : Summary F) (P : Profile F) (c : Call F) (k code : ℕ) : Type 0 where
  pub count : k ≤ length (called_for S P c)
  pub written : Wrote c (said S P c k ++ fault_text code)

-- all that was called for was written: so many messages
pub record WroteAll {F : Type 0} (S : Summary F) (P : Profile F) (c : Call F) (k : ℕ) : Type 0 where
  pub count : length (called_for S P c) ≡ k
  pub written : c.written ≡ said S P c k

-- exactly k messages are whole, and nothing is after the beginning of one more
pub record BrokeOff {F : Type 0} (S : Summary F) (P : Profile F) (c : Call F) (k : ℕ) : Type 0 where
  pub count : k ≤ length (called_for S P c)
  pub front : IsBeginningOf c.written (said S P c (k + 1))
  pub no_less : 0 < k → IsBeginningOf (said S P c k) c.written
  pub no_more : k < length (called_for S P c) → length c.written < length (said S P c (k + 1))

-- ---- the outcomes

-- the session is over, and what it taught is told
pub record IsEnded {F : Type 0} (S : Summary F) (P : Profile F) (c : Call F) (k : ℕ) (learned : Knowledge)
    (version : ℕ) : Type 0 where
  pub wrote : WroteAll S P c k
  pub over : IsTrue (is_over (session_of S P c).stage)
  pub learned_is : learned ≡ (session_of S P c).learned
  pub version_is : version ≡ c.version

-- the one reply that is called for and not written has too many parts
pub record IsTooLong {F : Type 0} (S : Summary F) (P : Profile F) (c : Call F) (k code : ℕ) : Type 0 where
  pub twelve : code ≡ too_many_parts
  pub count : length (called_for S P c) ≡ k + 1
  pub reply : Message F
  pub last : slice_get (called_for S P c) k ≡ Some reply
  pub long : IsFalse (is_sendable reply)

-- the first fault in what was read, after all that was called for and may be written
pub record IsFirstFault {F : Type 0} (S : Summary F) (P : Profile F) (c : Call F) (k code : ℕ) : Type 0 where
  pub first : heard_in S P c ≡ Refused_for code
  pub after : (length (called_for S P c) ≡ k) ⊎ IsTooLong S P c k code

-- the table of sessions or the gate refused
abbrev pub IsOfTheTable : ℕ → Type 0
IsOfTheTable code = (table_full ≤ code) × (code ≤ gate_closed)

pub record IsRefused {F : Type 0} (S : Summary F) (P : Profile F) (c : Call F) (k code : ℕ) : Type 0 where
  pub wrote : WroteFault S P c k code
  pub why : IsFirstFault S P c k code ⊎ IsOfTheTable code

pub record IsMemory {F : Type 0} (S : Summary F) (P : Profile F) (c : Call F) (k : ℕ) : Type 0 where
  pub wrote : WroteFault S P c k no_memory

-- a fault frame stands after all that was answered
pub record IsPeerRefused {F : Type 0} (S : Summary F) (P : Profile F) (c : Call F) (k code : ℕ) : Type 0 where
  pub wrote : WroteAll S P c k
  pub told : heard_in S P c ≡ Peer_refused code

pub data Failing : Type 0 where
  Reading : Failing
  Writing : Failing

-- each read that a session goes on after gives a byte: after 2 ^ 32 reads there are so many
abbrev pub HasFailed : {F : Type 0} → Call F → Failing → Type 0
HasFailed c Reading = IsTrue c.reader.failed ⊎ (2 ^ 32 ≤ length c.read)
HasFailed c Writing = IsTrue c.writer.failed

pub record IsIo {F : Type 0} (S : Summary F) (P : Profile F) (c : Call F) (k : ℕ) (side : Failing) : Type 0 where
  pub wrote : BrokeOff S P c k
  pub failed : HasFailed c side

-- ---- whatever was read

pub record IsFew {F : Type 0} (S : Summary F) (P : Profile F) (c : Call F) (bound limit : ℕ) : Type 0 where
  pub few : length (called_for S P c) ≤ bound
  pub short : AllByRecursion (AllByRecursion (IsShort limit)) (called_for S P c)
