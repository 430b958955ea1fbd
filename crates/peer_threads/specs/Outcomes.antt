-- What an outcome says of the bytes that a session read and wrote.
--     Origin                   where the bytes that were read come from
--     Takes o left bytes       these bytes were read of it, so that this is left
--     Traffic                  what was to be read and is left, and what a writer held and holds
--     traffic, traffic_after  the same of a reader, and after bytes that were read before
--     seen failed ended        what is seen of a watched reader or writer
--     peer_at a w              who speaks: the accepted table, and the set of the history that the view w found
--     kind_of o                how the table of sessions counts the outcome o
--     call_of s version bytes written r w      a session as it is seen from outside
--     failing side                             what failed, as the accounts have it
--     IsTimely k called code             the table or the gate refused, at a time when it may
--     IsCut k all side                   where the writer failed, something that was called for is unsaid
--     Tells c o                          what the outcome o tells of a session, as the accounts have it
--     Bears s version t r w bytes o      the same of what was written
--     Speaks fits s version bound limit t r w o  all of it, of the bytes that were read, bounded where it fits
--     Unopened t r w o         what an outcome says where no history was looked at
--     CameFirst unread left    what was read begins with a message that may stand first
use Rattle.std.specs.Prelude.{◌≡◌, ℕ, ◌≤◌, ◌<◌, ◌⊎◌, Bool, List, ◌∷◌, ◌++◌, Option, Some, length, ⊤}
use Rattle.std.specs.Io.KnownBytes.{Appends, Consumes}
use Rattle.definitions.specs.Fingerprints.{Summary}
use Rattle.definitions.specs.Messages.{Message}
use Rattle.definitions.specs.Placing.{IsOpening}
use Rattle.definitions.specs.Replies.{Peer}
use Rattle.definitions.specs.Histories.{content}
use Rattle.definitions.specs.Refusals.{table_full, unknown, over_bound, serials_spent, gate_closed}
use Rattle.definitions.specs.Wire.{Profile, session_text}
use Rattle.definitions.specs.Engines.{Speaker, messages_in, fault_frame, text, responding}
use Rattle.definitions.specs.Accounts.{Call, Seen, called_for, IsEnded, IsRefused, IsFirstFault, IsMemory}
use Rattle.definitions.specs.Accounts.{IsPeerRefused, IsIo, Failing, Reading, Writing, IsFew}
use Rattle.strategy_check.specs.Checked.{Checked}
use Rattle.ends_core.specs.Sides.{KeepsBounds, peer_of, said_to}
use Rattle.session_table.specs.declared.totals.CloseKind.{CloseKind}
use Rattle.session_table.specs.declared.totals.CloseKind.TheVariants as kinds
use Rattle.version_lock.specs.declared.view.View.{View}
use Rattle.session_table.specs.Sent.{sent_in}
use Rattle.session_table.specs.declared.outcome.Outcome.{Outcome}
use Rattle.session_table.specs.declared.outcome.Outcome.TheVariants.{Ended, Refused, PeerRefused, Io, Memory}
use Rattle.session_table.specs.declared.outcome.Direction.{Direction}
use Rattle.session_table.specs.declared.outcome.Direction.TheVariants as directions

-- a reader that has these bytes left; or bytes that were read before, and then such a reader
pub data Origin : Type 0 where
  Reader : (unread : Option (List ℕ)) → Origin
  After : (front : List ℕ) → (unread : Option (List ℕ)) → Origin

abbrev pub Takes : Origin → Option (List ℕ) → List ℕ → Type 0
Takes (Reader unread) left bytes = Consumes unread left bytes
Takes (After front unread) left bytes = (rest : List ℕ) × (bytes ≡ front ++ rest) × Consumes unread left rest

pub record Traffic : Type 0 where
  pub unread : Origin
  pub left : Option (List ℕ)
  pub held : Option (List ℕ)
  pub holds : Option (List ℕ)

abbrev pub traffic_of : Origin → Option (List ℕ) → Option (List ℕ) → Option (List ℕ) → Traffic
traffic_of unread left held holds = record { unread = unread; left = left; held = held; holds = holds }

abbrev pub traffic : Option (List ℕ) → Option (List ℕ) → Option (List ℕ) → Option (List ℕ) → Traffic
traffic unread left held holds = traffic_of (Reader unread) left held holds

abbrev pub traffic_after : List ℕ → Option (List ℕ) → Option (List ℕ) → Option (List ℕ) → Option (List ℕ) → Traffic
traffic_after front unread left held holds = traffic_of (After front unread) left held holds

abbrev pub seen : Bool → Bool → Seen
seen failed ended = record { failed = failed; ended = ended }

abbrev pub peer_at : Checked → View → Peer
peer_at a w = peer_of a (content w.base)

-- a session that either side refused is refused
abbrev pub kind_of : Outcome → CloseKind
kind_of (Ended learned sent version) = kinds.Ended
kind_of (Refused code sent) = kinds.Refused
kind_of (PeerRefused code sent) = kinds.Refused
kind_of (Io side sent) = kinds.Io
kind_of (Memory sent) = kinds.Memory

abbrev pub call_of : {F : Type 0} → Speaker F → ℕ → List ℕ → List ℕ → Seen → Seen → Call F
call_of s version bytes written r w =
    record { speaker = s; version = version; read = bytes; written = written; reader = r; writer = w }

-- what failed, as the accounts name it
abbrev pub failing : Direction → Failing
failing directions.Read = Reading
failing directions.Write = Writing

-- the table was full, or had no serial left, before a message; the session's place was lost, or its bound was reached,
-- in place of a message that was called for; the gate closed after a message
abbrev pub IsTimely : ℕ → ℕ → ℕ → Type 0
IsTimely k called code =
    (((code ≡ table_full) ⊎ (code ≡ serials_spent)) × (k ≡ 0))
    ⊎ ((((code ≡ unknown) ⊎ (code ≡ over_bound)) × (k < called)) ⊎ ((code ≡ gate_closed) × (0 < k)))

-- of so many bytes that are called for fewer were written, where the writer failed
abbrev pub IsCut : ℕ → ℕ → Direction → Type 0
IsCut written called directions.Read = ⊤
IsCut written called directions.Write = written < called

-- the version of a session that ended
abbrev pub HasVersion : Outcome → ℕ → Type 0
HasVersion (Ended learned sent version) v = version ≡ v
HasVersion (Refused code sent) v = ⊤
HasVersion (PeerRefused code sent) v = ⊤
HasVersion (Io side sent) v = ⊤
HasVersion (Memory sent) v = ⊤

module _ {F : Type 0} (S : Summary F) (W : Profile F) where
  -- the side has written all that it says to these bytes: so many messages, after its hello
  pub record SaidAll (s : Speaker F) (t : Traffic) (bytes : List ℕ) (sent : ℕ) : Type 0 where
    pub written : Appends t.held t.holds (text W sent (said_to S W s bytes))
    pub count : length (said_to S W s bytes) ≡ sent

  -- a session that came to its end, or to a fault frame, has said all that was called for
  abbrev pub SaysAll : Call F → Type 0
  SaysAll c = called_for S W c ≡ said_to S W c.speaker c.read

  abbrev pub Tells : Call F → Outcome → Type 0
  Tells c (Ended learned sent n) = IsEnded S W c sent learned n × SaysAll c
  Tells c (PeerRefused code sent) = IsPeerRefused S W c sent code × SaysAll c × (fault_frame W c.read ≡ Some code)
  Tells c (Refused code sent) =
      IsRefused S W c sent code × (IsFirstFault S W c sent code ⊎ IsTimely sent (length (called_for S W c)) code)
  Tells c (Io side sent) = IsIo S W c sent (failing side)
      × IsCut (length c.written) (length (session_text W (called_for S W c))) side
  Tells c (Memory sent) = IsMemory S W c sent

  abbrev pub Bears : Speaker F → ℕ → Traffic → Seen → Seen → List ℕ → Outcome → Type 0
  Bears s version t r w bytes o =
      (written : List ℕ) × Appends t.held t.holds written × Tells (call_of s version bytes written r w) o

  -- the bytes that were read, and what the outcome says of them; the side is bounded where its set is known to fit
  pub record Speaks (fits : Type 0) (s : Speaker F) (version bound limit : ℕ) (t : Traffic) (r w : Seen)
      (o : Outcome) : Type 0 where
    pub bytes : List ℕ
    pub read : Takes t.unread t.left bytes
    pub bears : Bears s version t r w bytes o
    pub sent : sent_in o ≤ bound
    pub bounded : fits → KeepsBounds S W s bytes bound limit
    pub is_few : fits → (written : List ℕ) → IsFew S W (call_of s version bytes written r w) bound limit

  -- ---- before a history is looked at

  -- it did not end, and where this side refused, that is for the first fault in the bytes: no table of sessions was
  -- asked
  abbrev pub TellsUnopened : Call F → Outcome → Type 0
  TellsUnopened c (Ended learned sent n) = ⊥
  TellsUnopened c (PeerRefused code sent) = Tells c (PeerRefused code sent)
  TellsUnopened c (Refused code sent) = IsRefused S W c sent code × IsFirstFault S W c sent code
  TellsUnopened c (Io side sent) = Tells c (Io side sent)
  TellsUnopened c (Memory sent) = Tells c (Memory sent)

  abbrev pub BearsUnopened : Speaker F → ℕ → Traffic → Seen → Seen → List ℕ → Outcome → Type 0
  BearsUnopened s version t r w bytes o =
      (written : List ℕ) × Appends t.held t.holds written × TellsUnopened (call_of s version bytes written r w) o

  pub record SpeaksUnopened (s : Speaker F) (version : ℕ) (t : Traffic) (r w : Seen) (o : Outcome) : Type 0 where
    pub bytes : List ℕ
    pub read : Takes t.unread t.left bytes
    pub bears : BearsUnopened s version t r w bytes o

  -- no message was said, and what the outcome says holds of whoever would have answered
  pub record Unopened (t : Traffic) (r w : Seen) (o : Outcome) : Type 0 where
    pub none : sent_in o ≡ 0
    pub anyone : (p : Peer) (version : ℕ) → SpeaksUnopened (responding S p) version t r w o

  -- what was read begins with a message that may stand first
  pub record CameFirst (unread : Origin) (left : Option (List ℕ)) : Type 0 where
    pub bytes : List ℕ
    pub read : Takes unread left bytes
    pub message : Message F
    pub first : IsOpening S.may_cut message
    pub later : List (Message F)
    pub messages : messages_in W bytes ≡ message ∷ later
