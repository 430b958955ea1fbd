-- What is known of a peer, from what is known of its greeting or its session.
--
-- A greeting's call keeps what it read and writes of our hello, which is what is known of a greeting; a session's call
-- says the same by `Moves`. So each is a record `Goes` of the phase.
use Rattle.std.proofs.Common.{◌≡◌, ℕ, ◌+◌, false, List, [], ◌++◌, length, Option, None, Result, Ok, Err, Box, Global}
use Rattle.std.proofs.Common.{refl, sym, ap, ◌∙◌, subst}
use Rattle.std.specs.Box.{with_value}
use Rattle.std.specs.declared.io.traits.Take.{Take}
use Rattle.definitions.specs.Fingerprints.{Lanes, Summary, two_lanes, counted_lanes, compact_prints}
use Rattle.definitions.specs.Fingerprints as prints
use Rattle.definitions.specs.Ranks.{rank_by}
use Rattle.definitions.specs.Replies.{Peer}
use Rattle.definitions.specs.Wire.{Profile, two_lane_profile, counted_profile, compact_profile}
use Rattle.definitions.specs.Engines.{responding}
use Rattle.session_core.specs.Sessions.{SessionState, Knows}
use Rattle.session_core.specs.Links.{Moves, MovesSo}
use Rattle.session_core.specs.Polls.{Poll}
use Rattle.session_core.specs.declared.polled.Last.TheVariants as lasts
use Rattle.session_core.specs.declared.fault.LinkFault.{LinkFault}
use Rattle.session_core.specs.declared.pumped.Pumped.{Pumped}
use Rattle.hub_core.specs.Greetings.{GreetingState, Greets}
use Rattle.hub_core.specs.Steps.{GreetsSo}
use Rattle.hub_core.specs.Peers.{Goes, GoesSo, Knowing, PeerState, Writes, WritesOf, bound_in, fresh}
use Rattle.hub_core.specs.declared.phase.Phase.{Phase}
use Rattle.hub_core.specs.declared.phase.Phase.TheVariants as phases

abbrev peer_of : {I O : Type 0} → Poll (Take I) → Poll O → Phase → ℕ → ℕ → ℕ → ℕ → ℕ → PeerState I O
peer_of r w phase version serial heard arrived long = record {
  origin = None;
  reader = r;
  writer = w;
  phase = phase;
  version = version;
  serial = serial;
  heard = heard;
  arrived = arrived;
  long = long;
  waits = 0;
}

goes-greeting : (g h : GreetingState) (unread left held holds : Option (List ℕ)) (read said lost : List ℕ) →
    Greets g h unread left held holds read said lost →
    Goes (phases.Greeting g) (phases.Greeting h) unread left held holds read said lost
goes-greeting g h unread left held holds read said lost m = record {
  consumed = m.consumed;
  appended = m.appended;
  knows = λ P pushed taken k. (
    ap (λ (l : List ℕ). l ++ read) k.0 ∙ sym m.came,
    ap (λ (l : List ℕ). l ++ said) k.1 ∙ sym m.writes,
  );
}

pub greeting-goes : (r : Result Pumped LinkFault) (old : Phase) (g h : GreetingState)
    (unread left held holds : Option (List ℕ)) → old ≡ phases.Greeting g → GreetsSo g h unread left held holds r →
    GoesSo old (phases.Greeting h) unread left held holds r
greeting-goes (Ok s) old g h unread left held holds is (read, said, m, reads, writes) =
    rw is (read, said, goes-greeting g h unread left held holds read said [] m, reads, writes)
greeting-goes (Err f) old g h unread left held holds is (read, said, lost, m) =
    rw is (read, said, lost, goes-greeting g h unread left held holds read said lost m)

-- a session in its box, in one of the profiles, of which a phase says what is known of a responder
module _ {F : Type 0} (S : Summary F) (W : Profile F) (at : Box (SessionState F) Global → Phase)
    (known : (c d : Box (SessionState F) Global) (read said : List ℕ) → ((P : Peer) (pushed taken : List ℕ) →
    Knows S W (responding S P) c.value pushed taken →
    Knows S W (responding S P) d.value (pushed ++ read) (taken ++ said)) → (P : Peer) (pushed taken : List ℕ) →
    Knowing P (at c) pushed taken → Knowing P (at d) (pushed ++ read) (taken ++ said)) where
  goes-session : (c d : Box (SessionState F) Global) (unread left held holds : Option (List ℕ))
      (read said lost : List ℕ) → Moves S W c.value d.value unread left held holds read said lost →
      Goes (at c) (at d) unread left held holds read said lost
  goes-session c d unread left held holds read said lost m = record {
    consumed = m.consumed;
    appended = m.appended;
    knows = known c d read said (λ P pushed taken k. m.knows (responding S P) pushed taken refl k);
  }

  session-so : (r : Result Pumped LinkFault) (c d : Box (SessionState F) Global)
      (unread left held holds : Option (List ℕ)) → MovesSo S W c.value d.value unread left held holds r →
      GoesSo (at c) (at d) unread left held holds r
  session-so (Ok p) c d unread left held holds (read, said, m, reads, writes) =
      (read, said, goes-session c d unread left held holds read said [] m, reads, writes)
  session-so (Err f) c d unread left held holds (read, said, lost, m) =
      (read, said, lost, goes-session c d unread left held holds read said lost m)

  pub session-goes : (r : Result Pumped LinkFault) (old : Phase) (b : Box (SessionState F) Global)
      (x y : SessionState F) (unread left held holds : Option (List ℕ)) →
      old ≡ at b → x ≡ b.value → MovesSo S W x y unread left held holds r →
      GoesSo old (at (with_value b y)) unread left held holds r
  session-goes r old b x y unread left held holds is same m =
      subst (λ o. GoesSo o (at (with_value b y)) unread left held holds r) (sym is)
      (session-so r b (with_value b y) unread left held holds
      (subst (λ z. MovesSo S W z y unread left held holds r) same m))

-- one that has just come
pub fresh-made : {I O : Type 0} (way : Take I) (writer : O) (serial now : ℕ) (r : Poll (Take I)) (w : Poll O)
    (g : GreetingState) → r ≡ record { way = way; last = lasts.Unknown } →
    w ≡ record { way = writer; last = lasts.Unknown } → g ≡ record { came = []; said = 0; over = false } →
    peer_of r w (phases.Greeting g) 0 serial now now 0 ≡ fresh way writer serial now
fresh-made way writer serial now r w g reads writes greets = rw (reads, writes, greets) refl

-- ---- how many messages a session says at most

pub plain-bound : (n : ℕ) (phase : Phase) (b : Box (SessionState Lanes) Global) (x : SessionState Lanes) →
    phase ≡ phases.Plain b → x ≡ b.value →
    n ≡ rank_by x.talk.held.steps (length x.talk.held.end.peer.items) + 1 → n ≡ bound_in phase
plain-bound n phase b x is same bound =
    rw is (subst (λ (y : SessionState Lanes). n ≡ rank_by y.talk.held.steps (length y.talk.held.end.peer.items)
    + 1) same bound)

pub counted-bound : (n : ℕ) (phase : Phase) (b : Box (SessionState prints.Counted) Global)
    (x : SessionState prints.Counted) → phase ≡ phases.Counted b → x ≡ b.value →
    n ≡ rank_by x.talk.held.steps (length x.talk.held.end.peer.items) + 1 → n ≡ bound_in phase
counted-bound n phase b x is same bound =
    rw is (subst (λ (y : SessionState prints.Counted). n ≡ rank_by y.talk.held.steps
    (length y.talk.held.end.peer.items) + 1) same bound)

pub compact-bound : (n : ℕ) (phase : Phase) (b : Box (SessionState prints.Print) Global)
    (x : SessionState prints.Print) → phase ≡ phases.Compact b → x ≡ b.value →
    n ≡ rank_by x.talk.held.steps (length x.talk.held.end.peer.items) + 1 → n ≡ bound_in phase
compact-bound n phase b x is same bound =
    rw is (subst (λ (y : SessionState prints.Print). n ≡ rank_by y.talk.held.steps
    (length y.talk.held.end.peer.items) + 1) same bound)

-- ---- how many messages were written whole

pub plain-writes : (n : ℕ) (phase : Phase) (b : Box (SessionState Lanes) Global) (x : SessionState Lanes) →
    phase ≡ phases.Plain b → x ≡ b.value → WritesOf two_lanes two_lane_profile x n → Writes phase n
plain-writes n phase b x is same writes =
    rw is (subst (λ (y : SessionState Lanes). WritesOf two_lanes two_lane_profile y n) same writes)

pub counted-writes : (n : ℕ) (phase : Phase) (b : Box (SessionState prints.Counted) Global)
    (x : SessionState prints.Counted) → phase ≡ phases.Counted b → x ≡ b.value →
    WritesOf counted_lanes counted_profile x n → Writes phase n
counted-writes n phase b x is same writes =
    rw is (subst (λ (y : SessionState prints.Counted). WritesOf counted_lanes counted_profile y n) same writes)

pub compact-writes : (n : ℕ) (phase : Phase) (b : Box (SessionState prints.Print) Global)
    (x : SessionState prints.Print) → phase ≡ phases.Compact b → x ≡ b.value →
    WritesOf compact_prints compact_profile x n → Writes phase n
compact-writes n phase b x is same writes =
    rw is (subst (λ (y : SessionState prints.Print). WritesOf compact_prints compact_profile y n) same writes)
