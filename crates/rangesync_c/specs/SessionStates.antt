-- A session in either role and profile, and what calls make of it: each relation is the one of session_core, in the
-- session's own profile.
--     Opens v side profile s     a session over a version, in this role and profile, to which nothing was pushed:
--                                it is open, and it listens
--     Changes s t R              both are of one role and profile, and R holds of them
--     Listens c d                the one still hears its peer where the other did
--     PushesTo bytes, Finishes, MakesDue, TakesOff count, Pulls bytes
--                                what calls make of a session
--     ready_of, due_of, state_in, bound_of, sent_by, learned_in
--                                what is told of it
use Rattle.std.specs.Prelude.{◌≡◌, ℕ, true, false, List, [], length, take}
use Rattle.definitions.specs.Fingerprints.{Summary, Lanes, Counted, two_lanes, counted_lanes}
use Rattle.definitions.specs.Talks.{Knowledge}
use Rattle.definitions.specs.Ends.{is_live}
use Rattle.definitions.specs.Engines.{Speaker, initiating, responding}
use Rattle.definitions.specs.Wire.{Profile, two_lane_profile, counted_profile}
use Rattle.session_core.specs.Sessions.{SessionState, Begins, Pushes, Takes, Knows, due, finished}
use Rattle.definitions.specs.Worlds as worlds
use Rattle.ends_core.specs.Roles as roles
use Rattle.ends_core.specs.Sides.{peer_of}
use Rattle.session_core.specs.declared.state.State.{State}
use Rattle.rangesync_c.specs.SetStates.{VersionState}
use Rattle.rangesync_c.specs.declared.any_session.AnySession.{AnySession}
use Rattle.rangesync_c.specs.declared.any_session.AnySession.TheVariants as any
use Rattle.ends_core.specs.declared.side.Side.{Side}
use Rattle.ends_core.specs.declared.side.Side.TheVariants as sides
use Rattle.rangesync_c.specs.declared.any_session.SessionProfile.{SessionProfile}
use Rattle.rangesync_c.specs.declared.any_session.SessionProfile.TheVariants as profiles

-- what two sessions of one profile have to do with each other
abbrev pub Relation : Type 1
Relation = (F : Type 0) → Summary F → Profile F → SessionState F → SessionState F → Type 0

abbrev pub IsFirst : AnySession → (SessionState Lanes → Type 0) → Type 0
IsFirst (any.First c) P = P c
IsFirst (any.Second c) P = ⊥
IsFirst (any.FirstCounted c) P = ⊥
IsFirst (any.SecondCounted c) P = ⊥

abbrev pub IsSecond : AnySession → (SessionState Lanes → Type 0) → Type 0
IsSecond (any.First c) P = ⊥
IsSecond (any.Second c) P = P c
IsSecond (any.FirstCounted c) P = ⊥
IsSecond (any.SecondCounted c) P = ⊥

abbrev pub IsFirstCounted : AnySession → (SessionState Counted → Type 0) → Type 0
IsFirstCounted (any.First c) P = ⊥
IsFirstCounted (any.Second c) P = ⊥
IsFirstCounted (any.FirstCounted c) P = P c
IsFirstCounted (any.SecondCounted c) P = ⊥

abbrev pub IsSecondCounted : AnySession → (SessionState Counted → Type 0) → Type 0
IsSecondCounted (any.First c) P = ⊥
IsSecondCounted (any.Second c) P = ⊥
IsSecondCounted (any.FirstCounted c) P = ⊥
IsSecondCounted (any.SecondCounted c) P = P c

abbrev pub Changes : AnySession → AnySession → Relation → Type 0
Changes (any.First c) t R = IsFirst t (λ d. R Lanes two_lanes two_lane_profile c d)
Changes (any.Second c) t R = IsSecond t (λ d. R Lanes two_lanes two_lane_profile c d)
Changes (any.FirstCounted c) t R = IsFirstCounted t (λ d. R Counted counted_lanes counted_profile c d)
Changes (any.SecondCounted c) t R = IsSecondCounted t (λ d. R Counted counted_lanes counted_profile c d)

-- whether the peer's bytes have ended is as before
abbrev pub Listens : {F : Type 0} → SessionState F → SessionState F → Type 0
Listens c d = d.over ≡ c.over

-- these bytes were pushed; after the peer's bytes have ended nothing changes
abbrev pub PushesTo : List ℕ → Relation
PushesTo bytes F S W c d = (c.over ≡ false → Pushes S W c bytes d) × Listens c d × (c.over ≡ true → d ≡ c)

-- a session that was open is refused 3, and hears no more; what is known of it stays known
abbrev pub Finishes : Relation
Finishes F S W c d = (d ≡ finished c) × ((s : Speaker F) (pushed taken : List ℕ) → is_live s.start.stage ≡ true →
    Knows S W s c pushed taken → Knows S W s d pushed taken)

-- the text of all that is due is made, and none of it is taken
abbrev pub MakesDue : Relation
MakesDue F S W c d = Takes S W c [] d × (d.talk.outbox.ready ≡ due W c.talk) × Listens c d

abbrev pub TakesOff : ℕ → Relation
TakesOff count F S W c d = Takes S W c (take count c.talk.outbox.ready) d × Listens c d

-- these bytes were taken off what is due
abbrev pub Pulls : List ℕ → Relation
Pulls bytes F S W c d = Takes S W c bytes d × Listens c d

abbrev pub Opens : VersionState → Side → SessionProfile → AnySession → Type 0
Opens v sides.Initiator profiles.One s = IsFirst s (λ c.
    Begins two_lanes two_lane_profile v.accepted (initiating two_lanes (peer_of v.accepted v.items)) c)
Opens v sides.Responder profiles.One s = IsSecond s (λ c.
    Begins two_lanes two_lane_profile v.accepted (responding two_lanes (peer_of v.accepted v.items)) c)
Opens v sides.Initiator profiles.Two s = IsFirstCounted s (λ c.
    Begins counted_lanes counted_profile v.accepted (initiating counted_lanes (peer_of v.accepted v.items)) c)
Opens v sides.Responder profiles.Two s = IsSecondCounted s (λ c.
    Begins counted_lanes counted_profile v.accepted (responding counted_lanes (peer_of v.accepted v.items)) c)

abbrev pub ready_of : AnySession → List ℕ
ready_of (any.First c) = c.talk.outbox.ready
ready_of (any.Second c) = c.talk.outbox.ready
ready_of (any.FirstCounted c) = c.talk.outbox.ready
ready_of (any.SecondCounted c) = c.talk.outbox.ready

-- all that is due, whether its text is made or not
abbrev pub due_of : AnySession → List ℕ
due_of (any.First c) = due two_lane_profile c.talk
due_of (any.Second c) = due two_lane_profile c.talk
due_of (any.FirstCounted c) = due counted_profile c.talk
due_of (any.SecondCounted c) = due counted_profile c.talk

abbrev pub state_in : AnySession → State
state_in (any.First c) = c.talk.state
state_in (any.Second c) = c.talk.state
state_in (any.FirstCounted c) = c.talk.state
state_in (any.SecondCounted c) = c.talk.state

abbrev most_of : {F : Type 0} → worlds.Side → Summary F → SessionState F → ℕ
most_of side S c = roles.bound_of side S.may_cut c.talk.held.end.peer.table c.talk.held.steps
    (length c.talk.held.end.peer.items)

abbrev pub bound_of : AnySession → ℕ
bound_of (any.First c) = most_of worlds.Initiator two_lanes c
bound_of (any.Second c) = most_of worlds.Responder two_lanes c
bound_of (any.FirstCounted c) = most_of worlds.Initiator counted_lanes c
bound_of (any.SecondCounted c) = most_of worlds.Responder counted_lanes c

abbrev pub sent_by : AnySession → ℕ
sent_by (any.First c) = c.talk.held.end.sent
sent_by (any.Second c) = c.talk.held.end.sent
sent_by (any.FirstCounted c) = c.talk.held.end.sent
sent_by (any.SecondCounted c) = c.talk.held.end.sent

abbrev pub learned_in : AnySession → Knowledge
learned_in (any.First c) = c.talk.held.end.learned
learned_in (any.Second c) = c.talk.held.end.learned
learned_in (any.FirstCounted c) = c.talk.held.end.learned
learned_in (any.SecondCounted c) = c.talk.held.end.learned
