-- A call that moves due bytes to a caller's room makes their text, copies the front of it, and then takes as many bytes
-- off. The bytes copied are the first of those that were due, and so they are the ones that are taken off: there are no
-- more of them than were due. To make the text takes nothing. All that was due is in that text, so as many are copied
-- as were due, or as the room holds.
use Rattle.std.proofs.Common.{◌≡◌, ℕ, List, [], ◌++◌, length, take, min, subst, sym, ap, ◌∙◌, append-nil}
use Rattle.std.proofs.lemmas.List.{length-take, take_min}
use Rattle.definitions.specs.Fingerprints.{Summary, two_lanes, counted_lanes}
use Rattle.definitions.specs.Wire.{Profile, two_lane_profile, counted_profile}
use Rattle.session_core.specs.Sessions.{SessionState, Knows, Takes, due}
use Rattle.rangesync_c.specs.SessionStates.{Changes, MakesDue, TakesOff, Pulls, ready_of, due_of}
use Rattle.rangesync_c.specs.declared.any_session.AnySession.{AnySession}
use Rattle.rangesync_c.specs.declared.any_session.AnySession.TheVariants.{First, Second, FirstCounted, SecondCounted}
use Rattle.rangesync_c.specs.Meaning.{IfSession, IsSession}
use Rattle.rangesync_c.specs.declared.held.Thing.{Thing}
use Rattle.rangesync_c.specs.declared.held.Thing.TheVariants as things

front-taken : (most : ℕ) (ready front : List ℕ) → front ≡ take most ready →
    take (min (length front) (length ready)) ready ≡ front
front-taken most ready front is =
    take_min (length front) ready
    ∙ (ap (λ (n : ℕ). take n ready) (ap (λ (l : List ℕ). length l) is ∙ length-take most ready)
    ∙ (take_min most ready ∙ sym is))

module _ (most : ℕ) (front : List ℕ) where
  -- all that was due is copied, or as much as is asked
  one-copied : {F : Type 0} (S : Summary F) (W : Profile F) (c d : SessionState F) → MakesDue F S W c d →
      front ≡ take most d.talk.outbox.ready → length front ≡ min most (length (due W c.talk))
  one-copied S W c d made is =
      ap (λ (l : List ℕ). length l) is ∙ length-take most d.talk.outbox.ready
      ∙ ap (λ (l : List ℕ). min most (length l)) made.1

  session-copied : (s t : AnySession) → Changes s t MakesDue → front ≡ take most (ready_of t) →
      length front ≡ min most (length (due_of s))
  session-copied (First c) (First d) = one-copied two_lanes two_lane_profile c d
  session-copied (Second c) (Second d) = one-copied two_lanes two_lane_profile c d
  session-copied (FirstCounted c) (FirstCounted d) = one-copied counted_lanes counted_profile c d
  session-copied (SecondCounted c) (SecondCounted d) = one-copied counted_lanes counted_profile c d
  session-copied (First c) t = λ made is. absurd made
  session-copied (Second c) t = λ made is. absurd made
  session-copied (FirstCounted c) t = λ made is. absurd made
  session-copied (SecondCounted c) t = λ made is. absurd made

-- what was made due is taken off as far as it was copied
module _ (most : ℕ) (front room : List ℕ) (copied : take (length front) room ≡ front) where
  one-pulled : {F : Type 0} (S : Summary F) (W : Profile F) (c d e : SessionState F) → MakesDue F S W c d →
      front ≡ take most d.talk.outbox.ready →
      TakesOff (min (length front) (length d.talk.outbox.ready)) F S W d e → Pulls (take (length front) room) F S W c e
  one-pulled S W c d e made is taken = (moved, taken.1 ∙ made.2) where
    moved : Takes S W c (take (length front) room) e
    moved s pushed before k =
        let ready = d.talk.outbox.ready in
        let off = take (min (length front) (length ready)) ready in
        let all : (before ++ []) ++ off ≡ before ++ take (length front) room =
        ap (λ (l : List ℕ). l ++ off) (append-nil before)
        ∙ ap (λ (l : List ℕ). before ++ l) (front-taken most ready front is ∙ sym copied) in
        subst (λ (l : List ℕ). Knows S W s e pushed l) all (taken.0 s pushed (before ++ []) (made.0 s pushed before k))

  session-pulled : (s t u : AnySession) → Changes s t MakesDue → front ≡ take most (ready_of t) →
      Changes t u (TakesOff (min (length front) (length (ready_of t)))) → Changes s u (Pulls (take (length front) room))
  session-pulled (First c) (First d) (First e) = one-pulled two_lanes two_lane_profile c d e
  session-pulled (Second c) (Second d) (Second e) = one-pulled two_lanes two_lane_profile c d e
  session-pulled (FirstCounted c) (FirstCounted d) (FirstCounted e) = one-pulled counted_lanes counted_profile c d e
  session-pulled (SecondCounted c) (SecondCounted d) (SecondCounted e) = one-pulled counted_lanes counted_profile c d e
  session-pulled (First c) (First d) u = λ made is taken. absurd taken
  session-pulled (Second c) (Second d) u = λ made is taken. absurd taken
  session-pulled (FirstCounted c) (FirstCounted d) u = λ made is taken. absurd taken
  session-pulled (SecondCounted c) (SecondCounted d) u = λ made is taken. absurd taken
  session-pulled (First c) t u = λ made is taken. absurd made
  session-pulled (Second c) t u = λ made is taken. absurd made
  session-pulled (FirstCounted c) t u = λ made is taken. absurd made
  session-pulled (SecondCounted c) t u = λ made is taken. absurd made

of-thing : (before ready after : Thing) (most : ℕ) (front room : List ℕ) →
    IfSession before (λ s. IsSession ready (λ t. Changes s t MakesDue × (front ≡ take most (ready_of t)))) →
    IfSession ready (λ s. IsSession after (λ t. Changes s t (TakesOff (min (length front) (length (ready_of s)))))) →
    take (length front) room ≡ front →
    IfSession before (λ s. IsSession after (λ t. Changes s t (Pulls (take (length front) room))))
of-thing (things.Session s) (things.Session t) (things.Session u) most front room made taken copied =
    session-pulled most front room copied s t u made.0 made.1 taken
of-thing (things.Session s) (things.Session t) u most front room made taken copied = absurd taken
of-thing (things.Session s) t u most front room made taken copied = absurd made
of-thing (things.Strategy x) t u most front room made taken copied = tt
of-thing (things.Set x) t u most front room made taken copied = tt
of-thing (things.Version x) t u most front room made taken copied = tt
of-thing (things.Shards x) t u most front room made taken copied = tt

-- of a handle, where so many bytes are said to have been moved
pub pulled : (before ready after : Thing) (most used : ℕ) (front room : List ℕ) → length front ≡ used →
    IfSession before (λ s. IsSession ready (λ t. Changes s t MakesDue × (front ≡ take most (ready_of t)))) →
    IfSession ready (λ s. IsSession after (λ t. Changes s t (TakesOff (min (length front) (length (ready_of s)))))) →
    take (length front) room ≡ front →
    IfSession before (λ s. IsSession after (λ t. Changes s t (Pulls (take used room))))
pulled before ready after most used front room all made taken copied =
    subst (λ (n : ℕ). IfSession before (λ s. IsSession after (λ t. Changes s t (Pulls (take n room))))) all
    (of-thing before ready after most front room made taken copied)

-- so many bytes are moved as were due, or as the room holds
pub all-pulled : (before ready : Thing) (most used : ℕ) (front : List ℕ) → length front ≡ used →
    IfSession before (λ s. IsSession ready (λ t. Changes s t MakesDue × (front ≡ take most (ready_of t)))) →
    IfSession before (λ s. used ≡ min most (length (due_of s)))
all-pulled (things.Session s) (things.Session t) most used front all made =
    sym all ∙ session-copied most front s t made.0 made.1
all-pulled (things.Session s) t most used front all made = absurd made
all-pulled (things.Strategy x) t most used front all made = tt
all-pulled (things.Set x) t most used front all made = tt
all-pulled (things.Version x) t most used front all made = tt
all-pulled (things.Shards x) t most used front all made = tt
