-- What is heard of bytes all of whose events were heard: the session goes on unless the input has ended; a fault of the
-- stream after them stops it. What one event more makes of it, and that nothing counts after a stop, are laws.
use Rattle.std.proofs.Common.{◌≡◌, ℕ, Bool, List, None}
use Rattle.std.proofs.Common.{refl, ap, ◌∙◌}
use Rattle.definitions.specs.Fingerprints.{Summary}
use Rattle.definitions.specs.Messages.{Message}
use Rattle.definitions.specs.Wire.{Profile, Event}
use Rattle.definitions.specs.Streams.{Standing, Before_hello, In_message, Meaning_over, Faulted, Fed, feed}
use Rattle.definitions.specs.Ends.{End}
use Rattle.definitions.specs.Engines.{Speaker}
use Rattle.definitions.specs.Taking.{Taken}
use Rattle.definitions.specs.Hearing.{Hearing, Goes_on, Refused_for}
use Rattle.definitions.specs.Hearing.{hears, stop_at, with_end, hearing_to}
use Rattle.laws.specs.Hearing.{said_to_events}
use Rattle.wire_core.specs.Feeds.{StreamState, Holds, fault_at}
use Rattle.ends_core.specs.Sides.{said_to}

module _ {F : Type 0} (S : Summary F) (W : Profile F) where
  abbrev pub so_far : Speaker F → List (Event F) → List (Message F)
  so_far s es = said_to_events S s es

  abbrev pub events_in : List ℕ → List (Event F)
  events_in bytes = (feed W Before_hello bytes).events

  unfaulted : (to : Standing) (e : End F) (t : Taken F) → fault_at to ≡ None →
      stop_at to (Goes_on e t) ≡ Goes_on e t
  unfaulted Before_hello e t none = refl
  unfaulted (In_message parts) e t none = refl
  unfaulted Meaning_over e t none = refl
  unfaulted (Faulted code) e t none = absurd cc

  abbrev of_fed : Speaker F → Bool → Fed F → Hearing F
  of_fed s over fed = with_end over (stop_at fed.to (hears S s fed.events))

  -- it goes on, unless the input has ended
  pub hearing-on : (s : Speaker F) (over : Bool) (f : StreamState) (bytes : List ℕ) (es : List (Event F)) (e : End F)
      (t : Taken F) → Holds W f bytes es → hears S s es ≡ Goes_on e t → fault_at f.standing ≡ None →
      hearing_to S W s over bytes ≡ with_end over (Goes_on e t)
  hearing-on s over f bytes es e t holds at fine =
      ap (of_fed s over) holds ∙ ap (λ x. with_end over (stop_at f.standing x)) at
      ∙ ap (with_end over) (unfaulted f.standing e t fine)

  -- a fault of the stream stops it
  pub hearing-fault : (s : Speaker F) (over : Bool) (bytes : List ℕ) (es : List (Event F)) (e : End F) (t : Taken F)
      (code : ℕ) → events_in bytes ≡ es → (feed W Before_hello bytes).to ≡ Faulted code →
      hears S s es ≡ Goes_on e t → hearing_to S W s over bytes ≡ Refused_for code
  hearing-fault s over bytes es e t code all fault at =
      let to = (feed W Before_hello bytes).to in
      ap (λ l. with_end over (stop_at to (hears S s l))) all ∙ ap (λ x. with_end over (stop_at to x)) at
      ∙ ap (λ x. with_end over (stop_at x (Goes_on e t))) fault

  pub said-of : (s : Speaker F) (bytes : List ℕ) (es : List (Event F)) → events_in bytes ≡ es →
      said_to S W s bytes ≡ so_far s es
  said-of s bytes es all = ap (λ l. so_far s l) all
