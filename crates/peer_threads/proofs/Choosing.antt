-- The session in the profile that the first four bytes choose.
--
-- After four bytes that were read, all that is read begins with them, so they choose the profile of all. Where fewer
-- came, they begin with no hello.
use Rattle.std.proofs.Common.{rules, ◌≡◌, ℕ, ◌<◌, ◌≤◌, inl, inr, Bool, true, false, List, [], length, take}
use Rattle.std.proofs.Common.{Option, refl, sym, ap, ◌∙◌, subst, arith, nat_lt}
use Rattle.std.specs.Prelude.{bytes_eq}
use Rattle.std.proofs.lemmas.List.{length-take}
use Rattle.std.proofs.Math.Seq.{take-length}
use Rattle.std.proofs.KnownBytes.{Appends-nil}
use Rattle.std.specs.Io.KnownBytes.{Consumes}
use Rattle.definitions.proofs.Lemmas.{bytes_eq-Decides}
use Rattle.definitions.specs.Accounts.{Seen}
use Rattle.definitions.specs.Engines.{Speaker, responding}
use Rattle.definitions.specs.Fingerprints.{Summary, two_lanes, counted_lanes, compact_prints}
use Rattle.definitions.specs.Items.{IsBytes}
use Rattle.definitions.specs.Replies.{Peer}
use Rattle.definitions.specs.Streams.{Before_hello, Fed, feed, stays}
use Rattle.definitions.specs.Wire.{Profile, two_lane_profile, counted_profile, compact_profile}
use Rattle.wire_core.specs.Feeds.{fault_at}
use Rattle.session_table.specs.declared.outcome.Outcome.{Outcome}
use Rattle.peer_threads.specs.declared.stop.Stop.{Stop}
use Rattle.peer_threads.specs.declared.stop.Stop.TheVariants as stops
use Rattle.peer_threads.specs.Choices.{begins_with_hello, is_counted, is_compact}
use Rattle.peer_threads.specs.Choices.{ChosenSpeaks, ChosenUnopened, ChosenFirst}
use Rattle.peer_threads.specs.Hellos.{NoHello}
use Rattle.peer_threads.specs.Inboxes.{StopsAt}
use Rattle.peer_threads.specs.Senders.{SenderState, sender_state}
use Rattle.peer_threads.specs.Outcomes.{Reader, After, Takes, traffic, traffic_after}
use Rattle.peer_threads.specs.Outcomes.{Speaks, SpeaksUnopened, Unopened, CameFirst}
use Rattle.ends_core.specs.Sides.{KeepsBounds}
use Rattle.session_table.specs.Sent.{sent_in}
use Rattle.peer_threads.specs.Stops.{outcome_of}
use Rattle.peer_threads.specs.Underway.{WhyStopped, IsNone, Leaves, first_held}
use Rattle.peer_threads.proofs.Endings.{anyhow, bears, bears-unopened}
use Rattle.peer_threads.specs.Laws.{Laws}
use Rattle.peer_threads.proofs.Exchanges.{why-unheard}
use Rattle.peer_threads.proofs.Origins.{takes-all, begins-alike}

-- ---- what an outcome says is said of what was written, wherever the bytes read come from

-- they choose as the front does
abbrev Alike : List ℕ → List ℕ → Type 0
Alike bytes front = (is_counted bytes ≡ is_counted front) × (is_compact bytes ≡ is_compact front)

-- all that was read, the first four bytes too
read-all : (front bytes : List ℕ) (unread mid left : Option (List ℕ)) → length front ≡ 4 → Consumes unread mid front →
    Takes (After front mid) left bytes → Takes (Reader unread) left bytes × Alike bytes front
read-all front bytes unread mid left four first read = (
  takes-all front bytes unread mid left first read,
  (
    begins-alike counted_profile front bytes mid left four read,
    begins-alike compact_profile front bytes mid left four read,
  ),
)

module _ {F : Type 0} (S : Summary F) (W : Profile F) where
  speaks-all : (fits : Type 0) (s : Speaker F) (version bound limit : ℕ) (front : List ℕ)
      (unread mid left held holds : Option (List ℕ)) (r w : Seen) (o : Outcome) → length front ≡ 4 →
      Consumes unread mid front →
      Speaks S W fits s version bound limit (traffic_after front mid left held holds) r w o →
      (x : Speaks S W fits s version bound limit (traffic unread left held holds) r w o)
      × Alike x.bytes front
  speaks-all fits s version bound limit front unread mid left held holds r w o four first x =
      let (read, alike) = read-all front x.bytes unread mid left four first x.read in (
        record { bytes = x.bytes; read = read; bears = x.bears; sent = x.sent; bounded = x.bounded; is_few = x.is_few },
        alike,
      )

  speaks-unopened-all : (s : Speaker F) (version : ℕ) (front : List ℕ) (unread mid left held holds : Option (List ℕ))
      (r w : Seen) (o : Outcome) → length front ≡ 4 → Consumes unread mid front →
      SpeaksUnopened S W s version (traffic_after front mid left held holds) r w o →
      (x : SpeaksUnopened S W s version (traffic unread left held holds) r w o)
      × Alike x.bytes front
  speaks-unopened-all s version front unread mid left held holds r w o four first x =
      let (read, alike) = read-all front x.bytes unread mid left four first x.read in
      (record { bytes = x.bytes; read = read; bears = x.bears }, alike)

  first-all : (front : List ℕ) (unread mid left : Option (List ℕ)) → length front ≡ 4 → Consumes unread mid front →
      CameFirst S W (After front mid) left →
      (x : CameFirst S W (Reader unread) left) × Alike x.bytes front
  first-all front unread mid left four first x =
      let (read, alike) = read-all front x.bytes unread mid left four first x.read in (
        record {
          bytes = x.bytes;
          read = read;
          message = x.message;
          first = x.first;
          later = x.later;
          messages = x.messages;
        },
        alike,
      )

  -- ---- fewer than four bytes came

  short-feed : (bytes : List ℕ) → length bytes < 4 → feed W Before_hello bytes ≡ stays Before_hello bytes
  short-feed bytes less = let short : nat_lt (length bytes) 4 ≡ true = search (rules, less) in rw short refl

  unheard-stops : (r : Seen) (bytes : List ℕ) (stop : Stop) → NoHello r bytes stop → StopsAt W r bytes [] stop
  unheard-stops r bytes (stops.Refused code) x =
      let fed = short-feed bytes x.less in
      record {
        events = ap (λ (f : Fed F). f.events) fed;
        fault = inr (x.why.0, x.why.1, ap (λ (f : Fed F). fault_at f.to) fed);
      }
  unheard-stops r bytes (stops.PeerRefused code) x = absurd x.why
  unheard-stops r bytes (stops.Io side) x =
      (x.why.0, inl x.why.1, ([], ap (λ (f : Fed F). f.events) (short-feed bytes x.less)))
  unheard-stops r bytes stops.Memory x = absurd x.why

  why-short : Laws S W → (P : Peer) (o : SenderState) (bytes : List ℕ) (unread left held : Option (List ℕ)) (r : Seen)
      (broken : Bool) (stop : Stop) → o ≡ sender_state false 0 → NoHello r bytes stop →
      WhyStopped S W IsNone (responding S P) o (traffic unread left held held) r broken bytes stop
  why-short laws P o bytes unread left held r broken stop new x =
      why-unheard S W IsNone laws (responding S P) (first_held S P []) o (traffic unread left held held) r broken stop
      bytes [] refl (ap (λ y. y.sent) new) (λ rest all. inr
      (record { greeted = ap (λ y. y.greeted) new; none = ap (λ y. y.sent) new; written = Appends-nil held })) refl
      (unheard-stops r bytes stop x)

-- ---- the profile

-- fewer than four bytes begin with no hello
short-begins : {F : Type 0} (P : Profile F) (bytes : List ℕ) → length P.hello ≡ 4 → length bytes < 4 →
    begins_with_hello P bytes ≡ false
short-begins P bytes four less = by (begins_with_hello P bytes) refl where
  by : (b : Bool) → begins_with_hello P bytes ≡ b → begins_with_hello P bytes ≡ false
  by true is =
      let same = ap (λ (l : List ℕ). length l) ((bytes_eq-Decides (take 4 bytes) P.hello).0 is) in
      absurd (omega (arith, length-take 4 bytes, four))
  by false is = is

short-chooses : (bytes : List ℕ) → length bytes < 4 → (is_counted bytes ≡ false) × (is_compact bytes ≡ false)
short-chooses bytes less =
    (short-begins counted_profile bytes refl less, short-begins compact_profile bytes refl less)

-- and four bytes that are no hello of this profile do not either
unlike : {F : Type 0} (P : Profile F) (bytes : List ℕ) → length bytes ≡ 4 → bytes_eq bytes P.hello ≡ false →
    begins_with_hello P bytes ≡ false
unlike P bytes four other =
    let whole : take 4 bytes ≡ bytes = ap (λ (n : ℕ). take n bytes) (sym four) ∙ take-length bytes in
    ap (λ (l : List ℕ). bytes_eq l P.hello) whole ∙ other

pub chooses-counted : (bytes : List ℕ) → bytes ≡ counted_profile.hello → is_counted bytes ≡ true
chooses-counted bytes is = ap is_counted is

pub chooses-compact : (bytes : List ℕ) → bytes ≡ compact_profile.hello → is_compact bytes ≡ true
chooses-compact bytes is = ap is_compact is

pub chooses-two-lanes : (bytes : List ℕ) → length bytes ≡ 4 → bytes_eq bytes counted_profile.hello ≡ false →
    bytes_eq bytes compact_profile.hello ≡ false → (is_counted bytes ≡ false) × (is_compact bytes ≡ false)
chooses-two-lanes bytes four other none =
    (unlike counted_profile bytes four other, unlike compact_profile bytes four none)

pub counted-speaks : (fits : Type 0) (p : Peer) (version bound limit : ℕ) (front : List ℕ)
    (unread mid left held holds : Option (List ℕ)) (r w : Seen) (o : Outcome) → length front ≡ 4 →
    Consumes unread mid front → is_counted front ≡ true →
    Speaks counted_lanes counted_profile fits (responding counted_lanes p) version bound limit
    (traffic_after front mid left held holds) r w o →
    ChosenSpeaks fits p version bound limit (traffic unread left held holds) r w o
counted-speaks fits p version bound limit front unread mid left held holds r w o four first is x =
    let all = speaks-all counted_lanes counted_profile fits (responding counted_lanes p) version bound limit front
    unread mid left
    held holds r w o four first x in
    inl (all.0, all.1.0 ∙ is)

pub compact-speaks : (fits : Type 0) (p : Peer) (version bound limit : ℕ) (front : List ℕ)
    (unread mid left held holds : Option (List ℕ)) (r w : Seen) (o : Outcome) → length front ≡ 4 →
    Consumes unread mid front → is_compact front ≡ true →
    Speaks compact_prints compact_profile fits (responding compact_prints p) version bound limit
    (traffic_after front mid left held holds) r w o →
    ChosenSpeaks fits p version bound limit (traffic unread left held holds) r w o
compact-speaks fits p version bound limit front unread mid left held holds r w o four first is x =
    let all = speaks-all compact_prints compact_profile fits (responding compact_prints p) version bound limit front
    unread mid left held holds r w o four first x in
    inr (inl (all.0, all.1.1 ∙ is))

pub two-lanes-speak : (fits : Type 0) (p : Peer) (version bound limit : ℕ) (front : List ℕ)
    (unread mid left held holds : Option (List ℕ)) (r w : Seen) (o : Outcome) → length front ≡ 4 →
    Consumes unread mid front → (is_counted front ≡ false) × (is_compact front ≡ false) →
    Speaks two_lanes two_lane_profile fits (responding two_lanes p) version bound limit
    (traffic_after front mid left held holds) r w o →
    ChosenSpeaks fits p version bound limit (traffic unread left held holds) r w o
two-lanes-speak fits p version bound limit front unread mid left held holds r w o four first is x =
    let all = speaks-all two_lanes two_lane_profile fits (responding two_lanes p) version bound limit front unread mid
    left
    held holds r w o four first x in
    inr (inr (all.0, all.1.0 ∙ is.0, all.1.1 ∙ is.1))

pub counted-unopened : (front : List ℕ) (unread mid left held holds : Option (List ℕ)) (r w : Seen) (o : Outcome) →
    length front ≡ 4 → Consumes unread mid front → is_counted front ≡ true →
    Unopened counted_lanes counted_profile (traffic_after front mid left held holds) r w o →
    ChosenUnopened (traffic unread left held holds) r w o
counted-unopened front unread mid left held holds r w o four first is x = record {
  none = x.none;
  anyone = λ p version.
      let all = speaks-unopened-all counted_lanes counted_profile (responding counted_lanes p) version front unread mid
      left held
      holds r w o four first (x.anyone p version) in
      inl (all.0, all.1.0 ∙ is);
}

pub compact-unopened : (front : List ℕ) (unread mid left held holds : Option (List ℕ)) (r w : Seen) (o : Outcome) →
    length front ≡ 4 → Consumes unread mid front → is_compact front ≡ true →
    Unopened compact_prints compact_profile (traffic_after front mid left held holds) r w o →
    ChosenUnopened (traffic unread left held holds) r w o
compact-unopened front unread mid left held holds r w o four first is x = record {
  none = x.none;
  anyone = λ p version.
      let all = speaks-unopened-all compact_prints compact_profile (responding compact_prints p) version front unread
      mid left held holds r w o four first (x.anyone p version) in
      inr (inl (all.0, all.1.1 ∙ is));
}

pub two-lanes-unopened : (front : List ℕ) (unread mid left held holds : Option (List ℕ)) (r w : Seen) (o : Outcome) →
    length front ≡ 4 → Consumes unread mid front → (is_counted front ≡ false) × (is_compact front ≡ false) →
    Unopened two_lanes two_lane_profile (traffic_after front mid left held holds) r w o →
    ChosenUnopened (traffic unread left held holds) r w o
two-lanes-unopened front unread mid left held holds r w o four first is x = record {
  none = x.none;
  anyone = λ p version.
      let all = speaks-unopened-all two_lanes two_lane_profile (responding two_lanes p) version front unread mid left
      held
      holds r w o four first (x.anyone p version) in
      inr (inr (all.0, all.1.0 ∙ is.0, all.1.1 ∙ is.1));
}

pub counted-first : (front : List ℕ) (unread mid left : Option (List ℕ)) → length front ≡ 4 →
    Consumes unread mid front → is_counted front ≡ true →
    CameFirst counted_lanes counted_profile (After front mid) left → ChosenFirst (Reader unread) left
counted-first front unread mid left four first is x =
    let all = first-all counted_lanes counted_profile front unread mid left four first x in inl (all.0, all.1.0 ∙ is)

pub compact-first : (front : List ℕ) (unread mid left : Option (List ℕ)) → length front ≡ 4 →
    Consumes unread mid front → is_compact front ≡ true →
    CameFirst compact_prints compact_profile (After front mid) left → ChosenFirst (Reader unread) left
compact-first front unread mid left four first is x =
    let all = first-all compact_prints compact_profile front unread mid left four first x in
    inr (inl (all.0, all.1.1 ∙ is))

pub two-lanes-first : (front : List ℕ) (unread mid left : Option (List ℕ)) → length front ≡ 4 →
    Consumes unread mid front → (is_counted front ≡ false) × (is_compact front ≡ false) →
    CameFirst two_lanes two_lane_profile (After front mid) left → ChosenFirst (Reader unread) left
two-lanes-first front unread mid left four first is x =
    let all = first-all two_lanes two_lane_profile front unread mid left four first x in
    inr (inr (all.0, all.1.0 ∙ is.0, all.1.1 ∙ is.1))

-- ---- the hello did not come

pub short-speaks : Laws two_lanes two_lane_profile → (fits : Type 0) (p : Peer) (version bound limit : ℕ)
    (x : SenderState) (bytes : List ℕ) (unread left held holds : Option (List ℕ)) (r w : Seen) (broken : Bool)
    (stop : Stop) (o : Outcome) → x ≡ sender_state false 0 → NoHello r bytes stop → Consumes unread left bytes →
    Leaves two_lane_profile x held holds broken w.failed stop → o ≡ outcome_of x.sent stop →
    (IsBytes bytes → fits → KeepsBounds two_lanes two_lane_profile (responding two_lanes p) bytes bound limit) →
    ChosenSpeaks fits p version bound limit (traffic unread left held holds) r w o
short-speaks laws fits p version bound limit x bytes unread left held holds r w broken stop o new none read leaves is
    bounded =
    let why = anyhow two_lanes two_lane_profile (responding two_lanes p) x (traffic unread left held held) r broken
    bytes stop
    (why-short two_lanes two_lane_profile laws p x bytes unread left held r broken stop new none) in
    let sent : (s : Stop) → sent_in (outcome_of x.sent s) ≤ bound = few in
    let other = short-chooses bytes none.less in
    subst (λ y. ChosenSpeaks fits p version bound limit (traffic unread left held holds) r w y) (sym is) (inr (inr (
      record {
        bytes = bytes;
        read = read;
        bears = bears two_lanes two_lane_profile (responding two_lanes p) version x (traffic unread left held held)
            holds r w
            broken bytes stop why leaves;
        sent = sent stop;
        bounded = bounded none.fits;
        is_few = λ fit written. let kept = bounded none.fits fit in
            record { few = kept.few_called; short = kept.short_called };
      },
      other.0,
      other.1,
    ))) where
      few : (s : Stop) → sent_in (outcome_of x.sent s) ≤ bound
      few (stops.Refused code) = omega (arith, ap (λ y. y.sent) new)
      few (stops.PeerRefused code) = omega (arith, ap (λ y. y.sent) new)
      few stops.Memory = omega (arith, ap (λ y. y.sent) new)
      few (stops.Io side) = omega (arith, ap (λ y. y.sent) new)

pub short-unopened : Laws two_lanes two_lane_profile → (x : SenderState) (bytes : List ℕ)
    (unread left held holds : Option (List ℕ)) (r w : Seen) (broken : Bool) (stop : Stop) (o : Outcome) →
    x ≡ sender_state false 0 → NoHello r bytes stop → Consumes unread left bytes →
    Leaves two_lane_profile x held holds broken w.failed stop → o ≡ outcome_of x.sent stop →
    ChosenUnopened (traffic unread left held holds) r w o
short-unopened laws x bytes unread left held holds r w broken stop o new none read leaves is =
    let other = short-chooses bytes none.less in
    subst (λ y. ChosenUnopened (traffic unread left held holds) r w y) (sym is) (record {
      none = by stop;
      anyone = λ p version. inr (inr (
        record {
          bytes = bytes;
          read = read;
          bears = bears-unopened two_lanes two_lane_profile (responding two_lanes p) version x (traffic unread left held
              held)
              holds r w broken bytes stop
              (why-short two_lanes two_lane_profile laws p x bytes unread left held r broken stop new none) leaves;
        },
        other.0,
        other.1,
      ));
    }) where
      by : (s : Stop) → sent_in (outcome_of x.sent s) ≡ 0
      by (stops.Refused code) = ap (λ y. y.sent) new
      by (stops.PeerRefused code) = ap (λ y. y.sent) new
      by stops.Memory = ap (λ y. y.sent) new
      by (stops.Io side) = ap (λ y. y.sent) new
