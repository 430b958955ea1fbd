-- What an outcome says, by how the session stopped and what was written after it.
--
-- After the messages that were written stands the fault frame of the own refusal, or a beginning of it where the
-- writer failed. Where nothing was written before, the hello stands in front of it.
use Rattle.std.proofs.Common.{◌≡◌, ℕ, ◌≤◌, ◌+◌, ◌⊎◌, Bool, false, List, [], ◌++◌, length, take, drop, Option}
use Rattle.std.proofs.Common.{Result, Ok, Err, OnOk, OnErr, inl, inr, refl, sym, ap, ◌∙◌, subst, append_assoc}
use Rattle.std.proofs.Common.{append-nil, take-append-drop, IsTrue, arith}
use Rattle.std.specs.Prelude.{if◌then◌else◌}
use Rattle.std.proofs.KnownBytes.{Appends-trans, Appends-kept, Keeps-refl}
use Rattle.std.specs.Io.KnownBytes.{Appends, Keeps}
use Rattle.definitions.specs.Accounts.{Call, Seen, called_for, HasFailed, WroteAll, WroteFault, IsFirstFault, IsTooLong}
use Rattle.definitions.specs.Accounts.{IsOfTheTable}
use Rattle.definitions.specs.Messages.{Message}
use Rattle.definitions.specs.Ends.{End, is_over}
use Rattle.definitions.specs.Items.{Item, IsBytes}
use Rattle.definitions.specs.Histories.{content}
use Rattle.definitions.specs.Ranks.{rank_by}
use Rattle.definitions.specs.Replies.{Peer}
use Rattle.definitions.specs.Engines.{Speaker, text}
use Rattle.definitions.specs.Fingerprints.{Summary}
use Rattle.definitions.specs.Refusals.{no_memory}
use Rattle.definitions.specs.Wire.{Profile, fault_text}
use Rattle.strategy_check.specs.Checked.{Checked}
use Rattle.version_lock.specs.declared.view.View.{View}
use Rattle.version_lock.specs.Calls.{PinState, IsPinOf}
use Rattle.session_table.specs.declared.outcome.Outcome.{Outcome}
use Rattle.session_table.specs.declared.outcome.Outcome.TheVariants as outcomes
use Rattle.session_table.specs.declared.outcome.Direction.{Direction}
use Rattle.session_table.specs.declared.outcome.Direction.TheVariants as directions
use Rattle.peer_threads.specs.declared.stop.Stop.{Stop}
use Rattle.peer_threads.specs.declared.stop.Stop.TheVariants as stops
use Rattle.peer_threads.specs.Outcomes.{Traffic, traffic_of, SaidAll, Bears, Speaks, SpeaksUnopened}
use Rattle.ends_core.specs.Sides.{KeepsBounds}
use Rattle.peer_threads.specs.Outcomes.{BearsUnopened, IsTimely, call_of, failing, peer_at}
use Rattle.session_table.specs.Sent.{sent_in}
use Rattle.ends_core.specs.Sides.{called_by, said_to, peer_of}
use Rattle.peer_threads.specs.Senders.{SenderState, refusal_text, Begins, WroteSo}
use Rattle.peer_threads.specs.Stops.{outcome_of}
use Rattle.peer_threads.specs.Underway.{WroteFirst, WroteUpTo, IsLong, IsFirst, IsNone, HasBroken}
use Rattle.peer_threads.specs.Underway.{WhyStopped}
use Rattle.peer_threads.specs.Underway.{Stopped, Finished, Leaves, Spoke}

-- all of it, or a beginning
pub wrote-either : {X E : Type 0} (r : Result X E) (a b : Option (List ℕ)) (failed : Bool) (xs : List ℕ) →
    OnOk r (Appends a b xs) → OnErr r (Begins a b xs) → OnErr r (IsTrue failed) → WroteSo a b failed xs
wrote-either (Ok x) a b failed xs whole front broke = inl whole
wrote-either (Err e) a b failed xs whole front broke = inr (broke, front)

-- a writer that failed before writes nothing
pub wrote-nothing : (a b : Option (List ℕ)) (failed : Bool) (xs : List ℕ) → IsTrue failed → Appends a b [] →
    WroteSo a b failed xs
wrote-nothing a b failed xs broke none = inr (broke, (0, none))

module _ {F : Type 0} (S : Summary F) (W : Profile F) where
  -- ---- the fault frame after what was written

  abbrev first_text : Speaker F → SenderState → List ℕ → List ℕ
  first_text s o bytes = text W o.sent (called_by S W s bytes)

  -- the hello was written before
  frame-alone : (o : SenderState) (code : ℕ) → IsTrue o.greeted → refusal_text W o code ≡ fault_text code
  frame-alone o code greeted = ap (λ b. (if b then [] else W.hello) ++ fault_text code) greeted

  record FrameAfter (s : Speaker F) (version : ℕ) (o : SenderState) (t : Traffic) (holds : Option (List ℕ))
      (bytes : List ℕ) (r w : Seen) (code : ℕ) : Type 0 where
    written : List ℕ
    wrote : Appends t.held holds written
    account : WroteFault S W (call_of s version bytes written r w) o.sent code

  frame-after-first : (s : Speaker F) (version : ℕ) (o : SenderState) (t : Traffic) (holds : Option (List ℕ))
      (bytes : List ℕ) (r w : Seen) (code : ℕ) →
      WroteFirst S W s o t bytes → WroteSo t.holds holds w.failed (refusal_text W o code) →
      FrameAfter s version o t holds bytes r w code
  frame-after-first s version o t holds bytes r w code first (inl whole) = record {
    written = first_text s o bytes ++ fault_text code;
    wrote = Appends-trans t.held t.holds holds (first_text s o bytes) (fault_text code) first.written
        (subst (Appends t.holds holds) (frame-alone o code first.greeted) whole);
    account = record { count = first.count; written = inl refl };
  }
  frame-after-first s version o t holds bytes r w code first (inr (failed, (n, front))) =
      let part : List ℕ = take n (fault_text code) in
      record {
        written = first_text s o bytes ++ part;
        wrote = Appends-trans t.held t.holds holds (first_text s o bytes) part first.written
            (subst (λ (l : List ℕ). Appends t.holds holds (take n l)) (frame-alone o code first.greeted) front);
        account = record {
          count = first.count;
          written = inr (
            failed,
            (
              drop n (fault_text code),
              ap (λ (l : List ℕ). first_text s o bytes ++ l)
                  (sym (take-append-drop n (fault_text code)))
                  ∙ sym (append_assoc (first_text s o bytes) part (drop n (fault_text code))),
            ),
          );
        };
      }

  -- nothing was written before: the hello, and the frame
  alone-is : (s : Speaker F) (o : SenderState) (bytes : List ℕ) (code : ℕ) → o.greeted ≡ false → o.sent ≡ 0 →
      refusal_text W o code ≡ first_text s o bytes ++ fault_text code
  alone-is s o bytes code greeted none =
      ap (λ b. (if b then [] else W.hello) ++ fault_text code) greeted
      ∙ ap (λ (l : List ℕ). l ++ fault_text code)
      (sym (ap (λ n. text W n (called_by S W s bytes)) none ∙ append-nil W.hello))

  frame-after : (s : Speaker F) (version : ℕ) (o : SenderState) (t : Traffic) (holds : Option (List ℕ))
      (bytes : List ℕ) (r w : Seen) (code : ℕ) →
      WroteUpTo S W s o t bytes → WroteSo t.holds holds w.failed (refusal_text W o code) →
      FrameAfter s version o t holds bytes r w code
  frame-after s version o t holds bytes r w code (inl first) so =
      frame-after-first s version o t holds bytes r w code first so
  frame-after s version o t holds bytes r w code (inr none) (inl whole) = record {
    written = refusal_text W o code;
    wrote = Appends-trans t.held t.holds holds [] (refusal_text W o code) none.written whole;
    account = record {
      count = omega (arith, none.none);
      written = inl (alone-is s o bytes code none.greeted none.none);
    };
  }
  frame-after s version o t holds bytes r w code (inr none) (inr (failed, (n, front))) = record {
    written = take n (refusal_text W o code);
    wrote = Appends-trans t.held t.holds holds [] (take n (refusal_text W o code)) none.written front;
    account = record {
      count = omega (arith, none.none);
      written = inr (
        failed,
        (
          drop n (refusal_text W o code),
          sym (alone-is s o bytes code none.greeted none.none)
              ∙ sym (take-append-drop n (refusal_text W o code)),
        ),
      );
    };
  }

  -- ---- each outcome

  -- why this side refused
  why : (T : ℕ → ℕ → Type 0) (s : Speaker F) (version : ℕ) (bytes written : List ℕ) (r w : Seen) (k code : ℕ) →
      IsFirst S W s r.ended bytes k code ⊎ T (length (called_by S W s bytes)) code →
      IsFirstFault S W (call_of s version bytes written r w) k code ⊎ T (length (called_by S W s bytes)) code
  why T s version bytes written r w k code (inr table) = inr table
  why T s version bytes written r w k code (inl first) =
      inl (record { first = first.first; after = by first.after }) where
        by : ((length (called_by S W s bytes) ≡ k) ⊎ IsLong (called_by S W s bytes) k code) →
            (length (called_by S W s bytes) ≡ k) ⊎ IsTooLong S W
            (call_of s version bytes written r w) k code
        by (inl all) = inl all
        by (inr long) = inr
            (record {
              twelve = long.twelve;
              count = long.count;
              reply = long.reply;
              last = long.last;
              long = long.long;
            })

  -- the table of sessions or the gate refused
  timely : (k called code : ℕ) → IsTimely k called code → IsOfTheTable code
  timely k called code (inl (inl is, none)) = (omega (arith, is), omega (arith, is))
  timely k called code (inl (inr is, none)) = (omega (arith, is), omega (arith, is))
  timely k called code (inr (inl (inl is, some))) = (omega (arith, is), omega (arith, is))
  timely k called code (inr (inl (inr is, some))) = (omega (arith, is), omega (arith, is))
  timely k called code (inr (inr (is, some))) = (omega (arith, is), omega (arith, is))

  either : (c : Call F) (k code : ℕ) →
      IsFirstFault S W c k code ⊎ IsTimely k (length (called_for S W c)) code →
      IsFirstFault S W c k code ⊎ IsOfTheTable code
  either c k code (inl first) = inl first
  either c k code (inr table) = inr (timely k (length (called_for S W c)) code table)

  -- all that was called for was written
  record AllAfter (s : Speaker F) (version : ℕ) (t : Traffic) (holds : Option (List ℕ)) (bytes : List ℕ) (r w : Seen)
      (sent : ℕ) : Type 0 where
    written : List ℕ
    wrote : Appends t.held holds written
    account : WroteAll S W (call_of s version bytes written r w) sent

  all-after : (s : Speaker F) (version : ℕ) (t : Traffic) (holds : Option (List ℕ)) (bytes : List ℕ) (r w : Seen)
      (sent : ℕ) → Keeps t.holds holds → SaidAll S W s t bytes sent →
      called_by S W s bytes ≡ said_to S W s bytes → AllAfter s version t holds bytes r w sent
  all-after s version t holds bytes r w sent kept said called = record {
    written = text W sent (called_by S W s bytes);
    wrote = subst (λ (l : List (Message F)). Appends t.held holds (text W sent l)) (sym called)
        (Appends-kept t.held t.holds holds _ said.written kept);
    account = record { count = ap (λ (l : List (Message F)). length l) called ∙ said.count; written = refl };
  }

  pub bears : (s : Speaker F) (version : ℕ) (o : SenderState) (t : Traffic) (holds : Option (List ℕ)) (r w : Seen)
      (broken : Bool) (bytes : List ℕ) (stop : Stop) →
      WhyStopped S W (IsTimely o.sent) s o t r broken bytes stop → Leaves W o t.holds holds broken w.failed stop →
      Bears S W s version (traffic_of t.unread t.left t.held holds) r w bytes (outcome_of o.sent stop)
  bears s version o t holds r w broken bytes (stops.Refused code) x leaves =
      let f = frame-after s version o t holds bytes r w code x.0 leaves in
      let reason = why (IsTimely o.sent) s version bytes f.written r w o.sent code x.1 in
      let c = call_of s version bytes f.written r w in
      (f.written, f.wrote, (record { wrote = f.account; why = either c o.sent code reason }, reason))
  bears s version o t holds r w broken bytes (stops.PeerRefused code) x leaves =
      let f = all-after s version t holds bytes r w o.sent leaves x.said x.called in
      (f.written, f.wrote, (record { wrote = f.account; told = x.told }, x.called, x.frame))
  bears s version o t holds r w broken bytes stops.Memory x leaves =
      let f = frame-after s version o t holds bytes r w no_memory x leaves in
      (f.written, f.wrote, record { wrote = f.account })
  bears s version o t holds r w broken bytes (stops.Io side) (breaks, failed, cut) leaves = (
    breaks.all,
    Appends-kept t.held t.holds holds breaks.all breaks.written leaves.0,
    (record { wrote = breaks.broke version r w; failed = by side failed }, cut),
  ) where
    by : (side : Direction) → HasBroken r broken bytes side →
        HasFailed (call_of s version bytes breaks.all r w) (failing side)
    by directions.Read failed = failed
    by directions.Write failed = subst (λ b. IsTrue b) (sym leaves.1) failed

  -- a session that stopped
  pub stopped-speaks : (s : Speaker F) (version bound : ℕ) (o : SenderState) (t : Traffic) (holds : Option (List ℕ))
      (r w : Seen) (broken : Bool) (stop : Stop) →
      Stopped S W (IsTimely o.sent) s o t r broken stop →
      Leaves W o t.holds holds broken w.failed stop → o.sent ≤ bound →
      Spoke S W s version bound (traffic_of t.unread t.left t.held holds) r w (outcome_of o.sent stop)
  stopped-speaks s version bound o t holds r w broken stop x leaves few = record {
    bytes = x.bytes;
    are_bytes = x.are_bytes;
    read = x.read;
    bears = bears s version o t holds r w broken x.bytes stop x.why leaves;
    few = by stop;
  } where
    by : (stop : Stop) → sent_in (outcome_of o.sent stop) ≤ bound
    by (stops.Refused code) = few
    by (stops.PeerRefused code) = few
    by stops.Memory = few
    by (stops.Io side) = few

  -- one that was talked to its end
  pub finished-speaks : (s : Speaker F) (e : End F) (version bound : ℕ) (o : SenderState) (t : Traffic)
      (r w : Seen) →
      Finished S W s e o t → o.sent ≤ bound →
      Spoke S W s version bound t r w (outcomes.Ended e.learned o.sent version)
  finished-speaks s e version bound o t r w f few = record {
    bytes = f.bytes;
    are_bytes = f.are_bytes;
    read = f.read;
    bears =
        let all = all-after s version t t.holds f.bytes r w o.sent (Keeps-refl t.holds) f.said f.called in (
          all.written,
          all.wrote,
          (
            record {
              wrote = all.account;
              over = subst (λ (x : End F). IsTrue (is_over x.stage)) f.end f.over;
              learned_is = ap (λ (x : End F). x.learned) f.end;
              version_is = refl;
            },
            f.called,
          ),
        );
    few = few;
  }

  -- ---- before a history is looked at

  pub anyhow : (s : Speaker F) (o : SenderState) (t : Traffic) (r : Seen) (broken : Bool) (bytes : List ℕ)
      (stop : Stop) →
      WhyStopped S W IsNone s o t r broken bytes stop → WhyStopped S W (IsTimely o.sent) s o t r broken bytes stop
  anyhow s o t r broken bytes (stops.Refused code) (wrote, inl first) = (wrote, inl first)
  anyhow s o t r broken bytes (stops.Refused code) (wrote, inr none) = absurd none
  anyhow s o t r broken bytes (stops.PeerRefused code) x = x
  anyhow s o t r broken bytes stops.Memory x = x
  anyhow s o t r broken bytes (stops.Io side) x = x

  pub stopped-anyhow : (s : Speaker F) (o : SenderState) (t : Traffic) (r : Seen) (broken : Bool) (stop : Stop) →
      Stopped S W IsNone s o t r broken stop → Stopped S W (IsTimely o.sent) s o t r broken stop
  stopped-anyhow s o t r broken stop x =
      record { bytes = x.bytes; are_bytes = x.are_bytes; read = x.read; why = anyhow s o t r broken x.bytes stop x.why }

  only-first : (s : Speaker F) (version : ℕ) (bytes written : List ℕ) (r w : Seen) (k code : ℕ) →
      IsFirst S W s r.ended bytes k code ⊎ IsNone (length (called_by S W s bytes)) code →
      IsFirstFault S W (call_of s version bytes written r w) k code
  only-first s version bytes written r w k code x = by (why IsNone s version bytes written r w k code x) where
    by : IsFirstFault S W (call_of s version bytes written r w) k code ⊎ IsNone (length (called_by S W s bytes)) code →
        IsFirstFault S W (call_of s version bytes written r w) k code
    by (inl first) = first
    by (inr none) = absurd none

  pub bears-unopened : (s : Speaker F) (version : ℕ) (o : SenderState) (t : Traffic) (holds : Option (List ℕ))
      (r w : Seen) (broken : Bool) (bytes : List ℕ) (stop : Stop) →
      WhyStopped S W IsNone s o t r broken bytes stop → Leaves W o t.holds holds broken w.failed stop →
      BearsUnopened S W s version (traffic_of t.unread t.left t.held holds) r w bytes (outcome_of o.sent stop)
  bears-unopened s version o t holds r w broken bytes (stops.Refused code) y l =
      let f = frame-after s version o t holds bytes r w code y.0 l in
      let first = only-first s version bytes f.written r w o.sent code y.1 in
      (f.written, f.wrote, (record { wrote = f.account; why = inl first }, first))
  bears-unopened s version o t holds r w broken bytes (stops.PeerRefused code) y l =
      bears s version o t holds r w broken bytes (stops.PeerRefused code)
      (anyhow s o t r broken bytes (stops.PeerRefused code) y) l
  bears-unopened s version o t holds r w broken bytes stops.Memory y l =
      bears s version o t holds r w broken bytes stops.Memory (anyhow s o t r broken bytes stops.Memory y) l
  bears-unopened s version o t holds r w broken bytes (stops.Io side) y l =
      bears s version o t holds r w broken bytes (stops.Io side) y l

  pub stopped-unopened : (s : Speaker F) (version : ℕ) (o : SenderState) (t : Traffic) (holds : Option (List ℕ))
      (r w : Seen) (broken : Bool) (stop : Stop) →
      Stopped S W IsNone s o t r broken stop →
      Leaves W o t.holds holds broken w.failed stop →
      SpeaksUnopened S W s version (traffic_of t.unread t.left t.held holds) r w (outcome_of o.sent stop)
  stopped-unopened s version o t holds r w broken stop x leaves = record {
    bytes = x.bytes;
    read = x.read;
    bears = bears-unopened s version o t holds r w broken x.bytes stop x.why leaves;
  }

  -- ---- all that an outcome says

  pub speaks : (A : Type 0) (s : Speaker F) (version bound limit : ℕ) (t : Traffic) (r w : Seen) (o : Outcome) →
      Spoke S W s version bound t r w o →
      ((bytes : List ℕ) → IsBytes bytes → A → KeepsBounds S W s bytes bound limit) →
      Speaks S W A s version bound limit t r w o
  speaks A s version bound limit t r w o x bounded =
      record {
        bytes = x.bytes;
        read = x.read;
        bears = x.bears;
        sent = x.few;
        bounded = bounded x.bytes x.are_bytes;
        is_few = λ fits written. let kept = bounded x.bytes x.are_bytes fits in
            record { few = kept.few_called; short = kept.short_called };
      }

  -- a session of either side over a pin of the history that was found
  pub of-pin : (A : Type 0) (s : Peer → Speaker F) (k : ℕ) (a b : Checked) (w : View) (pin : PinState) (t : Traffic)
      (r x : Seen) (o : Outcome) →
      IsPinOf pin w → b ≡ a →
      Spoke S W (s (peer_of b pin.items)) pin.version (rank_by b.steps (length pin.items) + k) t r x o →
      ((bytes : List ℕ) → IsBytes bytes → A →
      KeepsBounds S W (s (peer_at a w)) bytes (rank_by a.steps (length (content w.base)) + k) a.table.limit) →
      Speaks S W A (s (peer_at a w)) (length w.base) (rank_by a.steps (length (content w.base)) + k) a.table.limit t r x
      o
  of-pin A s k a b w pin t r x o is same spoke bounded =
      let of_set = subst (λ (l : List Item). Spoke S W (s (peer_of b l)) pin.version
      (rank_by b.steps (length l) + k) t r x o) is.items_are spoke in
      let of_version = subst (λ (v : ℕ). Spoke S W (s (peer_of b (content w.base))) v
      (rank_by b.steps (length (content w.base)) + k) t r x o) is.version_is of_set in
      let of_table = subst (λ (d : Checked). Spoke S W (s (peer_of d (content w.base))) (length w.base)
      (rank_by d.steps (length (content w.base)) + k) t r x o) same of_version in
      speaks A (s (peer_at a w)) (length w.base)
      (rank_by a.steps (length (content w.base)) + k) a.table.limit t r x o of_table bounded
