-- What is kept of a session: how it begins, and what a delivery makes of it.
-- What is kept is two ends, the message made last and the greatest number of parts so far. It begins with the
-- initiator's end and the opening; the responder has no end yet, and every version of it would do.
-- A delivery: the two versions are sets within their nodes' caps, so both ends hand each other the talk of these two
-- peers (Turns), whose messages all may be sent. If d messages were delivered, what is kept is of the first d messages
-- of that talk (`Holds`), also if the responder's version is chosen only now. Message number d is heard by the
-- responder if d is even, and otherwise by the initiator. That end does not refuse it. Its answer is message number d
-- + 1, which is then the message made last, or the session has ended. So what is kept after the delivery is of d + 1
-- messages, and the greatest number of parts grows by the new message alone.
-- docs/LAWS.md: What a session keeps (`sessions_open`, `sessions_go_on`).
use Rattle.std.proofs.Common.{◌≡◌, ℕ, zero, suc, ◌+◌, ◌<◌, ◌≤◌, Bool, true, false, List, [], ◌∷◌, ◌++◌, length, max}
use Rattle.std.proofs.Common.{slice_get, Option, Some, None, unwrap_or, if◌then◌else◌, refl, sym, ap, ◌∙◌, arith}
use Rattle.std.specs.Prelude.{IfSome, ◌==◌}
use Rattle.definitions.proofs.Words.{AllByRecursion, of_first, of_second, Summary, IsExact, Message, has_open, Peer}
use Rattle.definitions.proofs.Words.{opening, reply, sender, talk, Ready, End, Ends, Replies, after, answer, initiator}
use Rattle.definitions.proofs.Words.{initiator_at, responder, responder_at, IsNode, World, Session, node_at, peer_at}
use Rattle.definitions.proofs.Words.{initiator_of, responder_of, messages, has_ended, most_parts, no_node, ranks_by}
use Rattle.definitions.specs.Worlds.{after_delivery}
use Rattle.definitions.proofs.Lemmas.{All-at, append-nil, eq-eqb, eqb-true, length-append}
use Rattle.std.proofs.lemmas.Option.{slice_get_within}
use Rattle.laws.specs.Growing.{is_even}
use Rattle.laws.specs.Turns.{TakeTurns, hearer_at}
use Rattle.laws.specs.Sessions.{Kept, Keeps, SessionsOpen, responder_now, hearer_now, kept_after, SessionsGoOn}
use Rattle.laws.proofs.Runs.{peer_at-IsSet, length-version}
use Rattle.laws.proofs.Saying.{ends_keep_peers}
use Rattle.laws.proofs.Turns.{talks_go_on, ends_hear, ends_talk}
use Rattle.laws.proofs.Knowledge.{turned, talks_grow}
use Rattle.laws.proofs.Few.{most_parts-append}

-- ==== A session that is opened

-- the most parts of one message
alone : {F : Type 0} (M : Message F) (b : Bool) → length M ≡ most_parts (M ∷ (if b then [] else []))
alone M true = omega arith
alone M false = omega arith

pub sessions_open : {F : Type 0} (S : Summary F) → SessionsOpen S
sessions_open S w i r here there = record {
  initiator_there = here;
  responder_there = there;
  initiator_version = omega arith;
  responder_version = tt;
  unheard = (λ e. refl, λ e. refl);
  initiator = refl;
  responder = refl;
  last = λ e. refl;
  parts = alone (opening S (peer_at w i (length (node_at w i).history)))
      (has_open (opening S (peer_at w i (length (node_at w i).history))));
}

-- ==== The two peers of a session are ready

peer_ready : (w : World) (n v : ℕ) → AllByRecursion IsNode w.nodes → n < length w.nodes →
    Ready (peer_at w n v) (ranks_by (node_at w n).steps (node_at w n).table.cap)
peer_ready w n v nodes there =
    let fit : IsNode (node_at w n) = All-at IsNode w.nodes n no_node there nodes in
    record {
      ranks = fit.serves.ranks;
      set = peer_at-IsSet w n v;
      room = omega (arith, length-version (node_at w n).history v, fit.room);
    }

peer_small : (w : World) (n v : ℕ) → AllByRecursion IsNode w.nodes → n < length w.nodes →
    length (peer_at w n v).items ≤ 65536
peer_small w n v nodes there =
    let fit : IsNode (node_at w n) = All-at IsNode w.nodes n no_node there nodes in
    omega (arith, length-version (node_at w n).history v, fit.room, fit.table.cap_upto)

pub peers_talk : {F : Type 0} (S : Summary F) (w : World) (i v r u d : ℕ) → IsExact S → AllByRecursion IsNode w.nodes →
    i < length w.nodes → r < length w.nodes →
    TakeTurns S (peer_at w i v) (peer_at w r u) d
peers_talk S w i v r u d exact nodes here there =
    ends_talk S exact (peer_at w i v) (peer_at w r u) _ _ d (peer_ready w i v nodes here) (peer_ready w r u nodes there)
    (peer_small w i v nodes here) (peer_small w r u nodes there)

-- ==== A delivery

-- ---- what is kept is of the talk with the responder's version, also where that is chosen now

-- two ends, e the responder's, and the message made last, of a talk of which d messages were delivered
record Holds {F : Type 0} (S : Summary F) (I R : Peer) (d : ℕ) (k : Kept F) (e : End F) : Type 0 where
  initiator : k.initiator ≡ initiator_at S I R d
  responder : e ≡ responder_at S I R d
  begun : is_even d ≡ false → k.responder ≡ Some e
  last : slice_get (talk S I R (d + 1)) d ≡ Some k.last
  parts : k.parts ≡ most_parts (talk S I R (d + 1))

abbrev HoldsNow : {F : Type 0} → Summary F → World → Session → Kept F → Type 0
HoldsNow S w s k = Keeps S w s k → has_ended S w s ≡ false →
    Holds S (initiator_of w s) (responder_of w (after_delivery w s)) s.delivered k (responder_now S w s k)

is_some : {X : Type 0} (o : Option X) (x y : X) → o ≡ Some x → unwrap_or o y ≡ x
is_some o x y e = ap (λ o. unwrap_or o y) e

holds_by : {F : Type 0} (S : Summary F) (w : World) (i r v : ℕ) (o : Option ℕ) (d : ℕ) (k : Kept F) →
    HoldsNow S w record {
      initiator_node = i;
      responder_node = r;
      initiator_version = v;
      responder_version = o;
      delivered = d;
    } k
holds_by S w i r v (Some u) d k h going =
    let same = is_some k.responder _ (responder S (peer_at w r (length (node_at w r).history))) h.responder in
    record {
      initiator = h.initiator;
      responder = same;
      begun = λ odd. h.responder ∙ ap Some (sym same);
      last = h.last going;
      parts = h.parts;
    }
holds_by S w i r v None zero k h going = record {
  initiator = h.initiator;
  responder = ap (λ o. unwrap_or o (responder S (peer_at w r (length (node_at w r).history)))) h.responder;
  begun = λ odd. absurd cc;
  last = h.last going;
  parts = h.parts;
}
holds_by S w i r v None (suc d) k h going = absurd (omega (arith, h.unheard.0 refl))

holds_now : {F : Type 0} (S : Summary F) (w : World) (s : Session) (k : Kept F) → HoldsNow S w s k
holds_now S w s k = holds_by S w s.initiator_node s.responder_node s.initiator_version s.responder_version s.delivered k

-- ---- who hears, and what

-- the sender of message number d
sender_by : (I R : Peer) (d : ℕ) → sender I R d ≡ (if is_even d then I else R)
sender_by I R zero = refl
sender_by I R (suc d) = sender_by R I d ∙ turned (is_even d) I R

hearer_by : {F : Type 0} (b : Bool) (d e : End F) (I R : Peer) → d.peer ≡ I → e.peer ≡ R →
    (if b then e else d).peer ≡ (if b then R else I)
hearer_by true d e I R p q = q
hearer_by false d e I R p q = p

pub initiator_peer : {F : Type 0} (S : Summary F) (I R : Peer) (d : ℕ) → (initiator_at S I R d).peer ≡ I
initiator_peer S I R d = ends_keep_peers S (initiator S I) (of_second (talk S I R d))

pub responder_peer : {F : Type 0} (S : Summary F) (I R : Peer) (d : ℕ) → (responder_at S I R d).peer ≡ R
responder_peer S I R d = ends_keep_peers S (responder S R) (of_first (talk S I R d))

-- the end that hears the message made last is the one of the talk, and answers it
held_hearer : {F : Type 0} {S : Summary F} {I R : Peer} {d : ℕ} {k : Kept F} {e : End F} → Holds S I R d k e →
    (if is_even d then e else k.initiator) ≡ hearer_at S I R d
held_hearer {d = d} h i = if is_even d then h.responder i else h.initiator i

held_answer : {F : Type 0} {S : Summary F} {I R : Peer} {d : ℕ} {k : Kept F} {e : End F} → Holds S I R d k e →
    TakeTurns S I R d →
    let c = if is_even d then e else k.initiator in
    answer S c k.last ≡ (if has_open k.last then Replies (reply S c.peer k.last) else Ends)
held_answer {S = S} {I = I} {R = R} {d = d} {k = k} {e = e} h turn =
    let hearer = held_hearer h in
    let one : d + 1 ≡ suc d = omega arith in
    let who : sender I R (d + 1) ≡ (if is_even d then e else k.initiator).peer =
    ap (sender I R) one ∙ sender_by R I d ∙ sym (hearer_by (is_even d) (initiator_at S I R d) (responder_at S I R d) I R
    (initiator_peer S I R d) (responder_peer S I R d)) ∙ ap (λ c. c.peer) (sym hearer) in
    ap (λ c. answer S c k.last) hearer ∙ turn.answered k.last h.last
    ∙ ap (λ P. if has_open k.last then Replies (reply S P k.last) else Ends) who

-- ---- what is kept after it

-- two ends, the message made last, and the most parts of a message
record Is {F : Type 0} (k : Kept F) (d e : End F) (N : Message F) (n : ℕ) : Type 0 where
  initiator : k.initiator ≡ d
  responder : k.responder ≡ Some e
  last : k.last ≡ N
  parts : k.parts ≡ n

abbrev kept_by : {F : Type 0} → Bool → Kept F → End F → Message F → ℕ → Kept F
kept_by b k e N n = if b then record { initiator = k.initiator; responder = Some e; last = N; parts = n }
    else record { initiator = e; responder = k.responder; last = N; parts = n }

kept_is : {F : Type 0} (S : Summary F) (b : Bool) (k : Kept F) (e i r j t : End F) (M N : Message F) (n : ℕ) →
    k.initiator ≡ i → e ≡ r → (b ≡ false → k.responder ≡ Some e) →
    j ≡ (if b then i else after S i M) → t ≡ (if b then after S r M else r) →
    Is (kept_by b k (after S (if b then e else k.initiator) M) N n) j t N n
kept_is S true k e i r j t M N n here there begun p q = record {
  initiator = here ∙ sym p;
  responder = ap Some (ap (λ c. after S c M) there ∙ sym q);
  last = refl;
  parts = refl;
}
kept_is S false k e i r j t M N n here there begun p q = record {
  initiator = ap (λ c. after S c M) here ∙ sym p;
  responder = begun refl ∙ ap Some (there ∙ sym q);
  last = refl;
  parts = refl;
}

held_after : {F : Type 0} {S : Summary F} {I R : Peer} {d : ℕ} {k : Kept F} {e : End F} → Holds S I R d k e →
    (N : Message F) (n : ℕ) →
    Is (kept_by (is_even d) k (after S (if is_even d then e else k.initiator) k.last) N n) (initiator_at S I R (d + 1))
    (responder_at S I R (d + 1)) N n
held_after {S = S} {I = I} {R = R} {d = d} {k = k} {e = e} h N n =
    let hears = ends_hear S I R d k.last h.last in
    kept_is S (is_even d) k e (initiator_at S I R d) (responder_at S I R d) (initiator_at S I R (d + 1))
    (responder_at S I R (d + 1)) k.last N n h.initiator h.responder h.begun hears.initiator hears.responder

-- the number of the version that is chosen, or was
chosen : (o : Option ℕ) (top : ℕ) → IfSome o (λ v. v ≤ top) → unwrap_or o top ≤ top
chosen None top h = omega arith
chosen (Some v) top h = h

keeps_next : {F : Type 0} (S : Summary F) (w : World) (s : Session) (k l : Kept F) (N : Message F) (n : ℕ) →
    Keeps S w s k →
    Is l (initiator_at S (initiator_of w s) (responder_of w (after_delivery w s)) (s.delivered + 1))
    (responder_at S (initiator_of w s) (responder_of w (after_delivery w s)) (s.delivered + 1)) N n →
    (has_ended S w (after_delivery w s) ≡ false →
    slice_get (messages S w (after_delivery w s)) (s.delivered + 1) ≡ Some N) →
    n ≡ most_parts (messages S w (after_delivery w s)) → Keeps S w (after_delivery w s) l
keeps_next S w s k l N n h is last most = record {
  initiator_there = h.initiator_there;
  responder_there = h.responder_there;
  initiator_version = h.initiator_version;
  responder_version = chosen s.responder_version (length (node_at w s.responder_node).history) h.responder_version;
  unheard = (λ e. absurd cc, λ e. absurd (omega arith));
  initiator = is.initiator;
  responder = is.responder;
  last = λ going. last going ∙ ap Some (sym is.last);
  parts = is.parts ∙ most;
}

-- ---- the message after it, if there is one

-- message number d is M, so many are there after it
record Comes {F : Type 0} (S : Summary F) (I R : Peer) (d : ℕ) (M : Message F) : Type 0 where
  more : has_open M ≡ true → slice_get (talk S I R (d + 1 + 1)) (d + 1) ≡ Some (reply S (sender I R (d + 1)) M)
  going : has_open M ≡ true → (length (talk S I R (d + 1 + 1)) == d + 1) ≡ false
  over : has_open M ≡ false → (length (talk S I R (d + 1 + 1)) == d + 1) ≡ true
  -- so many parts the greatest of them has
  most : has_open M ≡ true → most_parts (talk S I R (d + 1 + 1))
      ≡ max (most_parts (talk S I R (d + 1))) (length (reply S (sender I R (d + 1)) M))
  same : has_open M ≡ false → most_parts (talk S I R (d + 1 + 1)) ≡ most_parts (talk S I R (d + 1))

pub more_than : (a b : ℕ) → b < a → (a == b) ≡ false
more_than a b h = grind (arith, eqb-true)

not_last : {X : Type 0} (xs : List X) (n : ℕ) (x : X) → slice_get xs n ≡ Some x → (length xs == n) ≡ false
not_last xs n x h = more_than (length xs) n (slice_get_within xs n x h)

most_parts_on : {F : Type 0} (Ms : List (Message F)) (N : Message F) (b : Bool) → b ≡ true →
    most_parts (Ms ++ (if b then N ∷ [] else [])) ≡ max (most_parts Ms) (length N)
most_parts_on Ms N true e = omega (arith, most_parts-append Ms (N ∷ []))
most_parts_on Ms N false e = absurd cc

most_parts_still : {F : Type 0} (Ms : List (Message F)) (N : Message F) (b : Bool) → b ≡ false →
    most_parts (Ms ++ (if b then N ∷ [] else [])) ≡ most_parts Ms
most_parts_still Ms N true e = absurd cc
most_parts_still Ms N false e = ap most_parts (append-nil Ms)

comes : {F : Type 0} (S : Summary F) (I R : Peer) (d : ℕ) (M : Message F) → slice_get (talk S I R (d + 1)) d ≡ Some M →
    Comes S I R d M
comes S I R d M h =
    let two : d + 1 + 1 ≡ d + 2 = omega arith in
    let is = talks_go_on S I R d M h in
    let more : has_open M ≡ true → slice_get (talk S I R (d + 1 + 1)) (d + 1) ≡ Some (reply S (sender I R (d + 1)) M) =
    λ o. ap (λ n. slice_get (talk S I R n) (d + 1)) two ∙ is.next
    ∙ ap (λ b. if b then Some (reply S (sender I R (d + 1)) M) else None) o in
    record {
      more = more;
      going = λ o. not_last (talk S I R (d + 1 + 1)) (d + 1) (reply S (sender I R (d + 1)) M) (more o);
      over = λ o.
          let grown : talk S I R (d + 1 + 1) ≡ (talk S I R d ++ M ∷ []) ++ [] =
          ap (talk S I R) two ∙ talks_grow S I R d M h
          ∙ (λ i. is.last i ++ (if o i then reply S (sender I R (d + 1)) M ∷ [] else [])) in
          let all : length (talk S I R (d + 1 + 1)) ≡ d + 1 = omega (
            arith,
            ap length grown,
            is.number,
            length-append (talk S I R d ++ M ∷ []) [],
            length-append (talk S I R d) (M ∷ []),
          ) in
          eq-eqb (length (talk S I R (d + 1 + 1))) (d + 1) all;
      most = λ o. ap (λ n. most_parts (talk S I R n)) two ∙ ap most_parts (talks_grow S I R d M h)
          ∙ most_parts_on (talk S I R (d + 1)) (reply S (sender I R (d + 1)) M) (has_open M) o;
      same = λ o. ap (λ n. most_parts (talk S I R n)) two ∙ ap most_parts (talks_grow S I R d M h)
          ∙ most_parts_still (talk S I R (d + 1)) (reply S (sender I R (d + 1)) M) (has_open M) o;
    }

-- what is answered tells which
replies_if : {F : Type 0} (b : Bool) (M N : Message F) → (if b then Replies M else Ends) ≡ Replies N →
    (b ≡ true) × (M ≡ N)
replies_if true M N e = (refl, cc)
replies_if false M N e = absurd cc

ends_if : {F : Type 0} (b : Bool) (M : Message F) → (if b then Replies M else Ends) ≡ Ends → b ≡ false
ends_if true M e = absurd cc
ends_if false M e = refl

pub sessions_go_on : {F : Type 0} (S : Summary F) → SessionsGoOn S
sessions_go_on {F} S exact w s k nodes h going =
    let I : Peer = initiator_of w s in
    let R : Peer = responder_of w (after_delivery w s) in
    let d : ℕ = s.delivered in
    let held = holds_now S w s k h going in
    let turn = peers_talk S w s.initiator_node s.initiator_version s.responder_node (unwrap_or s.responder_version
    (length (node_at w s.responder_node).history)) d exact nodes h.initiator_there h.responder_there in
    let taken = held_answer held turn in
    let next = comes S I R d k.last held.last in
    let said = turn.answered k.last held.last in
    let hearer = held_hearer held in
    record {
      replied = λ N e.
          let by = replies_if (has_open k.last) (reply S (sender I R (d + 1)) k.last) N
          (sym said ∙ ap (λ c. answer S c k.last) (sym hearer) ∙ e) in (
            keeps_next S w s k (kept_after s k (after S (hearer_now S w s k) k.last) N (max k.parts (length N))) N
                (max k.parts (length N)) h (held_after held N (max k.parts (length N)))
                (λ on. next.more by.0 ∙ ap Some by.1)
                (ap (λ n. max n (length N)) held.parts
                ∙ sym (next.most by.0 ∙ ap (λ M. max (most_parts (talk S I R (d + 1))) (length M)) by.1)),
            next.going by.0,
          );
      ended = λ e.
          let by = ends_if (has_open k.last) (reply S (sender I R (d + 1)) k.last)
          (sym said ∙ ap (λ c. answer S c k.last) (sym hearer) ∙ e) in
          let over = next.over by in (
            keeps_next S w s k (kept_after s k (after S (hearer_now S w s k) k.last) k.last k.parts) k.last k.parts h
                (held_after held k.last k.parts) (λ on. absurd cc)
                (held.parts ∙ sym (next.same by)),
            over,
          );
      taken = taken;
    }
