-- Runs of nodes and sessions: each session is sound; what histories have, where it comes from, and what is absorbed.
-- A set never outgrows its node's cap: an insert adds an item only below the cap, and an Absorb is inserts. So every
-- step keeps that each node is a node, with an accepted table and a set within its cap, and that sessions are among
-- nodes that are there (`IsSteady`). So the two peers of a session are ready for the laws of talks, and the bound that
-- a report shows is the one by the ranks that the node keeps. From these laws come few messages, short lists, both
-- differences and nothing wrong; parts are few is Few.
-- Convergence: an absorbing node takes each item in turn until it is at its cap. If it stays below, it has taken all,
-- and all that its version had is still there.
-- Provenance: follow one item x back through the steps. An insert brings it, or some history had it before; an
-- absorbed item is one that the other side's version had, since nothing wrong is learned, and that version is a
-- beginning of a history.
-- docs/LAWS.md: The main law; Provenance; Convergence.
use Rattle.std.proofs.Common.{◌≡◌, ℕ, ◌+◌, List, length, take, unwrap_or, IsTrue, sym, subst, arith, suc, ◌≤◌, false}
use Rattle.std.proofs.Common.{[], ◌∷◌, ◌++◌, drop, refl, ap, ◌∙◌, zero, ◌<◌, Bool, true, set, Option, Some, None}
use Rattle.std.proofs.Common.{length-set, ◌⊎◌, not, ◌||◌, fold, if◌then◌else◌, inl, inr, slice_get, slice_index_or}
use Rattle.std.specs.Prelude.{nat_lt, option_map}
use Rattle.definitions.proofs.Words.{AllByRecursion, list_any, IsSet, has, add_item, union, set_of, difference, Summary}
use Rattle.definitions.proofs.Words.{IsExact, Message, IsClear, initiator_knows, responder_knows, Knowledge, items_of}
use Rattle.definitions.proofs.Words.{History, content, version, Insertion, New, Already, Full, insertion, history_after}
use Rattle.definitions.proofs.Words.{World, Session, node_at, peer_at, messages, has_ended, initiator_of, responder_of}
use Rattle.definitions.proofs.Words.{initiator_knowledge, responder_knowledge, Absorbing, absorb_by, absorb_one}
use Rattle.definitions.proofs.Words.{absorb_all, Node, Side, Initiator, Responder, Step, no_node, with_history}
use Rattle.definitions.proofs.Words.{insert_at, absorb_into, absorb_side, absorb_at, step, run, start, message_bound}
use Rattle.definitions.proofs.Words.{rank_of, KnowsDifference, Ready, rank, IsNode, IsSound, Headline, AbsorbClaim}
use Rattle.definitions.proofs.Words.{HistoryClaim, inserts, KnowsNothingWrong, Item, same_item, IsRankTable, ranks_by}
use Rattle.definitions.proofs.Lemmas.{common_steps, eqb-true, cond_both, ltb-true, ltb-false, or_cases, or_left}
use Rattle.definitions.proofs.Lemmas.{or_right, cases_lt, and_parts, cases_eq, take_all, take-append-drop, map-append}
use Rattle.definitions.proofs.Lemmas.{get_or-set_same, get_or_past, get_or-set_other, set_past, fold-append}
use Rattle.definitions.proofs.Lemmas.{list_any-append, list_any_at, bytes_eq-Decides, get_or_from_slice_get, All-map}
use Rattle.definitions.proofs.Lemmas.{All-append, All-at, same_item-itself}
use Rattle.laws.proofs.Checks.{ranks_by-at}
use Rattle.laws.proofs.Openings.{opened_is}
use Rattle.definitions.proofs.Words.{opened_of}
use Rattle.laws.proofs.Times.{set_of-IsSet, has-filter, has-set_of}
use Rattle.laws.proofs.Knowledge.{exact_knowledge, sound_knowledge}
use Rattle.laws.proofs.Ends.{messages_are_few, lists_are_short}

-- ==== The same of a session of a world: what its two sides know once it has ended

-- a peer of a session has a set
pub peer_at-IsSet : (w : World) (n v : ℕ) → IsSet (peer_at w n v).items
peer_at-IsSet w n v = set_of-IsSet (items_of (take v (node_at w n).history))

pub session_knowledge : {F : Type 0} (S : Summary F) (w : World) (s : Session) → IsExact S →
    IsTrue (has_ended S w s) → IsClear S (initiator_of w s).items (responder_of w s).items (messages S w s) →
    KnowsDifference (initiator_knowledge S w s) (initiator_of w s).items (responder_of w s).items
    × KnowsDifference (responder_knowledge S w s) (responder_of w s).items (initiator_of w s).items
session_knowledge {F} S w s exact ended clear =
    let Ms : List (Message F) = messages S w s in
    let all : length Ms ≡ s.delivered = eqb-true (length Ms) s.delivered ended in
    let both = exact_knowledge S exact (initiator_of w s) (responder_of w s) (s.delivered + 1)
    (peer_at-IsSet w s.initiator_node s.initiator_version)
    (peer_at-IsSet w s.responder_node (unwrap_or s.responder_version 0))
    (omega arith) clear in
    let whole : take s.delivered Ms ≡ Ms = take_all s.delivered Ms (omega arith) in (
      subst (λ Ns. KnowsDifference (initiator_knows (initiator_of w s).items Ns) (initiator_of w s).items
          (responder_of w s).items) (sym whole) both.0,
      subst (λ Ns. KnowsDifference (responder_knows (responder_of w s).items Ns) (responder_of w s).items
          (initiator_of w s).items) (sym whole) both.1,
    )

-- ==== Histories and their sets: a set never outgrows the cap of its node

pub length-add_item : (A : List Item) (x : Item) →
    (length A ≤ length (add_item A x)) × (length (add_item A x) ≤ suc (length A))
length-add_item [] x = (omega arith, omega arith)
length-add_item (a ∷ A) x = grind (arith, length-add_item A x)

pub length-union : (A xs : List Item) → length A ≤ length (union A xs)
length-union A [] = omega arith
length-union A (x ∷ xs) = omega (arith, (length-add_item A x).0, length-union (add_item A x) xs)

-- the whole is a version and the entries after it
pub content-union : (h : History) (v : ℕ) → content h ≡ union (version h v) (items_of (drop v h))
content-union h v =
    let parts : items_of h ≡ items_of (take v h) ++ items_of (drop v h) =
    ap items_of (sym (take-append-drop v h)) ∙ map-append (λ e. e.1) (take v h) (drop v h) in
    ap set_of parts ∙ fold-append add_item [] (items_of (take v h)) (items_of (drop v h))

-- so a version has no more items
pub length-version : (h : History) (v : ℕ) → length (version h v) ≤ length (content h)
length-version h v = omega (arith, ap length (content-union h v), length-union (version h v) (items_of (drop v h)))

-- ---- inserts

pub content-push : (h : History) (writer : ℕ) (x : Item) → content (h ++ (writer, x) ∷ []) ≡ add_item (content h) x
content-push h writer x =
    ap set_of (map-append (λ e. e.1) h ((writer, x) ∷ [])) ∙ fold-append add_item [] (items_of h) (x ∷ [])

-- an insert keeps within the cap
pub length-insertion : (top : ℕ) (h : History) (writer : ℕ) (x : Item) → length (content h) ≤ top →
    length (content (history_after h writer x (insertion top h x))) ≤ top
length-insertion top h writer x room =
    cond_both (has (content h) x) Already (if nat_lt (length (content h)) top then New (length h + 1) else Full)
    (λ i. length (content (history_after h writer x i)) ≤ top) (λ e. room)
    (λ e. cond_both (nat_lt (length (content h)) top) (New (length h + 1)) Full
    (λ i. length (content (history_after h writer x i)) ≤ top)
    (λ d. omega (
      arith,
      ltb-true (length (content h)) top d,
      ap length (content-push h writer x),
      (length-add_item (content h) x).1,
    ))
    (λ d. room))

pub history-absorb_by : (a : Absorbing) (x : Item) (i : Insertion) →
    (absorb_by a x i).history ≡ history_after a.history 0 x i
history-absorb_by a x i = grind arith

length-absorb_one : (top : ℕ) (a : Absorbing) (x : Item) → length (content a.history) ≤ top →
    length (content (absorb_one top a x).history) ≤ top
length-absorb_one top a x room = grind (arith, cond_both, room, history-absorb_by, length-insertion)

length-absorb_fold : (top : ℕ) (a : Absorbing) (xs : List Item) → length (content a.history) ≤ top →
    length (content (fold (absorb_one top) a xs).history) ≤ top
length-absorb_fold top a [] room = room
length-absorb_fold top a (x ∷ xs) room = length-absorb_fold top (absorb_one top a x) xs (length-absorb_one top a x room)

pub length-absorb_all : (top : ℕ) (h : History) (xs : List Item) → length (content h) ≤ top →
    length (content (absorb_all top h xs).history) ≤ top
length-absorb_all top h xs room = length-absorb_fold top (record { history = h; added = 0; full = false }) xs room

-- ==== Each session of each run is sound, and its messages have few parts

-- the session's nodes are among so many
pub record IsAmong (count : ℕ) (s : Session) : Type 0 where
  pub initiator : s.initiator_node < count
  pub responder : s.responder_node < count

pub record IsSteady (count : ℕ) (w : World) : Type 0 where
  pub nodes : AllByRecursion IsNode w.nodes
  pub size : length w.nodes ≡ count
  pub sessions : AllByRecursion (IsAmong count) w.sessions

pub All-slice_get : {X : Type 0} (P : X → Type 0) (xs : List X) (i : ℕ) (x : X) → slice_get xs i ≡ Some x →
    AllByRecursion P xs → P x
All-slice_get P [] i x e h = absurd (cc)
All-slice_get P (y ∷ ys) zero x e h = let same : y ≡ x = cc in subst P same h.0
All-slice_get P (y ∷ ys) (suc i) x e h = All-slice_get P ys i x e h.1

slice_get-lt : {X : Type 0} (xs : List X) (i : ℕ) (x : X) → slice_get xs i ≡ Some x → i < length xs
slice_get-lt [] i x e = absurd (cc)
slice_get-lt (y ∷ ys) zero x e = omega arith
slice_get-lt (y ∷ ys) (suc i) x e = omega (arith, slice_get-lt ys i x e)

pub All-set : {X : Type 0} (P : X → Type 0) (xs : List X) (i : ℕ) (x : X) → AllByRecursion P xs → P x →
    AllByRecursion P (set xs i x)
All-set P [] i x h k = tt
All-set P (y ∷ ys) zero x h k = (k, h.1)
All-set P (y ∷ ys) (suc i) x h k = (h.0, All-set P ys i x h.1 k)

-- ---- steps

with_history-IsSteady : (count : ℕ) (w : World) (n : ℕ) (node : Node) (h : History) → IsSteady count w → IsNode node →
    length (content h) ≤ node.table.cap →
    IsSteady count (with_history w n node h)
with_history-IsSteady count w n node h s f room = grind (arith, All-set, room, length-set)

insert-IsSteady : (count : ℕ) (w : World) (n : ℕ) (x : Item) (o : Option Node) → slice_get w.nodes n ≡ o →
    IsSteady count w → IsSteady count (insert_at w n x o).0
insert-IsSteady count w n x None e s = s
insert-IsSteady count w n x (Some node) e s =
    grind (arith, common_steps, All-slice_get, with_history-IsSteady, length-insertion)

node_at-IsNode : (count : ℕ) (w : World) (n : ℕ) → IsSteady count w → n < count → IsNode (node_at w n)
node_at-IsNode count w n s h = All-at IsNode w.nodes n no_node (omega (arith, s.size)) s.nodes

absorb_into-IsSteady : (count : ℕ) (w : World) (n : ℕ) (xs : List Item) → IsSteady count w → n < count →
    IsSteady count (absorb_into w n (node_at w n) xs).0
absorb_into-IsSteady count w n xs s h =
    grind (arith, common_steps, node_at-IsNode, with_history-IsSteady, length-absorb_all)

absorb_side-IsSteady : {F : Type 0} (S : Summary F) (count : ℕ) (w : World) (t : Session) (side : Side) →
    IsSteady count w → IsAmong count t → IsSteady count (absorb_side S w t side).0
absorb_side-IsSteady S count w t Initiator s a =
    absorb_into-IsSteady count w t.initiator_node (set_of (initiator_knowledge S w t).theirs) s a.initiator
absorb_side-IsSteady S count w t Responder s a =
    absorb_into-IsSteady count w t.responder_node (set_of (responder_knowledge S w t).theirs) s a.responder

absorb-IsSteady : {F : Type 0} (S : Summary F) (count : ℕ) (w : World) (k : ℕ) (side : Side) (o : Option Session) →
    slice_get w.sessions k ≡ o → IsSteady count w →
    IsSteady count (absorb_at S w side o).0
absorb-IsSteady S count w k side o e s = grind (arith, cond_both, absorb_side-IsSteady, All-slice_get)

step-IsSteady : {F : Type 0} (S : Summary F) (count : ℕ) (w : World) (e : Step) → IsSteady count w →
    IsSteady count (step S w e).0
step-IsSteady S count w e s = grind
    (arith, insert-IsSteady, slice_get, absorb-IsSteady, All-append, slice_get-lt, cond_both, All-slice_get, All-set)

pub run-IsSteady : {F : Type 0} (S : Summary F) (count : ℕ) (w : World) (steps : List Step) → IsSteady count w →
    IsSteady count (run S w steps)
run-IsSteady S count w [] s = s
run-IsSteady S count w (e ∷ es) s = run-IsSteady S count (step S w e).0 es (step-IsSteady S count w e s)

pub start-IsSteady : (nodes : List Node) → AllByRecursion IsNode nodes → IsSteady (length nodes) (start nodes)
start-IsSteady nodes h = record {
  nodes = h;
  size = refl;
  sessions = tt;
}

-- ---- sessions

peer_at-Ready : (count : ℕ) (w : World) (n v : ℕ) (f : List ℕ) → IsSteady count w → n < count →
    IsRankTable (peer_at w n v).table f → Ready (peer_at w n v) f
peer_at-Ready count w n v f s h r =
    let fit = node_at-IsNode count w n s h in
    record {
      ranks = r;
      set = peer_at-IsSet w n v;
      room = omega (arith, length-version (node_at w n).history v, fit.room);
    }

peer_at-room : (count : ℕ) (w : World) (n v : ℕ) → IsSteady count w → n < count →
    length (peer_at w n v).items ≤ (peer_at w n v).table.cap
peer_at-room count w n v s h = let fit = node_at-IsNode count w n s h in
    omega (arith, length-version (node_at w n).history v, fit.room)

-- the rank by the steps that a node keeps
rank-kept : (count : ℕ) (w : World) (n v : ℕ) → IsSteady count w → n < count →
    rank_of (node_at w n).steps (peer_at w n v)
    ≡ rank (ranks_by (node_at w n).steps (node_at w n).table.cap) (peer_at w n v)
rank-kept count w n v s h = sym (ranks_by-at (node_at w n).steps (node_at w n).table.cap (length (peer_at w n v).items)
    (peer_at-room count w n v s h))

kept_bound : {F : Type 0} (S : Summary F) (count : ℕ) (w : World) (t : Session) → IsSteady count w → IsAmong count t →
    length (messages S w t) ≤ message_bound
    (opened_of S (node_at w t.initiator_node).steps (initiator_of w t))
    (rank_of (node_at w t.responder_node).steps (responder_of w t))
kept_bound S count w t s a =
    let i = node_at-IsNode count w t.initiator_node s a.initiator in
    let r = node_at-IsNode count w t.responder_node s a.responder in
    omega (
      arith,
      opened_is S (node_at w t.initiator_node).steps (initiator_of w t)
          (peer_at-Ready count w t.initiator_node t.initiator_version _ s a.initiator i.serves.ranks),
      rank-kept count w t.responder_node (unwrap_or t.responder_version 0) s a.responder,
      messages_are_few S (initiator_of w t) (responder_of w t) _ _ (t.delivered + 1)
          (peer_at-Ready count w t.initiator_node t.initiator_version _ s a.initiator i.serves.ranks)
          (peer_at-Ready count w t.responder_node _ _ s a.responder r.serves.ranks),
    )

-- a bound is shown once the responder has a version
shown : (m b c : ℕ) (version : Option ℕ) → m ≤ b → option_map (λ v. b) version ≡ Some c → m ≤ c
shown m b c version h e = grind arith

pub session-IsSound : {F : Type 0} (S : Summary F) (count : ℕ) (w : World) (t : Session) → IsSteady count w →
    IsAmong count t → IsSound S w t
session-IsSound S count w t s a =
    let i = node_at-IsNode count w t.initiator_node s a.initiator in
    let r = node_at-IsNode count w t.responder_node s a.responder in
    record {
      few_messages = λ f g p q. messages_are_few S (initiator_of w t) (responder_of w t) f g
          (t.delivered + 1) (peer_at-Ready count w t.initiator_node t.initiator_version f s a.initiator p)
          (peer_at-Ready count w t.responder_node _ g s a.responder q);
      reported = λ b e. shown _ _ b t.responder_version (kept_bound S count w t s a) e;
      short_lists = lists_are_short S (initiator_of w t) (responder_of w t)
          (t.delivered + 1) i.table r.table i.accepted r.accepted
          (peer_at-room count w t.initiator_node t.initiator_version s a.initiator)
          (peer_at-room count w t.responder_node _ s a.responder);
      exact_knowledge = λ exact ended clear. session_knowledge S w t exact ended clear;
    }

pub headline : {F : Type 0} (S : Summary F) → Headline S
headline S nodes steps h =
    let w = run S (start nodes) steps in
    let steady = run-IsSteady S (length nodes) (start nodes) steps (start-IsSteady nodes h) in
    All-map (IsAmong (length nodes)) (IsSound S w)
    (λ t a. session-IsSound S (length nodes) w t steady a) w.sessions steady.sessions

-- ==== A node that absorbs what a side of an ended session learned has all that either side had

-- ---- histories

pub has-content : (h : History) (x : Item) → has (content h) x ≡ has (items_of h) x
has-content h x = has-set_of (items_of h) x

pub has-items_of-append : (h g : History) (x : Item) →
    has (items_of (h ++ g)) x ≡ (has (items_of h) x || has (items_of g) x)
has-items_of-append h g x =
    ap (λ l. has l x) (map-append (λ e. e.1) h g) ∙ list_any-append (same_item x) (items_of h) (items_of g)

-- a longer history has what a beginning of it has
has-content_more : (h g : History) (x : Item) → has (content h) x ≡ true → has (content (h ++ g)) x ≡ true
has-content_more h g x e = grind (arith, has-content, has-items_of-append, or_left)

pub has-version : (h : History) (v : ℕ) (x : Item) → has (version h v) x ≡ true → has (content h) x ≡ true
has-version h v x e =
    subst (λ g. has (content g) x ≡ true) (take-append-drop v h) (has-content_more (take v h) (drop v h) x e)

-- ---- absorbing

absorb_full : (cap : ℕ) (a : Absorbing) (xs : List Item) → a.full ≡ true →
    (fold (absorb_one cap) a xs).history ≡ a.history
absorb_full cap a [] h = refl
absorb_full cap a (x ∷ xs) h =
    let e : absorb_one cap a x ≡ record a { full = true } =
    ap (λ b. absorb_by a x (if b then Full else insertion cap a.history x)) h in
    ap (λ b. (fold (absorb_one cap) b xs).history) e ∙ absorb_full cap (record a { full = true }) xs refl

-- there was no room for one more item
record Filled (cap : ℕ) (a b : Absorbing) : Type 0 where
  full : b.full ≡ true
  at_cap : cap ≤ length (content a.history)
  same : b.history ≡ a.history

-- one more item was put in, or was there
record Taken (x : Item) (a b : Absorbing) : Type 0 where
  room : b.full ≡ false
  new : has (content b.history) x ≡ true
  keeps : (z : Item) → has (content a.history) z ≡ true → has (content b.history) z ≡ true

absorb_one-cases : (cap : ℕ) (a : Absorbing) (x : Item) → a.full ≡ false →
    Filled cap a (absorb_one cap a x) ⊎ Taken x a (absorb_one cap a x)
absorb_one-cases cap a x room = grind
    (arith, room, has-content_more, ltb-false, has-content, has-items_of-append, or_right, or_left, same_item-itself)

-- a set that stays below the cap takes every item
absorb-takes : (cap : ℕ) (xs : List Item) (a : Absorbing) → a.full ≡ false →
    length (content (fold (absorb_one cap) a xs).history) < cap →
    (z : Item) → (has xs z || has (content a.history) z) ≡ true →
    has (content (fold (absorb_one cap) a xs).history) z ≡ true
absorb-takes cap [] a room short z h = h
absorb-takes cap (x ∷ xs) a room short z h =
    let b : Absorbing = absorb_one cap a x in
    let filled : Filled cap a b → has (content (fold (absorb_one cap) b xs).history) z ≡ true =
    λ f. let same : (fold (absorb_one cap) b xs).history ≡ a.history = absorb_full cap b xs f.full ∙ f.same in
    absurd (omega (arith, f.at_cap, ap (λ g. length (content g)) same)) in
    let taken : Taken x a b → has (content (fold (absorb_one cap) b xs).history) z ≡ true =
    λ t.
    let there : (has xs z || has (content b.history) z) ≡ true =
    grind (arith, or_cases, or_right, bytes_eq-Decides, or_left) in
    absorb-takes cap xs b t.room short z there in
    elim (absorb_one-cases cap a x room) [ inl f ↦ filled f | inr t ↦ taken t ]

-- ---- nodes

-- a node that is there, and stays below its cap
absorb_into-takes : (w : World) (n : ℕ) (items : List Item) (z : Item) →
    length (content (node_at (absorb_into w n (node_at w n) items).0 n).history) < (node_at w n).table.cap →
    (has items z || has (content (node_at w n).history) z) ≡ true →
    has (content (node_at (absorb_into w n (node_at w n) items).0 n).history) z ≡ true
absorb_into-takes w n items z short h = grind (arith, get_or-set_same, absorb-takes, get_or_past, cases_lt)

-- the own version, and what was learned
absorbs_both : (own other theirs : List Item) (h : History) (v : ℕ) (x : Item) → own ≡ version h v →
    ((z : Item) → has theirs z ≡ has (difference other own) z) →
    (has own x || has other x) ≡ true → (has (set_of theirs) x || has (content h) x) ≡ true
absorbs_both own other theirs h v x is same either =
    grind (arith, or_right, has-version, or_left, has-set_of, has-filter)

or_comm : (a b : Bool) → (a || b) ≡ (b || a)
or_comm a b = grind arith

-- in any world
pub absorb_claim : {F : Type 0} (S : Summary F) → AbsorbClaim S
absorb_claim S exact w k s a x found ended clear short either =
    grind (arith, session_knowledge, absorb_into-takes, absorbs_both, unwrap_or, or_comm)

-- ==== Where the items of histories come from: the openings of the nodes, and inserts

-- ---- one node

-- the history has x
abbrev pub HasItem : Item → History → Type 0
HasItem x h = has (items_of h) x ≡ true

-- some node's history has x
abbrev pub SomeHas : Item → World → Type 0
SomeHas x w = (m : ℕ) × HasItem x (node_at w m).history

or_false : (a : Bool) → (a || false) ≡ true → a ≡ true
or_false a h = grind arith

HasItem-history_after : (x y : Item) (h : History) (o : Insertion) → HasItem x (history_after h 0 y o) →
    (same_item x y ≡ true) ⊎ HasItem x h
HasItem-history_after x y h o e = grind (arith, or_cases, has-items_of-append, or_false)

-- what is absorbed was there, or is one of the items
HasItem-absorb : (x : Item) (cap : ℕ) (ys : List Item) (a : Absorbing) →
    HasItem x (fold (absorb_one cap) a ys).history → (has ys x ≡ true) ⊎ HasItem x a.history
HasItem-absorb x cap [] a e = inr e
HasItem-absorb x cap (y ∷ ys) a e = grind
    (arith, HasItem-absorb x cap ys (absorb_one cap a y) e, or_left, or_right, or_cases, has-items_of-append, or_false)

-- ---- one step

-- the new history of one node, or a history of before
HasItem-with_history : (x : Item) (w : World) (n m : ℕ) (node : Node) (h : History) →
    HasItem x (node_at (with_history w n node h) m).history → HasItem x h ⊎ HasItem x (node_at w m).history
HasItem-with_history x w n m node h e =
    grind (arith, set, set_past, get_or-set_same, cases_eq, cases_lt, get_or-set_other)

HasItem-insert_at : (x : Item) (w : World) (n m : ℕ) (y : Item) (found : Option Node) → slice_get w.nodes n ≡ found →
    HasItem x (node_at (insert_at w n y found).0 m).history →
    SomeHas x w ⊎ (same_item x y ≡ true)
HasItem-insert_at x w n m y None f e = inl (m, e)
HasItem-insert_at x w n m y (Some node) f e =
    let here : node_at w n ≡ node = get_or_from_slice_get w.nodes n node no_node f in
    elim (HasItem-with_history x w n m node
    (history_after node.history 0 y (insertion node.table.cap node.history y)) e) [
      | inl new ↦ grind (arith, HasItem-history_after, here)
      | inr old ↦ inl (m, old)
    ]

-- ---- what is absorbed

has-difference : (A B : List Item) (x : Item) → has (difference A B) x ≡ true → has A x ≡ true
has-difference A B x e = (and_parts _ _ (sym (has-filter (λ y. not (has B y)) x A) ∙ e)).1

has-theirs : (x : Item) (k : Knowledge) (own other : List Item) → KnowsNothingWrong k own other →
    has (set_of k.theirs) x ≡ true → has other x ≡ true
has-theirs x k own other sound e = has-difference other own x (sound.theirs.among x (sym (has-set_of k.theirs x) ∙ e))

pub session_sound : {F : Type 0} (S : Summary F) (w : World) (s : Session) → IsTrue (has_ended S w s) →
    KnowsNothingWrong (initiator_knowledge S w s) (initiator_of w s).items (responder_of w s).items
    × KnowsNothingWrong (responder_knowledge S w s) (responder_of w s).items (initiator_of w s).items
session_sound {F} S w s ended =
    let Ms : List (Message F) = messages S w s in
    let all : length Ms ≡ s.delivered = eqb-true (length Ms) s.delivered ended in
    let both = sound_knowledge S (initiator_of w s) (responder_of w s) (s.delivered + 1)
    (peer_at-IsSet w s.initiator_node s.initiator_version)
    (peer_at-IsSet w s.responder_node (unwrap_or s.responder_version 0)) in
    let whole : take s.delivered Ms ≡ Ms = take_all s.delivered Ms (omega arith) in (
      subst (λ Ns. KnowsNothingWrong (initiator_knows (initiator_of w s).items Ns) (initiator_of w s).items
          (responder_of w s).items) (sym whole) both.0,
      subst (λ Ns. KnowsNothingWrong (responder_knows (responder_of w s).items Ns) (responder_of w s).items
          (initiator_of w s).items) (sym whole) both.1,
    )

HasItem-version : (x : Item) (h : History) (v : ℕ) → has (version h v) x ≡ true → HasItem x h
HasItem-version x h v e = sym (has-content h x) ∙ has-version h v x e

HasItem-absorb_into : (x : Item) (w : World) (n m : ℕ) (ys : List Item) →
    HasItem x (node_at (absorb_into w n (node_at w n) ys).0 m).history → (has ys x ≡ true) ⊎ SomeHas x w
HasItem-absorb_into x w n m ys e = grind (arith, HasItem-with_history, HasItem-absorb)

HasItem-absorb_side : {F : Type 0} (S : Summary F) (x : Item) (w : World) (s : Session) (side : Side) (m : ℕ) →
    IsTrue (has_ended S w s) → HasItem x (node_at (absorb_side S w s side).0 m).history → SomeHas x w
HasItem-absorb_side S x w s Initiator m ended e =
    elim (HasItem-absorb_into x w s.initiator_node m (set_of (initiator_knowledge S w s).theirs) e) [
      | inl y ↦ (
        s.responder_node,
        HasItem-version x (node_at w s.responder_node).history (unwrap_or s.responder_version 0)
            (has-theirs x (initiator_knowledge S w s) (initiator_of w s).items (responder_of w s).items
            (session_sound S w s ended).0 y),
      )
      | inr old ↦ old
    ]
HasItem-absorb_side S x w s Responder m ended e =
    elim (HasItem-absorb_into x w s.responder_node m (set_of (responder_knowledge S w s).theirs) e) [
      | inl y ↦ (
        s.initiator_node,
        HasItem-version x (node_at w s.initiator_node).history s.initiator_version
            (has-theirs x (responder_knowledge S w s)
            (responder_of w s).items (initiator_of w s).items (session_sound S w s ended).1 y),
      )
      | inr old ↦ old
    ]

-- ---- runs

HasItem-step : {F : Type 0} (S : Summary F) (x : Item) (w : World) (e : Step) (m : ℕ) →
    HasItem x (node_at (step S w e).0 m).history → SomeHas x w ⊎ (inserts x e ≡ true)
HasItem-step S x w e m h = grind (arith, HasItem-insert_at, slice_get, slice_index_or, HasItem-absorb_side)

pub HasItem-run : {F : Type 0} (S : Summary F) (x : Item) (w : World) (steps : List Step) (m : ℕ) →
    HasItem x (node_at (run S w steps) m).history → SomeHas x w ⊎ (list_any (inserts x) steps ≡ true)
HasItem-run S x w [] m h = inl (m, h)
HasItem-run S x w (e ∷ es) m h =
    let first : SomeHas x (step S w e).0 → SomeHas x w ⊎ ((inserts x e || list_any (inserts x) es) ≡ true) =
    λ some. elim (HasItem-step S x w e some.0 some.1) [ inl old ↦ inl old | inr here ↦ inr (or_left _ _ here) ] in
    elim (HasItem-run S x (step S w e).0 es m h) [
      | inl some ↦ first some
      | inr later ↦ inr (or_right (inserts x e) _ later)
    ]

pub history_claim : {F : Type 0} (S : Summary F) → HistoryClaim S
history_claim S nodes steps n x h = grind (arith, HasItem-run, get_or_past, cases_lt, list_any_at)
