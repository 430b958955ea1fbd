-- No step touches what is kept of a session but its own delivery.
-- Histories only grow: after an insert or an Absorb a history begins with what it was before (`Extends`). So a
-- version, the first n entries of a history, is the same set in each later world, and no node comes or goes (`Grows`).
-- A step keeps accepted tables and sets within their caps (`Stays`): an open and a delivery change no node, an insert
-- and an Absorb put in items only below the cap.
-- What is kept of a session speaks of its two versions and of numbers of the session. A step that is not its own
-- delivery changes neither. Its own delivery changes the numbers of this session alone.
-- docs/LAWS.md: What a session keeps (`sessions_stay`, `sessions_keep_nodes`).
use Rattle.std.proofs.Common.{◌≡◌, ℕ, ◌+◌, ◌≤◌, false, List, [], ◌∷◌, ◌++◌, length, take, fold, slice_get, Option, Some}
use Rattle.std.proofs.Common.{None, unwrap_or, if◌then◌else◌, inl, inr, refl, sym, ap, subst, ◌∙◌, arith, length-set}
use Rattle.std.specs.Prelude.{IfSome, option_map, slice_index_or, ◌==◌}
use Rattle.definitions.proofs.Words.{AllByRecursion, Item, Summary, History, content, version, Insertion, New, Already}
use Rattle.definitions.proofs.Words.{Full, insertion, history_after, World, Session, Node, Side, Initiator, Responder}
use Rattle.definitions.proofs.Words.{Step, no_node, node_at, peer_at, initiator_of, responder_of, has_ended, talk}
use Rattle.definitions.proofs.Words.{initiator_knowledge, responder_knowledge, set_of, with_history, insert_at}
use Rattle.definitions.proofs.Words.{Absorbing, absorb_one, absorb_all, absorb_into, absorb_side, absorb_at, step}
use Rattle.definitions.proofs.Words.{initiator_at, most_parts, responder_at, IsNode}
use Rattle.definitions.specs.Worlds.{Did, open_at, deliver_at, Insert, Open, Deliver, Absorb}
use Rattle.definitions.proofs.Lemmas.{All-at, append-nil, cases_eq, cases_lt, cond_both, get_or-set_other}
use Rattle.definitions.proofs.Lemmas.{get_or-set_same, get_or_from_slice_get, length-append, set_past}
use Rattle.std.proofs.lemmas.List.{take-append-le}
use Rattle.std.proofs.Common.{append_assoc}
use Rattle.laws.specs.Sessions.{Kept, Keeps, SessionsStay, SessionsKeepNodes}
use Rattle.laws.proofs.Runs.{All-set, length-insertion, length-absorb_all, history-absorb_by}

-- ==== Histories that grow

-- the one is how the other begins
abbrev Extends : History → History → Type 0
Extends h g = (more : History) × (g ≡ h ++ more)

extends_itself : (h : History) → Extends h h
extends_itself h = ([], sym (append-nil h))

extends_on : (h g f : History) → Extends h g → Extends g f → Extends h f
extends_on h g f a b = (a.0 ++ b.0, b.1 ∙ ap (λ l. l ++ b.0) a.1 ∙ append_assoc h a.0 b.0)

extends_after : (h : History) (writer : ℕ) (x : Item) (i : Insertion) → Extends h (history_after h writer x i)
extends_after h writer x (New v) = ((writer, x) ∷ [], refl)
extends_after h writer x Already = extends_itself h
extends_after h writer x Full = extends_itself h

extends_fold : (cap : ℕ) (a : Absorbing) (xs : List Item) → Extends a.history (fold (absorb_one cap) a xs).history
extends_fold cap a [] = extends_itself a.history
extends_fold cap a (x ∷ xs) =
    let i : Insertion = if a.full then Full else insertion cap a.history x in
    extends_on a.history (absorb_one cap a x).history (fold (absorb_one cap) (absorb_one cap a x) xs).history
    (subst (Extends a.history) (sym (history-absorb_by a x i)) (extends_after a.history 0 x i))
    (extends_fold cap (absorb_one cap a x) xs)

extends_all : (cap : ℕ) (h : History) (xs : List Item) → Extends h (absorb_all cap h xs).history
extends_all cap h xs = extends_fold cap (record { history = h; added = 0; full = false }) xs

-- ==== Worlds whose histories grow

-- v has the versions of w
pub record Grows (w v : World) : Type 0 where
  pub count : length v.nodes ≡ length w.nodes
  pub longer : (n : ℕ) → length (node_at w n).history ≤ length (node_at v n).history
  pub same : (n u : ℕ) → u ≤ length (node_at w n).history → peer_at v n u ≡ peer_at w n u

-- nothing is changed in nodes
pub same_nodes : (w v : World) → v.nodes ≡ w.nodes → Grows w v
same_nodes w v e = record {
  count = ap length e;
  longer = λ n. let same : node_at v n ≡ node_at w n = ap (λ ns. slice_index_or ns n no_node) e in
      omega (arith, ap (λ m. length m.history) same);
  same = λ n u l.
      ap (λ ns. let m = slice_index_or ns n no_node in record { table = m.table; items = version m.history u }) e;
}

pub grows_on : (w v u : World) → Grows w v → Grows v u → Grows w u
grows_on w v u a b = record {
  count = b.count ∙ a.count;
  longer = λ n. omega (arith, a.longer n, b.longer n);
  same = λ n m l. b.same n m (omega (arith, l, a.longer n)) ∙ a.same n m l;
}

-- a node with a longer history in the place of one
record IsWith (w : World) (n : ℕ) (g : History) (m : ℕ) (new : Node) : Type 0 where
  table : new.table ≡ (node_at w m).table
  extends : Extends (node_at w m).history new.history

node_at_with : (w : World) (n m : ℕ) (g : History) → Extends (node_at w n).history g →
    IsWith w n g m (node_at (with_history w n (node_at w n) g) m)
node_at_with w n m g h = elim (cases_eq m n) [
  | inl same ↦ elim (cases_lt n (length w.nodes)) [
    | inl there ↦
        let e : node_at (with_history w n (node_at w n) g) m ≡ record (node_at w n) { history = g } =
        ap (node_at (with_history w n (node_at w n) g)) same
        ∙ get_or-set_same w.nodes n (record (node_at w n) { history = g }) no_node there in
        subst (IsWith w n g m) (sym e) (subst (λ k. IsWith w n g k (record (node_at w n) { history = g }))
        (sym same) record { table = refl; extends = h })
    | inr past ↦ unchanged
        (ap (λ ns. slice_index_or ns m no_node) (set_past w.nodes n (record (node_at w n) { history = g }) past))
  ]
  | inr other ↦ unchanged (get_or-set_other w.nodes n m (record (node_at w n) { history = g }) no_node other)
] where
  unchanged : node_at (with_history w n (node_at w n) g) m ≡ node_at w m →
      IsWith w n g m (node_at (with_history w n (node_at w n) g) m)
  unchanged e = subst (IsWith w n g m) (sym e) record { table = refl; extends = extends_itself (node_at w m).history }

grows_with : (w : World) (n : ℕ) (g : History) → Extends (node_at w n).history g →
    Grows w (with_history w n (node_at w n) g)
grows_with w n g h = record {
  count = length-set w.nodes n (record (node_at w n) { history = g });
  longer = λ m. let is = node_at_with w n m g h in
      omega (arith, ap length is.extends.1, length-append (node_at w m).history is.extends.0);
  same = λ m u l.
      let is = node_at_with w n m g h in
      let first : take u (node_at (with_history w n (node_at w n) g) m).history ≡ take u (node_at w m).history =
      ap (take u) is.extends.1 ∙ take-append-le u (node_at w m).history is.extends.0 l in
      λ i. record { table = is.table i; items = content (first i) };
}

-- what is kept of a session is kept in the later world
upto_top : (o : Option ℕ) (top : ℕ) → IfSome o (λ v. v ≤ top) → unwrap_or o 0 ≤ top
upto_top None top h = omega arith
upto_top (Some v) top h = h

upto_more : (o : Option ℕ) (top more : ℕ) → top ≤ more → IfSome o (λ v. v ≤ top) → IfSome o (λ v. v ≤ more)
upto_more None top more l h = tt
upto_more (Some v) top more l h = omega arith

keeps_grow : {F : Type 0} (S : Summary F) (w v : World) (s : Session) (k : Kept F) → Grows w v → Keeps S w s k →
    Keeps S v s k
keeps_grow S w v s k g h =
    let p : initiator_of w s ≡ initiator_of v s =
    sym (g.same s.initiator_node s.initiator_version h.initiator_version) in
    let q : responder_of w s ≡ responder_of v s =
    sym
    (g.same s.responder_node (unwrap_or s.responder_version 0) (upto_top s.responder_version _ h.responder_version)) in
    record {
      initiator_there = omega (arith, g.count, h.initiator_there);
      responder_there = omega (arith, g.count, h.responder_there);
      initiator_version = omega (arith, g.longer s.initiator_node, h.initiator_version);
      responder_version = upto_more s.responder_version _ _ (g.longer s.responder_node) h.responder_version;
      unheard = h.unheard;
      initiator = h.initiator ∙ (λ i. initiator_at S (p i) (q i) s.delivered);
      responder = h.responder ∙ (λ i. option_map (λ u. responder_at S (p i) (q i) s.delivered) s.responder_version);
      last = subst (λ Ms. (length Ms == s.delivered) ≡ false → slice_get Ms s.delivered ≡ Some k.last)
          (λ i. talk S (p i) (q i) (s.delivered + 1)) h.last;
      parts = h.parts ∙ (λ i. most_parts (talk S (p i) (q i) (s.delivered + 1)));
    }

pub sessions_keep_nodes : {F : Type 0} (S : Summary F) → SessionsKeepNodes S
sessions_keep_nodes S w v s k e h = keeps_grow S w v s k (same_nodes w v e) h

-- ==== Steps

record Stays (w v : World) : Type 0 where
  nodes : AllByRecursion IsNode w.nodes → AllByRecursion IsNode v.nodes
  grows : Grows w v

same_stays : (w v : World) → v.nodes ≡ w.nodes → Stays w v
same_stays w v e = record { nodes = subst (AllByRecursion IsNode) (sym e); grows = same_nodes w v e }

with_nodes : (w : World) (n : ℕ) (g : History) →
    (length (content (node_at w n).history) ≤ (node_at w n).table.cap → length (content g) ≤ (node_at w n).table.cap) →
    AllByRecursion IsNode w.nodes → AllByRecursion IsNode (with_history w n (node_at w n) g).nodes
with_nodes w n g room nodes = elim (cases_lt n (length w.nodes)) [
  | inl there ↦
      let fit : IsNode (node_at w n) = All-at IsNode w.nodes n no_node there nodes in
      All-set IsNode w.nodes n (record (node_at w n) { history = g }) nodes record {
        table = fit.table;
        accepted = fit.accepted;
        serves = fit.serves;
        room = room fit.room;
      }
  | inr past ↦
      subst (AllByRecursion IsNode) (sym (set_past w.nodes n (record (node_at w n) { history = g }) past)) nodes
]

with_stays : (w : World) (n : ℕ) (g : History) → Extends (node_at w n).history g →
    (length (content (node_at w n).history) ≤ (node_at w n).table.cap → length (content g) ≤ (node_at w n).table.cap) →
    Stays w (with_history w n (node_at w n) g)
with_stays w n g h room = record { nodes = with_nodes w n g room; grows = grows_with w n g h }

insert_stays : (w : World) (n : ℕ) (x : Item) (o : Option Node) → slice_get w.nodes n ≡ o →
    Stays w (insert_at w n x o).0
insert_stays w n x None e = same_stays w w refl
insert_stays w n x (Some node) e =
    let here : node_at w n ≡ node = get_or_from_slice_get w.nodes n node no_node e in
    subst (λ m. Stays w (insert_at w n x (Some m)).0) here (
    let i = insertion (node_at w n).table.cap (node_at w n).history x in
    with_stays w n (history_after (node_at w n).history 0 x i) (extends_after (node_at w n).history 0 x i)
    (length-insertion (node_at w n).table.cap (node_at w n).history 0 x)
    )

open_stays : (w : World) (i r : ℕ) (a b : Option Node) → Stays w (open_at w i r a b).0
open_stays w i r None b = same_stays w w refl
open_stays w i r (Some a) None = same_stays w w refl
open_stays w i r (Some a) (Some b) =
    cond_both (i == r) _ _ (λ (o : World × Did). Stays w o.0) (λ e. same_stays w w refl) (λ e. same_stays w _ refl)

deliver_stays : {F : Type 0} (S : Summary F) (w : World) (k : ℕ) (o : Option Session) → Stays w (deliver_at S w k o).0
deliver_stays S w k None = same_stays w w refl
deliver_stays S w k (Some s) = cond_both (has_ended S w s) _ _ (λ (o : World × Did). Stays w o.0)
    (λ e. same_stays w w refl) (λ e. same_stays w _ refl)

absorb_into_stays : (w : World) (n : ℕ) (xs : List Item) → Stays w (absorb_into w n (node_at w n) xs).0
absorb_into_stays w n xs = with_stays w n (absorb_all (node_at w n).table.cap (node_at w n).history xs).history
    (extends_all (node_at w n).table.cap (node_at w n).history xs)
    (length-absorb_all (node_at w n).table.cap (node_at w n).history xs)

absorb_side_stays : {F : Type 0} (S : Summary F) (w : World) (s : Session) (side : Side) →
    Stays w (absorb_side S w s side).0
absorb_side_stays S w s Initiator = absorb_into_stays w s.initiator_node (set_of (initiator_knowledge S w s).theirs)
absorb_side_stays S w s Responder = absorb_into_stays w s.responder_node (set_of (responder_knowledge S w s).theirs)

absorb_stays : {F : Type 0} (S : Summary F) (w : World) (side : Side) (o : Option Session) →
    Stays w (absorb_at S w side o).0
absorb_stays S w side None = same_stays w w refl
absorb_stays S w side (Some s) = cond_both (has_ended S w s) _ _ (λ (o : World × Did). Stays w o.0)
    (λ e. absorb_side_stays S w s side) (λ e. same_stays w w refl)

step_stays : {F : Type 0} (S : Summary F) (w : World) (e : Step) → Stays w (step S w e).0
step_stays S w (Insert n x) = insert_stays w n x (slice_get w.nodes n) refl
step_stays S w (Open i r) = open_stays w i r (slice_get w.nodes i) (slice_get w.nodes r)
step_stays S w (Deliver k) = deliver_stays S w k (slice_get w.sessions k)
step_stays S w (Absorb k side) = absorb_stays S w side (slice_get w.sessions k)

pub step_grows : {F : Type 0} (S : Summary F) (w : World) (e : Step) → Grows w (step S w e).0
step_grows S w e = (step_stays S w e).grows

pub sessions_stay : {F : Type 0} (S : Summary F) → SessionsStay S
sessions_stay S w e =
    let stays = step_stays S w e in
    record {
      nodes = stays.nodes;
      count = stays.grows.count;
      kept = λ s k h. keeps_grow S w (step S w e).0 s k stays.grows h;
    }
