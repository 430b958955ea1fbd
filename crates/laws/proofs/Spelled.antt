-- What a side says has a spelling, whatever it gets, so it is heard as it was said.
-- A cut has its bounds at items, or at beginnings of items that are not empty, and its parts rise. So each part of a
-- cut is a range, and its Sum has a spelling. Lists of a set's items and its Answers fit (Made). A reply with too many
-- parts is not said, so each message that is said has a spelling.
-- docs/LAWS.md: Two sessions meet.
use Rattle.std.proofs.Common.{◌≡◌, ℕ, ◌+◌, ◌-◌, ◌<◌, ◌≤◌, List, [], ◌∷◌, length}
use Rattle.std.proofs.Common.{Option, Some, None, get_or, map, sum, refl, sym, subst, ◌∙◌, arith}
use Rattle.definitions.proofs.Words.{AllByRecursion, Item, IsItem, IsBytes, IsLower, IsUpper, IsRange, Range, Rises}
use Rattle.definitions.proofs.Words.{whole}
use Rattle.definitions.proofs.Words.{ranges_between, separator, IsSet, items_in, inner_cuts, bound_at, Bounds, At_items}
use Rattle.definitions.proofs.Words.{Short, act, shares, Summary, Message, has_open, opening, opening_ranges}
use Rattle.definitions.proofs.Words.{Peer, sum_of, reply, Profile, IsProfile, IsPart, IsMessage, range_text}
use Rattle.definitions.proofs.Words.{max_parts, AreParts, End, Ends, Replies, Refuses, after, answer, answer_unless}
use Rattle.definitions.proofs.Words.{answers, replied, stage_fault, is_sendable, reply_or_refuse, too_many_parts}
use Rattle.definitions.specs.Wire.{IsFingerprint}
use Rattle.definitions.proofs.Lemmas.{All-append, All-at, All-map, cond_both, leb-true, length-append}
use Rattle.definitions.proofs.Lemmas.{sum_by-cons}
use Rattle.laws.proofs.Tables.{sum-shares_by, shares_by-positive}
use Rattle.laws.proofs.PeerCuts.{peer_cuts, peer_cutup, peer_cutup-rises, All-into_map, reply-each}
use Rattle.laws.proofs.Made.{All-kept, length-range_text, sets_fit_lem, answers_fit_lem}
use Rattle.laws.proofs.Saying.{after-peer}
use Rattle.laws.proofs.Openings.{opening_by}
use Rattle.laws.proofs.Few.{opening_fits}
use Rattle.definitions.proofs.Words.{contains}

-- ---- bounds of a cut

separator-short : (x y : List ℕ) → IsBytes y → (length (separator x y) ≤ length y) × IsBytes (separator x y)
separator-short x [] h = (omega arith, tt)
separator-short [] (b ∷ y) h = (omega arith, (h.0, tt))
separator-short (a ∷ x) (b ∷ y) h = grind (arith, separator-short x y h.1)

separator-some : (x y : List ℕ) → 1 ≤ length y → 1 ≤ length (separator x y)
separator-some x [] h = absurd (omega arith)
separator-some [] (b ∷ y) h = omega arith
separator-some (a ∷ x) (b ∷ y) h = grind arith

separator-item : (x : List ℕ) (y : Item) → IsItem y → IsItem (separator x y)
separator-item x y item =
    let short = separator-short x y item.bytes in
    record {
      not_empty = separator-some x y item.not_empty;
      not_long = omega (arith, short.0, item.not_long);
      bytes = short.1;
    }

bound-item : (b : Bounds) (B : List Item) (place : ℕ) → AllByRecursion IsItem B → place < length B →
    IsItem (bound_at b B place)
bound-item At_items B place each h = All-at IsItem B place [] h each
bound-item Short B place each h =
    separator-item (get_or B (place - 1) []) (get_or B place []) (All-at IsItem B place [] h each)

-- a part begins inside what is cut
cuts-below : (start : ℕ) (sizes : List ℕ) → AllByRecursion (λ s. 0 < s) sizes →
    AllByRecursion (λ place. place < start + sum sizes) (inner_cuts start sizes)
cuts-below start [] positive = tt
cuts-below start (s ∷ []) positive = tt
cuts-below start (s ∷ t ∷ ss) positive =
    let first = sum_by-cons (λ n. n) s (t ∷ ss) in
    let second = sum_by-cons (λ n. n) t ss in (
      omega (arith, first, second, positive.1.0),
      All-map (λ place. place < (start + s) + sum (t ∷ ss)) (λ place. place < start + sum (s ∷ t ∷ ss))
          (λ place l. omega (arith, l, first)) (inner_cuts (start + s) (t ∷ ss))
          (cuts-below (start + s) (t ∷ ss) positive.1),
    )

cuts-items : (P : Peer) (X : Range) → AllByRecursion IsItem P.items → AllByRecursion IsItem (peer_cuts P X)
cuts-items P X each = by (shares P.table (length B)) (sum-shares_by (act P.table (length B)) (length B))
    (shares_by-positive (act P.table (length B)) (length B)) where
      B : List Item
      B = items_in P.items X

      by : (sizes : List ℕ) → (2 ≤ length sizes → sum sizes ≡ length B) → AllByRecursion (λ s. 0 < s) sizes →
          AllByRecursion IsItem (map (bound_at P.table.bounds B) (inner_cuts 0 sizes))
      by [] total positive = tt
      by (s ∷ []) total positive = tt
      by (s ∷ t ∷ ss) total positive =
          All-into_map IsItem (bound_at P.table.bounds B) (inner_cuts 0 (s ∷ t ∷ ss))
          (All-map (λ place. place < 0 + sum (s ∷ t ∷ ss)) (λ place. IsItem (bound_at P.table.bounds B place))
          (λ place l. bound-item P.table.bounds B place (All-kept IsItem (contains X) P.items each)
          (omega (arith, l, total (omega arith)))) (inner_cuts 0 (s ∷ t ∷ ss)) (cuts-below 0 (s ∷ t ∷ ss) positive))

are-ranges : (x : List ℕ) (cuts : List (List ℕ)) (y : Option (List ℕ)) → IsLower x → IsUpper y →
    AllByRecursion IsItem cuts → AllByRecursion Rises (ranges_between x cuts y) →
    AllByRecursion IsRange (ranges_between x cuts y)
are-ranges x [] y lower upper items rise = (record { lower = lower; upper = upper; rises = rise.0 }, tt)
are-ranges x (cut ∷ cuts) y lower upper items rise = (
  record { lower = lower; upper = items.0; rises = rise.0 },
  are-ranges cut cuts y (record { not_long = items.0.not_long; bytes = items.0.bytes }) upper items.1 rise.1,
)

cutup-ranges : (P : Peer) (X : Range) → IsSet P.items → AllByRecursion IsItem P.items → IsRange X →
    AllByRecursion IsRange (peer_cutup P X)
cutup-ranges P X set each range = are-ranges X.lower (peer_cuts P X) X.upper range.lower range.upper
    (cuts-items P X each) (peer_cutup-rises P X set range.rises)

-- ---- what is said

module _ {F : Type 0} (S : Summary F) (W : Profile F) (real : IsProfile W)
    (spelled : (A : List Item) → IsFingerprint W (S.of A)) where
  sum-spelled : (A : List Item) (X : Range) → IsRange X → IsPart W (sum_of S A X)
  sum-spelled A X range =
      let f : F = S.of (items_in A X) in
      let is = spelled (items_in A X) in
      record {
        fields = (range, is);
        short = omega
            (arith, is.0, real.small, length-range_text X range, length-append (range_text X) (W.text f));
      }

  -- a cut of everything, or everything
  opening-ranges : (P : Peer) → IsSet P.items → AllByRecursion IsItem P.items →
      AllByRecursion IsRange (opening_ranges S P)
  opening-ranges P set each = opening_by S P (λ cuts. AllByRecursion IsRange (ranges_between [] cuts None))
      (cutup-ranges P whole set each all) (all, tt) where
        all : IsRange whole
        all = record { lower = record { not_long = omega arith; bytes = tt }; upper = tt; rises = refl }

  pub opening-spelled : (P : Peer) → IsSet P.items → AllByRecursion IsItem P.items → length P.items ≤ 65536 →
      IsMessage W (opening S P)
  opening-spelled P set each few = record {
    count = omega (arith, opening_fits S P);
    parts = All-into_map (IsPart W) (sum_of S P.items) (opening_ranges S P)
        (All-map IsRange (λ Y. IsPart W (sum_of S P.items Y)) (sum-spelled P.items) (opening_ranges S P)
        (opening-ranges P set each));
  }

  reply-spelled : (P : Peer) (M : Message F) → IsSet P.items → AllByRecursion IsItem P.items →
      length P.items ≤ 65536 → AreParts W M → AreParts W (reply S P M)
  reply-spelled P M set each few parts = reply-each S P (IsPart W) (IsPart W)
      (λ X g part split. All-map IsRange (λ Y. IsPart W (sum_of S P.items Y)) (sum-spelled P.items) (peer_cutup P X)
      (cutup-ranges P X set each part.fields.0))
      (λ X g part split. sets_fit_lem W P.items X set each few part.fields.0)
      (λ X listed part. answers_fit_lem W P.items X listed set each few part) M parts

  pub answers-spelled : (P : Peer) (e : End F) (Ms : List (Message F)) → e.peer ≡ P → IsSet P.items →
      AllByRecursion IsItem P.items → length P.items ≤ 65536 → AllByRecursion (IsMessage W) Ms →
      AllByRecursion (IsMessage W) (answers S e Ms)
  answers-spelled P e [] is set each few right = tt
  answers-spelled P e (M ∷ Ms) is set each few right =
      All-append (IsMessage W) (replied (answer S e M)) (answers S (after S e M) Ms) (one (stage_fault e.stage M))
      (answers-spelled P (after S e M) Ms (after-peer S e M ∙ is) set each few right.1) where
        N : Message F
        N = reply S e.peer M

        parts : AreParts W N
        parts = subst (λ Q. AreParts W (reply S Q M)) (sym is) (reply-spelled P M set each few right.0.parts)

        one : (o : Option ℕ) → AllByRecursion (IsMessage W) (replied (answer_unless S e.peer M o))
        one (Some code) = tt
        one None = cond_both (has_open M) (reply_or_refuse N) Ends (λ a. AllByRecursion (IsMessage W) (replied a))
            (λ o. cond_both (is_sendable N) (Replies N) (Refuses too_many_parts)
            (λ a. AllByRecursion (IsMessage W) (replied a))
            (λ fits. (record { count = leb-true (length N) max_parts fits; parts = parts }, tt)) (λ long. tt))
            (λ o. tt)
