-- The front of an input is taken off. Once as many bytes of it are there as are wanted, no further byte changes how
-- long it is, and it is among those that are there (`known` of `Fields`). So what is passed on is the same before the
-- front is read as after it: while it is read (`moved`), and once it is known or the input has ended (`whole_now`).
use Rattle.std.proofs.Common.{◌≡◌, ℕ, ◌+◌, ◌≤◌, true, false, List, [], ◌++◌, length, take}
use Rattle.std.proofs.Common.{drop, min, refl, sym, ap, subst, ◌∙◌, arith, ◌⊎◌, inl, inr, append_assoc, append-nil}
use Rattle.std.proofs.Common.{Option, Some, None, Ok, Err, Result, option_map}
use Rattle.std.specs.Prelude.{if◌then◌else◌}
use Rattle.std.specs.Io.KnownBytes.{Consumes, Keeps, IsAtEnd, ReadConsumes, prepend_known}
use Rattle.std.proofs.KnownBytes.{Keeps-trans, Consumes-trans, Consumes-kept}
use Rattle.std.proofs.lemmas.List.{drop-append-le, drop_all, take-append-drop, drop-drop}
use Rattle.std.proofs.Math.Seq.{take-append_seam, drop-append_seam}
use Rattle.definitions.specs.Items.{Range, IsRange, same_range, whole}
use Rattle.shard_core.specs.declared.selector.Which.{Which}
use Rattle.shard_core.specs.declared.after_selector.KindsTaken.{KindsTaken}
use Rattle.shard_core.specs.declared.after_selector.KindsTaken.TheVariants.{Both}
use Rattle.shard_core.specs.Selectors.{mark, part_mark, which_text, bounds_text, selector_text}
use Rattle.shard_core.specs.Fronts.{front_length, after_front, wanted, FrontState}
use Rattle.shard_core.specs.Fronts.{passed_on, ComesOn}
use Rattle.shard_core.proofs.Spelled.{kinds, second}
use Rattle.shard_core.proofs.Fields.{known, front_of_first, front_of_second}

-- what is passed on, if this much of the front was read and it is not known how long that is
abbrev pub after_came : KindsTaken → List ℕ → Option (List ℕ) → Option (List ℕ)
after_came kinds came unread = option_map (λ l. after_front kinds (came ++ l)) unread

-- what is passed on of those that were read
abbrev pub left_of : KindsTaken → List ℕ → List ℕ
left_of kinds came = drop (min (front_length kinds came) (length came)) came

pub moved : (kinds : KindsTaken) (came bytes : List ℕ) (a b : Option (List ℕ)) → Consumes a b bytes →
    Keeps (after_came kinds came a) (after_came kinds (came ++ bytes) b)
moved kinds came bytes None b p = tt
moved kinds came bytes (Some x) None p = absurd p
moved kinds came bytes (Some x) (Some y) p =
    ap (after_front kinds) (append_assoc came bytes y ∙ ap (λ l. came ++ l) (sym p))

-- dropping more than there is
drop_min : (n : ℕ) (xs : List ℕ) → drop (min n (length xs)) xs ≡ drop n xs
drop_min n xs = grind (arith, drop_all)

pub whole_now : (kinds : KindsTaken) (came : List ℕ) (a : Option (List ℕ)) →
    (wanted kinds came ≤ length came) ⊎ IsAtEnd a →
    Keeps (after_came kinds came a) (prepend_known (left_of kinds came) a)
whole_now kinds came None p = tt
whole_now kinds came (Some x) (inl few) =
    let is = known kinds came x few in
    ap (λ l. l ++ x) (drop_min (front_length kinds came) came)
    ∙ sym (drop-append-le (front_length kinds came) came x is.1)
    ∙ ap (λ n. drop n (came ++ x)) (sym is.0)
whole_now kinds came (Some x) (inr end) =
    let same : came ++ x ≡ came = ap (λ l. came ++ l) end ∙ append-nil came in
    ap (λ l. left_of kinds came ++ l) end ∙ append-nil _
    ∙ drop_min (front_length kinds came) came ∙ ap (after_front kinds) (sym same)

-- ---- the same of readers

not_whole : {R : Type 0} (s : FrontState R) (u : Option (List ℕ)) → s.whole ≡ false →
    passed_on s u ≡ after_came s.kinds s.came u
not_whole s u e =
    ap (λ w. if w then prepend_known (drop s.passed s.came) u else after_came s.kinds s.came u) e

pub goes_on : {R : Type 0} (first old new : FrontState R) (a b c : Option (List ℕ)) (bytes : List ℕ) →
    old.whole ≡ false → new.whole ≡ old.whole → new.kinds ≡ old.kinds → Keeps (passed_on first a) (passed_on old b) →
    new.came ≡ old.came ++ bytes → Consumes b c bytes →
    (new.whole ≡ false) × Keeps (passed_on first a) (passed_on new c)
goes_on first old new a b c bytes begun same kinds kept came read =
    let still : new.whole ≡ false = same ∙ begun in
    let step = moved old.kinds old.came bytes b c read in
    let unread : Option (List ℕ) = after_came old.kinds old.came b in
    let here : after_came old.kinds (old.came ++ bytes) c ≡ after_came new.kinds new.came c =
    λ i. after_came (sym kinds i) (sym came i) c in
    let front = subst (Keeps unread) (here ∙ sym (not_whole new c still)) step in
    let after = subst (λ o. Keeps o (passed_on new c)) (sym (not_whole old b begun)) front in
    (still, Keeps-trans (passed_on first a) (passed_on old b) (passed_on new c) kept after)

pub is_known : {R : Type 0} (first old : FrontState R) (a b : Option (List ℕ)) →
    old.whole ≡ false → Keeps (passed_on first a) (passed_on old b) →
    (wanted old.kinds old.came ≤ length old.came) ⊎ IsAtEnd b →
    Keeps (passed_on first a) (prepend_known (left_of old.kinds old.came) b)
is_known first old a b begun kept enough =
    let after = subst (λ o. Keeps o (prepend_known (left_of old.kinds old.came) b))
    (sym (not_whole old b begun)) (whole_now old.kinds old.came b enough) in
    Keeps-trans (passed_on first a) (passed_on old b) _ kept after

-- ---- what is passed on of a front that was read

pub keeps_then : (a b c : Option (List ℕ)) (bytes : List ℕ) → Keeps a b → Consumes b c bytes → Consumes a c bytes
keeps_then None b c bytes p q = tt
keeps_then (Some x) None c bytes p q = absurd p
keeps_then (Some x) (Some y) None bytes p q = absurd q
keeps_then (Some x) (Some y) (Some z) bytes p q = sym p ∙ q

pub read_then : {E : Type 0} (a b c : Option (List ℕ)) (r : Result ℕ E) (buf : List ℕ) → Keeps a b →
    ReadConsumes b c r buf → ReadConsumes a c r buf
read_then a b c (Ok n) buf p q = (keeps_then a b c (take n buf) p q.0, q.1)
read_then a b c (Err e) buf p q = Keeps-trans a b c p q

pub passes : (came : List ℕ) (p n : ℕ) (unread : Option (List ℕ)) →
    Consumes (prepend_known (drop p came) unread) (prepend_known (drop (p + n) came) unread) (take n (drop p came))
passes came p n None = tt
passes came p n (Some x) =
    ap (λ l. l ++ x) (sym (take-append-drop n (drop p came)))
    ∙ append_assoc (take n (drop p came)) (drop n (drop p came)) x
    ∙ ap (λ l. take n (drop p came) ++ (l ++ x)) (drop-drop n p came)

pub all_passed : (came : List ℕ) (p : ℕ) (unread : Option (List ℕ)) → p ≡ length came →
    prepend_known (drop p came) unread ≡ unread
all_passed came p None e = refl
all_passed came p (Some x) e = ap (λ l. Some (l ++ x)) (drop_all p came (omega arith))

is_whole : {R : Type 0} (s : FrontState R) (u : Option (List ℕ)) → s.whole ≡ true →
    passed_on s u ≡ prepend_known (drop s.passed s.came) u
is_whole s u e =
    ap (λ w. if w then prepend_known (drop s.passed s.came) u else after_came s.kinds s.came u) e

-- some of it is passed on
pub gives : {R : Type 0} (old new : FrontState R) (n : ℕ) (bytes : List ℕ) → old.whole ≡ true →
    new.whole ≡ old.whole → new.came ≡ old.came → new.passed ≡ old.passed + n →
    bytes ≡ take n (drop old.passed old.came) →
    (unread : Option (List ℕ)) → Consumes (passed_on old unread) (passed_on new unread) bytes
gives old new n bytes whole same came passed is unread =
    let here = passes old.came old.passed n unread in
    let front = take n (drop old.passed old.came) in
    let left : prepend_known (drop (old.passed + n) old.came) unread ≡ passed_on new unread =
    ap (λ l. prepend_known (drop (old.passed + n) l) unread) (sym came)
    ∙ ap (λ m. prepend_known (drop m new.came) unread) (sym passed) ∙ sym (is_whole new unread (same ∙ whole)) in
    subst (Consumes (passed_on old unread) (passed_on new unread)) (sym is)
    (subst (λ a. Consumes a (passed_on new unread) front) (sym (is_whole old unread whole))
    (subst (λ b. Consumes (prepend_known (drop old.passed old.came) unread) b front) left here))

pub copied : (n : ℕ) (xs ys kept : List ℕ) → length xs ≡ n → xs ≡ kept → take n (xs ++ ys) ≡ kept
copied n xs ys kept long is = ap (λ m. take m (xs ++ ys)) (sym long) ∙ take-append_seam xs ys ∙ is

nothing_kept : {R : Type 0} (s : FrontState R) (u : Option (List ℕ)) → s.whole ≡ true → s.passed ≡ length s.came →
    passed_on s u ≡ u
nothing_kept s u whole all = is_whole s u whole ∙ all_passed s.came s.passed u all

-- all of it was passed on, and the input is read
pub reads_on : {R E : Type 0} (first mid new : FrontState R) (a b c : Option (List ℕ)) (r : Result ℕ E)
    (buf : List ℕ) → Keeps (passed_on first a) (passed_on mid b) → mid.whole ≡ true → mid.passed ≡ length mid.came →
    new.whole ≡ mid.whole → new.came ≡ mid.came → new.passed ≡ mid.passed → ReadConsumes b c r buf →
    ReadConsumes (passed_on first a) (passed_on new c) r buf
reads_on first mid new a b c r buf kept whole all same came passed read =
    let before = subst (Keeps (passed_on first a)) (nothing_kept mid b whole all) kept in
    let is : passed_on new c ≡ c =
    nothing_kept new c (same ∙ whole) (passed ∙ all ∙ ap (λ l. length l) (sym came)) in
    subst (λ o. ReadConsumes (passed_on first a) o r buf) (sym is)
    (read_then (passed_on first a) b c r buf before read)

-- ---- a reader that has read nothing

off_front : (kinds : KindsTaken) (text later : List ℕ) → front_length kinds (text ++ later) ≡ length text →
    after_front kinds (text ++ later) ≡ later
off_front kinds text later size = ap (λ n. drop n (text ++ later)) size ∙ drop-append_seam text later

-- a selector of a part
pub part_off : (kinds : KindsTaken) (name : List ℕ) (b : ℕ) (w : Which) (X : Range) (later : List ℕ) →
    length name ≤ 64 → IsRange X → same_range X whole ≡ false →
    after_front kinds (selector_text name b w X ++ later) ≡ later
part_off kinds name b w X later short is part =
    ap (λ t. after_front kinds (t ++ later)) (second name b w X part)
    ∙ off_front kinds (part_mark ++ (which_text name b w ++ bounds_text X)) later
    (front_of_second kinds name b w X later short is)

-- of either kind
pub taken_off : (name : List ℕ) (b : ℕ) (w : Which) (X : Range) (later : List ℕ) → length name ≤ 64 → IsRange X →
    after_front Both (selector_text name b w X ++ later) ≡ later
taken_off name b w X later short is = elim (kinds name b w X) [
  | inl first ↦ ap (λ t. after_front Both (t ++ later)) first.text
      ∙ off_front Both (mark ++ which_text name b w) later (front_of_first name b w later short)
  | inr other ↦ part_off Both name b w X later short is other.part
]

-- ---- what came of the front stays

alone : (first came : List ℕ) (a b : Option (List ℕ)) (so : ComesOn first came a b []) → Consumes a b so.more
alone first came a b so = subst (Consumes a b) (append-nil so.more) so.read

pub comes_on : (first old new bytes : List ℕ) (a b c : Option (List ℕ)) → ComesOn first old a b [] →
    new ≡ old ++ bytes → Consumes b c bytes → ComesOn first new a c []
comes_on first old new bytes a b c so came read = record {
  more = so.more ++ bytes;
  stays = came ∙ ap (λ l. l ++ bytes) so.stays ∙ append_assoc first so.more bytes;
  read = subst (Consumes a c) (sym (append-nil (so.more ++ bytes)))
      (Consumes-trans a b c so.more bytes (alone first old a b so) read);
}

pub reads_after : {E : Type 0} (first came : List ℕ) (a b c : Option (List ℕ)) (r : Result ℕ E) (buf : List ℕ) →
    ComesOn first came a b [] → ReadConsumes b c r buf → (after : List ℕ) × ComesOn first came a c after
reads_after first came a b c (Ok n) buf so read = (
  take n buf,
  record {
    more = so.more;
    stays = so.stays;
    read = Consumes-trans a b c so.more (take n buf) (alone first came a b so) read.0;
  },
)
reads_after first came a b c (Err e) buf so read = (
  [],
  record {
    more = so.more;
    stays = so.stays;
    read = Consumes-kept a b c (so.more ++ []) so.read read;
  },
)
