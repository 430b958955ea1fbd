-- A message that is taken part by part is answered as it is answered as a whole.
-- What is taken of the parts is a fold, and each field of it is what the whole message gives: the place is the fold of
-- the placing, whether a part is open adds up by *or*, the reply is the replies one after another, and what is learned
-- is appended part by part. A refusal of the placing stays, so the place at the end has the refusal of the first part
-- that is refused, which is that of the whole message. A reply has too many parts as soon as a beginning of it has, so
-- it does not matter whether the test is made at each part or at the end.
-- So the answer at the end is the answer to the message (`ended-all`), and the end after it is the same (`after-all`).
-- If a part was refused, the parts after it count for nothing in both.
-- docs/LAWS.md: Parts are taken.
use Rattle.std.proofs.Common.{◌≡◌, ℕ, ◌+◌, ◌<◌, ◌∙◌, Bool, true, false, List, [], ◌∷◌, ◌++◌, length, Option, Some, None}
use Rattle.std.proofs.Common.{refl, sym, ap, arith, append_assoc}
use Rattle.std.specs.Prelude.{◌||◌, fold, if◌then◌else◌}
use Rattle.definitions.proofs.Words.{Summary, Part, Message, has_open, is_open, reply, reply_to, Place, After, Refused}
use Rattle.definitions.proofs.Words.{next, finish, and_then, learn, max_parts, End, Ends, Fresh, Over, Refuses, Replies}
use Rattle.definitions.proofs.Words.{Spent, Stage, Waits, after_answer, answer, answer_unless, is_sendable, own_of}
use Rattle.definitions.proofs.Words.{reply_or_refuse, stage_after_reply, stage_fault, too_many_parts}
use Rattle.definitions.specs.Ends.{Answer}
use Rattle.definitions.specs.Placing.{First, refusal}
use Rattle.definitions.specs.Talks.{ours_by, theirs_by}
use Rattle.definitions.specs.Taking.{Taken, place_of, nothing_taken, grown, taken, taken_all, ended, ended_unless}
use Rattle.definitions.specs.Taking.{replies_or_refuses, after_ended, refuses_or, by_parts}
use Rattle.definitions.proofs.Lemmas.{append-nil, length-append, cond_both, leb-false, lt-leb}
use Rattle.laws.specs.Taking.{PartsAreTaken}

-- ---- what the parts come to

place-taken : {F : Type 0} (S : Summary F) (e : End F) (t : Taken F) (M : Message F) →
    (fold (taken S e) t M).place ≡ fold next t.place M
place-taken S e t [] = refl
place-taken S e t (p ∷ M) = place-taken S e (taken S e t p) M

or-false : (b : Bool) → (b || false) ≡ b
or-false true = refl
or-false false = refl

or-assoc : (a b c : Bool) → ((a || b) || c) ≡ (a || (b || c))
or-assoc true b c = refl
or-assoc false b c = refl

opens-taken : {F : Type 0} (S : Summary F) (e : End F) (t : Taken F) (M : Message F) →
    (fold (taken S e) t M).opens ≡ (t.opens || has_open M)
opens-taken S e t [] = sym (or-false t.opens)
opens-taken S e t (p ∷ M) = opens-taken S e (taken S e t p) M ∙ or-assoc t.opens (is_open p) (has_open M)

flat3 : {X : Type 0} (a b c : List X) → (a ++ (b ++ [])) ++ c ≡ a ++ (b ++ c)
flat3 {X} a b c = ap (λ (l : List X). (a ++ l) ++ c) (append-nil b) ∙ append_assoc a b c

learned-taken : {F : Type 0} (S : Summary F) (e : End F) (t : Taken F) (M : Message F) →
    (fold (taken S e) t M).learned ≡ and_then t.learned (learn e.peer.items (own_of e.stage) M)
learned-taken S e t [] =
    λ i. record { ours = sym (append-nil t.learned.ours) i; theirs = sym (append-nil t.learned.theirs) i }
learned-taken S e t (p ∷ M) =
    let A = e.peer.items in
    let own = own_of e.stage in
    let rest = learn A own M in
    learned-taken S e (taken S e t p) M
    ∙ (λ i. record {
      ours = flat3 t.learned.ours (ours_by A own p) rest.ours i;
      theirs = flat3 t.learned.theirs (theirs_by A p) rest.theirs i;
    })

-- a message with too many parts stays so
too_long : {F : Type 0} (M N : Message F) → is_sendable M ≡ false → is_sendable (M ++ N) ≡ false
too_long M N long =
    let many : max_parts < length M = leb-false (length M) max_parts long in
    let more : max_parts < length (M ++ N) = omega (arith, many, length-append M N) in
    lt-leb (length (M ++ N)) max_parts more

grown-twice : {F : Type 0} (M N : Message F) → grown (grown (Some []) M) N ≡ grown (Some []) (M ++ N)
grown-twice {F} M N =
    cond_both (is_sendable M) (Some M) None (λ o. grown o N ≡ grown (Some []) (M ++ N))
    (λ fits. refl)
    (λ long. sym (ap (λ b. if b then Some (M ++ N) else None) (too_long M N long)))

reply-taken : {F : Type 0} (S : Summary F) (e : End F) (t : Taken F) (N M : Message F) → t.reply ≡ grown (Some []) N →
    (fold (taken S e) t M).reply ≡ grown (Some []) (N ++ reply S e.peer M)
reply-taken S e t N [] h = h ∙ ap (grown (Some [])) (sym (append-nil N))
reply-taken S e t N (p ∷ M) h =
    reply-taken S e (taken S e t p) (N ++ reply_to S e.peer p) M
    (ap (λ r. grown r (reply_to S e.peer p)) h ∙ grown-twice N (reply_to S e.peer p))
    ∙ ap (grown (Some [])) (append_assoc N (reply_to S e.peer p) (reply S e.peer M))

-- ---- a refusal stays

pub stays-refused : {F : Type 0} (code : ℕ) (M : Message F) → fold next (Refused code) M ≡ Refused code
stays-refused code [] = refl
stays-refused code (p ∷ M) = stays-refused code M

pub refused-place : {F : Type 0} (x : Place F) (code : ℕ) → refusal x ≡ Some code → x ≡ Refused code
refused-place (First cut) code e = absurd cc
refused-place (After left inside) code e = absurd cc
refused-place (Refused n) code e = let same : n ≡ code = cc in ap Refused same

pub fault-taken : {F : Type 0} (s : Stage F) (M : Message F) → finish (fold next (place_of s) M) ≡ stage_fault s M
fault-taken (Fresh cut) M = refl
fault-taken (Waits own) M = refl
fault-taken Over M = ap finish (stays-refused _ M)
fault-taken Spent M = ap finish (stays-refused _ M)

-- ---- the answer

pub place-all : {F : Type 0} (S : Summary F) (e : End F) (M : Message F) →
    (taken_all S e M).place ≡ fold next (place_of e.stage) M
place-all S e M = place-taken S e (nothing_taken e) M

pub learned-all : {F : Type 0} (S : Summary F) (e : End F) (M : Message F) →
    (taken_all S e M).learned ≡ learn e.peer.items (own_of e.stage) M
learned-all S e M = learned-taken S e (nothing_taken e) M

replies-by : {F : Type 0} (N : Message F) → replies_or_refuses (grown (Some []) N) ≡ reply_or_refuse N
replies-by {F} N = by (is_sendable N) where
  by : (b : Bool) → replies_or_refuses (if b then Some N else None) ≡ (if b then Replies N else Refuses too_many_parts)
  by true = refl
  by false = refl

pub ended-all : {F : Type 0} (S : Summary F) (e : End F) (M : Message F) → ended (taken_all S e M) ≡ answer S e M
ended-all {F} S e M =
    ap (ended_unless t) (ap finish (place-all S e M) ∙ fault-taken e.stage M) ∙ by (stage_fault e.stage M) where
      t : Taken F
      t = taken_all S e M

      by : (o : Option ℕ) → ended_unless t o ≡ answer_unless S e.peer M o
      by (Some code) = refl
      by None =
          let opens : t.opens ≡ has_open M = opens-taken S e (nothing_taken e) M in
          let reply_is : t.reply ≡ grown (Some []) (reply S e.peer M) = reply-taken S e (nothing_taken e) [] M refl in
          (λ i. if opens i then replies_or_refuses (reply_is i) else Ends)
          ∙ ap (λ a. if has_open M then a else Ends) (replies-by (reply S e.peer M))

pub after-all : {F : Type 0} (S : Summary F) (e : End F) (M : Message F) (a : Answer F) →
    after_ended e (taken_all S e M) a ≡ after_answer e M a
after-all S e M (Replies N) =
    ap (λ k. record e { stage = stage_after_reply N; sent = e.sent + 1; learned = and_then e.learned k })
    (learned-all S e M)
after-all S e M Ends = ap (λ k. record e { stage = Over; learned = and_then e.learned k }) (learned-all S e M)
after-all S e M (Refuses code) = refl

refused-on : {F : Type 0} (S : Summary F) (e : End F) (t : Taken F) (p : Part F) (M : Message F) (code : ℕ) →
    refusal (next t.place p) ≡ Some code → ended (fold (taken S e) (taken S e t p) M) ≡ Refuses code
refused-on S e t p M code h =
    let at = place-taken S e (taken S e t p) M ∙ ap (λ x. fold next x M) (refused-place (next t.place p) code h)
    ∙ stays-refused code M in
    ap (ended_unless (fold (taken S e) (taken S e t p) M)) (ap finish at)

in-parts : {F : Type 0} (S : Summary F) (e : End F) (t : Taken F) (M : Message F) →
    by_parts S e t M ≡ ended (fold (taken S e) t M)
in-parts S e t [] = refl
in-parts {F} S e t (p ∷ M) = by (refusal (next t.place p)) refl (in-parts S e (taken S e t p) M) where
  by : (o : Option ℕ) → refusal (next t.place p) ≡ o →
      by_parts S e (taken S e t p) M ≡ ended (fold (taken S e) (taken S e t p) M) →
      refuses_or o (by_parts S e (taken S e t p) M) ≡ ended (fold (taken S e) (taken S e t p) M)
  by (Some code) h later = sym (refused-on S e t p M code h)
  by None h later = later

pub parts_are_taken : {F : Type 0} (S : Summary F) → PartsAreTaken S
parts_are_taken S e M = record {
  at_the_end = ended-all S e M;
  after_it = after-all S e M (answer S e M);
  at_the_first = in-parts S e (nothing_taken e) M ∙ ended-all S e M;
  from_any = λ t. in-parts S e t M;
}
