-- What a reading of the compact spelling gives, and the bounds.
-- `Reads Good read`: what stands before the rest is a text of the value, and such a text is read so, whatever follows;
-- and a fault stays one with more bytes. A reading and then another one is such a reading again: the text of the first
-- and then the text of the second.
-- A bound is written as the number of bytes that it shares with z and the others. By induction on z: if the first of
-- the others is above the byte of z at that place, or z has none there, then so many bytes are the greatest beginning
-- that both share; and where z is not above the bound, its first other byte is such a one.
-- docs/LAWS.md: The compact spelling.
use Rattle.std.proofs.Common.{◌≡◌, ℕ, zero, suc, ◌+◌, ◌/◌, ◌%◌, ◌-◌, ◌<◌, ◌≤◌, Bool, true, false, List, [], ◌∷◌, ◌++◌}
use Rattle.std.proofs.Common.{length, take, drop, Some, None, Ok, Err, refl, sym, ap, subst, ◌∙◌, arith, inl, inr}
use Rattle.std.proofs.Common.{append_assoc}
use Rattle.std.specs.Prelude.{◌⊎◌, nat_lt, not, ◌||◌, if◌then◌else◌}
use Rattle.definitions.proofs.Words.{IsBytes, IsItem, IsLower, comes_before}
use Rattle.definitions.proofs.Lemmas.{not-false, common_steps, length-append, length-take-le, length-drop}
use Rattle.definitions.proofs.Lemmas.{take-append-drop, append-nil, before-asym, take_at, drop_at, ltb-true, ltb-false}
use Rattle.definitions.proofs.Lemmas.{le-ltb, eqb-true}
use Rattle.definitions.specs.Compact.{shared, in_head, after_head}
use Rattle.definitions.specs.CompactReading.{Reading, ◌>>=◌, gives, but_not, byte_from, bytes_from, amount_at}
use Rattle.definitions.specs.CompactReading.{goes_above, share_at, rest_length_at, rest_at, bound_at}
use Rattle.definitions.specs.Refusals.{bad_bound, empty_range}
use Rattle.laws.proofs.Fields.{IsBytes-back, IsBytes-front, IsBytes-both, rest_fits, front_fits}

-- ==== What a reading gives

pub record Reads {A : Type 0} (Good : A → List ℕ → Type 0) (read : List ℕ → Reading A) : Type 0 where
  pub back : (x : A) (front rest : List ℕ) → Good x front → read (front ++ rest) ≡ gives x rest
  pub only : (bytes : List ℕ) (x : A) (rest : List ℕ) → IsBytes bytes → read bytes ≡ gives x rest →
      (front : List ℕ) × Good x front × (bytes ≡ front ++ rest)
  pub firm : (bytes more : List ℕ) (code : ℕ) → IsBytes bytes → read bytes ≡ Err code → read (bytes ++ more) ≡ Err code

-- what is given stays so with more bytes
pub given_more : {A : Type 0} {Good : A → List ℕ → Type 0} {read : List ℕ → Reading A} → Reads Good read →
    (bytes more : List ℕ) (x : A) (rest : List ℕ) → IsBytes bytes → read bytes ≡ gives x rest →
    read (bytes ++ more) ≡ gives x (rest ++ more)
given_more {read} r bytes more x rest fits e =
    let o = r.only bytes x rest fits e in
    ap (λ (t : List ℕ). read (t ++ more)) o.2 ∙ ap read (append_assoc o.0 rest more)
    ∙ r.back x o.0 (rest ++ more) o.1

pub as_reads : {A : Type 0} {Good Good2 : A → List ℕ → Type 0} {read : List ℕ → Reading A} → Reads Good read →
    ((x : A) (front : List ℕ) → IsBytes front → Good x front → Good2 x front) →
    ((x : A) (front : List ℕ) → Good2 x front → Good x front) → Reads Good2 read
as_reads r to from = record {
  back = λ x front rest g. r.back x front rest (from x front g);
  only = λ bytes x rest fits e. let o = r.only bytes x rest fits e in
      (o.0, to x o.0 (front_fits bytes o.0 rest o.2 fits) o.1, o.2);
  firm = r.firm;
}

-- the cases of a reading and then another one
abbrev pub CasesOf : {A B : Type 0} → Reading A → (A × List ℕ → Reading B) → Reading B → Type 0
CasesOf {A} r k y = ((x : A) × (rest : List ℕ) × (r ≡ gives x rest) × (k (x, rest) ≡ y))
    ⊎ (((code : ℕ) × (r ≡ Err code) × (y ≡ Err code)) ⊎ ((r ≡ Ok None) × (y ≡ Ok None)))

pub cases_of : {A B : Type 0} (r : Reading A) (k : A × List ℕ → Reading B) (y : Reading B) → (r >>= k) ≡ y →
    CasesOf r k y
cases_of (Ok (Some p)) k y e = inl (p.0, p.1, refl, e)
cases_of (Ok None) k y e = inr (inr (refl, sym e))
cases_of (Err code) k y e = inr (inl (code, refl, sym e))

abbrev pub Then : {A B : Type 0} → (A → List ℕ → Type 0) → (A → B → List ℕ → Type 0) → B → List ℕ → Type 0
Then {A} Good Good2 y whole =
    (x : A) × (front : List ℕ) × (rest : List ℕ) × Good x front × Good2 x y rest × (whole ≡ front ++ rest)

pub then_reads : {A B : Type 0} {Good : A → List ℕ → Type 0} {read : List ℕ → Reading A} → Reads Good read →
    (k : A × List ℕ → Reading B) (Good2 : A → B → List ℕ → Type 0) →
    ((x : A) (front : List ℕ) → Good x front → Reads (Good2 x) (λ rest. k (x, rest))) →
    Reads (Then Good Good2) (λ bytes. read bytes >>= k)
then_reads {B} {read} r k Good2 goes = record {
  back = λ y whole rest g.
      let again = append_assoc g.1 g.2 rest in
      ap (λ (t : List ℕ). read (t ++ rest) >>= k) g.5 ∙ ap (λ (t : List ℕ). read t >>= k) again
      ∙ ap (λ s. s >>= k) (r.back g.0 g.1 (g.2 ++ rest) g.3) ∙ (goes g.0 g.1 g.3).back y g.2 rest g.4;
  only = λ bytes y rest fits e. elim (cases_of (read bytes) k (gives y rest) e) [
    | inl c ↦ let o = r.only bytes c.0 c.1 fits c.2 in
        let p = (goes c.0 o.0 o.1).only c.1 y rest (rest_fits bytes o.0 c.1 o.2 fits) c.3 in (
          o.0 ++ p.0,
          (c.0, o.0, p.0, o.1, p.1, λ i. o.0 ++ p.0),
          o.2 ∙ ap (λ (t : List ℕ). o.0 ++ t) p.2 ∙ sym (append_assoc o.0 p.0 rest),
        )
    | inr d ↦ absurd (elim d [ inl c ↦ (let n = c.2 in cc) | inr c ↦ (let n = c.1 in cc) ])
  ];
  firm = λ bytes more code fits e. elim (cases_of (read bytes) k (Err code) e) [
    | inl c ↦ let o = r.only bytes c.0 c.1 fits c.2 in
        ap (λ s. s >>= k) (given_more r bytes more c.0 c.1 fits c.2)
        ∙ (goes c.0 o.0 o.1).firm c.1 more code (rest_fits bytes o.0 c.1 o.2 fits) c.3
    | inr d ↦ elim d [
      | inl c ↦ ap (λ s. s >>= k) (r.firm bytes more c.0 fits c.1) ∙ sym c.2
      | inr c ↦ absurd (let n = c.1 in cc)
    ]
  ];
}

pair_of : {A : Type 0} → A × List ℕ → Reading A → A × List ℕ
pair_of d (Ok (Some p)) = p
pair_of d (Ok None) = d
pair_of d (Err code) = d

pub given_is : {A : Type 0} (x y : A) (a b : List ℕ) → gives x a ≡ gives y b → (x ≡ y) × (a ≡ b)
unfolding pair_of
given_is {A} x y a b e =
    let p : Path (A × List ℕ) (x, a) (y, b) = ap (pair_of (x, a)) e in (ap (λ q. q.0) p, ap (λ q. q.1) p)

-- nothing more is read: a value that is made of what was read
pub given_reads : {A : Type 0} (x : A) → Reads (λ y front. (y ≡ x) × (front ≡ [])) (gives x)
given_reads x = record {
  back = λ y front rest g. grind arith;
  only = λ bytes y rest fits e. let p = given_is x y bytes rest e in ([], (sym p.0, refl), p.1);
  firm = λ bytes more code fits e. absurd cc;
}

pub test_reads : {A : Type 0} (wrong : Bool) (code : ℕ) (x : A) →
    Reads (λ y front. (wrong ≡ false) × ((y ≡ x) × (front ≡ []))) (λ bytes. but_not wrong code (x, bytes))
test_reads true code x = record {
  back = λ y front rest g. absurd (let f = g.0 in cc);
  only = λ bytes y rest fits e. absurd cc;
  firm = λ bytes more found fits e. e;
}
test_reads false code x = record {
  back = λ y front rest g. (given_reads x).back y front rest g.1;
  only = λ bytes y rest fits e. let o = (given_reads x).only bytes y rest fits e in (o.0, (refl, o.1), o.2);
  firm = λ bytes more code fits e. absurd cc;
}

-- a test of what was read, and a value that is made of it
pub tested_reads : {A B : Type 0} {Good : A → List ℕ → Type 0} {read : List ℕ → Reading A} → Reads Good read →
    (wrong : A → Bool) (code : ℕ) (f : A → B) →
    Reads (λ y front. (x : A) × Good x front × (wrong x ≡ false) × (y ≡ f x))
    (λ bytes. read bytes >>= (λ p. but_not (wrong p.0) code (f p.0, p.1)))
tested_reads {A} {B} {Good} r wrong code f =
    as_reads (then_reads r (λ p. but_not (wrong p.0) code (f p.0, p.1))
    (λ x y front. (wrong x ≡ false) × ((y ≡ f x) × (front ≡ []))) (λ x front g. test_reads (wrong x) code (f x)))
    to (λ y front (x, g, right, is). (x, front, [], g, (right, (is, refl)), sym (append-nil front))) where
      to : (y : B) (front : List ℕ) → IsBytes front →
          Then Good (λ x y front. (wrong x ≡ false) × ((y ≡ f x) × (front ≡ []))) y front →
          (x : A) × Good x front × (wrong x ≡ false) × (y ≡ f x)
      to y front fits (x, before, after, g, (right, (is, none)), whole) =
          let same : before ≡ front = sym (append-nil before) ∙ ap (λ (t : List ℕ). before ++ t) (sym none)
          ∙ sym whole in
          (x, subst (Good x) same g, right, is)

pub reads_if : {A : Type 0} {Good : A → List ℕ → Type 0} (b : Bool) {r s : List ℕ → Reading A} →
    (b ≡ true → Reads Good r) → (b ≡ false → Reads Good s) → Reads Good (λ bytes. if b then r bytes else s bytes)
reads_if true x y = x refl
reads_if false x y = y refl

-- ---- bytes

pub byte_reads : Reads (λ b front. front ≡ b ∷ []) byte_from
byte_reads = record {
  back = λ b front rest g. ap (λ (t : List ℕ). byte_from (t ++ rest)) g;
  only = byte_only;
  firm = byte_firm;
} where
  byte_only : (bytes : List ℕ) (x : ℕ) (rest : List ℕ) → IsBytes bytes → byte_from bytes ≡ gives x rest →
      (front : List ℕ) × (front ≡ x ∷ []) × (bytes ≡ front ++ rest)
  byte_only [] x rest fits e = absurd cc
  byte_only (b ∷ bytes) x rest fits e = let p = given_is b x bytes rest e in
      (x ∷ [], refl, λ i. p.0 i ∷ p.1 i)

  byte_firm : (bytes more : List ℕ) (code : ℕ) → IsBytes bytes → byte_from bytes ≡ Err code →
      byte_from (bytes ++ more) ≡ Err code
  byte_firm [] more code fits e = absurd cc
  byte_firm (b ∷ bytes) more code fits e = absurd cc

bytes_only : (n : ℕ) (bytes held rest : List ℕ) → bytes_from n bytes ≡ gives held rest →
    (length held ≡ n) × (bytes ≡ held ++ rest)
bytes_only n bytes held rest e = cases (nat_lt (length bytes) n) refl e where
  cases : (b : Bool) → nat_lt (length bytes) n ≡ b →
      (if b then Ok None else gives (take n bytes) (drop n bytes)) ≡ gives held rest →
      (length held ≡ n) × (bytes ≡ held ++ rest)
  cases true h e = absurd cc
  cases false h e = let p = given_is (take n bytes) held (drop n bytes) rest e in
      let le : n ≤ length bytes = ltb-false _ _ h in (
        ap length (sym p.0) ∙ length-take-le n bytes le,
        sym (take-append-drop n bytes) ∙ ap (λ (t : List ℕ). t ++ drop n bytes) p.0
            ∙ ap (λ (t : List ℕ). held ++ t) p.1,
      )

pub bytes_firm : (n : ℕ) (bytes : List ℕ) (code : ℕ) → bytes_from n bytes ≡ Err code → ⊥
bytes_firm n bytes code e = cases (nat_lt (length bytes) n) e where
  cases : (b : Bool) → (if b then Ok None else gives (take n bytes) (drop n bytes)) ≡ Err code → ⊥
  cases true e = cc
  cases false e = cc

pub bytes_read : (n : ℕ) → Reads (λ held front. (length held ≡ n) × (front ≡ held)) (bytes_from n)
bytes_read n = record {
  back = λ held front rest g. grind (arith, common_steps, take_at, drop_at, length-append, le-ltb);
  only = λ bytes held rest fits e. let p = bytes_only n bytes held rest e in (held, (p.0, refl), p.1);
  firm = λ bytes more code fits e. absurd (bytes_firm n bytes code e);
}

-- ---- amounts

amount_small : (n m : ℕ) → n < 7 → n ≡ in_head m → (n ≡ m) × (after_head m ≡ [])
amount_small n m lt e = grind arith

amount_large : (n m : ℕ) → 7 ≤ n → n ≡ in_head m → (7 ≤ m) × (after_head m ≡ m ∷ [])
amount_large n m le e = grind arith

amount_of_head : (n : ℕ) → n < 7 → (n ≡ in_head n) × (after_head n ≡ [])
amount_of_head n lt = grind arith

large_head : (m : ℕ) → nat_lt m 7 ≡ false → (in_head m ≡ 7) × (after_head m ≡ m ∷ [])
large_head m h = grind arith

abbrev AmountGood : ℕ → ℕ → List ℕ → Type 0
AmountGood n m front = (n ≡ in_head m) × (front ≡ after_head m)

large_to : (n m : ℕ) (front : List ℕ) → n < 8 → 7 ≤ n →
    ((x : ℕ) × (front ≡ x ∷ []) × (nat_lt x 7 ≡ false) × (m ≡ x)) → AmountGood n m front
large_to n m front lt le (x, is, large, same) = grind (arith, large_head)

large_from : (n m : ℕ) (front : List ℕ) → 7 ≤ n → AmountGood n m front →
    (x : ℕ) × (front ≡ x ∷ []) × (nat_lt x 7 ≡ false) × (m ≡ x)
large_from n m front le g = let p = amount_large n m le g.0 in
    let lower = p.0 in (m, g.1 ∙ p.1, le-ltb m 7 lower, refl)

small_to : (n m : ℕ) (front : List ℕ) → n < 7 → (m ≡ n) × (front ≡ []) → AmountGood n m front
small_to n m front lt g = grind arith

small_from : (n m : ℕ) (front : List ℕ) → n < 7 → AmountGood n m front → (m ≡ n) × (front ≡ [])
small_from n m front lt g = let p = amount_small n m lt g.0 in (sym p.0, g.1 ∙ p.1)

pub amount_reads : (n : ℕ) → n < 8 → Reads (AmountGood n) (amount_at n)
amount_reads n lt = reads_if (nat_lt n 7)
    (λ h. let low : n < 7 = ltb-true _ _ h in
    as_reads (given_reads n) (λ m front fits g. small_to n m front low g) (λ m front g. small_from n m front low g))
    (λ h. let le : 7 ≤ n = ltb-false _ _ h in
    as_reads (tested_reads byte_reads (λ m. nat_lt m 7) bad_bound (λ m. m))
    (λ m front fits g. large_to n m front lt le g) (λ m front g. large_from n m front le g))

-- ---- the greatest beginning that two byte strings share

pub shared_is : (z : List ℕ) (s : ℕ) (rest : List ℕ) → s ≤ length z → goes_above (drop s z) rest ≡ true →
    shared z (take s z ++ rest) ≡ s
shared_is [] zero rest le above = refl
shared_is [] (suc s) rest le above = absurd (omega arith)
shared_is (a ∷ z) zero [] le above = refl
shared_is (a ∷ z) zero (c ∷ rest) le above = grind arith
shared_is (a ∷ z) (suc s) rest le above = grind (arith, shared_is z s rest)

pub rest_is : (z : List ℕ) (s : ℕ) (rest : List ℕ) → s ≤ length z → drop s (take s z ++ rest) ≡ rest
rest_is z s rest le = grind (arith, drop_at, length-take-le)

pub rest_after : (z : List ℕ) (s : ℕ) (rest : List ℕ) → s ≤ length z → goes_above (drop s z) rest ≡ true →
    0 < length rest → comes_before z (take s z ++ rest) ≡ true
rest_after [] zero [] le above some = absurd (omega arith)
rest_after [] zero (c ∷ rest) le above some = refl
rest_after [] (suc s) rest le above some = absurd (omega arith)
rest_after (a ∷ z) zero [] le above some = absurd (omega arith)
rest_after (a ∷ z) zero (c ∷ rest) le above some = grind arith
rest_after (a ∷ z) (suc s) rest le above some = grind (arith, rest_after z s rest)

pub shared_most : (z y : List ℕ) → (shared z y ≤ length z) × (shared z y ≤ length y)
shared_most [] y = (omega arith, omega arith)
shared_most (a ∷ z) [] = (omega arith, omega arith)
shared_most (a ∷ z) (b ∷ y) = grind (arith, shared_most z y)

pub shared_joins : (z y : List ℕ) → take (shared z y) z ++ drop (shared z y) y ≡ y
shared_joins [] y = refl
shared_joins (a ∷ z) [] = refl
shared_joins (a ∷ z) (b ∷ y) = grind (arith, shared_joins z y, eqb-true)

pub shared_above : (z y : List ℕ) → comes_before y z ≡ false →
    goes_above (drop (shared z y) z) (drop (shared z y) y) ≡ true
shared_above [] y upto = refl
shared_above (a ∷ z) [] upto = absurd cc
shared_above (a ∷ z) (b ∷ y) upto = grind (arith, shared_above z y)

pub shared_leaves : (z y : List ℕ) → comes_before z y ≡ true → 0 < length (drop (shared z y) y)
shared_leaves [] [] h = absurd cc
shared_leaves [] (b ∷ y) h = omega arith
shared_leaves (a ∷ z) [] h = absurd cc
shared_leaves (a ∷ z) (b ∷ y) h = grind (arith, shared_leaves z y)

-- ==== A bound

abbrev ShareGood : List ℕ → ℕ → ℕ → List ℕ → Type 0
ShareGood z head s front =
    (x : ℕ) × AmountGood (head / 8 % 8) x front × ((nat_lt 63 x || nat_lt (length z) x) ≡ false) × (s ≡ x)

share_reads : (z : List ℕ) (head : ℕ) → Reads (ShareGood z head) (share_at z head)
share_reads z head = tested_reads (amount_reads (head / 8 % 8) (omega arith))
    (λ s. nat_lt 63 s || nat_lt (length z) s) bad_bound (λ s. s)

abbrev LengthGood : ℕ → ℕ → ℕ → List ℕ → Type 0
LengthGood s head l front = (x : ℕ) × AmountGood (head % 8) x front × (nat_lt 64 (s + x) ≡ false) × (l ≡ x)

length_reads : (s head : ℕ) → Reads (LengthGood s head) (rest_length_at s head)
length_reads s head = tested_reads (amount_reads (head % 8) (omega arith)) (λ l. nat_lt 64 (s + l)) bad_bound (λ l. l)

abbrev RestGood : List ℕ → ℕ → ℕ → List ℕ → List ℕ → Type 0
RestGood z s l y front = (held : List ℕ) × ((length held ≡ l) × (front ≡ held))
    × (not (goes_above (drop s z) held) ≡ false) × (y ≡ take s z ++ held)

rest_reads : (z : List ℕ) (s l : ℕ) → Reads (RestGood z s l) (rest_at z s l)
rest_reads z s l =
    tested_reads (bytes_read l) (λ held. not (goes_above (drop s z) held)) empty_range (λ held. take s z ++ held)

-- y is an item after z, and what follows the head of its text is front
pub record BoundGood (z : List ℕ) (head : ℕ) (y : List ℕ) (front : List ℕ) : Type 0 where
  pub item : IsItem y
  pub after : comes_before z y ≡ true
  pub share : head / 8 % 8 ≡ in_head (shared z y)
  pub more : head % 8 ≡ in_head (length (drop (shared z y) y))
  pub is : front ≡ after_head (shared z y) ++ (after_head (length (drop (shared z y) y)) ++ drop (shared z y) y)

abbrev BoundRead : List ℕ → ℕ → List ℕ → List ℕ → Type 0
BoundRead z head = Then (ShareGood z head) (λ s. Then (LengthGood s head) (RestGood z s))

some_in_head : (n : ℕ) → 0 < in_head n → 0 < n
some_in_head n h = grind arith

bound_is : (z : List ℕ) (head s : ℕ) (held front : List ℕ) → IsLower z → 0 < head % 8 → IsBytes front →
    head / 8 % 8 ≡ in_head s → head % 8 ≡ in_head (length held) → s ≤ length z → s + length held ≤ 64 →
    goes_above (drop s z) held ≡ true → front ≡ after_head s ++ (after_head (length held) ++ held) →
    BoundGood z head (take s z ++ held) front
bound_is z head s held front low some fits share more le short above is =
    let y : List ℕ = take s z ++ held in
    let e : shared z y ≡ s = shared_is z s held le above in
    let d : drop (shared z y) y ≡ held = ap (λ n. drop n y) e ∙ rest_is z s held le in
    let right : IsBytes (after_head (length held) ++ held) = rest_fits front (after_head s) _ is fits in
    let held_fits : IsBytes held = IsBytes-back (after_head (length held)) held right in
    let begin_fits : IsBytes (take s z) = IsBytes-front (take s z) (drop s z)
    (subst IsBytes (sym (take-append-drop s z)) low.bytes) in
    let n : 0 < length held = some_in_head (length held) (omega arith) in
    let long : length y ≡ s + length held = omega (arith, length-append (take s z) held, length-take-le s z le) in
    record {
      item = record {
        not_empty = omega arith;
        not_long = omega arith;
        bytes = IsBytes-both (take s z) held begin_fits held_fits;
      };
      after = rest_after z s held le above n;
      share = share ∙ ap in_head (sym e);
      more = more ∙ ap (λ (t : List ℕ). in_head (length t)) (sym d);
      is = is ∙ (λ i. after_head (sym e i) ++ (after_head (length (sym d i)) ++ sym d i));
    }

few_both : (s n : ℕ) → (nat_lt 63 s || nat_lt n s) ≡ false → s ≤ n
few_both s n h = grind arith

bound_to : (z : List ℕ) (head : ℕ) (y front : List ℕ) → IsLower z → 0 < head % 8 → IsBytes front →
    BoundRead z head y front → BoundGood z head y front
bound_to z head y front low some fits
    (s, f, r, (x, share, few, same), (l, g, t, (m, more, short, also), (held, held_is, above, y_is), r_is), whole) =
    let at : x ≡ s = sym same in
    let len : m ≡ length held = sym also ∙ sym held_is.0 in
    let front_is : front ≡ after_head s ++ (after_head (length held) ++ held) =
    whole ∙ (λ i. share.1 i ++ r_is i) ∙ (λ i. after_head (at i) ++ (more.1 i ++ held_is.1 i))
    ∙ (λ i. after_head s ++ (after_head (len i) ++ held)) in
    let le : x ≤ length z = few_both x (length z) few in
    let most : s + m ≤ 64 = ltb-false _ _ short in
    subst (λ (y : List ℕ). BoundGood z head y front) (sym y_is)
    (bound_is z head s held front low some fits (share.0 ∙ ap in_head at) (more.0 ∙ ap in_head len) (omega arith)
    (omega arith) (not-false _ above) front_is)

few_from : (s n : ℕ) → s ≤ 63 → s ≤ n → (nat_lt 63 s || nat_lt n s) ≡ false
few_from s n le more = grind arith

bound_from : (z : List ℕ) (head : ℕ) (y front : List ℕ) → BoundGood z head y front → BoundRead z head y front
bound_from z head y front g =
    let s : ℕ = shared z y in
    let held : List ℕ = drop s y in
    let most = shared_most z y in
    let a = most.0 in
    let b = most.1 in
    let joins : take s z ++ held ≡ y = shared_joins z y in
    let n : 0 < length held = shared_leaves z y g.after in
    let len : length held ≡ length y - s = length-drop s y in
    let long = g.item.not_long in
    let above : goes_above (drop s z) held ≡ true = shared_above z y (before-asym z y g.after) in (
      s,
      after_head s,
      after_head (length held) ++ held,
      (s, (g.share, refl), few_from s (length z) (omega arith) a, refl),
      (
        length held,
        after_head (length held),
        held,
        (length held, (g.more, refl), le-ltb _ _ (omega arith), refl),
        (held, (refl, refl), ap not above, sym joins),
        refl,
      ),
      g.is,
    )

pub bound_reads : (z : List ℕ) (head : ℕ) → IsLower z → 0 < head % 8 → Reads (BoundGood z head) (bound_at z head)
bound_reads z head low some = as_reads (then_reads (share_reads z head)
    (λ s. rest_length_at s.0 head s.1 >>= (λ l. rest_at z s.0 l.0 l.1)) (λ s. Then (LengthGood s head) (RestGood z s))
    (λ s front g. then_reads (length_reads s head) (λ l. rest_at z s l.0 l.1) (RestGood z s)
    (λ l front2 g2. rest_reads z s l)))
    (λ y front fits g. bound_to z head y front low some fits g) (λ y front g. bound_from z head y front g)
