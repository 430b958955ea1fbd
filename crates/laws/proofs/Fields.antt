-- What it means that a reading tells, and the fields of a body.
-- `Tells Fits r Good Bad`: r is Ok of what is Good and Err of what is Bad, and if Fits (these are bytes) it is one of
-- the two. So the reading finds exactly the values and exactly the faults, and the relation of faults never has to
-- read. Small lemmas put such facts together: a test decides between two cases; a reading and then another one, where
-- the text of the first shows its own length, so that the bytes can be taken apart in one way only; a value that is
-- made of what was read.
-- With them each field is told: n bytes, a number of four bytes, a lower bound, an upper bound, an item. What is left
-- after a field are bytes again. Before that: 16 bytes come back from the number that they spell, since they are its
-- digits at base 256.
-- docs/LAWS.md: Reading is exact; Marks (`reads_are_bytes`).
use Rattle.std.proofs.Common.{◌≡◌, ℕ, zero, suc, ◌+◌, ◌*◌, ◌/◌, ◌%◌, ◌<◌, List, [], ◌∷◌, length, reverse, get_or, refl}
use Rattle.std.proofs.Common.{ap, ◌∙◌, arith, rules, Bool, true, false, ◌++◌, Result, Ok, Err, sym, subst, inl, inr}
use Rattle.std.proofs.Common.{◌^◌, ◌≤◌, Option, Some, None}
use Rattle.std.specs.Prelude.{◌⊎◌, not, if◌then◌else◌, IsTrue, IsFalse, ◌≢◌, nat_lt, ◌==◌}
use Rattle.definitions.proofs.Words.{w128, from_be_bytes, to_be_bytes, w32, IsBytes, IsItem, IsLower, IsUpper, Begins}
use Rattle.definitions.proofs.Words.{Stops, NoLower, NoUpper, NoItem, IsItemLength, IsCount, unless, bytes_at}
use Rattle.definitions.proofs.Words.{number_at, lower_at, upper_at, text_at, is_item_length, short_text, upper_text}
use Rattle.definitions.proofs.Words.{count_text}
use Rattle.definitions.proofs.Lemmas.{common_steps, length-append, div-div-eq-div-mul, div-mul-add, mod-mul-add}
use Rattle.definitions.proofs.Lemmas.{be_bytes_4, from_be_bytes-to_be_bytes_4, ltb-true, ltb-false, eq-eqb, take_at}
use Rattle.definitions.proofs.Lemmas.{drop_at, take-append-drop, length-take-le}
use Rattle.definitions.specs.Reading.{◌>>=◌}

-- ==== Sixteen bytes come back from the number that they spell: they are its digits at base 256

-- each of the list is a byte where each read of it is below 256
pub reads_fit : (bytes : List ℕ) → ((i : ℕ) → get_or bytes i 0 < 256) → IsBytes bytes
reads_fit [] below = tt
reads_fit (b ∷ bytes) below = (below 0, reads_fit bytes (λ i. below (suc i)))

-- the last k digits of n at base 256, the lowest first
abbrev digits : ℕ → ℕ → List ℕ
digits zero n = []
digits (suc k) n = n % 256 ∷ digits k (n / 256)

-- the number that has these digits
abbrev number : List ℕ → ℕ
number [] = 0
number (x ∷ xs) = number xs * 256 + x

digits-number : (xs : List ℕ) → IsBytes xs → digits (length xs) (number xs) ≡ xs
digits-number [] fit = refl
digits-number (x ∷ xs) fit = λ i. mod-mul-add (number xs) 256 x fit.0 i
    ∷ (ap (digits (length xs)) (div-mul-add (number xs) 256 x fit.0) ∙ digits-number xs fit.1) i

to_be_bytes-digits : (n : ℕ) → to_be_bytes w128 n ≡ reverse (digits 16 n)
to_be_bytes-digits n = simp div-div-eq-div-mul

-- the first k values of f
abbrev first_values : ℕ → (ℕ → ℕ) → List ℕ
first_values zero f = []
first_values (suc k) f = f 0 ∷ first_values k (λ i. f (suc i))

first_values-get_or : (xs : List ℕ) → first_values (length xs) (λ i. get_or xs i 0) ≡ xs
first_values-get_or [] = refl
first_values-get_or (x ∷ xs) = ap (λ ys. x ∷ ys) (first_values-get_or xs)

pub be_bytes_16 : (bs : List ℕ) → length bs ≡ 16 → ((i : ℕ) → get_or bs i 0 < 256) →
    to_be_bytes w128 (from_be_bytes w128 bs) ≡ bs
be_bytes_16 bs len fits =
    let listed : first_values 16 (λ i. get_or bs i 0) ≡ bs = rw len at (first_values-get_or bs) in
    let same : from_be_bytes w128 bs ≡ number (reverse (first_values 16 (λ i. get_or bs i 0))) = omega arith in
    to_be_bytes-digits (from_be_bytes w128 bs)
    ∙ ap (λ n. reverse (digits 16 n)) same
    ∙ ap reverse (digits-number (reverse (first_values 16 (λ i. get_or bs i 0))) (search rules))
    ∙ listed

-- ==== What a reading gives, in both directions: which values, and which faults

abbrev pub read_ok : {A : Type 0} → A → Result A ℕ
read_ok x = Ok x

abbrev pub read_err : {A : Type 0} → ℕ → Result A ℕ
read_err e = Err e

pub ok_is : {A : Type 0} (x y : A) → read_ok x ≡ read_ok y → x ≡ y
ok_is x y e = cc

pub err_is : {A : Type 0} (x y : ℕ) → read_err {A = A} x ≡ read_err {A = A} y → x ≡ y
err_is x y e = cc

-- r is Ok of what is Good, and Err of what is Bad, and if Fits, one of the two
pub record Tells {B : Type 0} (Fits : Type 0) (r : Result B ℕ) (Good : B → Type 0) (Bad : ℕ → Type 0) : Type 0 where
  pub total : Fits → ((y : B) × Good y × (r ≡ Ok y)) ⊎ ((e : ℕ) × Bad e × (r ≡ Err e))
  pub good : (y : B) → Good y → r ≡ Ok y
  pub bad : (e : ℕ) → Bad e → r ≡ Err e

pub good_of : {B : Type 0} {Fits : Type 0} {r : Result B ℕ} {Good : B → Type 0} {Bad : ℕ → Type 0} →
    Tells Fits r Good Bad → Fits → (y : B) → r ≡ Ok y → Good y
good_of {Good} t f y h = elim (t.total f) [ inl p ↦ subst Good (ok_is p.0 y (sym p.2 ∙ h)) p.1 | inr q ↦ absurd cc ]

pub bad_of : {B : Type 0} {Fits : Type 0} {r : Result B ℕ} {Good : B → Type 0} {Bad : ℕ → Type 0} →
    Tells Fits r Good Bad → Fits → (e : ℕ) → r ≡ Err e → Bad e
bad_of {B} {Bad} t f e h =
    elim (t.total f) [ inl p ↦ absurd cc | inr q ↦ subst Bad (err_is {A = B} q.0 e (sym q.2 ∙ h)) q.1 ]

pub along : {B : Type 0} {Fits : Type 0} {r s : Result B ℕ} {Good : B → Type 0} {Bad : ℕ → Type 0} → r ≡ s →
    Tells Fits s Good Bad → Tells Fits r Good Bad
along e t = grind arith

pub as_told : {B : Type 0} {Fits Fits2 : Type 0} {r : Result B ℕ} {Good Good2 : B → Type 0} {Bad Bad2 : ℕ → Type 0} →
    Tells Fits r Good Bad →
    (Fits2 → Fits) → ((y : B) → Fits2 → Good y → Good2 y) → ((y : B) → Good2 y → Good y) → ((e : ℕ) → Bad e → Bad2 e) →
    ((e : ℕ) → Bad2 e → Bad e) → Tells Fits2 r Good2 Bad2
as_told t fits to from to_bad from_bad = grind arith

pub told_ok : {B : Type 0} (Fits : Type 0) (y : B) (Good : B → Type 0) (Bad : ℕ → Type 0) → (Fits → Good y) →
    ((z : B) → Good z → y ≡ z) → ((e : ℕ) → Bad e → ⊥) → Tells Fits (Ok y) Good Bad
told_ok Fits y Good Bad g only none = grind arith

pub told_err : {B : Type 0} (Fits : Type 0) (e : ℕ) (Good : B → Type 0) (Bad : ℕ → Type 0) → (Fits → Bad e) →
    ((c : ℕ) → Bad c → e ≡ c) → ((z : B) → Good z → ⊥) → Tells Fits (Err e) Good Bad
told_err {B} Fits e Good Bad b only none = grind arith

pub by_test : {B : Type 0} {Fits : Type 0} (b : Bool) {r s : Result B ℕ} {Good : B → Type 0} {Bad : ℕ → Type 0} →
    (b ≡ true → Tells Fits r Good Bad) → (b ≡ false → Tells Fits s Good Bad) → Tells Fits (if b then r else s) Good Bad
by_test b x y = grind arith

pub bind_assoc : {A B C : Type 0} (r : Result A ℕ) (f : A → Result B ℕ) (g : B → Result C ℕ) →
    ((r >>= f) >>= g) ≡ (r >>= (λ x. f x >>= g))
bind_assoc r f g = grind arith

-- a field: its text, which values are right, its faults, and its reading
pub record Field {A : Type 0} (text : A → List ℕ) (IsRight : A → Type 0) (No : List ℕ → ℕ → Type 0)
    (read : List ℕ → Result (A × List ℕ) ℕ) : Type 0 where
  pub at : (bytes : List ℕ) →
      Tells (IsBytes bytes) (read bytes) (λ p. IsRight p.0 × (bytes ≡ text p.0 ++ p.1)) (No bytes)

pub IsBytes-back : (xs ys : List ℕ) → IsBytes (xs ++ ys) → IsBytes ys
IsBytes-back [] ys h = h
IsBytes-back (x ∷ xs) ys h = IsBytes-back xs ys h.1

pub IsBytes-front : (xs ys : List ℕ) → IsBytes (xs ++ ys) → IsBytes xs
IsBytes-front [] ys h = tt
IsBytes-front (x ∷ xs) ys h = (h.0, IsBytes-front xs ys h.1)

pub IsBytes-both : (xs ys : List ℕ) → IsBytes xs → IsBytes ys → IsBytes (xs ++ ys)
IsBytes-both [] ys h k = k
IsBytes-both (x ∷ xs) ys h k = (h.0, IsBytes-both xs ys h.1 k)

pub rest_fits : (bytes xs ys : List ℕ) → bytes ≡ xs ++ ys → IsBytes bytes → IsBytes ys
rest_fits bytes xs ys e h = IsBytes-back xs ys (subst (λ (bs : List ℕ). IsBytes bs) e h)

pub front_fits : (bytes xs ys : List ℕ) → bytes ≡ xs ++ ys → IsBytes bytes → IsBytes xs
front_fits bytes xs ys e h = IsBytes-front xs ys (subst (λ (bs : List ℕ). IsBytes bs) e h)

-- a field, and then what follows
pub after_reading : {A B : Type 0} {text : A → List ℕ} {IsRight : A → Type 0} {No : List ℕ → ℕ → Type 0}
    {read : List ℕ → Result (A × List ℕ) ℕ} → Field text IsRight No read →
    (k : A × List ℕ → Result B ℕ) (Good : A → List ℕ → B → Type 0) (Bad : A → List ℕ → ℕ → Type 0) →
    ((x : A) (rest : List ℕ) → IsRight x → Tells (IsBytes rest) (k (x, rest)) (Good x rest) (Bad x rest)) →
    (bytes : List ℕ) →
    Tells (IsBytes bytes) (read bytes >>= k) (λ y. Begins text IsRight (λ x rest. Good x rest y) bytes)
    (λ e. No bytes e ⊎ Begins text IsRight (λ x rest. Bad x rest e) bytes)
after_reading {text} {read} f k Good Bad goes bytes = record {
  total = λ fits. elim ((f.at bytes).total fits) [
    | inl p ↦ elim ((goes p.0.0 p.0.1 p.1.0).total (rest_fits bytes (text p.0.0) p.0.1 p.1.1 fits)) [
      | inl q ↦ inl (q.0, (p.0.0, p.0.1, p.1.0, p.1.1, q.1), ap (λ r. r >>= k) p.2 ∙ q.2)
      | inr q ↦ inr (q.0, inr (p.0.0, p.0.1, p.1.0, p.1.1, q.1), ap (λ r. r >>= k) p.2 ∙ q.2)
    ]
    | inr p ↦ inr (p.0, inl p.1, ap (λ r. r >>= k) p.2)
  ];
  good = λ y b. ap (λ r. r >>= k) ((f.at bytes).good (b.0, b.1) (b.2, b.3)) ∙ (goes b.0 b.1 b.2).good y b.4;
  bad = λ e h. elim h [
    | inl n ↦ ap (λ r. r >>= k) ((f.at bytes).bad e n)
    | inr b ↦ ap (λ r. r >>= k) ((f.at bytes).good (b.0, b.1) (b.2, b.3)) ∙ (goes b.0 b.1 b.2).bad e b.4
  ];
}

-- a value that is made of what was read
pub mapped : {A B : Type 0} {Fits : Type 0} {r : Result A ℕ} {Good : A → Type 0} {Bad : ℕ → Type 0} →
    Tells Fits r Good Bad → (f : A → B) →
    Tells Fits (r >>= (λ x. read_ok (f x))) (λ y. (x : A) × Good x × (f x ≡ y)) Bad
mapped {B} t f = grind arith

pub true_is_false : true ≡ false → ⊥
true_is_false e = cc

-- a test, and then what follows
pub tested : {A B : Type 0} {Fits : Type 0} (b : Bool) (code : ℕ) (v : A) (k : A → Result B ℕ) (Good : B → Type 0)
    (Bad : ℕ → Type 0) →
    (b ≡ true → Tells Fits (k v) Good Bad) → Tells Fits (unless (not b) code v >>= k) (λ y. IsTrue b × Good y)
    (λ e. (IsFalse b × (e ≡ code)) ⊎ (IsTrue b × Bad e))
tested b code v k Good Bad goes = grind (arith, as_told, true_is_false, told_err)

pub by_test_then : {A B : Type 0} {Fits : Type 0} (b : Bool) (r s : Result A ℕ) (k : A → Result B ℕ) {Good : B → Type 0}
    {Bad : ℕ → Type 0} → (b ≡ true → Tells Fits (r >>= k) Good Bad) → (b ≡ false → Tells Fits (s >>= k) Good Bad) →
    Tells Fits ((if b then r else s) >>= k) Good Bad
by_test_then b r s k x y = grind arith

-- ==== Each field: what is read is spelled so and right, what is spelled so is read, and what is no right field has its
--      fault

pub cons_eq : (n m : ℕ) (a b : List ℕ) → n ∷ a ≡ m ∷ b → (n ≡ m) × (a ≡ b)
cons_eq n m a b e = (cc, cc)

-- ---- n bytes

pub some_bytes : (n : ℕ) (bytes : List ℕ) →
    Tells (IsBytes bytes) (bytes_at n bytes) (λ p. (length p.0 ≡ n) × (bytes ≡ p.0 ++ p.1)) (Stops n bytes)
some_bytes n bytes = grind (
  arith,
  by_test,
  told_err,
  ltb-true,
  length-append,
  ltb-false,
  told_ok,
  length-take-le,
  take-append-drop,
  take_at,
  drop_at,
)

pub bytes_field : (n : ℕ) → Field (λ held. held) (λ held. length held ≡ n) (Stops n) (bytes_at n)
bytes_field n = record { at = some_bytes n }

-- ---- a lower bound

no_lower_here : (p : List ℕ × List ℕ) → IsLower p.0 × ([] ≡ short_text p.0 ++ p.1) → ⊥
no_lower_here p g = cc

lower_told : (bytes : List ℕ) →
    Tells (IsBytes bytes) (lower_at bytes) (λ p. IsLower p.0 × (bytes ≡ short_text p.0 ++ p.1)) (NoLower bytes)
lower_told [] = told_err _ _ _ _ (λ _. refl) (λ c b. sym b) no_lower_here
lower_told (n ∷ bytes) = by_test (nat_lt 64 n)
    (λ h. grind arith)
    (λ h. let le : n ≤ 64 = ltb-false _ _ h in as_told (some_bytes n bytes) (λ f. f.1)
    (λ p f g. (
      record { not_long = (let e = g.0 in omega arith); bytes = front_fits bytes p.0 p.1 g.1 f.1 },
      λ i. sym g.0 i ∷ g.1 i,
    ))
    (λ p g. let e = cons_eq n (length p.0) bytes (p.0 ++ p.1) g.1 in (sym e.0, e.1))
    (λ e b. inr (le, b))
    (λ e b. elim b [ inl x ↦ absurd (let lt = x.0 in omega arith) | inr x ↦ x.1 ]))

pub lower_field : Field short_text IsLower NoLower lower_at
lower_field = record { at = lower_told }

-- ---- items

pub is_length : (n : ℕ) → is_item_length n ≡ true → IsItemLength n
is_length n h = grind arith

pub no_length : (n : ℕ) → is_item_length n ≡ false → (n ≡ 0) ⊎ (64 < n)
no_length n h = grind arith

not_length_both : (n : ℕ) → IsItemLength n → (n ≡ 0) ⊎ (64 < n) → ⊥
not_length_both n h k = let a = h.0 in let b = h.1 in elim k [ inl x ↦ omega arith | inr x ↦ omega arith ]

item_told_length : (n : ℕ) (bytes : List ℕ) → IsItemLength n →
    Tells (IsBytes bytes) (bytes_at n bytes) (λ p. IsItem p.0 × (n ∷ bytes ≡ short_text p.0 ++ p.1)) (Stops n bytes)
item_told_length n bytes k = grind (arith, common_steps, as_told, some_bytes, front_fits, cons_eq)

item_length_of : (n : ℕ) (bytes x rest : List ℕ) → IsItem x → n ∷ bytes ≡ short_text x ++ rest → IsItemLength n
item_length_of n bytes x rest h e = let q = (cons_eq n (length x) bytes (x ++ rest) e).0 in let a = h.not_empty in
    let b = h.not_long in (omega arith, omega arith)

item_told : (bytes : List ℕ) →
    Tells (IsBytes bytes) (text_at bytes) (λ p. IsItem p.0 × (bytes ≡ short_text p.0 ++ p.1)) (NoItem bytes)
item_told [] = told_err _ _ _ _ (λ _. refl) (λ c b. sym b) (λ p g. let e = g.1 in cc)
item_told (n ∷ bytes) = by_test (is_item_length n)
    (λ h. let k = is_length n h in
    as_told (item_told_length n bytes k) (λ f. f.1) (λ p f g. g) (λ p g. g) (λ e b. inr (k, b))
    (λ e b. elim b [ inl x ↦ absurd (not_length_both n k x.0) | inr x ↦ x.1 ]))
    (λ h. grind arith)

pub item_field : Field short_text IsItem NoItem text_at
item_field = record { at = item_told }

-- ---- an upper bound

upper_some : (n : ℕ) (bytes : List ℕ) → n ≢ 0xFF → (p : Option (List ℕ) × List ℕ) →
    IsUpper p.0 × (n ∷ bytes ≡ upper_text p.0 ++ p.1) →
    (x : List ℕ × List ℕ) × (IsItem x.0 × (n ∷ bytes ≡ short_text x.0 ++ x.1)) × ((Some x.0, x.1) ≡ p)
upper_some n bytes ne (None, rest) g = absurd (ne (cons_eq n 0xFF bytes rest g.1).0)
upper_some n bytes ne (Some y, rest) g = ((y, rest), g, refl)

pub neq_of : (n m : ℕ) → (n == m) ≡ false → n ≢ m
neq_of n m h e = let t = eq-eqb n m e in cc

upper_told : (bytes : List ℕ) →
    Tells (IsBytes bytes) (upper_at bytes) (λ p. IsUpper p.0 × (bytes ≡ upper_text p.0 ++ p.1)) (NoUpper bytes)
upper_told [] = grind arith
upper_told (n ∷ bytes) = by_test (n == 0xFF)
    (λ h. grind arith)
    (λ h. let ne = neq_of n 0xFF h in by_test (is_item_length n)
    (λ h. let k = is_length n h in as_told (mapped (item_told_length n bytes k) (λ y. (Some y.0, y.1))) (λ f. f.1)
    (λ p f g. subst (λ (p : Option (List ℕ) × List ℕ). IsUpper p.0 × (n ∷ bytes ≡ upper_text p.0 ++ p.1)) g.2 g.1)
    (upper_some n bytes ne)
    (λ e b. inr (k, b))
    (λ e b. elim b [ inl x ↦ absurd (not_length_both n k x.0) | inr x ↦ x.1 ]))
    (λ h. let k = no_length n h in told_err _ _ _ _ (λ _. inl (k, ne, refl))
    (λ c b. elim b [ inl x ↦ sym x.2 | inr x ↦ absurd (not_length_both n x.0 k) ])
    (λ p g. let s = upper_some n bytes ne p g in not_length_both n (item_length_of n bytes s.0.0 s.0.1 s.1.0 s.1.1) k)))

pub upper_field : Field upper_text IsUpper NoUpper upper_at
upper_field = record { at = upper_told }

-- ---- a count

pub byte_fits : (bytes : List ℕ) → IsBytes bytes → (i : ℕ) → get_or bytes i 0 < 256
byte_fits [] h i = omega arith
byte_fits (b ∷ bytes) h zero = h.0
byte_fits (b ∷ bytes) h (suc i) = byte_fits bytes h.1 i

pub count_fits : (bytes : List ℕ) → IsBytes bytes → from_be_bytes w32 bytes < 2 ^ 32
count_fits bytes h = let fits = byte_fits bytes h in omega (arith, fits 0, fits 1, fits 2, fits 3)

count_told : (bytes : List ℕ) →
    Tells (IsBytes bytes) (number_at bytes) (λ p. IsCount p.0 × (bytes ≡ count_text p.0 ++ p.1)) (Stops 4 bytes)
count_told bytes = as_told (mapped (some_bytes 4 bytes) (λ four. (from_be_bytes w32 four.0, four.1))) (λ f. f)
    (λ p f g. let fits = front_fits bytes g.0.0 g.0.1 g.1.1 f in
    subst (λ (p : ℕ × List ℕ). IsCount p.0 × (bytes ≡ count_text p.0 ++ p.1)) g.2 (
      count_fits g.0.0 fits,
      g.1.1 ∙ ap (λ (t : List ℕ). t ++ g.0.1) (sym (be_bytes_4 g.0.0 _ g.1.0 (byte_fits g.0.0 fits) refl)),
    ))
    (λ p g. ((count_text p.0, p.1), (refl, g.1), let e = from_be_bytes-to_be_bytes_4 p.0 g.0 in λ i. (e i, p.1)))
    (λ e b. b) (λ e b. b)

pub count_field : Field count_text IsCount (Stops 4) number_at
count_field = record { at = count_told }
