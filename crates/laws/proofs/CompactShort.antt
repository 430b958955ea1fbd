-- What is kept of a unit that has not all come is short.
-- `Short n Right read`: where nothing has come whole there are fewer than n bytes, and what is read takes at most n and
-- is right. Two readings take what both take. A bound has at most 66 bytes after its head, since its rest has at most
-- 64; a field has at most its greatest length and four bytes before it. So with two heads a unit has at most 138 bytes
-- more than the longest field.
-- docs/LAWS.md: The compact spelling.
use Rattle.std.proofs.Common.{◌≡◌, ℕ, zero, suc, ◌+◌, ◌*◌, ◌/◌, ◌%◌, ◌<◌, ◌≤◌, Bool, true, false, List, [], ◌∷◌, ◌++◌}
use Rattle.std.proofs.Common.{length, take, drop, Option, Some, None, Ok, Err, refl, sym, ap, subst, ◌∙◌, arith, inl}
use Rattle.std.proofs.Common.{inr}
use Rattle.std.specs.Prelude.{◌==◌, ◌||◌, not, nat_lt, if◌then◌else◌, ⊤}
use Rattle.definitions.proofs.Words.{IsBytes, Sum, Profile, IsProfile, Came, Failed, Ended, Range}
use Rattle.definitions.proofs.Lemmas.{length-drop, ltb-true, ltb-false}
use Rattle.definitions.specs.CompactReading.{Reading, ◌>>=◌, gives, but_not, byte_from, bytes_from, amount_at}
use Rattle.definitions.specs.CompactReading.{goes_above, rest_length_at, rest_at, bound_at, upper_from, digits_from}
use Rattle.definitions.specs.CompactReading.{number_from, max_field, all_of, held_from, field_from, listing_in}
use Rattle.definitions.specs.CompactReading.{answer_in, fields_from, body_from, skipped_from, part_from, failed_from}
use Rattle.definitions.specs.CompactReading.{came_at, end_fault, unit_at}
use Rattle.definitions.specs.Packing.{Unpacked, unpack}
use Rattle.definitions.specs.Refusals.{frame_length, bad_bound, bad_kind, empty_range}
use Rattle.laws.specs.Compact.{IsFrom}
use Rattle.laws.proofs.CompactBounds.{cases_of, given_is}
use Rattle.laws.proofs.CompactFrames.{unpack_good}

record Short {A : Type 0} (n : ℕ) (Right : A → Type 0) (read : List ℕ → Reading A) : Type 0 where
  waits : (bytes : List ℕ) → read bytes ≡ Ok None → length bytes < n
  takes : (bytes : List ℕ) (x : A) (rest : List ℕ) → read bytes ≡ gives x rest →
      Right x × (length bytes ≤ n + length rest)

-- nothing is said of what is read
abbrev Any : {A : Type 0} → A → Type 0
Any x = ⊤

then_short : {A B : Type 0} {n : ℕ} {Right : A → Type 0} {read : List ℕ → Reading A} → Short n Right read → (m : ℕ)
    (Right2 : B → Type 0) (k : A × List ℕ → Reading B) →
    ((x : A) → Right x → Short m Right2 (λ rest. k (x, rest))) → Short (n + m) Right2 (λ bytes. read bytes >>= k)
then_short {n} {read} s m Right2 k goes = record {
  waits = λ bytes e. elim (cases_of (read bytes) k (Ok None) e) [
    | inl c ↦
        let t = s.takes bytes c.0 c.1 c.2 in
        let a = t.1 in
        let b = (goes c.0 t.0).waits c.1 c.3 in omega arith
    | inr d ↦ elim d [
      | inl c ↦ absurd (let wrong = c.2 in cc)
      | inr c ↦ let a = s.waits bytes c.0 in omega arith
    ]
  ];
  takes = λ bytes y rest e. elim (cases_of (read bytes) k (gives y rest) e) [
    | inl c ↦
        let t = s.takes bytes c.0 c.1 c.2 in
        let a = t.1 in
        let u = (goes c.0 t.0).takes c.1 y rest c.3 in
        let b = u.1 in (u.0, omega arith)
    | inr d ↦ absurd (elim d [ inl c ↦ (let wrong = c.2 in cc) | inr c ↦ (let wrong = c.1 in cc) ])
  ];
}

gives_short : {A : Type 0} (Right : A → Type 0) (x : A) → Right x → Short 0 Right (gives x)
gives_short Right x right = record {
  waits = λ bytes e. absurd cc;
  takes = λ bytes y rest e. let p = given_is x y bytes rest e in
      let same = ap length p.1 in (subst Right p.0 right, omega arith);
}

err_short : {A : Type 0} (n : ℕ) (Right : A → Type 0) (code : ℕ) → Short {A = A} n Right (λ bytes. Err code)
err_short n Right code = record { waits = λ bytes e. absurd cc; takes = λ bytes x rest e. absurd cc }

if_short : {A : Type 0} {n : ℕ} {Right : A → Type 0} (b : Bool) {r s : List ℕ → Reading A} →
    (b ≡ true → Short n Right r) → (b ≡ false → Short n Right s) →
    Short n Right (λ bytes. if b then r bytes else s bytes)
if_short true x y = x refl
if_short false x y = y refl

test_short : {A : Type 0} (Right : A → Type 0) (wrong : Bool) (code : ℕ) (x : A) → (wrong ≡ false → Right x) →
    Short 0 Right (λ bytes. but_not wrong code (x, bytes))
test_short Right true code x right = err_short 0 Right code
test_short Right false code x right = gives_short Right x (right refl)

-- at least as much
wider : {A : Type 0} {n : ℕ} {Right Right2 : A → Type 0} {read : List ℕ → Reading A} → Short n Right read → (m : ℕ) →
    n ≤ m → ((x : A) → Right x → Right2 x) → Short m Right2 read
wider s m le to = record {
  waits = λ bytes e. let a = s.waits bytes e in omega arith;
  takes = λ bytes x rest e. let t = s.takes bytes x rest e in let a = t.1 in (to x t.0, omega arith);
}

tested_short : {A B : Type 0} {n : ℕ} {Right : A → Type 0} {read : List ℕ → Reading A} → Short n Right read →
    (Right2 : B → Type 0) (wrong : A → Bool) (code : ℕ) (f : A → B) →
    ((x : A) → Right x → wrong x ≡ false → Right2 (f x)) →
    Short n Right2 (λ bytes. read bytes >>= (λ p. but_not (wrong p.0) code (f p.0, p.1)))
tested_short {n} s Right2 wrong code f right = wider (then_short s 0 Right2 (λ p. but_not (wrong p.0) code (f p.0, p.1))
    (λ x r. test_short Right2 (wrong x) code (f x) (right x r))) n (omega arith) (λ x r. r)

mapped_short : {A B : Type 0} {n : ℕ} {Right : A → Type 0} {read : List ℕ → Reading A} → Short n Right read →
    (f : A → B) → Short n Any (λ bytes. read bytes >>= (λ p. gives (f p.0) p.1))
mapped_short {n} s f = wider (then_short s 0 Any (λ p. gives (f p.0) p.1) (λ x r. gives_short Any (f x) tt)) n
    (omega arith) (λ x r. tt)

-- ---- bytes and bounds

byte_short : Short 1 Any byte_from
byte_short = record { waits = none; takes = some } where
  none : (bytes : List ℕ) → byte_from bytes ≡ Ok None → length bytes < 1
  none [] e = omega arith
  none (b ∷ bytes) e = absurd cc

  some : (bytes : List ℕ) (x : ℕ) (rest : List ℕ) → byte_from bytes ≡ gives x rest →
      Any x × (length bytes ≤ 1 + length rest)
  some [] x rest e = absurd cc
  some (b ∷ bytes) x rest e = let p = given_is b x bytes rest e in let same = ap length p.1 in (tt, omega arith)

bytes_short : (n : ℕ) → Short n Any (bytes_from n)
bytes_short n = record {
  waits = λ bytes e. none bytes (nat_lt (length bytes) n) refl e;
  takes = λ bytes x rest e. some bytes x rest (nat_lt (length bytes) n) refl e;
} where
  none : (bytes : List ℕ) (b : Bool) → nat_lt (length bytes) n ≡ b →
      (if b then Ok None else gives (take n bytes) (drop n bytes)) ≡ Ok None → length bytes < n
  none bytes true h e = ltb-true _ _ h
  none bytes false h e = absurd cc

  some : (bytes x rest : List ℕ) (b : Bool) → nat_lt (length bytes) n ≡ b →
      (if b then Ok None else gives (take n bytes) (drop n bytes)) ≡ gives x rest →
      Any x × (length bytes ≤ n + length rest)
  some bytes x rest true h e = absurd cc
  some bytes x rest false h e = let p = given_is (take n bytes) x (drop n bytes) rest e in
      let same = ap length p.1 in (tt, omega (arith, length-drop n bytes))

amount_short : (n : ℕ) → Short 1 Any (amount_at n)
amount_short n = if_short (nat_lt n 7) (λ h. wider (gives_short Any n tt) 1 (omega arith) (λ x r. tt))
    (λ h. tested_short byte_short Any (λ m. nat_lt m 7) bad_bound (λ m. m) (λ x r w. tt))

rest_few : (s l : ℕ) → nat_lt 64 (s + l) ≡ false → l ≤ 64
rest_few s l h = let le = ltb-false _ _ h in omega arith

bound_short : (z : List ℕ) (head : ℕ) → Short 66 Any (bound_at z head)
bound_short z head = then_short
    (tested_short (amount_short (head / 8 % 8)) Any (λ s. nat_lt 63 s || nat_lt (length z) s) bad_bound (λ s. s)
    (λ x r w. tt)) 65 Any (λ s. rest_length_at s.0 head s.1 >>= (λ l. rest_at z s.0 l.0 l.1))
    (λ s r. then_short (tested_short (amount_short (head % 8)) (λ l. l ≤ 64) (λ l. nat_lt 64 (s + l)) bad_bound (λ l. l)
    (λ l r w. rest_few s l w)) 64 Any (λ l. rest_at z s l.0 l.1)
    (λ l few. wider (tested_short (bytes_short l) Any (λ held. not (goes_above (drop s z) held)) empty_range
    (λ held. take s z ++ held) (λ x r w. tt)) 64 few (λ x r. tt)))

upper_short : (z : List ℕ) (head : ℕ) → Short 66 Any (upper_from z head)
upper_short z head = if_short (head % 8 == 0)
    (λ h. wider (test_short Any (not (head / 8 % 8 == 0)) bad_bound None (λ w. tt)) 66 (omega arith) (λ x r. tt))
    (λ h. mapped_short (bound_short z head) (λ y. Some y))

-- ---- fields

digits_short : (places n : ℕ) → Short places Any (digits_from places n)
digits_short zero n = err_short 0 Any frame_length
digits_short (suc places) n = record { waits = none (digits_short places); takes = some (digits_short places) } where
  none : ((m : ℕ) → Short places Any (digits_from places m)) → (bytes : List ℕ) →
      digits_from (suc places) n bytes ≡ Ok None → length bytes < suc places
  none more [] e = omega arith
  none more (b ∷ bytes) e =
      let a = (if_short (nat_lt b 128) (λ h. wider (gives_short Any (128 * n + b) tt) places (omega arith) (λ x r. tt))
      (λ h. more (128 * n + b % 128))).waits bytes e in omega arith

  some : ((m : ℕ) → Short places Any (digits_from places m)) → (bytes : List ℕ) (x : ℕ) (rest : List ℕ) →
      digits_from (suc places) n bytes ≡ gives x rest → Any x × (length bytes ≤ suc places + length rest)
  some more [] x rest e = absurd cc
  some more (b ∷ bytes) x rest e =
      let t = (if_short (nat_lt b 128) (λ h. wider (gives_short Any (128 * n + b) tt) places (omega arith) (λ x r. tt))
      (λ h. more (128 * n + b % 128))).takes bytes x rest e in let a = t.1 in (tt, omega arith)

number_short : Short 4 Any number_from
number_short = record { waits = none; takes = some } where
  none : (bytes : List ℕ) → number_from bytes ≡ Ok None → length bytes < 4
  none [] e = omega arith
  none (b ∷ bytes) e =
      (if_short (b == 128) (λ h. err_short 4 Any frame_length) (λ h. digits_short 4 0)).waits (b ∷ bytes) e

  some : (bytes : List ℕ) (x : ℕ) (rest : List ℕ) → number_from bytes ≡ gives x rest →
      Any x × (length bytes ≤ 4 + length rest)
  some [] x rest e = absurd cc
  some (b ∷ bytes) x rest e =
      (if_short (b == 128) (λ h. err_short 4 Any frame_length) (λ h. digits_short 4 0)).takes (b ∷ bytes) x rest e

all_short : {A : Type 0} (r : Reading A) → Short 0 Any (all_of r)
all_short (Ok (Some p)) = gives_short Any p.0 tt
all_short (Ok None) = err_short 0 Any frame_length
all_short (Err code) = err_short 0 Any code

field_short : {A : Type 0} (inside : List ℕ → Reading A) → Short (4 + max_field) Any (field_from inside)
field_short inside = then_short number_short max_field Any
    (λ n. but_not (nat_lt max_field n.0) frame_length n >>= (λ m. held_from inside m.0 m.1))
    (λ n r. wider (then_short
    (test_short (λ m. m ≤ max_field) (nat_lt max_field n) frame_length n (λ w. ltb-false _ _ w))
    max_field Any (λ m. held_from inside m.0 m.1)
    (λ m few. wider (then_short (bytes_short m) 0 Any (λ field. all_of (inside field.0) field.1)
    (λ field r. all_short (inside field))) max_field (omega arith) (λ x r. tt))) max_field (omega arith) (λ x r. tt))

-- ---- parts and units

fields_short : {F : Type 0} (P : Profile F) → IsProfile P → (kind : ℕ) (X : Range) →
    Short (4 + max_field) Any (fields_from P kind X)
fields_short P real kind X = if_short (kind == 1)
    (λ h. let small = real.small in wider (mapped_short (bytes_short P.size) (λ f. Sum X (P.read f))) (4 + max_field)
    (omega arith) (λ x r. tt))
    (λ h. if_short (kind == 2) (λ h. field_short (listing_in P X)) (λ h. field_short (answer_in P X)))

body_short : {F : Type 0} (P : Profile F) → IsProfile P → (z : List ℕ) (head : ℕ) →
    Short (70 + max_field) Any (body_from P z head)
body_short P real z head = wider (then_short (upper_short z head) (4 + max_field) Any
    (λ y. fields_from P (head / 64) (record { lower = z; upper = y.0 }) y.1)
    (λ y r. fields_short P real (head / 64) (record { lower = z; upper = y })))
    (70 + max_field) (omega arith) (λ x r. tt)

-- one more byte in front
headed_short : {A : Type 0} (n : ℕ) (read : List ℕ → Reading A) (k : ℕ → List ℕ → Reading A) → read [] ≡ Ok None →
    ((b : ℕ) (bytes : List ℕ) → read (b ∷ bytes) ≡ k b bytes) → ((b : ℕ) → Short n Any (k b)) → Short (1 + n) Any read
headed_short {A} n read k empty some goes = record {
  waits = λ bytes. elim bytes as (λ bytes. read bytes ≡ Ok None → length bytes < 1 + n) [
    | [] ↦ λ e. omega arith
    | b ∷ bytes ↦ λ e. let a = (goes b).waits bytes (sym (some b bytes) ∙ e) in omega arith
  ];
  takes = λ bytes. elim bytes as (λ bytes. (x : A) (rest : List ℕ) → read bytes ≡ gives x rest →
      Any x × (length bytes ≤ (1 + n) + length rest)) [
        | [] ↦ λ x rest e. absurd (let wrong = sym empty ∙ e in cc)
        | b ∷ bytes ↦ λ x rest e.
            let t = (goes b).takes bytes x rest (sym (some b bytes) ∙ e) in let a = t.1 in (tt, omega arith)
      ];
}

skipped_short : {F : Type 0} (P : Profile F) → IsProfile P → (x : List ℕ) →
    Short (1 + (70 + max_field)) Any (skipped_from P x)
skipped_short P real x = headed_short (70 + max_field) (skipped_from P x)
    (λ head bytes. if nat_lt head 64 then Err bad_kind else body_from P x head bytes) refl (λ b bytes. refl)
    (λ head. if_short (nat_lt head 64) (λ h. err_short (70 + max_field) Any bad_kind) (λ h. body_short P real x head))

part_short : {F : Type 0} (P : Profile F) → IsProfile P → (z : List ℕ) (head : ℕ) →
    Short (137 + max_field) Any (part_from P z head)
part_short P real z head = if_short (nat_lt 63 head)
    (λ h. wider (body_short P real z head) (137 + max_field) (omega arith) (λ x r. tt))
    (λ h. if_short (head % 8 == 0) (λ h. err_short (137 + max_field) Any bad_kind)
    (λ h. wider (then_short (bound_short z head) (1 + (70 + max_field)) Any (λ x. skipped_from P x.0 x.1)
    (λ x r. skipped_short P real x)) (137 + max_field) (omega arith) (λ x r. tt)))

came_short : {F : Type 0} (P : Profile F) → IsProfile P → (z : Option (List ℕ)) (head : ℕ) →
    Short (137 + max_field) Any (came_at P z head)
came_short P real None head = err_short (137 + max_field) Any (end_fault head)
came_short P real (Some z) head = mapped_short (part_short P real z head) (λ p. Came p)

unit_short : {F : Type 0} (P : Profile F) → IsProfile P → (z : Option (List ℕ)) →
    Short (1 + (137 + max_field)) Any (unit_at P z)
unit_short P real z = headed_short (137 + max_field) (unit_at P z)
    (λ head bytes. if head == 0 then gives Ended bytes
    else if head == 8 then failed_from bytes else came_at P z head bytes) refl (λ b bytes. refl)
    (λ head. if_short (head == 0) (λ h. wider (gives_short Any Ended tt) (137 + max_field) (omega arith) (λ x r. tt))
    (λ h. if_short (head == 8)
    (λ h. wider (mapped_short byte_short (λ code. Failed code)) (137 + max_field) (omega arith) (λ x r. tt))
    (λ h. came_short P real z head)))

pub unit_kept : {F : Type 0} (P : Profile F) → IsProfile P → (z : Option (List ℕ)) (bytes : List ℕ) →
    unit_at P z bytes ≡ Ok None → length bytes < max_field + 138
unit_kept P real z bytes is = let a = (unit_short P real z).waits bytes is in omega arith

pub kept_short : {F : Type 0} (P : Profile F) → IsProfile P → (z : Option (List ℕ)) (bytes : List ℕ) → IsFrom z →
    IsBytes bytes → length (unpack P z bytes).kept < max_field + 138
kept_short {F} P real z bytes low fits =
    let u : Unpacked F = unpack P z bytes in
    let g = unpack_good P real z bytes low fits in
    elim g.ends [
      | inl h ↦ let a = unit_kept P real u.to g.left h.2 in let same = ap length h.1 in omega arith
      | inr h ↦ let none = ap length h.2 in omega arith
    ]
