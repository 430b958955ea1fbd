-- Marks and their bytes.
-- Mark i is bit i mod 8 of byte i / 8. The bit at place i of a byte that is made of eight marks is the i-th mark, by
-- induction over the marks, and so the marks come back from their bytes.
-- Reading: a number of marks, then as many bytes as hold that number, then the test that these bytes are those of the
-- marks in them. If they are not, a bit after the last mark is set: each byte but the last is made of eight marks and
-- has no other bit; the last has r used bits, and it is the byte of its marks exactly if it is below 2^r. So testing
-- the last byte alone is enough.
-- docs/LAWS.md: Marks; Reading is exact.
use Rattle.std.proofs.Common.{◌≡◌, ℕ, zero, suc, ◌+◌, ◌*◌, ◌/◌, ◌%◌, ◌^◌, ◌<◌, Bool, true, false, not, List, [], ◌∷◌}
use Rattle.std.proofs.Common.{◌++◌, length, get_or, take, drop, Result, refl, sym, ap, subst, ◌∙◌, append_assoc, arith}
use Rattle.std.proofs.Common.{inl, inr, ◌≤◌}
use Rattle.std.specs.Prelude.{◌⊎◌, IsTrue, IsFalse, ◌==◌, bytes_eq, ◌||◌, if◌then◌else◌}
use Rattle.definitions.proofs.Words.{bit_at, same_text, IsBytes, Range, count_text, mark_byte, mark_bytes}
use Rattle.definitions.proofs.Words.{mark_bytes_for, marks_text, Begins, IsPadded, FaultyMarks, FaultyList}
use Rattle.definitions.proofs.Words.{FaultyAnswer, unless, bytes_at, number_at, mark_in, marks_in, marks_at}
use Rattle.definitions.proofs.Words.{mark_padding}
use Rattle.definitions.proofs.Lemmas.{ext_get_or, get_or-take, get_or-drop, length-take, length-drop}
use Rattle.definitions.proofs.Lemmas.{length-map-range_with_len, get_or-map-range_with_len, bit_at_lowest, bit_at-suc}
use Rattle.definitions.proofs.Lemmas.{bit_at-zero, bytes_eq-Decides, div-eq_of_lt, lt-div-mul-add, mod-eq_of_lt, mod-lt}
use Rattle.definitions.proofs.Lemmas.{leb_tells, eqb-true, eqb-false, mod-pow-add, pow_pos}
use Rattle.definitions.specs.Reading.{◌>>=◌}
use Rattle.laws.specs.Parts.{PaddingIsLast}
use Rattle.laws.proofs.Fields.{Tells, along, as_told, after_reading, bind_assoc, tested, true_is_false}
use Rattle.laws.proofs.Fields.{bytes_field, count_field, byte_fits}

-- ==== Marks, and the list after them

bit_of_mark : (bits : List Bool) (i : ℕ) → (bit_at (mark_byte bits) i == 1) ≡ get_or bits i false
bit_of_mark [] i = ap (λ n. n == 1) (bit_at-zero i)
bit_of_mark (true ∷ bits) zero = grind arith
bit_of_mark (false ∷ bits) zero = grind arith
bit_of_mark (true ∷ bits) (suc i) = grind (arith, bit_of_mark bits i, bit_at-suc)
bit_of_mark (false ∷ bits) (suc i) = grind (arith, bit_of_mark bits i, bit_at-suc)

pub length-mark_bytes : (marks : List Bool) → length (mark_bytes marks) ≡ mark_bytes_for (length marks)
length-mark_bytes marks =
    length-map-range_with_len (λ j. mark_byte (take 8 (drop (8 * j) marks))) 0 (mark_bytes_for (length marks))

pub length-marks_in : (n : ℕ) (bytes : List ℕ) → length (marks_in n bytes) ≡ n
length-marks_in n bytes = length-map-range_with_len (mark_in bytes) 0 n

mark_back : (marks : List Bool) (i : ℕ) → i < length marks → mark_in (mark_bytes marks) i ≡ get_or marks i false
mark_back marks i lt =
    let j : i / 8 < mark_bytes_for (length marks) = omega arith in
    let byte : get_or (mark_bytes marks) (i / 8) 0 ≡ mark_byte (take 8 (drop (8 * (i / 8)) marks)) =
    get_or-map-range_with_len (λ j. mark_byte (take 8 (drop (8 * j) marks))) 0 (mark_bytes_for (length marks)) (i / 8)
    (i / 8) 0 j (omega arith) in
    let place : 8 * (i / 8) + i % 8 ≡ i = omega arith in
    ap (λ n. bit_at n (i % 8) == 1) byte ∙ bit_of_mark (take 8 (drop (8 * (i / 8)) marks)) (i % 8)
    ∙ get_or-take 8 (drop (8 * (i / 8)) marks) (i % 8) false (omega arith)
    ∙ get_or-drop (8 * (i / 8)) marks (i % 8) false ∙ ap (λ n. get_or marks n false) place

pub marks_back : (n : ℕ) (marks : List Bool) → length marks ≡ n → marks_in n (mark_bytes marks) ≡ marks
marks_back n marks len =
    ext_get_or false (marks_in n (mark_bytes marks)) marks (length-marks_in n (mark_bytes marks) ∙ sym len)
    (λ i lt. let l = length-marks_in n (mark_bytes marks) in let small : i < n = omega arith in
    get_or-map-range_with_len (mark_in (mark_bytes marks)) 0 n i i false small (omega arith)
    ∙ mark_back marks i (omega arith))

-- ---- so many marks

abbrev Clean : ℕ → List ℕ → Bool
Clean n held = bytes_eq held (mark_bytes (marks_in n held))

clean_text : (n : ℕ) (held : List ℕ) → IsTrue (Clean n held) → held ≡ mark_bytes (marks_in n held)
clean_text n held h = same_text held (mark_bytes (marks_in n held)) (sym h)

clean_marks : (n : ℕ) (marks : List Bool) → length marks ≡ n → IsTrue (Clean n (mark_bytes marks))
clean_marks n marks len = (bytes_eq-Decides (mark_bytes marks) (mark_bytes (marks_in n (mark_bytes marks)))).1
    (ap mark_bytes (sym (marks_back n marks len)))

padded_of : (n : ℕ) (held : List ℕ) → IsFalse (Clean n held) → IsPadded n held
padded_of n held f marks len e =
    true_is_false (sym (subst (λ (h : List ℕ). IsTrue (Clean n h)) (sym e) (clean_marks n marks len)) ∙ f)

unclean : (n : ℕ) (held : List ℕ) → IsPadded n held → IsFalse (Clean n held)
unclean n held pad = grind (arith, length-marks_in, clean_text)

abbrev held_marks : ℕ → List ℕ × List ℕ → Result (List Bool × List ℕ) ℕ
held_marks n held =
    unless (not (bytes_eq held.0 (mark_bytes (marks_in n held.0)))) mark_padding (marks_in n held.0, held.1)

some_marks : {B : Type 0} (X : Range) (n : ℕ) (k : List Bool × List ℕ → Result B ℕ)
    (Good : List Bool → List ℕ → B → Type 0) →
    ((marks : List Bool) (rest : List ℕ) →
    Tells (IsBytes rest) (k (marks, rest)) (Good marks rest) (FaultyList X rest)) → (bytes : List ℕ) →
    Tells (IsBytes bytes) ((bytes_at (mark_bytes_for n) bytes >>= held_marks n) >>= k)
    (λ y. Begins mark_bytes (λ marks. length marks ≡ n) (λ marks rest. Good marks rest y) bytes) (FaultyMarks X n bytes)
some_marks {B} X n k Good goes bytes =
    as_told (along (bind_assoc (bytes_at (mark_bytes_for n) bytes) (held_marks n) k)
    (after_reading (bytes_field (mark_bytes_for n)) (λ held. held_marks n held >>= k)
    (λ held rest y. IsTrue (Clean n held) × Good (marks_in n held) rest y)
    (λ held rest e. (IsFalse (Clean n held) × (e ≡ mark_padding)) ⊎ (IsTrue (Clean n held) × FaultyList X rest e))
    (λ held rest _. tested (Clean n held) mark_padding (marks_in n held, rest) k _ _ (λ _. goes (marks_in n held) rest))
    bytes))
    (λ f. f)
    (λ y f g.
    (marks_in n g.0, g.1, length-marks_in n g.0, g.3 ∙ ap (λ (t : List ℕ). t ++ g.1) (clean_text n g.0 g.4.0), g.4.1))
    (λ y g. (
      mark_bytes g.0,
      g.1,
      length-mark_bytes g.0 ∙ ap mark_bytes_for g.2,
      g.3,
      (clean_marks n g.0 g.2, subst (λ (ms : List Bool). Good ms g.1 y) (sym (marks_back n g.0 g.2)) g.4),
    ))
    (λ e b. elim b [
      | inl x ↦ inl x
      | inr x ↦ elim x.4 [
        | inl z ↦ inr (inl (x.0, x.1, (x.2, padded_of n x.0 z.0), x.3, z.1))
        | inr z ↦ inr (inr (
          marks_in n x.0,
          x.1,
          length-marks_in n x.0,
          x.3 ∙ ap (λ (t : List ℕ). t ++ x.1) (clean_text n x.0 z.0),
          z.1,
        ))
      ]
    ])
    (λ e b. elim b [
      | inl x ↦ inl x
      | inr x ↦ elim x [
        | inl z ↦ inr (z.0, z.1, z.2.0, z.3, inl (unclean n z.0 z.2.1, z.4))
        | inr z ↦ inr
            (mark_bytes z.0, z.1, length-mark_bytes z.0 ∙ ap mark_bytes_for z.2, z.3, inr (clean_marks n z.0 z.2, z.4))
      ]
    ])

pub marks_told : {B : Type 0} (X : Range) (k : List Bool × List ℕ → Result B ℕ)
    (Good : List Bool → List ℕ → B → Type 0) →
    ((marks : List Bool) (rest : List ℕ) →
    Tells (IsBytes rest) (k (marks, rest)) (Good marks rest) (FaultyList X rest)) → (bytes : List ℕ) →
    Tells (IsBytes bytes) (marks_at bytes >>= k) (λ y.
    Begins marks_text (λ marks. length marks < 2 ^ 32) (λ marks rest. Good marks rest y) bytes) (FaultyAnswer X bytes)
marks_told {B} X k Good goes bytes =
    as_told (along (bind_assoc (number_at bytes) (λ n. bytes_at (mark_bytes_for n.0) n.1 >>= held_marks n.0) k)
    (after_reading count_field (λ n. (bytes_at (mark_bytes_for n.0) n.1 >>= held_marks n.0) >>= k) (λ n rest y. Begins
    mark_bytes (λ marks. length marks ≡ n) (λ marks more. Good marks more y) rest) (λ n rest. FaultyMarks X n rest)
    (λ n rest _. some_marks X n k Good goes rest) bytes))
    (λ f. f)
    (λ y f g. let m = g.4 in let len = m.2 in let small = g.2 in (
      m.0,
      m.1,
      omega arith,
      g.3 ∙ ap (λ (t : List ℕ). count_text g.0 ++ t) m.3 ∙ ap (λ n. count_text n ++ (mark_bytes m.0 ++ m.1)) (sym m.2)
          ∙ sym (append_assoc (count_text (length m.0)) (mark_bytes m.0) m.1),
      m.4,
    ))
    (λ y g. (
      length g.0,
      mark_bytes g.0 ++ g.1,
      g.2,
      g.3 ∙ append_assoc (count_text (length g.0)) (mark_bytes g.0) g.1,
      (g.0, g.1, refl, refl, g.4),
    ))
    (λ e b. b) (λ e b. b)

-- ==== Of the bytes that hold so many marks only the last can have a bit that is not used

-- ---- the low bits of a number

low_bits : ℕ → ℕ → List Bool
low_bits zero b = []
low_bits (suc k) b = (b % 2 == 1) ∷ low_bits k (b / 2)

length-low_bits : (k b : ℕ) → length (low_bits k b) ≡ k
unfolding low_bits
length-low_bits zero b = refl
length-low_bits (suc k) b = let i = length-low_bits k (b / 2) in omega arith

low_bit : (k b i : ℕ) → i < k → get_or (low_bits k b) i false ≡ (bit_at b i == 1)
unfolding low_bits
low_bit zero b i lt = absurd (omega arith)
low_bit (suc k) b zero lt = ap (λ n. n == 1) (sym (bit_at_lowest b))
low_bit (suc k) b (suc i) lt = low_bit k (b / 2) i (omega arith) ∙ ap (λ n. n == 1) (sym (bit_at-suc b i))

lowest : (b : ℕ) → (if b % 2 == 1 then 1 else 0) ≡ b % 2
lowest b = grind arith

low_value : (k b : ℕ) → mark_byte (low_bits k b) ≡ b % 2 ^ k
unfolding low_bits
low_value zero b = omega arith
low_value (suc k) b = grind (arith, low_value k (b / 2), lowest b, mod-pow-add b k 1)

-- ---- the bytes of the marks in some bytes

entry : (n : ℕ) (held : List ℕ) (j k i : ℕ) → k ≤ 8 → 8 * j + k ≤ n → i < k →
    get_or (take 8 (drop (8 * j) (marks_in n held))) i false ≡ (bit_at (get_or held j 0) i == 1)
entry n held j k i eight room lt =
    let place : (8 * j + i) / 8 ≡ j = omega arith in
    let bit : (8 * j + i) % 8 ≡ i = omega arith in
    get_or-take 8 (drop (8 * j) (marks_in n held)) i false (omega arith) ∙ get_or-drop (8 * j) (marks_in n held) i false
    ∙ get_or-map-range_with_len (mark_in held) 0 n (8 * j + i) (8 * j + i) false (omega arith) (omega arith)
    ∙ (λ h. bit_at (get_or held (place h) 0) (bit h) == 1)

chunk : (n : ℕ) (held : List ℕ) (j k : ℕ) → k ≤ 8 → 8 * j + k ≤ n → (k ≡ 8) ⊎ (8 * j + k ≡ n) →
    take 8 (drop (8 * j) (marks_in n held)) ≡ low_bits k (get_or held j 0)
chunk n held j k eight room last =
    let a = length-take 8 (drop (8 * j) (marks_in n held)) in let b = length-drop (8 * j) (marks_in n held) in
    let c = length-marks_in n held in
    let len : length (take 8 (drop (8 * j) (marks_in n held))) ≡ k =
    elim last [ inl e ↦ omega arith | inr e ↦ omega arith ] in
    ext_get_or false _ _ (len ∙ sym (length-low_bits k (get_or held j 0)))
    (λ i lt. entry n held j k i eight room (omega arith) ∙ sym (low_bit k (get_or held j 0) i (omega arith)))

value_at : (n : ℕ) (held : List ℕ) (j k : ℕ) → j < mark_bytes_for n → k ≤ 8 → 8 * j + k ≤ n →
    (k ≡ 8) ⊎ (8 * j + k ≡ n) → get_or (mark_bytes (marks_in n held)) j 0 ≡ get_or held j 0 % 2 ^ k
value_at n held j k lt eight room last =
    let len = length-marks_in n held in
    get_or-map-range_with_len (λ j. mark_byte (take 8 (drop (8 * j) (marks_in n held)))) 0
    (mark_bytes_for (length (marks_in n held))) j j 0 (omega arith) (omega arith)
    ∙ ap mark_byte (chunk n held j k eight room last) ∙ low_value k (get_or held j 0)

-- a byte whose eight bits are all used
full : (n : ℕ) (held : List ℕ) (j : ℕ) → IsBytes held → j < mark_bytes_for n → 8 * j + 8 ≤ n →
    get_or held j 0 ≡ get_or (mark_bytes (marks_in n held)) j 0
full n held j fits lt room =
    sym (value_at n held j 8 lt (omega arith) room (inl refl) ∙ mod-eq_of_lt (byte_fits held fits j))

same_length : (n : ℕ) (held : List ℕ) → length held ≡ mark_bytes_for n →
    length held ≡ length (mark_bytes (marks_in n held))
same_length n held len = len ∙ sym (length-mark_bytes (marks_in n held) ∙ ap mark_bytes_for (length-marks_in n held))

clean : (n : ℕ) (held : List ℕ) → length held ≡ mark_bytes_for n →
    ((j : ℕ) → j < mark_bytes_for n → get_or held j 0 ≡ get_or (mark_bytes (marks_in n held)) j 0) →
    bytes_eq held (mark_bytes (marks_in n held)) ≡ true
clean n held len each = (bytes_eq-Decides held (mark_bytes (marks_in n held))).1
    (ext_get_or 0 held (mark_bytes (marks_in n held)) (same_length n held len) (λ j lt. each j (omega arith)))

-- the last byte, of which r bits are used
last_byte : (n : ℕ) (held : List ℕ) → 0 < n % 8 →
    get_or (mark_bytes (marks_in n held)) (n / 8) 0 ≡ get_or held (n / 8) 0 % 2 ^ (n % 8)
last_byte n held some = value_at n held (n / 8) (n % 8) (omega arith) (omega arith) (omega arith) (inr (omega arith))

-- where the last byte has no other bit, each byte is that of the marks
each_byte : (n : ℕ) (held : List ℕ) → IsBytes held → 0 < n % 8 → get_or held (n / 8) 0 < 2 ^ (n % 8) → (j : ℕ) →
    j < mark_bytes_for n → get_or held j 0 ≡ get_or (mark_bytes (marks_in n held)) j 0
each_byte n held fits some low j lt = elim (leb_tells (8 * j + 8) n) [
  | inl room ↦ full n held j fits lt room.1
  | inr end ↦ (let short = end.1 in let last : n / 8 ≡ j = omega arith in subst (λ j. get_or held j 0
      ≡ get_or (mark_bytes (marks_in n held)) j 0) last (sym (last_byte n held some ∙ mod-eq_of_lt low)))
]

low_of : (b m : ℕ) → 0 < m → b / m ≡ 0 → b < m
low_of b m some none = let a = lt-div-mul-add {a = b} {b = m} some in
    let c : b < 0 * m + m = subst (λ q. b < q * m + m) none a in omega arith

partly : (n : ℕ) (held : List ℕ) → IsBytes held → length held ≡ mark_bytes_for n → 0 < n % 8 → (t : Bool) →
    (get_or held (n / 8) 0 / 2 ^ (n % 8) == 0) ≡ t → bytes_eq held (mark_bytes (marks_in n held)) ≡ t
partly n held fits len some true e = clean n held len
    (each_byte n held fits some (low_of (get_or held (n / 8) 0) (2 ^ (n % 8)) (pow_pos (n % 8)) (eqb-true _ _ e)))
partly n held fits len some false e =
    grind (arith, eqb-false, div-eq_of_lt, bytes_eq-Decides, last_byte, mod-lt, pow_pos)

pub padding_last : PaddingIsLast
padding_last n held fits len = by (n % 8 == 0) refl where
  by : (t : Bool) → (n % 8 == 0) ≡ t →
      bytes_eq held (mark_bytes (marks_in n held)) ≡ (t || get_or held (n / 8) 0 / 2 ^ (n % 8) == 0)
  by true e = let none = eqb-true _ _ e in clean n held len (λ j lt. full n held j fits lt (omega arith))
  by false e = let no = eqb-false _ _ e in partly n held fits len (omega arith) _ refl
