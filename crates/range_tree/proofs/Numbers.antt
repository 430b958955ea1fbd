-- Items in the order of their first 8 bytes. A number that is read byte by byte stays below another that was greater at
-- some byte, since what follows adds less than one there. So of two items that agree up to a byte and differ there,
-- the numbers are in the order of that byte, as the items are.
use Rattle.std.proofs.Common.{◌≡◌, ℕ, zero, suc, ◌+◌, ◌-◌, ◌*◌, ◌^◌, ◌<◌, ◌≤◌, true, false, List, [], ◌∷◌, drop, length}
use Rattle.std.proofs.Common.{get_or, refl, sym, ap, subst, ◌∙◌, inl, inr, arith, nat_lt, Bool, ◌≢◌}
use Rattle.std.specs.Ordering.{is_lt, ordering_then, ordering_reverse}
use Rattle.std.specs.declared.cmp.Ordering.TheVariants.{Less, Equal}
use Rattle.std.specs.Cmp.{nat_cmp_is}
use Rattle.std.proofs.lemmas.Bool.{cases_order, ltb-true, ltb-false}
use Rattle.std.proofs.lemmas.List.{get_or-map}
use Rattle.std.proofs.lemmas.Cmp.{nat_list_cmp_total}
use Rattle.definitions.specs.Items.{Item, IsBytes, item_cmp, comes_before}
use Rattle.range_tree.specs.Heads.{number_from, head_number}
use Rattle.range_tree.specs.Rows.{AreHeads}
use Rattle.range_tree.proofs.Pieces.{all_get}

-- ---- the order of the numbers

stays_below : (n s t : ℕ) (x y : List ℕ) → IsBytes x → s < t → number_from n s x < number_from n t y
stays_below zero s t x y bytes low = low
stays_below (suc n) s t [] [] bytes low = stays_below n (s * 256) (t * 256) [] [] tt (omega arith)
stays_below (suc n) s t [] (c ∷ cs) bytes low = stays_below n (s * 256) (t * 256 + c) [] cs tt (omega arith)
stays_below (suc n) s t (b ∷ bs) [] bytes low =
    let fits = bytes.0 in
    stays_below n (s * 256 + b) (t * 256) bs [] bytes.1 (omega arith)
stays_below (suc n) s t (b ∷ bs) (c ∷ cs) bytes low =
    let fits = bytes.0 in
    stays_below n (s * 256 + b) (t * 256 + c) bs cs bytes.1 (omega arith)

none_least : (n s t : ℕ) (x : List ℕ) → s ≤ t → number_from n s [] ≤ number_from n t x
none_least zero s t x low = low
none_least (suc n) s t [] low = none_least n (s * 256) (t * 256) [] (omega arith)
none_least (suc n) s t (b ∷ bs) low = none_least n (s * 256) (t * 256 + b) bs (omega arith)

less_by_number : (n s : ℕ) (x y : Item) → IsBytes x → IsBytes y → number_from n s x < number_from n s y →
    item_cmp x y ≡ Less
less_by_number zero s x y first second low = absurd (omega arith)
less_by_number (suc n) s [] [] first second low = absurd (omega arith)
less_by_number (suc n) s [] (c ∷ cs) first second low = refl
less_by_number (suc n) s (b ∷ bs) [] first second low =
    let least = none_least n (s * 256) (s * 256 + b) bs (omega arith) in
    absurd (omega arith)
less_by_number (suc n) s (b ∷ bs) (c ∷ cs) first second low =
    let rest = less_by_number n (s * 256 + b) bs cs first.1 second.1 in
    elim (cases_order b c) [
      | inl same ↦
          ap (λ o. ordering_then o (item_cmp bs cs)) (sym (nat_cmp_is b c Equal same))
          ∙ rest (subst (λ k. number_from n (s * 256 + b) bs < number_from n (s * 256 + k) cs) (sym same) low)
      | inr (inl below) ↦ ap (λ o. ordering_then o (item_cmp bs cs)) (sym (nat_cmp_is b c Less below))
      | inr (inr above) ↦
          let more = stays_below n (s * 256 + c) (s * 256 + b) cs bs second.1 (omega arith) in
          absurd (omega arith)
    ]

pub before_by_head : (x y : Item) → IsBytes x → IsBytes y → head_number x < head_number y → comes_before x y ≡ true
before_by_head x y first second low = ap is_lt (less_by_number 8 0 x y first second low)

pub late_by_head : (x y : Item) → IsBytes x → IsBytes y → head_number y < head_number x → comes_before x y ≡ false
late_by_head x y first second low =
    ap is_lt (nat_list_cmp_total.antisymm x y ∙ ap ordering_reverse (less_by_number 8 0 y x second first low))

-- two numbers that differ
pub told_by_head : (x y : Item) (m n : ℕ) → IsBytes x → IsBytes y → m ≡ head_number x → n ≡ head_number y → m ≢ n →
    nat_lt m n ≡ comes_before x y
told_by_head x y m n first second is too other = by_order (nat_lt m n) refl where
  by_order : (b : Bool) → nat_lt m n ≡ b → nat_lt m n ≡ comes_before x y
  by_order true t =
      let less : m < n = ltb-true _ _ t in
      t ∙ sym (before_by_head x y first second (omega arith))
  by_order false t =
      let most : n ≤ m = ltb-false _ _ t in
      t ∙ sym (late_by_head x y first second (omega arith))

-- the item at a place whose number differs
pub told_at : (xs : List Item) (heads : List ℕ) (place own : ℕ) (y : Item) (n : ℕ) → AreHeads xs heads →
    place < length xs → own ≡ get_or heads place own → IsBytes y → n ≡ head_number y → own ≢ n →
    nat_lt own n ≡ comes_before (get_or xs place []) y
told_at xs heads place own y n are low read bytes is other =
    let number : own ≡ head_number (get_or xs place []) = read ∙ ap (λ hs. get_or hs place own) are.are_numbers
    ∙ get_or-map head_number xs place [] own low in
    told_by_head (get_or xs place []) y own n (all_get IsBytes xs place [] low are.are_bytes) bytes number is other

-- ---- the number is read

number_more : (n s k : ℕ) (x : List ℕ) →
    number_from (suc n) s (drop k x) ≡ number_from n (s * 256 + get_or x k 0) (drop (suc k) x)
number_more n s zero [] = let same : s * 256 ≡ s * 256 + 0 = omega arith in ap (λ m. number_from n m []) same
number_more n s (suc k) [] = let same : s * 256 ≡ s * 256 + 0 = omega arith in ap (λ m. number_from n m []) same
number_more n s zero (b ∷ bs) = refl
number_more n s (suc k) (b ∷ bs) = number_more n s k bs

-- the next byte of 8
pub head_more : (s k : ℕ) (x : List ℕ) → k < 8 →
    number_from (8 - (k + 1)) (s * 256 + get_or x k 0) (drop (k + 1) x) ≡ number_from (8 - k) s (drop k x)
head_more s k x low =
    let left : 8 - k ≡ suc (8 - (k + 1)) = omega arith in
    let next : k + 1 ≡ suc k = omega arith in
    ap (λ m. number_from (8 - (k + 1)) (s * 256 + get_or x k 0) (drop m x)) next
    ∙ sym (number_more (8 - (k + 1)) s k x) ∙ ap (λ m. number_from m s (drop k x)) (sym left)

pub head_done : (s k : ℕ) (x : List ℕ) → 8 ≤ k → number_from (8 - k) s (drop k x) ≡ s
head_done s k x past = let none : 8 - k ≡ 0 = omega arith in ap (λ m. number_from m s (drop k x)) none

-- below this are the numbers of so many bytes
abbrev pub room : ℕ → ℕ
room zero = 1
room (suc k) = 256 * room k

room_most : (k : ℕ) → k < 8 → 256 * room k ≤ 2 ^ 64
room_most zero low = omega arith
room_most (suc zero) low = omega arith
room_most (suc (suc zero)) low = omega arith
room_most (suc (suc (suc zero))) low = omega arith
room_most (suc (suc (suc (suc zero)))) low = omega arith
room_most (suc (suc (suc (suc (suc zero))))) low = omega arith
room_most (suc (suc (suc (suc (suc (suc zero)))))) low = omega arith
room_most (suc (suc (suc (suc (suc (suc (suc zero))))))) low = omega arith
room_most (suc (suc (suc (suc (suc (suc (suc (suc k)))))))) low = absurd (omega arith)

pub fits_more : (s k b : ℕ) → s < room k → b < 256 → s * 256 + b < room (k + 1)
fits_more s k b fits byte =
    let next : k + 1 ≡ suc k = omega arith in
    let more : s * 256 + b < 256 * room k = omega arith in
    subst (λ m. s * 256 + b < room m) (sym next) more

pub fits_64 : (s k b : ℕ) → k < 8 → s < room k → b < 256 → (s * 256 < 2 ^ 64) × (s * 256 + b < 2 ^ 64)
fits_64 s k b low fits byte = let most = room_most k low in (omega arith, omega arith)
