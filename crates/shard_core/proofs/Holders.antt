-- Which servers have a shard, and who is asked for it.
use Rattle.std.proofs.Common.{◌≡◌, ℕ, zero, suc, ◌+◌, ◌-◌, ◌<◌, ◌≤◌, Bool, true, false, List, [], ◌∷◌, ◌++◌, length}
use Rattle.std.proofs.Common.{map, drop}
use Rattle.std.proofs.Common.{not, ◌&&◌, ◌||◌, ◌==◌, true≢false}
use Rattle.std.proofs.Common.{get_or, cond, refl, sym, ap, subst, ◌∙◌, arith, append_assoc, append-nil, inl, inr}
use Rattle.std.specs.Prelude.{Vec, filter, flat_map, is_some}
use Rattle.std.specs.declared.alloc.Global.{Global}
use Rattle.std.specs.List.{list_any, range_with_len}
use Rattle.std.proofs.lemmas.Bool.{cases_eq, eq-eqb}
use Rattle.std.proofs.lemmas.List.Folds.{list_any-append}
use Rattle.std.proofs.lemmas.List.{drop_more, get_or-map, length-map, length-append}
use Rattle.shard_core.specs.declared.unequal.Unequal.{Unequal}
use Rattle.shard_core.specs.declared.choice.Asked.{Asked}
use Rattle.shard_core.specs.Directories.{unequal_numbers}
use Rattle.shard_core.specs.Choices.{is_lacked, has_shard, differs, told, holders_from, holders, asked_at, chosen}
use Rattle.shard_core.specs.Choices.{HasOne, HaveOne}
use Rattle.shard_core.proofs.Told.{not_equal}

abbrev Lists : Type 0
Lists = List (Vec Unequal Global)

abbrev listed : Vec Unequal Global → List Unequal
listed v = v.items

own : (vs : Lists) (i : ℕ) (v : Vec Unequal Global) → i < length vs → v ≡ get_or vs i v →
    v.items ≡ get_or (told vs) i []
own vs i v inside at = ap listed at ∙ sym (get_or-map listed vs i v [] inside)

-- ---- one server after another

onto : (c : Bool) (i : ℕ) (f rest : List ℕ) →
    (f ++ cond c (i ∷ []) []) ++ rest ≡ f ++ cond c (i ∷ rest) rest
onto true i f rest = append_assoc f (i ∷ []) rest
onto false i f rest = append_assoc f [] rest

pub holders_more : (vs : Lists) (i s : ℕ) (v : Vec Unequal Global) (c : Bool) (f g : List ℕ) → i < length vs →
    v ≡ get_or vs i v → c ≡ has_shard v.items s → f ++ holders_from i (drop i (told vs)) s ≡ holders (told vs) s →
    g ≡ f ++ cond c (i ∷ []) [] → g ++ holders_from (i + 1) (drop (i + 1) (told vs)) s ≡ holders (told vs) s
holders_more vs i s v c f g inside at test so_far made =
    let many : length (told vs) ≡ length vs = length-map vs listed in
    let rest : List ℕ = holders_from (i + 1) (drop (i + 1) (told vs)) s in
    let tested : c ≡ has_shard (get_or (told vs) i []) s =
    test ∙ ap (λ us. has_shard us s) (own vs i v inside at) in
    ap (λ l. l ++ rest) made ∙ onto c i f rest ∙ ap (λ b. f ++ cond b (i ∷ rest) rest) tested
    ∙ ap (λ Z. f ++ holders_from i Z s) (sym (drop_more (told vs) i [] (omega (arith, many)))) ∙ so_far

pub two_found : (f rest all : List ℕ) → length f ≡ 2 → f ++ rest ≡ all → 2 ≤ length all
two_found f rest all two is = subst (λ l. 2 ≤ length l) is (omega (arith, length-append f rest, two))

-- ---- who is asked for a shard

abbrev asked_for : ℕ → ℕ → Asked
asked_for s j = record { server = j; shard = s }

-- ---- one shard after another

range_first : (a b : ℕ) → a < b → range_with_len a (b - a) ≡ a ∷ range_with_len (a + 1) (b - (a + 1))
range_first a b below = let many : b - a ≡ suc (b - (a + 1)) = omega arith in ap (range_with_len a) many

pub chosen_more : (ds : List (List Unequal)) (last s : ℕ) (f g all : List Asked) → s < last + 1 →
    f ++ flat_map (asked_at ds) (range_with_len s (last + 1 - s)) ≡ all → g ≡ f ++ asked_at ds s →
    g ++ flat_map (asked_at ds) (range_with_len (s + 1) (last + 1 - (s + 1))) ≡ all
chosen_more ds last s f g all below so_far made =
    let rest : List Asked = flat_map (asked_at ds) (range_with_len (s + 1) (last + 1 - (s + 1))) in
    ap (λ l. l ++ rest) made ∙ append_assoc f (asked_at ds s) rest
    ∙ ap (λ ss. f ++ flat_map (asked_at ds) ss) (sym (range_first s (last + 1) below)) ∙ so_far

pub chosen_all : (ds : List (List Unequal)) (last s : ℕ) (f all : List Asked) → last + 1 ≤ s →
    f ++ flat_map (asked_at ds) (range_with_len s (last + 1 - s)) ≡ all → f ≡ all
chosen_all ds last s f all past so_far =
    let none : last + 1 - s ≡ 0 = omega arith in
    sym (append-nil f) ∙ ap (λ n. f ++ flat_map (asked_at ds) (range_with_len s n)) (sym none) ∙ so_far

pub one_more : (ds : List (List Unequal)) (first s : ℕ) → HaveOne ds first s → HasOne ds s → HaveOne ds first (s + 1)
one_more ds first s before here t low high = elim (cases_eq t s) [
  | inl same ↦ subst (λ n. HasOne ds n) (sym same) here
  | inr apart ↦ before t low (omega (arith, apart))
]

-- ---- one server: each shard that its directory tells of is asked for

step : (c t L K D : Bool) → (c || L) ≡ true → not ((c && not t) || K) ≡ true → (L ≡ true → not K ≡ true → D ≡ true) →
    ((c && t) || D) ≡ true
step true true L K D named had more = refl
step true false L K D named had more = absurd (true≢false (sym had))
step false t L K D named had more = more named had

eqb_turned : (m n : ℕ) → (m == n) ≡ (n == m)
eqb_turned m n = elim (cases_eq m n) [
  | inl same ↦ eq-eqb m n same ∙ sym (eq-eqb n m (sym same))
  | inr apart ↦ not_equal m n apart ∙ sym (not_equal n m (λ same. apart (sym same)))
]

had_differs : (us : List Unequal) (s : ℕ) → list_any (λ n. s == n) (unequal_numbers us) ≡ true →
    has_shard us s ≡ true → differs us s ≡ true
had_differs [] s named had = absurd (true≢false (sym named))
had_differs (u ∷ us) s named had =
    step (u.number == s) (is_some u.theirs) (list_any (λ n. s == n) (unequal_numbers us)) (list_any (is_lacked s) us)
    (differs us s)
    (ap (λ c. c || list_any (λ n. s == n) (unequal_numbers us)) (eqb_turned u.number s) ∙ named) had
    (λ more had_more. had_differs us s more had_more)

one_has : (us : List Unequal) (s j : ℕ) (b : Bool) → cond b (0 ∷ []) [] ≡ j ∷ [] → b ≡ true
one_has us s j true is = refl
one_has us s j false is = let none : 0 ≡ 1 + length {A = ℕ} [] = ap length is in absurd (omega arith)

any_range : {X : Type 0} (p : X → Bool) (f : ℕ → List X) (a n s : ℕ) → a ≤ s → s < a + n → list_any p (f s) ≡ true →
    list_any p (flat_map f (range_with_len a n)) ≡ true
any_range p f a zero s low high is = absurd (omega arith)
any_range p f a (suc n) s low high is =
    list_any-append p (f a) (flat_map f (range_with_len (a + 1) n)) ∙ elim (cases_eq a s) [
      | inl same ↦ ap (λ b. b || list_any p (flat_map f (range_with_len (a + 1) n)))
          (ap (λ k. list_any p (f k)) same ∙ is)
      | inr apart ↦ ap (λ b. list_any p (f a) || b) (any_range p f (a + 1) n s (omega (arith, apart)) (omega arith) is)
          ∙ or_true (list_any p (f a))
    ]
  where
    or_true : (b : Bool) → (b || true) ≡ true
    or_true true = refl
    or_true false = refl

pub all_asked : (us : List Unequal) (first last s : ℕ) → first ≤ s → s ≤ last → HasOne (us ∷ []) s →
    list_any (λ n. s == n) (unequal_numbers us) ≡ true →
    list_any (λ (a : Asked). s == a.shard) (chosen (us ∷ []) first last) ≡ true
all_asked us first last s low high (j, one) named =
    let had : has_shard us s ≡ true = one_has us s j (has_shard us s) one in
    let differing : differs us s ≡ true = had_differs us s named had in
    let only : holders (us ∷ []) s ≡ 0 ∷ [] = ap (λ b. cond b (0 ∷ []) []) had in
    let here : asked_at (us ∷ []) s ≡ asked_for s 0 ∷ [] =
    ap (λ js. map (asked_for s) (filter (λ k. differs (get_or (us ∷ []) k []) s) js)) only
    ∙ ap (λ b. map (asked_for s) (cond b (0 ∷ []) [])) differing in
    any_range (λ (a : Asked). s == a.shard) (asked_at (us ∷ [])) first (last + 1 - first) s low (omega arith)
    (ap (λ l. list_any (λ (a : Asked). s == a.shard) l) here
    ∙ ap (λ b. b || false) (eq-eqb s s refl))
