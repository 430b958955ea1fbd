-- The weights and the rows that were read, in front of those still to be read.
use Rattle.std.proofs.Common.{◌≡◌, ℕ, suc, ◌+◌, ◌*◌, ◌<◌, ◌≤◌, Bool, true, false, Option, Some, None, List, [], ◌∷◌}
use Rattle.std.proofs.Common.{◌++◌, length, drop, refl, sym, ap, ◌∙◌, arith, sum, ◌⊎◌, inl, inr}
use Rattle.std.specs.Prelude.{Result, Ok, Err, ◌&&◌, nat_lt, nat_le, slice_index_or}
use Rattle.std.specs.List.{AllByRecursion}
use Rattle.std.proofs.lemmas.Bool.{le-leb, lt-leb, lt-ltb, and_from, and_left, and_right}
use Rattle.std.proofs.lemmas.List.{append_assoc, append-nil, length-append, drop_more, drop_all}
use Rattle.std.proofs.lemmas.List.Sums.{sum_by-append}
use Rattle.definitions.proofs.Lists.{All-append}
use Rattle.strategy_core.proofs.Shares.{sum-cons, weights-few}
use Rattle.strategy_core.specs.Refused.{Fails, error_in_row}
use Rattle.strategy_core.specs.declared.fault.StrategyError.{StrategyError}
use Rattle.strategy_core.specs.declared.fault.StrategyError.TheVariants as errors
use Rattle.toml.specs.View.{view, items_view}
use Rattle.toml.specs.declared.value.Value.{Value}
use Rattle.toml.specs.Data.{Data, Items, no_items, item}
use Rattle.definitions.specs.Strategies.{Row}
use Rattle.strategy_core.specs.Texts.{number_in, weights_in, row_in, rows_in, items_count, array_in, few_in, provided}
use Rattle.strategy_core.specs.Texts.{◌>>=◌, in_row, whole}
use Rattle.strategy_core.specs.declared.fault.StrategyFault.{StrategyFault}
use Rattle.strategy_core.specs.declared.fault.StrategyFlaw.{StrategyFlaw}
use Rattle.strategy_core.specs.declared.fault.StrategyFault.TheVariants.{RowAction, Missing}
use Rattle.strategy_core.specs.declared.field.Field.TheVariants as fields

-- ---- tests

pub provided_true : {A : Type 0} (b : Bool) (f : StrategyFault) (x : A) → b ≡ true → provided b f x ≡ Ok x
provided_true b f x e = ap (λ t. provided t f x) e

pub provided_false : {A : Type 0} (b : Bool) (f : StrategyFault) (x : A) → b ≡ false → provided b f x ≡ Err (whole f)
provided_false b f x e = ap (λ t. provided t f x) e

-- ---- the values of an array

pub items_next : (xs vs : List Value) (i : ℕ) (v : Value) → vs ≡ xs → i < length vs → v ≡ slice_index_or vs i v →
    items_view (drop i xs) ≡ item (view v) (items_view (drop (i + 1) xs))
items_next xs vs i v same here is =
    let there : i < length xs = omega (arith, ap length same) in
    ap items_view (drop_more xs i v there) ∙ ap (λ (u : Value). item (view u) (items_view (drop (i + 1) xs)))
    (sym (is ∙ ap (λ (ys : List Value). slice_index_or ys i v) same))

pub items_none : (xs vs : List Value) (i : ℕ) → vs ≡ xs → length vs ≤ i → items_view (drop i xs) ≡ no_items
items_none xs vs i same past = ap items_view (drop_all i xs (omega (arith, ap length same)))

pub count-items : (xs : List Value) → items_count (items_view xs) ≡ length xs
count-items [] = refl
count-items (x ∷ xs) = ap suc (count-items xs)

-- ---- weights

abbrev pub before_weights : List ℕ → Result (List ℕ) StrategyFlaw → Result (List ℕ) StrategyFlaw
before_weights ws (Ok vs) = Ok (ws ++ vs)
before_weights ws (Err f) = Err f

-- 1 to 1,024 each, as many as were read, with their sum
pub record AreRead (ws : List ℕ) (count total : ℕ) : Type 0 where
  pub are : AllByRecursion (λ w. (1 ≤ w) × (w ≤ 1024)) ws
  pub count_is : length ws ≡ count
  pub total_is : total ≡ sum ws

pub read_more : (ws : List ℕ) (count total w : ℕ) → 1 ≤ w → w ≤ 1024 → AreRead ws count total →
    AreRead (ws ++ w ∷ []) (count + 1) (total + w)
read_more ws count total w low high read = record {
  are = All-append (λ v. (1 ≤ v) × (v ≤ 1024)) ws (w ∷ []) read.are ((low, high), tt);
  count_is = omega (arith, length-append ws (w ∷ []), read.count_is);
  total_is = omega (arith, sum_by-append (λ n. n) ws (w ∷ []), sum-cons w [], read.total_is);
}

pub read_few : (ws : List ℕ) (count total : ℕ) → AreRead ws count total → total ≤ 1024 * count
read_few ws count total read = omega (arith, weights-few ws read.are, read.count_is, read.total_is)

-- the weights so far, and those that are still to be read, are all
abbrev pub WeightsTo : List Value → ℕ → List ℕ → Type 0
WeightsTo xs i ws = before_weights ws (weights_in (items_view (drop i xs))) ≡ weights_in (items_view xs)

pub weights_start : (xs : List Value) → WeightsTo xs 0 []
weights_start xs = elim (weights_in (items_view xs)) as (λ r. before_weights [] r ≡ r) [ Ok vs ↦ refl | Err f ↦ refl ]

weights_after : (ws : List ℕ) (w : ℕ) (r : Result (List ℕ) StrategyFlaw) →
    before_weights (ws ++ w ∷ []) r ≡ before_weights ws (r >>= λ vs. Ok (w ∷ vs))
weights_after ws w (Ok vs) = ap Ok (append_assoc ws (w ∷ []) vs)
weights_after ws w (Err f) = refl

-- what the next one says of all
weight_says : (xs vs : List Value) (i : ℕ) (v : Value) (ws : List ℕ) (said : Result ℕ StrategyFlaw) → vs ≡ xs →
    i < length vs → v ≡ slice_index_or vs i v → number_in fields.Split 1 1024 (view v) ≡ said → WeightsTo xs i ws →
    before_weights ws (said >>= λ w. weights_in (items_view (drop (i + 1) xs)) >>= λ more. Ok (w ∷ more))
    ≡ weights_in (items_view xs)
weight_says xs vs i v ws said same here is e h =
    ap (λ r. before_weights ws (r >>= λ w. weights_in (items_view (drop (i + 1) xs)) >>= λ more. Ok (w ∷ more))) (sym e)
    ∙ sym (ap (λ (ds : Items). before_weights ws (weights_in ds)) (items_next xs vs i v same here is)) ∙ h

pub weights_go_on : (xs vs : List Value) (i : ℕ) (v : Value) (ws : List ℕ) (w : ℕ) → vs ≡ xs →
    i < length vs → v ≡ slice_index_or vs i v → number_in fields.Split 1 1024 (view v) ≡ Ok w → WeightsTo xs i ws →
    WeightsTo xs (i + 1) (ws ++ w ∷ [])
weights_go_on xs vs i v ws w same here is e h =
    weights_after ws w (weights_in (items_view (drop (i + 1) xs))) ∙ weight_says xs vs i v ws (Ok w) same here is e h

pub weights_fail : (xs vs : List Value) (i : ℕ) (v : Value) (ws : List ℕ) (f : StrategyFault) → vs ≡ xs →
    i < length vs → v ≡ slice_index_or vs i v → number_in fields.Split 1 1024 (view v) ≡ Err (whole f) →
    WeightsTo xs i ws →
    weights_in (items_view xs) ≡ Err (whole f)
weights_fail xs vs i v ws f same here is e h = sym (weight_says xs vs i v ws (Err (whole f)) same here is e h)

pub weights_end : (xs vs : List Value) (i : ℕ) (ws : List ℕ) → vs ≡ xs → length vs ≤ i → WeightsTo xs i ws →
    weights_in (items_view xs) ≡ Ok ws
weights_end xs vs i ws same past h = sym h
    ∙ ap (λ (ds : Items). before_weights ws (weights_in ds)) (items_none xs vs i same past) ∙ ap Ok (append-nil ws)

-- ---- rows

abbrev pub before_rows : List Row → Result (List Row) StrategyFlaw → Result (List Row) StrategyFlaw
before_rows rows (Ok more) = Ok (rows ++ more)
before_rows rows (Err f) = Err f

-- the rows so far, and those that are still to be read after one of this upto, are all
abbrev pub RowsTo : ℕ → List Value → ℕ → Option ℕ → List Row → Type 0
RowsTo cap xs i before rows = before_rows rows (rows_in cap before (length rows + 1) (items_view (drop i xs)))
    ≡ rows_in cap None 1 (items_view xs)

pub rows_start : (cap : ℕ) (xs : List Value) → RowsTo cap xs 0 None []
rows_start cap xs =
    elim (rows_in cap None 1 (items_view xs)) as (λ r. before_rows [] r ≡ r) [ Ok vs ↦ refl | Err f ↦ refl ]

rows_after : (rows : List Row) (row : Row) (r : Result (List Row) StrategyFlaw) →
    before_rows (rows ++ row ∷ []) r ≡ before_rows rows (r >>= λ more. Ok (row ∷ more))
rows_after rows row (Ok more) = ap Ok (append_assoc rows (row ∷ []) more)
rows_after rows row (Err f) = refl

row_says : (cap : ℕ) (xs vs : List Value) (i : ℕ) (v : Value) (before : Option ℕ) (rows : List Row)
    (said : Result Row StrategyFlaw) → vs ≡ xs → i < length vs → v ≡ slice_index_or vs i v →
    row_in cap before (view v) ≡ said → RowsTo cap xs i before rows →
    before_rows rows (in_row (length rows + 1) said
    >>= λ row. rows_in cap (Some row.upto) (length rows + 1 + 1) (items_view (drop (i + 1) xs))
    >>= λ more. Ok (row ∷ more)) ≡ rows_in cap None 1 (items_view xs)
row_says cap xs vs i v before rows said same here is e h =
    ap (λ r. before_rows rows (in_row (length rows + 1) r
    >>= λ row. rows_in cap (Some row.upto) (length rows + 1 + 1) (items_view (drop (i + 1) xs))
    >>= λ more. Ok (row ∷ more))) (sym e)
    ∙ sym (ap (λ (ds : Items). before_rows rows (rows_in cap before (length rows + 1) ds))
    (items_next xs vs i v same here is)) ∙ h

pub rows_go_on : (cap : ℕ) (xs vs : List Value) (i : ℕ) (v : Value) (before : Option ℕ) (rows : List Row) (row : Row) →
    vs ≡ xs → i < length vs → v ≡ slice_index_or vs i v → row_in cap before (view v) ≡ Ok row →
    RowsTo cap xs i before rows → RowsTo cap xs (i + 1) (Some row.upto) (rows ++ row ∷ [])
rows_go_on cap xs vs i v before rows row same here is e h =
    ap (λ n. before_rows (rows ++ row ∷ []) (rows_in cap (Some row.upto) (n + 1) (items_view (drop (i + 1) xs))))
    (length-append rows (row ∷ []))
    ∙ rows_after rows row (rows_in cap (Some row.upto) (length rows + 1 + 1) (items_view (drop (i + 1) xs)))
    ∙ row_says cap xs vs i v before rows (Ok row) same here is e h

-- an error, where memory did not run out, is the fault of the next row
pub rows_fail : (cap : ℕ) (xs vs : List Value) (i : ℕ) (v : Value) (before : Option ℕ) (rows : List Row)
    (e : StrategyError) → vs ≡ xs → i < length vs → v ≡ slice_index_or vs i v → Fails e (row_in cap before (view v)) →
    RowsTo cap xs i before rows → Fails (error_in_row (length rows + 1) e) (rows_in cap None 1 (items_view xs))
rows_fail cap xs vs i v before rows errors.Memory same here is said h = tt
rows_fail cap xs vs i v before rows errors.NotToml same here is said h = absurd said
rows_fail cap xs vs i v before rows (errors.Fault f) same here is said h =
    sym (row_says cap xs vs i v before rows (Err f) same here is said h)

pub rows_end : (cap : ℕ) (xs vs : List Value) (i : ℕ) (before : Option ℕ) (rows : List Row) → vs ≡ xs → length vs ≤ i →
    RowsTo cap xs i before rows → rows_in cap None 1 (items_view xs) ≡ Ok rows
rows_end cap xs vs i before rows same past h = sym h
    ∙ ap (λ (ds : Items). before_rows rows (rows_in cap before (length rows + 1) ds)) (items_none xs vs i same past)
    ∙ ap Ok (append-nil rows)

-- ---- arrays

pub few_yes : (d : Data) (xs : List Value) → array_in d ≡ Ok (items_view xs) → 2 ≤ length xs → length xs ≤ 64 →
    few_in d ≡ Ok (items_view xs)
few_yes d xs e low high =
    ap (λ r. r >>= λ ds. provided (nat_le 2 (items_count ds) && nat_le (items_count ds) 64) RowAction ds) e
    ∙ provided_true _ RowAction (items_view xs) (and_from _ _ (le-leb 2 (items_count (items_view xs))
    (omega (arith, count-items xs))) (le-leb (items_count (items_view xs)) 64 (omega (arith, count-items xs))))

pub few_no : (d : Data) (xs : List Value) → array_in d ≡ Ok (items_view xs) → (length xs < 2) ⊎ (64 < length xs) →
    few_in d ≡ Err (whole RowAction)
few_no d xs e h =
    ap (λ r. r >>= λ ds. provided (nat_le 2 (items_count ds) && nat_le (items_count ds) 64) RowAction ds) e
    ∙ provided_false _ RowAction (items_view xs) (elim h [
      | inl few ↦ and_left _ _ (lt-leb 2 (items_count (items_view xs)) (omega (arith, count-items xs)))
      | inr many ↦ and_right _ _ (lt-leb (items_count (items_view xs)) 64 (omega (arith, count-items xs)))
    ])

pub entries_some : (d : Data) (xs : List Value) → array_in d ≡ Ok (items_view xs) → 0 < length xs →
    (array_in d >>= λ ds. provided (nat_lt 0 (items_count ds)) (Missing fields.Row) ds) ≡ Ok (items_view xs)
entries_some d xs e h =
    ap (λ r. r >>= λ ds. provided (nat_lt 0 (items_count ds)) (Missing fields.Row) ds) e
    ∙ provided_true _ (Missing fields.Row) (items_view xs)
    (lt-ltb 0 (items_count (items_view xs)) (omega (arith, count-items xs)))
