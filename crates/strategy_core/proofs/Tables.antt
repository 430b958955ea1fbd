-- What is read is a table.
use Rattle.std.proofs.Common.{◌≡◌, ℕ, zero, suc, ◌+◌, ◌-◌, ◌≤◌, Bool, true, false, Option, Some, None, List, [], ◌∷◌}
use Rattle.std.proofs.Common.{length, map, refl, ap, ◌∙◌, subst, arith}
use Rattle.std.specs.Prelude.{Result, Ok, Err, codes, ◌&&◌, nat_le, ℤ, pos, negsuc, slice_index}
use Rattle.std.specs.List.{AllByRecursion}
use Rattle.std.specs.List.Sorted.{IsStrictlyIncreasing}
use Rattle.std.proofs.lemmas.Bool.{leb-true, ltb-true, and_parts}
use Rattle.toml.specs.Data.{Data, Items, no_items, item, as_integer, as_bool, as_table, get_member}
use Rattle.definitions.specs.Strategies.{Row, Table, Act, List_items, Split, Peel, IsAct, IsTable, uptos}
use Rattle.strategy_core.proofs.Rows.{length-uptos}
use Rattle.strategy_core.specs.declared.field.Field.TheVariants as fields
use Rattle.strategy_core.specs.Texts.{◌>>=◌, present, provided, in_span, number_in, weights_in, items_count, few_in}
use Rattle.strategy_core.specs.Texts.{array_in, split_in, list_in, peel_in, act_under, is_above, upto_in, act_at}
use Rattle.strategy_core.specs.Texts.{row_at, row_in, rows_in, number_at, last_upto, in_row}
use Rattle.strategy_core.specs.declared.field.Field.{Field}
use Rattle.strategy_core.specs.declared.fault.StrategyFlaw.{StrategyFlaw}
use Rattle.strategy_core.specs.declared.fault.StrategyFault.{StrategyFault}
use Rattle.strategy_core.specs.declared.fault.StrategyFault.TheVariants.{RowAction, RowOrder, BadNumber}

-- ---- what a test that is passed tells

bind_ok : {A B : Type 0} (r : Result A StrategyFlaw) (f : A → Result B StrategyFlaw) (y : B) → (r >>= f) ≡ Ok y →
    (x : A) × (r ≡ Ok x) × (f x ≡ Ok y)
bind_ok (Ok x) f y e = (x, refl, e)
bind_ok (Err fault) f y e = absurd (cc)

provided_ok : {A : Type 0} (b : Bool) (fault : StrategyFault) (x y : A) → provided b fault x ≡ Ok y →
    (b ≡ true) × (x ≡ y)
provided_ok true fault x y e = (refl, cc)
provided_ok false fault x y e = absurd (cc)

in_row_ok : {A : Type 0} (n : ℕ) (r : Result A StrategyFlaw) (x : A) → in_row n r ≡ Ok x → r ≡ Ok x
in_row_ok n (Ok y) x e = e
in_row_ok n (Err flaw) x e = absurd (cc)

-- ---- weights

span_ok : (f : StrategyFault) (low high : ℕ) (z : ℤ) (n : ℕ) → in_span f low high z ≡ Ok n → (low ≤ n) × (n ≤ high)
span_ok f low high (pos m) n e =
    let passed = provided_ok (nat_le low m && nat_le m high) f m n e in
    let both = and_parts (nat_le low m) (nat_le m high) passed.0 in
    (omega (arith, leb-true low m both.0, passed.1), omega (arith, leb-true m high both.1, passed.1))
span_ok f low high (negsuc m) n e = absurd (cc)

number_ok : (field : Field) (low high : ℕ) (d : Data) (n : ℕ) → number_in field low high d ≡ Ok n →
    (low ≤ n) × (n ≤ high)
number_ok field low high d n e =
    let fault = BadNumber field low high in
    let whole = bind_ok (present fault (as_integer d)) (in_span fault low high) n e in
    span_ok fault low high whole.0 n whole.2

weights_ok : (ds : Items) (ws : List ℕ) → weights_in ds ≡ Ok ws →
    (length ws ≡ items_count ds) × AllByRecursion (λ w. (1 ≤ w) × (w ≤ 1024)) ws
weights_ok no_items ws e = let none : [] ≡ ws = cc in
    subst (λ (vs : List ℕ). (length vs ≡ 0) × AllByRecursion (λ w. (1 ≤ w) × (w ≤ 1024)) vs) none (refl, tt)
weights_ok (item d ds) ws e =
    let first = bind_ok (number_in fields.Split 1 1024 d) (λ w. weights_in ds >>= λ more. Ok (w ∷ more)) ws e in
    let rest = bind_ok (weights_in ds) (λ more. Ok (first.0 ∷ more)) ws first.2 in
    let all : first.0 ∷ rest.0 ≡ ws = cc (rest.2) in
    let ih = weights_ok ds rest.0 rest.1 in
    subst (λ (vs : List ℕ). (length vs ≡ suc (items_count ds)) × AllByRecursion (λ w. (1 ≤ w) × (w ≤ 1024)) vs) all
    (ap suc ih.0, (number_ok fields.Split 1 1024 d first.0 first.1, ih.1))

-- ---- rows

split_ok : (d : Data) (act : Act) → split_in d ≡ Ok act → IsAct act
split_ok d act e =
    let few = bind_ok (few_in d) (λ ds. weights_in ds >>= λ weights. Ok (Split weights)) act e in
    let weights = bind_ok (weights_in few.0) (λ ws. Ok (Split ws)) act few.2 in
    let array = bind_ok (array_in d)
    (λ ds. provided (nat_le 2 (items_count ds) && nat_le (items_count ds) 64) RowAction ds) few.0 few.1 in
    let passed =
    provided_ok (nat_le 2 (items_count array.0) && nat_le (items_count array.0) 64) RowAction array.0 few.0 array.2 in
    let both = and_parts (nat_le 2 (items_count array.0)) (nat_le (items_count array.0) 64) passed.0 in
    let are = weights_ok few.0 weights.0 weights.1 in
    let same = ap items_count passed.1 in
    let made : Split weights.0 ≡ act = cc (weights.2) in
    subst IsAct made (
      omega (arith, leb-true 2 (items_count array.0) both.0, are.0),
      omega (arith, leb-true (items_count array.0) 64 both.1, are.0),
      are.1,
    )

list_ok : (d : Data) (act : Act) → list_in d ≡ Ok act → IsAct act
list_ok d act e =
    let word = bind_ok (present RowAction (as_bool d)) (λ yes. provided yes RowAction List_items) act e in
    subst IsAct (provided_ok word.0 RowAction List_items act word.2).1 tt

peel_ok : (d : Data) (act : Act) → peel_in d ≡ Ok act → IsAct act
peel_ok d act e =
    let front = bind_ok (number_in fields.Peel 1 65536 d) (λ k. Ok (Peel k)) act e in
    let made : Peel front.0 ≡ act = cc (front.2) in
    subst IsAct made (number_ok fields.Peel 1 65536 d front.0 front.1)

act_ok : (list split peel : Option Data) (act : Act) → act_under list split peel ≡ Ok act → IsAct act
act_ok (Some d) None None act e = list_ok d act e
act_ok None (Some d) None act e = split_ok d act e
act_ok None None (Some d) act e = peel_ok d act e
act_ok None None None act e = absurd (cc)
act_ok (Some d) (Some s) o act e = absurd (cc)
act_ok (Some d) None (Some p) act e = absurd (cc)
act_ok None (Some s) (Some p) act e = absurd (cc)

-- the uptos rise, the first of them above before
abbrev Rises : Option ℕ → List ℕ → Type 0
Rises before [] = Unit {0}
Rises before (n ∷ ns) = (is_above n before ≡ true) × Rises (Some n) ns

rises : (before : Option ℕ) (ns : List ℕ) → Rises before ns → IsStrictlyIncreasing ns
rises before [] h k l = absurd (omega arith)
rises before (n ∷ []) h k l = absurd (omega arith)
rises before (n ∷ m ∷ ns) h zero l = ltb-true n m h.1.0
rises before (n ∷ m ∷ ns) h (suc k) l =
    let on : k + 1 ≡ suc k = omega arith in
    let up : suc k + 1 ≡ suc (suc k) = omega arith in
    omega
    (arith, rises (Some n) (m ∷ ns) h.1 k (omega arith), ap (slice_index (m ∷ ns)) on, ap (slice_index (n ∷ m ∷ ns)) up)

rows_ok : (cap : ℕ) (before : Option ℕ) (n : ℕ) (ds : Items) (rows : List Row) → rows_in cap before n ds ≡ Ok rows →
    AllByRecursion (λ row. IsAct row.act) rows × Rises before (map (λ row. row.upto) rows)
rows_ok cap before n no_items rows e =
    let none : [] ≡ rows = cc in
    subst (λ (rs : List Row). AllByRecursion (λ row. IsAct row.act) rs × Rises before (map (λ row. row.upto) rs)) none
    (tt, tt)
rows_ok cap before n (item d ds) rows e =
    let first = bind_ok (in_row n (row_in cap before d))
    (λ row. rows_in cap (Some row.upto) (n + 1) ds >>= λ more. Ok (row ∷ more)) rows e in
    let rest = bind_ok (rows_in cap (Some first.0.upto) (n + 1) ds) (λ more. Ok (first.0 ∷ more)) rows first.2 in
    let all : first.0 ∷ rest.0 ≡ rows = cc (rest.2) in
    let table = bind_ok (present RowAction (as_table d)) (row_at cap before) first.0
    (in_row_ok n (row_in cap before d) first.0 first.1) in
    let upto = bind_ok (upto_in cap before table.0)
    (λ upto. act_at table.0 >>= λ act. Ok (record { upto = upto; act = act })) first.0 table.2 in
    let act = bind_ok (act_at table.0) (λ act. Ok (record { upto = upto.0; act = act })) first.0 upto.2 in
    let row : record { upto = upto.0; act = act.0 } ≡ first.0 = cc (act.2) in
    let number =
    bind_ok (number_at table.0 fields.Upto 0 cap) (λ n. provided (is_above n before) RowOrder n) upto.0 upto.1 in
    let above = provided_ok (is_above number.0 before) RowOrder number.0 upto.0 number.2 in
    let ih = rows_ok cap (Some first.0.upto) (n + 1) ds rest.0 rest.1 in
    subst (λ (rs : List Row). AllByRecursion (λ row. IsAct row.act) rs × Rises before (map (λ row. row.upto) rs)) all (
      (
        subst (λ (r : Row). IsAct r.act) row (act_ok (get_member (codes "list") table.0)
            (get_member (codes "split") table.0) (get_member (codes "peel") table.0) act.0 act.1),
        ih.0,
      ),
      (subst (λ (n : ℕ). is_above n before ≡ true) (above.1 ∙ ap (λ (r : Row). r.upto) row) above.0, ih.1),
    )

-- the values that were read make a table
pub made : (T : Table) (ds : Items) → (1 ≤ T.cap) × (T.cap ≤ 65536) → T.limit ≤ T.cap → T.rounds ≤ 255 →
    rows_in T.cap None 1 ds ≡ Ok T.rows → last_upto T.rows ≡ T.cap → IsTable T
made T ds cap limit rounds e reach =
    let are = rows_ok T.cap None 1 ds T.rows e in
    let size : length (uptos T) - 1 ≡ length T.rows - 1 = omega (arith, length-uptos T.rows) in
    record {
      cap_from = cap.0;
      cap_upto = cap.1;
      limit = limit;
      rounds = rounds;
      rise = rises None (uptos T) are.1;
      reach = ap (slice_index (uptos T)) size ∙ reach;
      acts = are.0;
    }
