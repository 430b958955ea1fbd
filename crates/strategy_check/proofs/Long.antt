-- The first list row past the limit.
use Rattle.std.proofs.Common.{◌≡◌, ℕ, zero, suc, ◌+◌, ◌<◌, ◌≤◌, true, false, not, Option, Some, List, [], ◌∷◌, length}
use Rattle.std.proofs.Common.{drop, refl, sym, ap, ◌∙◌, arith}
use Rattle.std.specs.Prelude.{nat_le, find, option_map, slice_get}
use Rattle.std.proofs.lemmas.Bool.{cond-true, cond-false, le-leb, lt-leb, or_left, or_right, or_from}
use Rattle.definitions.specs.Strategies as strategies
use Rattle.definitions.specs.Strategies.{Row, is_split}
use Rattle.definitions.specs.Ranks.{keeps_limit}
use Rattle.strategy_core.specs.Acts.{outline, kind_of}
use Rattle.strategy_core.specs.declared.act.Act.{Act}
use Rattle.strategy_core.specs.declared.act.Act.TheVariants as acts

-- the upto of the first row past the limit, from here on
abbrev pub long_in : ℕ → List Row → Option ℕ
long_in limit rows = option_map (λ row. row.upto) (find (λ row. not (keeps_limit limit row)) rows)

row_at : (rows : List Row) (i : ℕ) → i < length rows →
    (row : Row) × (slice_get rows i ≡ Some row) × (drop i rows ≡ row ∷ drop (i + 1) rows)
row_at [] i h = absurd (omega arith)
row_at (row ∷ rows) zero h = (row, refl, refl)
row_at (row ∷ rows) (suc i) h =
    let rest = row_at rows i (omega arith) in
    let on : suc i + 1 ≡ suc (i + 1) = omega arith in
    (rest.0, rest.1, rest.2 ∙ ap (λ k. rest.0 ∷ drop k (row ∷ rows)) (sym on))

-- what is seen of the row
seen_at : (rows : List Row) (i upto : ℕ) (act : Act) (row : Row) → slice_get rows i ≡ Some row →
    option_map outline (slice_get rows i) ≡ Some (upto, act) → (row.upto ≡ upto) × (kind_of row.act ≡ act)
seen_at rows i upto act row here seen =
    let want : ℕ × Act = (upto, act) in
    let same : Some (outline row) ≡ Some want = sym (ap (option_map outline) here) ∙ seen in
    let both : outline row ≡ want = cc in
    (ap (λ (p : ℕ × Act). p.0) both, ap (λ (p : ℕ × Act). p.1) both)

splits : (act : strategies.Act) → kind_of act ≡ acts.Split → is_split act ≡ true
splits strategies.List_items e = absurd (cc)
splits (strategies.Split weights) e = refl
splits (strategies.Peel front) e = refl

lists : (act : strategies.Act) → kind_of act ≡ acts.List → is_split act ≡ false
lists strategies.List_items e = refl
lists (strategies.Split weights) e = absurd (cc)
lists (strategies.Peel front) e = absurd (cc)

long_past : (limit : ℕ) (rows : List Row) (i : ℕ) (row : Row) → drop i rows ≡ row ∷ drop (i + 1) rows →
    keeps_limit limit row ≡ true → long_in limit (drop i rows) ≡ long_in limit (drop (i + 1) rows)
long_past limit rows i row here keeps =
    ap (long_in limit) here
    ∙ ap (option_map (λ r. r.upto)) (cond-false (not (keeps_limit limit row)) (Some row)
    (find (λ r. not (keeps_limit limit r)) (drop (i + 1) rows)) (ap not keeps))

pub long_split : (limit : ℕ) (rows : List Row) (i upto : ℕ) (act : Act) → i < length rows →
    option_map outline (slice_get rows i) ≡ Some (upto, act) → act ≡ acts.Split →
    long_in limit (drop i rows) ≡ long_in limit (drop (i + 1) rows)
long_split limit rows i upto act h seen is =
    let row = row_at rows i h in
    long_past limit rows i row.0 row.2 (or_left (is_split row.0.act) (nat_le row.0.upto limit)
    (splits row.0.act ((seen_at rows i upto act row.0 row.1 seen).1 ∙ is)))

pub long_short : (limit : ℕ) (rows : List Row) (i upto : ℕ) (act : Act) → i < length rows →
    option_map outline (slice_get rows i) ≡ Some (upto, act) → upto ≤ limit →
    long_in limit (drop i rows) ≡ long_in limit (drop (i + 1) rows)
long_short limit rows i upto act h seen short =
    let row = row_at rows i h in
    let same = (seen_at rows i upto act row.0 row.1 seen).0 in
    long_past limit rows i row.0 row.2
    (or_right (is_split row.0.act) (nat_le row.0.upto limit) (le-leb row.0.upto limit (omega arith)))

pub long_found : (limit : ℕ) (rows : List Row) (i upto : ℕ) (act : Act) → i < length rows →
    option_map outline (slice_get rows i) ≡ Some (upto, act) → act ≡ acts.List → limit < upto →
    long_in limit (drop i rows) ≡ Some upto
long_found limit rows i upto act h seen is long =
    let row = row_at rows i h in
    let same = seen_at rows i upto act row.0 row.1 seen in
    let past : keeps_limit limit row.0 ≡ false = or_from (is_split row.0.act) (nat_le row.0.upto limit)
    (lists row.0.act (same.1 ∙ is)) (let e = same.0 in lt-leb row.0.upto limit (omega arith)) in
    ap (long_in limit) row.2
    ∙ ap (option_map (λ r. r.upto)) (cond-true (not (keeps_limit limit row.0)) (Some row.0)
    (find (λ r. not (keeps_limit limit r)) (drop (i + 1) rows)) (ap not past))
    ∙ ap Some same.0
