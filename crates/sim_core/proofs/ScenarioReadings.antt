-- What was read of an array, in front of what is still to be read.
use Rattle.std.proofs.Common.{◌≡◌, ℕ, suc, ◌+◌, ◌<◌, ◌≤◌, Bool, List, [], ◌∷◌, ◌++◌, length, drop, refl, sym, ap, ◌∙◌}
use Rattle.std.proofs.Common.{arith}
use Rattle.std.specs.Prelude.{Result, Ok, Err, ◌&&◌, slice_index_or}
use Rattle.std.specs.List.{list_all}
use Rattle.std.proofs.lemmas.List.{append_assoc, append-nil, drop_more, drop_all}
use Rattle.toml.specs.View.{view, items_view}
use Rattle.toml.specs.declared.value.Value.{Value}
use Rattle.toml.specs.Data.{Data, Items, item}
use Rattle.strategy_core.specs.Texts.{items_count}
use Rattle.sim_core.specs.Scenarios.{each_from, all_are, Fails, ◌>>=◌}
use Rattle.sim_core.specs.declared.scenario_fault.ScenarioFault.{ScenarioFault}
use Rattle.sim_core.specs.declared.scenario_fault.ScenarioError.{ScenarioError}
use Rattle.sim_core.specs.declared.scenario_fault.ScenarioError.TheVariants as errors

-- ---- the values of an array

pub items_next : (xs : List Value) (i : ℕ) (v : Value) → i < length xs → v ≡ slice_index_or xs i v →
    items_view (drop i xs) ≡ item (view v) (items_view (drop (i + 1) xs))
items_next xs i v here is =
    ap items_view (drop_more xs i v here) ∙ ap (λ (u : Value). item (view u) (items_view (drop (i + 1) xs))) (sym is)

count_items : (xs : List Value) → items_count (items_view xs) ≡ length xs
count_items [] = refl
count_items (x ∷ xs) = ap suc (count_items xs)

all_items : (test : Data → Bool) (xs : List Value) → all_are test (items_view xs) ≡ list_all (λ v. test (view v)) xs
all_items test [] = refl
all_items test (x ∷ xs) = ap (λ b. test (view x) && b) (all_items test xs)

pub judged : (test : Data → Bool) (xs : List Value)
    → (items_count (items_view xs) ≡ length xs) × (all_are test (items_view xs) ≡ list_all (λ v. test (view v)) xs)
judged test xs = (count_items xs, all_items test xs)

-- ---- each in order

abbrev pub after : {A : Type 0} → List A → Result (List A) ScenarioFault → Result (List A) ScenarioFault
after xs (Ok ys) = Ok (xs ++ ys)
after xs (Err f) = Err f

-- those that were read, and those that are still to be read, are all
abbrev pub ReadTo : {A : Type 0} → (ℕ → Data → Result A ScenarioFault) → List Value → ℕ → List A → Type 0
ReadTo read vs i xs = after xs (each_from read i (items_view (drop i vs))) ≡ each_from read 0 (items_view vs)

after_nothing : {A : Type 0} (r : Result (List A) ScenarioFault) → after [] r ≡ r
after_nothing (Ok xs) = refl
after_nothing (Err f) = refl

pub read_start : {A : Type 0} (read : ℕ → Data → Result A ScenarioFault) (vs : List Value) → ReadTo read vs 0 []
read_start read vs = after_nothing (each_from read 0 (items_view vs))

after_one : {A : Type 0} (xs : List A) (x : A) (r : Result (List A) ScenarioFault) →
    after (xs ++ x ∷ []) r ≡ after xs (r >>= λ ys. Ok (x ∷ ys))
after_one xs x (Ok ys) = ap Ok (append_assoc xs (x ∷ []) ys)
after_one xs x (Err f) = refl

-- what the next one says of all
next_says : {A : Type 0} (read : ℕ → Data → Result A ScenarioFault) (vs : List Value) (i : ℕ) (v : Value) (xs : List A)
    (said : Result A ScenarioFault) → i < length vs → v ≡ slice_index_or vs i v → read i (view v) ≡ said →
    ReadTo read vs i xs →
    after xs (said >>= λ x. each_from read (i + 1) (items_view (drop (i + 1) vs)) >>= λ ys. Ok (x ∷ ys))
    ≡ each_from read 0 (items_view vs)
next_says read vs i v xs said here is e h =
    ap (λ r. after xs (r >>= λ x. each_from read (i + 1) (items_view (drop (i + 1) vs)) >>= λ ys. Ok (x ∷ ys))) (sym e)
    ∙ sym (ap (λ (ds : Items). after xs (each_from read i ds)) (items_next vs i v here is)) ∙ h

pub read_on : {A : Type 0} (read : ℕ → Data → Result A ScenarioFault) (vs us : List Value) (i : ℕ) (v : Value)
    (xs : List A) (x : A) → us ≡ vs → i < length us → v ≡ slice_index_or us i v → read i (view v) ≡ Ok x →
    ReadTo read vs i xs → ReadTo read vs (i + 1) (xs ++ x ∷ [])
read_on read vs us i v xs x same here is e h =
    after_one xs x (each_from read (i + 1) (items_view (drop (i + 1) vs)))
    ∙ next_says read vs i v xs (Ok x) (omega (arith, ap length same))
    (is ∙ ap (λ (ys : List Value). slice_index_or ys i v) same) e h

-- an error, where memory did not run out, is the fault of the next one
pub read_fails : {A : Type 0} (read : ℕ → Data → Result A ScenarioFault) (vs : List Value) (i : ℕ) (v : Value)
    (xs : List A) (e : ScenarioError) → i < length vs → v ≡ slice_index_or vs i v → Fails e (read i (view v)) →
    ReadTo read vs i xs → Fails e (each_from read 0 (items_view vs))
read_fails read vs i v xs errors.Memory here is said h = tt
read_fails read vs i v xs (errors.Fault f) here is said h = sym (next_says read vs i v xs (Err f) here is said h)

pub read_all : {A : Type 0} (read : ℕ → Data → Result A ScenarioFault) (vs : List Value) (i : ℕ) (xs : List A) →
    length vs ≤ i → ReadTo read vs i xs → each_from read 0 (items_view vs) ≡ Ok xs
read_all read vs i xs past h = sym h
    ∙ ap (λ (ds : Items). after xs (each_from read i ds)) (ap items_view (drop_all i vs past)) ∙ ap Ok (append-nil xs)
