-- What a TOML table says of a scenario, and what a text does. The tests stand in the order in which they are made: the
-- first that fails is the fault.
--     scenario_in members        the scenario of a table, or the fault
--     Gives, Reads               what the readers return: the same, unless memory ran out
use Rattle.std.specs.Prelude.{◌≡◌, ◌⊎◌, ℕ, ◌+◌, codes, Bool, true, false, ◌&&◌, nat_le, List, [], ◌∷◌, length, Option}
use Rattle.std.specs.Prelude.{Some, None, is_some, ok_or, Result, Ok, Err, MatchResult, ⊤}
use Rattle.toml.specs.Data.{Data, Items, no_items, item, Members, get_member, as_str, as_array, as_table}
use Rattle.definitions.specs.Items.{Item}
use Rattle.definitions.specs.Sets.{set_of}
use Rattle.definitions.specs.Strategies.{Table}
use Rattle.definitions.specs.Ranks as ranks
use Rattle.definitions.specs.Ranks.{check_fault, found}
use Rattle.hex.specs.Hex.{decode_of}
use Rattle.strategy_core.specs.Texts.{table_in, items_count, IsDocument, IsText}
use Rattle.strategy_core.specs.declared.fault.StrategyFlaw.{StrategyFlaw}
use Rattle.strategy_check.specs.Checked.{Checked}
use Rattle.strategy_check.specs.declared.fault.CheckFault.{CheckFault}
use Rattle.strategy_check.specs.declared.fault.CheckFault.TheVariants as checks
use Rattle.sim_core.specs.NodeTexts.{NodeText, ScenarioText}
use Rattle.item_files.specs.ItemFiles.{decoded}
use Rattle.sim_core.specs.StepTexts.{step_of}
use Rattle.sim_core.specs.declared.scenario.ScenarioStep.{ScenarioStep}
use Rattle.sim_core.specs.declared.scenario_fault.ScenarioFault.{ScenarioFault}
use Rattle.sim_core.specs.declared.scenario_fault.ScenarioFault.TheVariants.{NotToml, Strategy, Check, TooManyItems}
use Rattle.sim_core.specs.declared.scenario_fault.ScenarioFault.TheVariants.{BadScenario, BadStep}
use Rattle.sim_core.specs.declared.scenario_fault.ScenarioError.{ScenarioError}
use Rattle.sim_core.specs.declared.scenario_fault.ScenarioError.TheVariants as errors

infixl 10 ◌>>=◌
abbrev pub ◌>>=◌ : {A B : Type 0} → Result A ScenarioFault → (A → Result B ScenarioFault) → Result B ScenarioFault
(Ok x) >>= f = f x
(Err e) >>= f = Err e

-- the value, if the test holds, else this fault
abbrev pub provided : {A : Type 0} → Bool → ScenarioFault → A → Result A ScenarioFault
provided true fault x = Ok x
provided false fault x = Err fault

-- each of the values in order; the first has the number n
abbrev pub each_from : {A : Type 0} → (ℕ → Data → Result A ScenarioFault) → ℕ → Items → Result (List A) ScenarioFault
each_from read n no_items = Ok []
each_from read n (item d ds) = read n d >>= λ x. each_from read (n + 1) ds >>= λ xs. Ok (x ∷ xs)

abbrev pub all_are : (Data → Bool) → Items → Bool
all_are test no_items = true
all_are test (item d ds) = test d && all_are test ds

-- ---- arrays

-- the array under a key
abbrev pub array_at : List ℕ → Members → Result Items ScenarioFault
array_at key ms = ok_or (get_member key ms) BadScenario >>= λ d. ok_or (as_array d) BadScenario

abbrev pub is_table : Data → Bool
is_table d = is_some (as_table d)

abbrev pub is_text : Data → Bool
is_text d = is_some (as_str d)

-- 2 to 16 tables
abbrev pub are_nodes : Items → Bool
are_nodes ds = nat_le 2 (items_count ds) && nat_le (items_count ds) 16 && all_are is_table ds

-- at most 100,000 texts
abbrev pub are_steps : Items → Bool
are_steps ds = nat_le (items_count ds) 100000 && all_are is_text ds

abbrev pub nodes_at : Members → Result Items ScenarioFault
nodes_at ms = array_at (codes "node") ms >>= λ ds. provided (are_nodes ds) BadScenario ds

abbrev pub steps_at : Members → Result Items ScenarioFault
steps_at ms = array_at (codes "steps") ms >>= λ ds. provided (are_steps ds) BadScenario ds

-- ---- a node

-- the fault of the node n, and where it is in its table
abbrev pub of_strategy : {A : Type 0} → ℕ → Result A StrategyFlaw → Result A ScenarioFault
of_strategy n (Ok x) = Ok x
of_strategy n (Err flaw) = Err (Strategy n flaw)

abbrev pub reason_of : ranks.CheckFault → CheckFault
reason_of (ranks.List_too_long upto) = checks.ListTooLong upto
reason_of (ranks.No_descent count) = checks.NoDescent count
reason_of (ranks.Too_deep count rank) = checks.TooDeep count rank
reason_of (ranks.Bad_certificate count) = checks.BadCertificate count

-- the table with the staircase of its least ranks
abbrev pub with_steps : ℕ → Table → Result (List ℕ) ℕ → Result Checked ScenarioFault
with_steps n T (Ok steps) = Ok (record { table = T; steps = steps })
with_steps n T (Err count) = Err (Check n (checks.NoDescent count))

abbrev pub unless : {A : Type 0} → ℕ → Option ranks.CheckFault → Result A ScenarioFault → Result A ScenarioFault
unless n None said = said
unless n (Some f) said = Err (Check n (reason_of f))

abbrev pub checked : ℕ → Table → Result Checked ScenarioFault
checked n T = unless n (check_fault T) (with_steps n T (found T))

-- the strategy of the node n, accepted
abbrev pub accepted_in : ℕ → Members → Result Checked ScenarioFault
accepted_in n ms = of_strategy n (table_in ms) >>= checked n

abbrev pub item_in : Data → Result Item ScenarioFault
item_in d = ok_or (as_str d) BadScenario >>= λ digits. ok_or (decoded (decode_of digits)) BadScenario

-- `items`: texts that are each an item in hex; the set of these has at most this many
abbrev pub items_in : ℕ → ℕ → Members → Result (List Item) ScenarioFault
items_in n cap ms = array_at (codes "items") ms >>= λ ds. each_from (λ _ d. item_in d) 0 ds
    >>= λ xs. provided (nat_le (length (set_of xs)) cap) (TooManyItems n cap) (set_of xs)

abbrev pub node_at : ℕ → Members → Result NodeText ScenarioFault
node_at n ms = do
  accepted ← accepted_in n ms
  items ← items_in n accepted.table.cap ms
  Ok (record { accepted = accepted; items = items })

-- the node of this number
abbrev pub node_in : ℕ → Data → Result NodeText ScenarioFault
node_in n d = ok_or (as_table d) BadScenario >>= node_at n

-- ---- a scenario

-- the step of this number
abbrev pub step_in : ℕ → Data → Result ScenarioStep ScenarioFault
step_in number d = ok_or (as_str d) BadScenario >>= λ text. ok_or (step_of text) (BadStep number)

abbrev pub scenario_in : Members → Result ScenarioText ScenarioFault
scenario_in ms = do
  entries ← nodes_at ms
  texts ← steps_at ms
  nodes ← each_from node_in 0 entries
  steps ← each_from step_in 0 texts
  Ok (record { nodes = nodes; steps = steps })

-- ---- what the readers return

abbrev pub GivesField : {X Y : Type 0} → (X → Y) → Result X ScenarioFault → Result Y ScenarioFault → Type 0
GivesField view read said = MatchResult read (λ x. said ≡ Ok (view x)) (λ f. said ≡ Err f)

abbrev pub Fails : {Y : Type 0} → ScenarioError → Result Y ScenarioFault → Type 0
Fails errors.Memory said = ⊤
Fails (errors.Fault f) said = said ≡ Err f

abbrev pub Gives : {X Y : Type 0} → (X → Y) → Result X ScenarioError → Result Y ScenarioFault → Type 0
Gives view read said = MatchResult read (λ x. said ≡ Ok (view x)) (λ e. Fails e said)

-- the text has a table, which says this
abbrev pub IsTextOf : List ℕ → Result ScenarioText ScenarioFault → Type 0
IsTextOf text said = (ms : Members) × IsDocument text ms × (scenario_in ms ≡ said)

-- the scenario of a text, or that it is no TOML, or the fault of its table
abbrev pub Refuses : ScenarioError → List ℕ → Type 0
Refuses errors.Memory text = ⊤
Refuses (errors.Fault f) text = ((f ≡ NotToml) × (IsText text → ⊥)) ⊎ IsTextOf text (Err f)

abbrev pub Reads : Result ScenarioText ScenarioError → List ℕ → Type 0
Reads (Ok s) text = IsTextOf text (Ok s)
Reads (Err e) text = Refuses e text
