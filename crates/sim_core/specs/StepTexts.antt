-- The steps of a scenario as texts.
--     number_of digits      a decimal number below 2^32, without a sign and without a leading zero
--     step_of text          the step that a text spells: a name, a space, and what belongs to it
use Rattle.std.specs.Prelude.{ℕ, List, [], ◌∷◌, length, codes, Bool, false, ◌&&◌, ◌==◌, nat_lt, Option, Some, None}
use Rattle.std.specs.Prelude.{option_and_then, if◌then◌else◌}
use Rattle.std.specs.List.{list_all, position_or_len, before_first, after_first}
use Rattle.std.specs.Char.{is_ascii_digit}
use Rattle.std.specs.Str.Parse.{digits_value}
use Rattle.hex.specs.Hex.{decode_of}
use Rattle.definitions.specs.Items.{same_item}
use Rattle.item_files.specs.ItemFiles.{decoded}
use Rattle.ends_core.specs.declared.side.Side.{Side}
use Rattle.ends_core.specs.declared.side.Side.TheVariants.{Initiator, Responder}
use Rattle.world_core.specs.declared.step.Step.TheVariants.{Insert, Open, Deliver, Absorb}
use Rattle.sim_core.specs.declared.scenario.ScenarioStep.{ScenarioStep}
use Rattle.sim_core.specs.declared.scenario.ScenarioStep.TheVariants.{Do, Finish}

infixl 10 ◌>>=◌
abbrev pub ◌>>=◌ : {A B : Type 0} → Option A → (A → Option B) → Option B
o >>= f = option_and_then f o

-- ---- numbers

-- the digit zero alone, or digits of which the first is not zero
abbrev pub is_plain : List ℕ → Bool
is_plain [] = false
is_plain (d ∷ ds) = if d == 48 then length ds == 0 else is_ascii_digit d && list_all is_ascii_digit ds

abbrev pub number_of : List ℕ → Option ℕ
number_of digits =
    if is_plain digits && nat_lt (digits_value 10 digits) 4294967296 then Some (digits_value 10 digits) else None

-- ---- words

abbrev pub is_space : ℕ → Bool
is_space b = b == 32

-- what stands before the first space, and after it, if there is one
abbrev pub parted : List ℕ → Option (List ℕ × List ℕ)
parted text = if nat_lt (position_or_len is_space text) (length text)
    then Some (before_first is_space text, after_first is_space text) else None

abbrev pub side_of : List ℕ → Option Side
side_of word = if same_item word (codes "initiator") then Some Initiator else if same_item word (codes "responder")
    then Some Responder else None

-- ---- steps

-- a number, a space, and what is read by `other`
abbrev pub numbered : {A : Type 0} → (List ℕ → Option A) → (ℕ → A → ScenarioStep) → List ℕ → Option ScenarioStep
numbered other step rest = do
  words ← parted rest
  number ← number_of words.0
  value ← other words.1
  Some (step number value)

-- `insert N HEX`
abbrev pub insert_in : List ℕ → Option ScenarioStep
insert_in = numbered (λ digits. decoded (decode_of digits)) (λ node item. Do (Insert node item))

-- `open I R`
abbrev pub open_in : List ℕ → Option ScenarioStep
open_in = numbered number_of (λ initiator responder. Do (Open initiator responder))

-- `deliver S`
abbrev pub deliver_in : List ℕ → Option ScenarioStep
deliver_in rest = number_of rest >>= λ session. Some (Do (Deliver session))

-- `finish S`
abbrev pub finish_in : List ℕ → Option ScenarioStep
finish_in rest = number_of rest >>= λ session. Some (Finish session)

-- `absorb S initiator`, `absorb S responder`
abbrev pub absorb_in : List ℕ → Option ScenarioStep
absorb_in = numbered side_of (λ session side. Do (Absorb session side))

-- by the name, what stands after it
abbrev pub step_by : List ℕ → List ℕ → Option ScenarioStep
step_by name rest =
    if same_item name (codes "insert") then insert_in rest
    else if same_item name (codes "open") then open_in rest
    else if same_item name (codes "deliver") then deliver_in rest
    else if same_item name (codes "finish") then finish_in rest
    else if same_item name (codes "absorb") then absorb_in rest
    else None

abbrev pub step_of : List ℕ → Option ScenarioStep
step_of text = parted text >>= λ words. step_by words.0 words.1
