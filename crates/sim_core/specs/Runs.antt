-- The run of a scenario.
--     after_steps w steps      the world after the steps of a scenario
--     FinishesEnd w steps      each session that was finished by them has ended
--     sim_text s               what is printed of a scenario that was run
use Rattle.std.specs.Prelude.{◌≡◌, ℕ, zero, suc, Bool, true, false, if◌then◌else◌, List, [], ◌∷◌, map, fold, slice_get}
use Rattle.std.specs.Prelude.{Some, IsTrue, ⊤}
use Rattle.definitions.specs.Fingerprints.{two_lanes}
use Rattle.definitions.specs.Histories.{opening_history}
use Rattle.definitions.specs.Worlds as worlds
use Rattle.definitions.specs.Worlds.{World, Node, Did, has_ended, step, start}
use Rattle.world_core.specs.Nodes.{node_by}
use Rattle.world_core.specs.Steps.{step_of}
use Rattle.sim_core.specs.NodeTexts.{NodeText, ScenarioText}
use Rattle.sim_core.specs.declared.scenario.ScenarioStep.{ScenarioStep}
use Rattle.sim_core.specs.declared.scenario.ScenarioStep.TheVariants.{Do, Finish}
use Rattle.sim_core.specs.Reports.{reports_text}

abbrev pub node_of : NodeText → Node
node_of n = node_by n.accepted (opening_history n.items)

abbrev pub is_sent : Did → Bool
is_sent worlds.Sent = true
is_sent d = false

-- a session's message made last is delivered until none follows, at most so many times
abbrev pub delivered : ℕ → World → ℕ → World
delivered zero w k = w
delivered (suc n) w k = if is_sent (step two_lanes w (worlds.Deliver k)).1
    then delivered n (step two_lanes w (worlds.Deliver k)).0 k else (step two_lanes w (worlds.Deliver k)).0

-- no session has more than 3 + 2 * 255 messages
abbrev pub after_step : World → ScenarioStep → World
after_step w (Do e) = (step two_lanes w (step_of e)).0
after_step w (Finish k) = delivered 513 w k

abbrev pub after_steps : World → List ScenarioStep → World
after_steps w es = fold after_step w es

-- the session of this number, if it is there, has ended
abbrev pub HasEnded : ℕ → World → Type 0
HasEnded k w = (s : worlds.Session) → slice_get w.sessions k ≡ Some s → IsTrue (has_ended two_lanes w s)

-- a session that was finished has ended
abbrev pub EndsFinished : ScenarioStep → World → Type 0
EndsFinished (Do e) w = ⊤
EndsFinished (Finish k) w = HasEnded k w

-- after each Finish among the steps
abbrev pub FinishesEnd : World → List ScenarioStep → Type 0
FinishesEnd w [] = ⊤
FinishesEnd w (e ∷ es) = EndsFinished e (after_step w e) × FinishesEnd (after_step w e) es

-- the nodes of the scenario, and no session
abbrev pub start_of : ScenarioText → World
start_of s = start (map node_of s.nodes)

abbrev pub sim_text : ScenarioText → List ℕ
sim_text s = reports_text (after_steps (start_of s) s.steps)
