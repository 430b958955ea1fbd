-- Runs of nodes and sessions, and a log. The fingerprint of a set is the set.
use Rattle.std.specs.Prelude.{◌≡◌, ℕ, Bool, true, false, List, [], ◌∷◌, ◌++◌, length, Some, None, Option, refl, codes}
use Rattle.definitions.specs.Strategies.{Table}
use Rattle.definitions.specs.Talks.{Knowledge}
use Rattle.definitions.specs.Histories.{History, opening_history, insertion, New, Already, Full, version}
use Rattle.definitions.specs.Worlds.{World, Node, Step, Report, Insert, Open, Deliver, Absorb, Initiator, Responder}
use Rattle.definitions.specs.Worlds.{Idle, Added, Opened, Sent, Over, Absorbed, run, start, answers, report}
use Rattle.definitions.proofs.Cases.Examples.{itself, letters, knows_letters, binary, binary16}

abbrev pub node : Table → List ℕ → List ℕ → Node
node T steps bytes = record { table = T; steps = steps; history = opening_history (letters bytes) }

-- a report of a session that node 0 opened with node 1
abbrev pub reports : ℕ → Option ℕ → ℕ → Bool → Knowledge → Knowledge → Option Report
reports messages bound parts ended initiator responder = Some (record {
  initiator_node = 0;
  responder_node = 1;
  messages = messages;
  bound = bound;
  parts = parts;
  ended = ended;
  initiator_learned = initiator;
  responder_learned = responder;
})

-- ---- inserts between sessions

abbrev pub sixteen : List ℕ → Node
sixteen bytes = node binary16 (1 ∷ 2 ∷ 4 ∷ 8 ∷ 16 ∷ []) bytes

abbrev pub eight_and_seven : World
eight_and_seven = start (sixteen (codes "abcdefgh") ∷ sixteen (codes "abcdefg") ∷ [])

-- seven deliveries, which is as many as either session has messages
abbrev pub finish : ℕ → List Step
finish s = Deliver s ∷ Deliver s ∷ Deliver s ∷ Deliver s ∷ Deliver s ∷ Deliver s ∷ Deliver s ∷ []

abbrev pub two_sessions : List Step
two_sessions = Open 0 1 ∷ Deliver 0 ∷ Insert 0 (codes "i") ∷ Insert 1 (codes "j") ∷ finish 0 ++ Open 0 1 ∷ finish 1

abbrev pub after_two_sessions : World
after_two_sessions = run itself eight_and_seven two_sessions

pub inserts_between_sessions_first : report itself after_two_sessions 0
    ≡ reports 7 (Some 9) 2 true (knows_letters (codes "h") []) (knows_letters [] (codes "h"))
inserts_between_sessions_first = refl

pub inserts_between_sessions_second : report itself after_two_sessions 1
    ≡ reports 7 (Some 9) 3 true (knows_letters (codes "hi") (codes "j")) (knows_letters (codes "j") (codes "hi"))
inserts_between_sessions_second = refl

-- the first delivery of the seven finds one less to deliver
pub inserts_between_sessions_answers : answers itself eight_and_seven two_sessions ≡
    Opened 0 ∷ Sent ∷ Added 9 ∷ Added 8
    ∷ Sent ∷ Sent ∷ Sent ∷ Sent ∷ Sent ∷ Over ∷ Idle
    ∷ Opened 1 ∷ Sent ∷ Sent ∷ Sent ∷ Sent ∷ Sent ∷ Sent ∷ Over ∷ []
inserts_between_sessions_answers = refl

-- both sides absorb, and a third session finds nothing
abbrev pub both_absorb : List Step
both_absorb = Absorb 1 Initiator ∷ Absorb 1 Responder ∷ Open 0 1 ∷ Deliver 2 ∷ Deliver 2 ∷ Deliver 2 ∷ []

pub both_absorb_answers : answers itself after_two_sessions both_absorb
    ≡ Absorbed 1 ∷ Absorbed 2 ∷ Opened 2 ∷ Sent ∷ Over ∷ Idle ∷ []
both_absorb_answers = refl

pub both_absorb_third : report itself (run itself after_two_sessions both_absorb) 2
    ≡ reports 2 (Some 11) 1 true (knows_letters [] []) (knows_letters [] [])
both_absorb_third = refl

-- ---- a full node absorbs nothing, and no session is absorbed before its end

abbrev pub two_and_two : World
two_and_two = start (node (binary 2 1) (1 ∷ 2 ∷ []) (codes "cd") ∷ node (binary 2 1) (1 ∷ 2 ∷ []) (codes "ab") ∷ [])

pub a_full_node_absorbs_nothing :
    answers itself two_and_two (Open 0 1 ∷ Absorb 0 Initiator ∷ finish 0 ++ Absorb 0 Initiator ∷ []) ≡
    Opened 0 ∷ Idle ∷ Sent ∷ Sent ∷ Sent ∷ Sent ∷ Over ∷ Idle ∷ Idle ∷ Absorbed 0 ∷ []
a_full_node_absorbs_nothing = refl

-- ---- opened, and nothing delivered

pub only_opened : report itself (run itself eight_and_seven (Open 0 1 ∷ [])) 0
    ≡ reports 1 None 1 false (knows_letters [] []) (knows_letters [] [])
only_opened = refl

-- ---- steps that name nothing

pub steps_that_name_nothing : answers itself eight_and_seven (Open 0 0 ∷ Deliver 9 ∷ Insert 7 (codes "a") ∷ [])
    ≡ Idle ∷ Idle ∷ Idle ∷ []
steps_that_name_nothing = refl

-- ---- a log of one

abbrev pub x_alone : History
x_alone = (1, codes "x") ∷ []

pub a_log_of_one_takes_an_item : insertion 1 [] (codes "x") ≡ New 1
a_log_of_one_takes_an_item = refl

pub a_log_of_one_has_it : insertion 1 x_alone (codes "x") ≡ Already
a_log_of_one_has_it = refl

pub a_log_of_one_is_full : insertion 1 x_alone (codes "y") ≡ Full
a_log_of_one_is_full = refl

-- ---- an item given twice counts once

abbrev pub a_twice : History
a_twice = opening_history (codes "a" ∷ codes "a" ∷ [])

pub given_twice : length a_twice ≡ 1
given_twice = refl

pub given_twice_and_another : insertion 2 a_twice (codes "b") ≡ New 2
given_twice_and_another = refl

pub version_of_nothing : version a_twice 0 ≡ []
version_of_nothing = refl

pub version_of_one : version a_twice 1 ≡ letters (codes "a")
version_of_one = refl
