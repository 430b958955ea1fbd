-- What is printed of the sessions of a run.
--     report_text k r     the three lines of the session of this number
--     reports_text w      the lines of all sessions
use Rattle.std.specs.Prelude.{ℕ, List, [], ◌∷◌, ◌++◌, codes, flat_map, length, Bool, ◌==◌, if◌then◌else◌, Option, Some}
use Rattle.std.specs.Prelude.{None}
use Rattle.std.specs.Fmt.{decimal}
use Rattle.std.specs.List.{range_with_len}
use Rattle.hex.specs.Hex.{encode_lower}
use Rattle.definitions.specs.Items.{Item}
use Rattle.definitions.specs.Sets.{set_of}
use Rattle.definitions.specs.Fingerprints.{two_lanes}
use Rattle.definitions.specs.Talks.{Knowledge}
use Rattle.definitions.specs.Worlds.{World, Report, report}

-- a dash where there is none yet
abbrev pub bound_text : Option ℕ → List ℕ
bound_text None = codes "-"
bound_text (Some n) = decimal n

abbrev pub ending : Bool → List ℕ
ending ended = if ended then codes "ended" else codes "open"

-- a space, and the item in hex
abbrev pub item_text : Item → List ℕ
item_text x = 32 ∷ encode_lower x

-- a dash where there are none
abbrev pub items_text : List Item → List ℕ
items_text xs = if length xs == 0 then codes " -" else flat_map item_text xs

-- what a side learned, in rising order
abbrev pub side_line : List ℕ → Knowledge → List ℕ
side_line name k = name ++ (codes " ours"
    ++ (items_text (set_of k.ours) ++ (codes " theirs" ++ (items_text (set_of k.theirs) ++ codes "\n"))))

abbrev pub session_line : ℕ → Report → List ℕ
session_line k r =
    codes "session " ++ (decimal k ++ (codes " messages " ++ (decimal r.messages ++ (codes " bound " ++ (bound_text
    r.bound ++ (codes " parts " ++ (decimal r.parts ++ (codes " " ++ (ending r.ended ++ codes "\n")))))))))

abbrev pub report_text : ℕ → Report → List ℕ
report_text k r = session_line k r
    ++ (side_line (codes "initiator") r.initiator_learned ++ side_line (codes "responder") r.responder_learned)

-- the lines of a session, if there is one
abbrev pub shown : ℕ → Option Report → List ℕ
shown k None = []
shown k (Some r) = report_text k r

abbrev pub reports_text : World → List ℕ
reports_text w = flat_map (λ k. shown k (report two_lanes w k)) (range_with_len 0 (length w.sessions))
