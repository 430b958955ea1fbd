-- The text of the metrics, in the form that Prometheus reads: of each metric two lines that say what it is, and a line
-- for each of its values.
--     head_text name kind help         these two lines
--     value_text kind name help n      a metric with one value
--     outcome_line name outcome n      how many ended so
--     code_line name outcome code n    how many were refused with this number; nothing for none
--     code_lines name outcome code ns  the same for numbers from code on
--     bucket_line b                    how many sessions took no longer than the bound of a bucket
--     figure_line f p                  a line for a partner; nothing where it has no value
--     partners_text ps                 the metrics of partners; nothing where there are none
--     metrics_text s c                 all metrics
use Rattle.std.specs.Prelude.{ℕ, ◌+◌, ◌==◌, ◌||◌, if◌then◌else◌, List, [], ◌∷◌, ◌++◌, codes, flat_map, length}
use Rattle.std.specs.Prelude.{Option, Some, None}
use mir.Val.{bool_byte}
use Rattle.std.specs.Fmt.{decimal}
use Rattle.watch_core.specs.Partners.{is_up}
use Rattle.watch_core.specs.Pieces.{cell_text, seconds_text}
use Rattle.watch_core.specs.declared.counts.Counts.{Counts}
use Rattle.watch_core.specs.declared.durations.Bucket.{Bucket}
use Rattle.watch_core.specs.declared.durations.Durations.{Durations}
use Rattle.watch_core.specs.declared.endings.EndingCounts.{EndingCounts}
use Rattle.watch_core.specs.declared.partner_metrics.Figure.{Figure}
use Rattle.watch_core.specs.declared.partner_metrics.Figure.TheVariants as figures
use Rattle.watch_core.specs.declared.partnered.Partnered.{Partnered}
use Rattle.watch_core.specs.declared.pieces.Cell.{Cell}
use Rattle.watch_core.specs.declared.pieces.Cell.TheVariants as cells
use Rattle.watch_core.specs.declared.standing.Standing.{Standing}
use Rattle.watch_core.specs.declared.visit.Traffic.{Traffic}

unfoldable pub head_text : List ℕ → List ℕ → List ℕ → List ℕ
head_text name kind help = codes "# HELP " ++ (name ++ (codes " " ++ (help ++ (codes "\n# TYPE " ++ (name
    ++ (codes " " ++ (kind ++ codes "\n")))))))

unfoldable pub value_text : List ℕ → List ℕ → List ℕ → ℕ → List ℕ
value_text kind name help n = head_text name kind help ++ (name ++ (codes " " ++ (decimal n ++ codes "\n")))

-- a value that may fall, and one that only rises
abbrev pub gauge : List ℕ → List ℕ → ℕ → List ℕ
gauge name help n = value_text (codes "gauge") name help n

abbrev pub counter : List ℕ → List ℕ → ℕ → List ℕ
counter name help n = value_text (codes "counter") name help n

unfoldable pub build_line : List ℕ → List ℕ
build_line program = codes "rangesync_build_info{version=\"" ++ (program ++ codes "\"} 1\n")

-- a value in seconds
unfoldable pub seconds_line : List ℕ → ℕ → List ℕ
seconds_line name millis = name ++ (codes " " ++ (seconds_text millis ++ codes "\n"))

unfoldable pub build_text : List ℕ → List ℕ
build_text program = head_text (codes "rangesync_build_info") (codes "gauge") (codes "The version of the program.")
    ++ build_line program

unfoldable pub uptime_text : Standing → List ℕ
uptime_text s =
    head_text (codes "rangesync_uptime_seconds") (codes "gauge") (codes "Seconds since the server began.")
    ++ seconds_line (codes "rangesync_uptime_seconds") s.ran

unfoldable pub set_text : Standing → List ℕ
set_text s = gauge (codes "rangesync_items") (codes "Items of the set.") s.items
    ++ (gauge (codes "rangesync_items_cap") (codes "Items that the set may have.") s.cap
    ++ gauge (codes "rangesync_version") (codes "Number of the newest version of the set.") s.version)

unfoldable pub learned_text : Standing → List ℕ
learned_text s =
    counter (codes "rangesync_inserts_total") (codes "Items of peers that were put into the set.") s.inserted
    ++ counter (codes "rangesync_dropped_total")
    (codes "Items of peers for which the set had no room, or memory ran out.") s.dropped

unfoldable pub files_text : Standing → List ℕ
files_text s =
    gauge (codes "rangesync_waiting_lines") (codes "Lines that wait to be written, over all files.") s.waiting
    ++ counter (codes "rangesync_write_failures_total") (codes "Writes to files that failed.") s.failures

unfoldable pub peers_text : Standing → List ℕ
peers_text s = gauge (codes "rangesync_sessions_live") (codes "Sessions that are live.") s.live
    ++ (gauge (codes "rangesync_peers") (codes "Peers that are connected.") s.peers
    ++ gauge (codes "rangesync_peers_memory_bytes")
    (codes "Memory that is counted for all peers, against the option memory.") s.kept)

abbrev pub program_text : Standing → List ℕ
program_text s = build_text s.program.now ++ uptime_text s

abbrev pub taken_text : Standing → List ℕ
taken_text s = learned_text s ++ files_text s

abbrev pub standing_text : Standing → List ℕ
standing_text s = program_text s ++ (set_text s ++ (taken_text s ++ peers_text s))

unfoldable pub cost_text : Traffic → List ℕ
cost_text t =
    counter (codes "rangesync_received_bytes_total") (codes "Bytes received of peers that are gone.") t.received
    ++ (counter (codes "rangesync_sent_bytes_total") (codes "Bytes sent to peers that are gone.") t.sent
    ++ counter (codes "rangesync_sent_messages_total") (codes "Messages sent whole to peers that are gone.")
    t.messages)

unfoldable pub found_text : Traffic → List ℕ
found_text t =
    counter (codes "rangesync_ours_total") (codes "Items of the set that peers lacked, by all sessions that ended.")
    t.ours
    ++ counter (codes "rangesync_theirs_total")
    (codes "Items of peers that the set lacked, by all sessions that ended.") t.theirs

unfoldable pub outcome_line : List ℕ → List ℕ → ℕ → List ℕ
outcome_line name outcome n =
    name ++ (codes "{outcome=\"" ++ (outcome ++ (codes "\"} " ++ (decimal n ++ codes "\n"))))

unfoldable pub code_line : List ℕ → List ℕ → ℕ → ℕ → List ℕ
code_line name outcome code n = if n == 0 then [] else name ++ (codes "{outcome=\"" ++ (outcome
    ++ (codes "\",refusal=\"" ++ (decimal code ++ (codes "\"} " ++ (decimal n ++ codes "\n"))))))

abbrev pub code_lines : List ℕ → List ℕ → ℕ → List ℕ → List ℕ
code_lines name outcome code [] = []
code_lines name outcome code (n ∷ ns) = code_line name outcome code n ++ code_lines name outcome (code + 1) ns

unfoldable pub failed_lines : List ℕ → EndingCounts → List ℕ
failed_lines name c = outcome_line name (codes "ended") c.ended ++ (outcome_line name (codes "io_read") c.io_read
    ++ (outcome_line name (codes "io_write") c.io_write ++ outcome_line name (codes "memory") c.memory))

unfoldable pub endings_text : List ℕ → List ℕ → EndingCounts → List ℕ
endings_text name help c = head_text name (codes "counter") help ++ (failed_lines name c
    ++ (code_lines name (codes "refused") 0 c.refused ++ code_lines name (codes "peer_refused") 0 c.peer_refused))

abbrev pub seconds : List ℕ
seconds = codes "rangesync_session_seconds"

unfoldable pub bucket_line : Bucket → List ℕ
bucket_line b = seconds ++ (codes "_bucket{le=\"" ++ (seconds_text b.bound ++ (codes "\"} " ++ (decimal b.count
    ++ codes "\n"))))

-- the session count stands in the last bucket too
unfoldable pub all_lines : ℕ → ℕ → List ℕ
all_lines millis n = seconds ++ (codes "_bucket{le=\"+Inf\"} " ++ (decimal n ++ (codes "\n" ++ (seconds
    ++ (codes "_sum " ++ (seconds_text millis ++ (codes "\n" ++ (seconds ++ (codes "_count " ++ (decimal n
    ++ codes "\n"))))))))))

unfoldable pub durations_text : Durations → ℕ → List ℕ
durations_text d n =
    head_text seconds (codes "histogram") (codes "Seconds of a session, from the connection to its end.")
    ++ (flat_map bucket_line d.buckets ++ all_lines d.millis n)

unfoldable pub all_endings_text : Counts → List ℕ
all_endings_text c = endings_text (codes "rangesync_sessions_total")
    (codes "Sessions that are over, by how they ended and by the number of a refusal.") c.sessions
    ++ (endings_text (codes "rangesync_strangers_total")
    (codes "Connections that were over before a session, by how they ended.") c.strangers
    ++ counter (codes "rangesync_ranged_sessions_total")
    (codes "Sessions that are over, of those that spoke of a range of the items.") c.ranged)

abbrev pub counts_text : Counts → List ℕ
counts_text c = all_endings_text c
    ++ (cost_text c.traffic ++ (found_text c.traffic ++ durations_text c.durations c.sessions.all))

-- ---- partners

-- what would end the value of a label, and a line feed, after a backslash: \" \\ \n
abbrev pub label_byte : ℕ → List ℕ
label_byte byte = if (byte == 34) || (byte == 92) then 92 ∷ byte ∷ []
    else if byte == 10 then codes "\\n" else byte ∷ []

abbrev pub label_text : List ℕ → List ℕ
label_text text = flat_map label_byte text

abbrev pub figure_name : Figure → List ℕ
figure_name figures.Up = codes "rangesync_partner_up"
figure_name figures.Ended = codes "rangesync_partner_turns_ended_total"
figure_name figures.Failed = codes "rangesync_partner_turns_failed_total"
figure_name figures.Silent = codes "rangesync_partner_silent_seconds"

abbrev pub figure_kind : Figure → List ℕ
figure_kind figures.Up = codes "gauge"
figure_kind figures.Ended = codes "counter"
figure_kind figures.Failed = codes "counter"
figure_kind figures.Silent = codes "gauge"

abbrev pub figure_help : Figure → List ℕ
figure_help figures.Up = codes "Whether the last turn with a partner ended."
figure_help figures.Ended = codes "Turns with a partner that ended."
figure_help figures.Failed = codes "Turns with a partner that was not reached, or refused, or was cut off."
figure_help figures.Silent = codes "Seconds since the last turn with a partner that ended."

abbrev pub seconds_of : Option ℕ → Option Cell
seconds_of None = None
seconds_of (Some millis) = Some (cells.Seconds millis)

abbrev pub figure_of : Figure → Partnered → Option Cell
figure_of figures.Up p = Some (cells.Number (bool_byte (is_up p)))
figure_of figures.Ended p = Some (cells.Number p.ended)
figure_of figures.Failed p = Some (cells.Number p.failed)
figure_of figures.Silent p = seconds_of p.silent

abbrev pub figure_value : Cell → List ℕ
figure_value cell = codes "\"} " ++ (cell_text cell ++ codes "\n")

abbrev pub label_of : List ℕ → List ℕ → List ℕ
label_of name address = name ++ (codes "{partner=\"" ++ label_text address)

abbrev pub line_of : Figure → List ℕ → Option Cell → List ℕ
line_of f address None = []
line_of f address (Some cell) = label_of (figure_name f) address ++ figure_value cell

abbrev pub figure_line : Figure → Partnered → List ℕ
figure_line f p = line_of f p.address.now (figure_of f p)

abbrev pub figure_head : Figure → List ℕ
figure_head f = head_text (figure_name f) (figure_kind f) (figure_help f)

abbrev pub figure_text : Figure → List Partnered → List ℕ
figure_text f ps = figure_head f ++ flat_map (figure_line f) ps

unfoldable pub partners_text : List Partnered → List ℕ
partners_text ps = if length ps == 0 then [] else figure_text figures.Up ps ++ (figure_text figures.Ended ps
    ++ (figure_text figures.Failed ps ++ figure_text figures.Silent ps))

abbrev pub own_text : Standing → Counts → List ℕ
own_text s c = standing_text s ++ counts_text c

abbrev pub metrics_text : Standing → Counts → List ℕ
metrics_text s c = own_text s c ++ partners_text s.partners.now
