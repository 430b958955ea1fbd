-- The lines of a log, in which a value follows the name of its key and `=`.
--     log_line time v      the line of a visit that ended then
--     lost_line time n     that n visits have no line
--     metrics_line a       that metrics are answered at this address
--     control_line a       that programs of this machine are answered at this address
use Rattle.std.specs.Prelude.{ℕ, List, ◌++◌, codes, Bool, true, false}
use Rattle.std.specs.Fmt.{decimal}
use Rattle.watch_core.specs.Pieces.{seconds_text, address_text, reason_text, session_text, spoken_text}
use Rattle.watch_core.specs.declared.visit.Traffic.{Traffic}
use Rattle.watch_core.specs.declared.visit.Visit.{Visit}

-- of an address that was called, or that came
abbrev pub who_word : Bool → List ℕ
who_word true = codes "to"
who_word false = codes "peer"

-- who came or was called, when the visit ended, and of which part of the set its session was
abbrev pub who_text : ℕ → Visit → List ℕ
who_text time v = codes "time=" ++ (seconds_text time ++ (codes " " ++ (who_word v.is_called ++ (codes "="
    ++ (address_text v.address ++ (codes " session=" ++ (session_text v ++ codes " ")))))))

-- in which profile, and how it ended
abbrev pub ending_text : Visit → List ℕ
ending_text v = codes "profile=" ++ (spoken_text v.profile ++ (codes " outcome="
    ++ (reason_text (codes " refusal=") v.ending ++ codes " ")))

abbrev pub found_text : Traffic → List ℕ
found_text t = codes "ours=" ++ (decimal t.ours ++ (codes " theirs=" ++ (decimal t.theirs ++ codes " ")))

abbrev pub bytes_text : Traffic → List ℕ
bytes_text t = codes "received=" ++ (decimal t.received ++ (codes " sent=" ++ (decimal t.sent ++ codes " ")))

abbrev pub cost_text : Visit → List ℕ
cost_text v = codes "messages=" ++ (decimal v.traffic.messages ++ (codes " milliseconds="
    ++ (decimal v.millis ++ codes "\n")))

abbrev pub log_line : ℕ → Visit → List ℕ
log_line time v = who_text time v ++ (ending_text v ++ (found_text v.traffic ++ (bytes_text v.traffic ++ cost_text v)))

abbrev pub lost_line : ℕ → ℕ → List ℕ
lost_line time n = codes "time=" ++ (seconds_text time ++ (codes " lost=" ++ (decimal n ++ codes "\n")))

abbrev pub left_out_line : ℕ → ℕ → List ℕ
left_out_line time n = codes "time=" ++ (seconds_text time ++ (codes " left_out=" ++ (decimal n ++ codes "\n")))

abbrev pub loading_line : ℕ → List ℕ
loading_line time = codes "time=" ++ (seconds_text time ++ codes " loading\n")

abbrev pub loaded_line : ℕ → ℕ → ℕ → List ℕ
loaded_line time items millis = codes "time=" ++ (seconds_text time ++ (codes " loaded " ++ (decimal items
    ++ (codes " items in " ++ (seconds_text millis ++ codes " s\n")))))

abbrev pub metrics_line : List ℕ → List ℕ
metrics_line address = codes "metrics " ++ (address ++ codes "\n")

abbrev pub control_line : List ℕ → List ℕ
control_line address = codes "control " ++ (address ++ codes "\n")
