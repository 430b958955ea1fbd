-- What is printed of what sessions cost.
--     sample_line items size           two sets that are made
--     cost_line differences bytes messages      a session between them
--     plan_lines name bytes messages millis     a strategy that is planned, as comments of its text
--     shards_line bits items differences        how a set is cut, above these, and what a shard has
use Rattle.std.specs.Prelude.{ℕ, List, ◌++◌, codes, Some}
use Rattle.std.specs.Fmt.{decimal}
use Rattle.printing_core.specs.StatsTexts.{seconds_text}

abbrev pub sample_line : ℕ → ℕ → List ℕ
sample_line items size = codes "items " ++ (decimal items ++ (codes " length " ++ (decimal size ++ codes "\n")))

abbrev pub cost_line : ℕ → ℕ → ℕ → List ℕ
cost_line differences bytes messages = codes "cost " ++ (decimal differences ++ (codes " bytes " ++ (decimal bytes
    ++ (codes " messages " ++ (decimal messages ++ codes "\n")))))

abbrev pub plan_lines : List ℕ → ℕ → ℕ → ℕ → List ℕ
plan_lines name bytes messages millis = codes "# " ++ (name ++ (codes "\n# " ++ (decimal bytes
    ++ (codes " bytes in " ++ (decimal messages ++ (codes " messages, " ++ (seconds_text (Some millis)
    ++ codes " seconds\n")))))))

abbrev pub shards_line : ℕ → ℕ → ℕ → List ℕ
shards_line bits items differences = codes "# --shards " ++ (decimal bits ++ (codes " on both sides; of a shard with "
    ++ (decimal items ++ (codes " items and " ++ (decimal differences ++ codes " differences:\n")))))
