-- The strategies that are shipped.
--     shipped_text name ..    the text of the one of this name, if there is one, of these six texts
use Rattle.std.specs.Prelude.{ℕ, List, codes, bytes_eq, if◌then◌else◌, Option, Some, None}

abbrev pub shipped_text : List ℕ → List ℕ → List ℕ → List ℕ → List ℕ → List ℕ → List ℕ → Option (List ℕ)
shipped_text name all_round few_bytes few_rounds newest_last whole_list small =
    if bytes_eq name (codes "all-round") then Some all_round
    else if bytes_eq name (codes "few-bytes") then Some few_bytes
    else if bytes_eq name (codes "few-rounds") then Some few_rounds
    else if bytes_eq name (codes "newest-last") then Some newest_last
    else if bytes_eq name (codes "whole-list") then Some whole_list
    else if bytes_eq name (codes "small") then Some small
    else None
