-- The page for a person: templates, which are constants of the code, and the values that stand in them, in their order.
--     escaped text               the text as a page shows it as it is
--     is_plain byte              whether a byte is none of < > " '
--     filled template values     the template, in which each `$` is replaced by the next of these values, escaped
--     partner_row p              the row of a partner
--     shown_session v            the session of a visit, without the bounds of its range
--     visit_row now v            the row of a visit
--     endings_table title c      how visits ended, with a bar for each way in which some did
--     page_text s c visits       the page
use Rattle.std.specs.Prelude.{ℕ, ◌+◌, ◌-◌, ◌*◌, ◌/◌, min, max, ◌==◌, if◌then◌else◌, List, [], ◌∷◌, ◌++◌, codes, map}
use Rattle.std.specs.Prelude.{Bool, true, false, not, ◌||◌, flat_map, length, nat_lt}
use Rattle.std.specs.Fmt.{decimal}
use Rattle.std.specs.List.{position_or_len, before_first, after_first}
use Rattle.session_table.specs.Names.{session_refusal_name}
use Rattle.watch_core.specs.Counting.{most}
use Rattle.watch_core.specs.Partners.{seconds_ago, state_text}
use Rattle.watch_core.specs.Pieces.{seconds_text, address_text, fault_text, known_text, named_ending_text, which_text}
use Rattle.watch_core.specs.Pieces.{has_bound, spoken_text}
use Rattle.watch_core.specs.declared.counts.Counts.{Counts}
use Rattle.watch_core.specs.declared.endings.EndingCounts.{EndingCounts}
use Rattle.watch_core.specs.declared.page.TheConstants.{FRONT, TITLE, SET, FILE, TILES, TABLE, BAR, TABLE_END, LAST}
use Rattle.watch_core.specs.declared.page.TheConstants.{ROW, END, PARTNERS, PARTNER}
use Rattle.watch_core.specs.declared.partnered.Partnered.{Partnered}
use Rattle.watch_core.specs.declared.standing.Standing.{Standing}
use Rattle.watch_core.specs.declared.visit.Visit.{Visit}

-- & < > " '
abbrev pub escape : ℕ → List ℕ
escape byte = if byte == 38 then codes "&amp;" else if byte == 60 then codes "&lt;" else if byte == 62
    then codes "&gt;" else if byte == 34 then codes "&quot;" else if byte == 39 then codes "&#39;" else byte ∷ []

abbrev pub escaped : List ℕ → List ℕ
escaped text = flat_map escape text

-- a byte that is no part of a tag and ends no value of an attribute: none of < > " '
abbrev pub is_plain : ℕ → Bool
is_plain byte = not (byte == 60 || (byte == 62 || (byte == 34 || byte == 39)))

abbrev pub is_mark : ℕ → Bool
is_mark byte = byte == 36

-- what stands in front of the first mark, and what follows it
abbrev pub parted : List ℕ → List ℕ × List ℕ
parted template = if nat_lt (position_or_len is_mark template) (length template)
    then (before_first is_mark template, after_first is_mark template) else (template, [])

unfoldable pub filled : List ℕ → List (List ℕ) → List ℕ
filled template [] = template
filled template (value ∷ values) = (parted template).0 ++ (escaped value ++ filled (parted template).1 values)

-- nothing for an empty value
abbrev pub named : List ℕ → List ℕ → List ℕ
named template value = if length value == 0 then [] else filled template (value ∷ [])

unfoldable pub title : Standing → List ℕ
title s = filled TITLE.now (s.program.now ∷ s.address.now ∷ [])
    ++ (named SET.now s.set.now ++ named FILE.now s.file.now)

unfoldable pub tiles : Standing → List ℕ
tiles s = filled TILES.now (map decimal (s.items ∷ s.cap ∷ s.version ∷ s.inserted ∷ s.dropped ∷ s.waiting ∷ s.failures
    ∷ s.live ∷ s.peers ∷ s.kept ∷ s.ran / 1000 ∷ []))

abbrev pub percent : ℕ → ℕ → ℕ
percent count all = min (count * 100) most / max all 1

-- a reason, how many there were, and how many of a hundred of all
unfoldable pub bar_row : List ℕ → ℕ → ℕ → List ℕ
bar_row reason count all = filled BAR.now (reason ∷ decimal count ∷ decimal (percent count all) ∷ [])

abbrev pub code_bar : List ℕ → ℕ → ℕ → ℕ → List ℕ
code_bar word code count all =
    if count == 0 then []
    else bar_row (word ++ (decimal code ++ (codes " " ++ session_refusal_name code))) count all

abbrev pub code_bars : List ℕ → ℕ → ℕ → List ℕ → List ℕ
code_bars word all code [] = []
code_bars word all code (n ∷ ns) = code_bar word code n all ++ code_bars word all (code + 1) ns

abbrev pub failed_bars : EndingCounts → List ℕ
failed_bars c = bar_row (codes "io read") c.io_read c.all ++ (bar_row (codes "io write") c.io_write c.all
    ++ bar_row (codes "memory") c.memory c.all)

abbrev pub refused_bars : EndingCounts → List ℕ
refused_bars c = code_bars [] c.all 0 c.refused ++ code_bars (codes "peer refused ") c.all 0 c.peer_refused

abbrev pub ending_bars : EndingCounts → List ℕ
ending_bars c = bar_row (codes "ended") c.ended c.all ++ (refused_bars c ++ failed_bars c)

unfoldable pub endings_table : List ℕ → EndingCounts → List ℕ
endings_table title c = filled TABLE.now (title ∷ []) ++ (ending_bars c ++ TABLE_END.now)

abbrev pub range_word : Bool → List ℕ
range_word false = []
range_word true = codes " range"

-- its serial and its shard, and whether it was over a range, without the bounds
abbrev pub shown_session : Visit → List ℕ
shown_session v = known_text v.serial ++ (which_text v.which ++ range_word (has_bound v.range))

unfoldable pub visit_row : ℕ → Visit → List ℕ
visit_row now v = filled ROW.now (shown_session v ∷ address_text v.address ∷ spoken_text v.profile
    ∷ named_ending_text v.ending ∷ decimal v.traffic.ours ∷ decimal v.traffic.theirs ∷ decimal v.traffic.received
    ∷ decimal v.traffic.sent ∷ seconds_text v.millis ∷ decimal ((now - v.ended) / 1000) ∷ [])

unfoldable pub last_head : List ℕ
last_head = LAST.now

unfoldable pub last_table : ℕ → List Visit → List ℕ
last_table now visits = last_head ++ (flat_map (visit_row now) visits ++ END.now)

unfoldable pub partner_row : Partnered → List ℕ
partner_row p = filled PARTNER.now (p.address.now ∷ state_text p ∷ decimal p.ended ∷ decimal p.failed ∷ decimal p.behind
    ∷ known_text (seconds_ago p) ∷ fault_text p.fault ∷ [])

unfoldable pub partners_head : List ℕ
partners_head = PARTNERS.now

unfoldable pub partners_table : List Partnered → List ℕ
partners_table ps = partners_head ++ (flat_map partner_row ps ++ TABLE_END.now)

-- nothing where there are none
abbrev pub partners_text : List Partnered → List ℕ
partners_text ps = if length ps == 0 then [] else partners_table ps

abbrev pub server_text : Standing → List ℕ
server_text s = title s ++ (tiles s ++ partners_text s.partners.now)

abbrev pub counts_text : Counts → List ℕ
counts_text c = endings_table (codes "Sessions") c.sessions
    ++ endings_table (codes "Connections without a session") c.strangers

unfoldable pub front : List ℕ
front = FRONT.now

abbrev pub page_text : Standing → Counts → List Visit → List ℕ
page_text s c visits = front ++ (server_text s ++ (counts_text c ++ last_table s.moment visits))
