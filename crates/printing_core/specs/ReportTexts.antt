-- What `serve` writes of its sessions to its files.
--     bounds_text X                the bounds of a range in hex: those that it has
--     session_name s w X p         a session, the shard, or the directory, that it spoke of, if it did of one, the
--                                  bounds of the range of its items, and the address of the partner with which it
--                                  was, if it was with one
--     learned_lines form k         the lines of both differences: ours rising, then theirs rising, items in this form
--     first_lines n lines          the first n of these lines, or all; then how many were left out, if any were
--     report_text form most s w X p o   a session that is over: its head and both differences, at most `most` lines of
--                                  them if it is a number; or why it did not end
--     left_out_line s n            that n items which this session learned were not put in
use Rattle.std.specs.Prelude.{ℕ, ◌-◌, ◌==◌, if◌then◌else◌, List, [], ◌∷◌, ◌++◌, length, map, take, flat_map, codes}
use Rattle.std.specs.Prelude.{Option, Some, None}
use Rattle.std.specs.Fmt.{decimal}
use Rattle.hex.specs.Hex.{encode_lower}
use Rattle.definitions.specs.Items.{Range}
use Rattle.definitions.specs.Sets.{set_of}
use Rattle.definitions.specs.Talks.{Knowledge}
use Rattle.session_table.specs.declared.outcome.Outcome.{Outcome}
use Rattle.session_table.specs.declared.outcome.Outcome.TheVariants.{Ended, Refused, PeerRefused, Io, Memory}
use Rattle.shard_core.specs.declared.selector.Which.{Which}
use Rattle.shard_core.specs.declared.selector.Which.TheVariants.{Shard, Directory}
use Rattle.item_files.specs.declared.form.ItemForm.{ItemForm}
use Rattle.printing_core.specs.SessionTexts.{named_line, learned_text, of_direction}
use Rattle.printing_core.specs.Lines.{fault_line}
use Rattle.printing_core.specs.declared.sessions.Listing.TheVariants.{Items}
use Rattle.printing_core.specs.declared.fault.Fault.{Fault}
use Rattle.printing_core.specs.declared.fault.Fault.TheVariants as faults

abbrev pub part_name : ℕ → Option Which → List ℕ
part_name serial None = codes "session " ++ decimal serial
part_name serial (Some (Shard shard)) = codes "session " ++ (decimal serial ++ (codes " shard " ++ decimal shard))
part_name serial (Some Directory) = codes "session " ++ (decimal serial ++ codes " directory")

-- the partner's address, if it was with one
abbrev pub with_text : Option (List ℕ) → List ℕ
with_text None = []
with_text (Some partner) = codes " with " ++ partner

-- the start and the end are no bounds
abbrev pub lower_text : List ℕ → List ℕ
lower_text [] = []
lower_text (byte ∷ bytes) = codes " from " ++ encode_lower (byte ∷ bytes)

abbrev pub upper_text : Option (List ℕ) → List ℕ
upper_text None = []
upper_text (Some bytes) = codes " to " ++ encode_lower bytes

abbrev pub bounds_text : Range → List ℕ
bounds_text X = lower_text X.lower ++ upper_text X.upper

abbrev pub session_name : ℕ → Option Which → Range → Option (List ℕ) → List ℕ
session_name serial which X partner = part_name serial which ++ (bounds_text X ++ with_text partner)

abbrev pub stopped_line : ℕ → Option Which → Range → Option (List ℕ) → Fault → List ℕ
stopped_line serial which X partner fault =
    session_name serial which X partner ++ (32 ∷ (fault_line fault ++ codes "\n"))

-- that of a directory has no version
abbrev pub head_line : ℕ → Option Which → Range → Option (List ℕ) → ℕ → ℕ → List ℕ
head_line serial (Some Directory) X partner version sent =
    session_name serial (Some Directory) X partner ++ (codes " sent " ++ (decimal sent ++ codes "\n"))
head_line serial which X partner version sent = session_name serial which X partner
    ++ (codes " version " ++ (decimal version ++ (codes " sent " ++ (decimal sent ++ codes "\n"))))

abbrev pub learned_lines : ItemForm → Knowledge → List (List ℕ)
learned_lines form k = map (named_line form (codes "ours")) (set_of k.ours)
    ++ map (named_line form (codes "theirs")) (set_of k.theirs)

-- the lines, one after another
abbrev pub text_of : List (List ℕ) → List ℕ
text_of lines = flat_map (λ line. line) lines

abbrev pub more_line : ℕ → List ℕ
more_line count = if count == 0 then [] else codes "more " ++ (decimal count ++ codes "\n")

abbrev pub first_lines : ℕ → List (List ℕ) → List ℕ
first_lines n lines = text_of (take n lines) ++ more_line (length lines - n)

-- all lines, where no number is given; the items of a directory are none of the set
abbrev pub reported_text : ItemForm → Option ℕ → Option Which → Knowledge → List ℕ
reported_text form most (Some Directory) k = []
reported_text form None which k = learned_text (Items form) k
reported_text form (Some most) which k = first_lines most (learned_lines form k)

abbrev pub report_text : ItemForm → Option ℕ → ℕ → Option Which → Range → Option (List ℕ) → Outcome → List ℕ
report_text form most serial which X partner (Ended learned sent version) =
    head_line serial which X partner version sent ++ reported_text form most which learned
report_text form most serial which X partner (Refused code sent) =
    stopped_line serial which X partner (faults.Session code)
report_text form most serial which X partner (PeerRefused code sent) =
    stopped_line serial which X partner (faults.PeerRefused code)
report_text form most serial which X partner (Io side sent) = stopped_line serial which X partner (of_direction side)
report_text form most serial which X partner (Memory sent) = stopped_line serial which X partner faults.Memory

abbrev pub left_out_line : ℕ → ℕ → List ℕ
left_out_line serial count =
    codes "session " ++ (decimal serial ++ (codes " not put in " ++ (decimal count ++ codes "\n")))
