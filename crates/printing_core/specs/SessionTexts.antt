-- What `serve` and `sync` print on standard output.
--     listening_line address     the first line of `serve`
--     served_text t n            its lines at the end: the totals, and the number of items
--     listed_text l ours theirs  both differences, listed as l says: the items in this order, or how many they are
--     synced_text l v k a        the lines of a session that ended: its version, the messages sent, and what was
--                                learned, each item once, rising
--     session_fault o, session_learned o     why a session did not end, or what it learned
--     IsSyncOf l o result        what `sync` prints of a session, or the fault that it ends with
--     finds_any o                whether a session came to its end and found an item that one side lacks
--     report_fault r             the fault that `serve` refuses with, if the report has one
--     fault_in result            the fault of a call, if it has one
--     difference_status checks differ    the status of a session that came to its end
--     may_pass f                 whether a session with this fault may come to its end if it is tried again
use Rattle.std.specs.Prelude.{ℕ, ◌≡◌, List, ◌∷◌, ◌++◌, length, nat_lt, Bool, true, false, ◌||◌, ◌&&◌, String, codes}
use Rattle.std.specs.Prelude.{flat_map, ◌==◌, if◌then◌else◌}
use Rattle.std.specs.Prelude.{Option, Some, None, Result, Ok, Err, string_bytes}
use Rattle.std.specs.declared.alloc.Global.{Global}
use Rattle.std.specs.Fmt.{decimal}
use Rattle.definitions.specs.Items.{Item}
use Rattle.definitions.specs.Sets.{set_of}
use Rattle.definitions.specs.Talks.{Knowledge}
use Rattle.session_table.specs.declared.source.SourceFault.{SourceFault}
use Rattle.session_table.specs.declared.report.WorkersReport.{WorkersReport}
use Rattle.session_table.specs.declared.totals.Totals.{Totals}
use Rattle.session_table.specs.declared.outcome.Direction.{Direction}
use Rattle.session_table.specs.declared.outcome.Direction.TheVariants as directions
use Rattle.session_table.specs.declared.outcome.Outcome.{Outcome}
use Rattle.session_table.specs.declared.outcome.Outcome.TheVariants as outcomes
use Rattle.item_files.specs.declared.form.ItemForm.{ItemForm}
use Rattle.printing_core.specs.FaultsOf.{of_source}
use Rattle.printing_core.specs.ItemTexts.{item_line}
use Rattle.printing_core.specs.declared.sessions.Listing.{Listing}
use Rattle.printing_core.specs.declared.sessions.Listing.TheVariants as listings
use Rattle.printing_core.specs.declared.fault.Fault.{Fault}
use Rattle.printing_core.specs.declared.fault.Fault.TheVariants.{Session, PeerRefused, Connect, ReaderFailed}
use Rattle.printing_core.specs.declared.fault.Fault.TheVariants.{WriterFailed, Memory}

abbrev pub fault_in : {X : Type 0} → Result X Fault → Option Fault
fault_in (Ok x) = None
fault_in (Err f) = Some f

abbrev pub listening_line : List ℕ → List ℕ
listening_line address = codes "listening " ++ (address ++ codes "\n")

abbrev pub totals_line : Totals → List ℕ
totals_line t = codes "opened " ++ (decimal t.opened ++ (codes " ended "
    ++ (decimal t.ended ++ (codes " refused " ++ (decimal t.refused ++ (codes " io " ++ (decimal t.io
    ++ (codes " memory " ++ (decimal t.memory ++ (codes " messages " ++ (decimal t.messages ++ codes "\n")))))))))))

abbrev pub served_text : Totals → ℕ → List ℕ
served_text t n = totals_line t ++ (codes "items " ++ (decimal n ++ codes "\n"))

-- a name, a space, and the item in this form
abbrev pub named_line : ItemForm → List ℕ → Item → List ℕ
named_line form name x = name ++ (32 ∷ item_line form x)

abbrev pub listed_text : Listing → List Item → List Item → List ℕ
listed_text (listings.Items form) ours theirs = flat_map (named_line form (codes "ours")) ours
    ++ flat_map (named_line form (codes "theirs")) theirs
listed_text listings.Counts ours theirs = codes "ours " ++ (decimal (length ours)
    ++ (codes "\ntheirs " ++ (decimal (length theirs) ++ codes "\n")))

abbrev pub learned_text : Listing → Knowledge → List ℕ
learned_text listing k = listed_text listing (set_of k.ours) (set_of k.theirs)

abbrev pub counts_text : ℕ → ℕ → List ℕ
counts_text version sent = codes "version " ++ (decimal version ++ (codes "\nsent " ++ (decimal sent ++ codes "\n")))

abbrev pub synced_text : Listing → ℕ → ℕ → Knowledge → List ℕ
synced_text listing version sent k = counts_text version sent ++ learned_text listing k

abbrev pub of_direction : Direction → Fault
of_direction directions.Read = ReaderFailed
of_direction directions.Write = WriterFailed

abbrev pub session_fault : Outcome → Option Fault
session_fault (outcomes.Ended learned sent version) = None
session_fault (outcomes.Refused code sent) = Some (Session code)
session_fault (outcomes.PeerRefused code sent) = Some (PeerRefused code)
session_fault (outcomes.Io side sent) = Some (of_direction side)
session_fault (outcomes.Memory sent) = Some Memory

abbrev pub session_learned : Outcome → Option Knowledge
session_learned (outcomes.Ended learned sent version) = Some learned
session_learned outcome = None

abbrev pub IsSyncOf : Listing → Outcome → Result (String Global) Fault → Type 0
IsSyncOf listing (outcomes.Ended learned sent version) (Ok text) =
    string_bytes text ≡ synced_text listing version sent learned
IsSyncOf listing (outcomes.Ended learned sent version) (Err f) = f ≡ Memory
IsSyncOf listing outcome result = fault_in result ≡ session_fault outcome

abbrev pub finds_any : Outcome → Bool
finds_any (outcomes.Ended learned sent version) = nat_lt 0 (length learned.ours) || nat_lt 0 (length learned.theirs)
finds_any outcome = false

-- ---- how workers and sessions end

abbrev pub started_fault : ℕ → Option Fault
started_fault started = if started == 0 then Some Memory else None

abbrev pub source_fault : ℕ → Option SourceFault → Option Fault
source_fault started (Some f) = Some (of_source f)
source_fault started None = started_fault started

abbrev pub report_fault : WorkersReport → Option Fault
report_fault r = source_fault r.started r.fault

abbrev pub difference_status : Bool → Bool → ℕ
difference_status checks differ = if checks && differ then 4 else 0

-- 3 is Truncated: the connection ended in the middle of a message
abbrev pub may_pass : Fault → Bool
may_pass Connect = true
may_pass ReaderFailed = true
may_pass WriterFailed = true
may_pass (Session code) = code == 3
may_pass fault = false
