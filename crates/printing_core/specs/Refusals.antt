-- Refusals, by where they arise: the fault, which prints as one line, and the second line. Its words are those of a
-- variant of `Why`, and the fields of the variant stand between them, in their order.
--     told f why, bare f               a refusal with this second line, and one without
--     IsOfFile file f r                of a file of items, or of a strategy
--     IsOfSet file f r                 of a file of a set that may be cut into shards
--     IsOfShards file cap f r          of a file of items of shards, of at most cap items each
--     input_refusal file f             of an input
--     scenario_refusal file f          of a scenario
--     listen_refusal, connect_refusal  of an address
--     message_why hexed f              for the input of `answer`, in hex or in bytes, and for its output
--     session_why limits n f           for a session with a server, of which n bytes were read
--     peer_why most f                  for a session over standard input and output, of which so many bytes may be read
--     serving_why f                    for a server whose workers ended
use Rattle.std.specs.Prelude.{◌≡◌, ℕ, Bool, ◌==◌, ◌&&◌, nat_le, nat_lt, List, if◌then◌else◌, Option, Some, None}
use Rattle.std.specs.Prelude.{min, unwrap_or, string_bytes, ⊤}
use Rattle.std.specs.Borrow.{Bor}
use Rattle.io_core.specs.declared.input.InputFault.{InputFault}
use Rattle.io_core.specs.declared.input.InputFault.TheVariants as inputs
use Rattle.io_core.specs.declared.read_fault.ReadFault.TheVariants as reads
use Rattle.wire_core.specs.declared.fault.WireFault.TheVariants as wires
use Rattle.item_files.specs.declared.bad_line.BadLine.{BadLine}
use Rattle.item_files.specs.declared.fault.SettingsFault.{SettingsFault}
use Rattle.item_files.specs.declared.fault.SettingsFault.TheVariants as settings
use Rattle.item_files.specs.declared.load_fault.LoadFault.{LoadFault}
use Rattle.item_files.specs.declared.load_fault.LoadFault.TheVariants as loads
use Rattle.sim_core.specs.declared.scenario_fault.ScenarioFault.TheVariants as scenarios
use Rattle.sim_core.specs.declared.scenario_fault.ScenarioError.{ScenarioError}
use Rattle.sim_core.specs.declared.scenario_fault.ScenarioError.TheVariants as errors
use Rattle.settings_core.specs.ShardSizes.{bits_for}
use Rattle.tcp_front.specs.declared.limits.Limits.{Limits}
use Rattle.tcp_front.specs.declared.fault.ListenFault.{ListenFault}
use Rattle.tcp_front.specs.declared.fault.ListenFault.TheVariants as listens
use Rattle.tcp_front.specs.declared.fault.ConnectFault.{ConnectFault}
use Rattle.tcp_front.specs.declared.fault.ConnectFault.TheVariants as connects
use Rattle.printing_core.specs.ShownLines.{shown_line}
use Rattle.printing_core.specs.declared.refusal.Refusal.{Refusal}
use Rattle.printing_core.specs.declared.why.Origin.{Origin}
use Rattle.printing_core.specs.declared.why.OtherSide.{OtherSide}
use Rattle.printing_core.specs.declared.why.OtherSide.TheVariants as sides
use Rattle.printing_core.specs.declared.why.Why.{Why}
use Rattle.printing_core.specs.declared.why.Why.TheVariants as whys
use Rattle.printing_core.specs.declared.fault.Fault.{Fault}
use Rattle.printing_core.specs.declared.fault.Fault.TheVariants as faults

abbrev pub told : Fault → Why → Refusal
told f why = record { fault = f; why = Some why }

abbrev pub bare : Fault → Refusal
bare f = record { fault = f; why = None }

-- ---- files

-- the line is shown where there is memory for its text
abbrev pub IsSaidOfLine : Bor (List ℕ) → BadLine → Option Why → Type 0
IsSaidOfLine file bad None = ⊤
IsSaidOfLine file bad (Some (whys.BadLine f n flaw shown)) =
    (f ≡ file) × (n ≡ bad.number) × (flaw ≡ bad.flaw) × (string_bytes shown ≡ shown_line bad.front)
IsSaidOfLine file bad (Some w) = ⊥

abbrev pub IsOfLine : Bor (List ℕ) → BadLine → Refusal → Type 0
IsOfLine file bad r = (r.fault ≡ faults.BadItemLine bad.number) × IsSaidOfLine file bad r.why

abbrev pub in_file : Bor (List ℕ) → Origin
in_file file = record { file = file; node = None }

abbrev pub in_node : Bor (List ℕ) → ℕ → Origin
in_node file node = record { file = file; node = Some node }

abbrev pub IsOfFile : Bor (List ℕ) → SettingsFault → Refusal → Type 0
IsOfFile file (settings.CannotRead cause) r = r ≡ told faults.CannotRead (whys.Unread file cause)
IsOfFile file (settings.BadItemLine bad) r = IsOfLine file bad r
IsOfFile file (settings.TooManyItems cap count) r = r ≡ told faults.TooManyItems (whys.TooManyItems (in_file file) cap)
IsOfFile file settings.NotToml r = r ≡ told faults.NotToml (whys.NotToml (in_file file))
IsOfFile file (settings.Strategy flaw) r = r ≡ told (faults.Strategy flaw.fault) (whys.Strategy (in_file file) flaw)
IsOfFile file (settings.Check f) r = r ≡ told (faults.Check f) (whys.NotAccepted (in_file file) f)
IsOfFile file settings.Memory r = r ≡ bare faults.Memory

-- where there is room for so many items above a cap: in shards, where no cap is greater
abbrev pub full_why : Bor (List ℕ) → ℕ → ℕ → Why
full_why file cap count = if nat_lt cap 65536 then whys.LowCap file cap
    else whys.NoShards file cap (unwrap_or (bits_for (min count 4294967295)) 12)

abbrev pub IsOfSet : Bor (List ℕ) → SettingsFault → Refusal → Type 0
IsOfSet file (settings.TooManyItems cap count) r = r ≡ told faults.TooManyItems (full_why file cap count)
IsOfSet file f r = IsOfFile file f r

abbrev pub IsOfShards : Bor (List ℕ) → ℕ → LoadFault → Refusal → Type 0
IsOfShards file cap (loads.CannotRead cause) r = r ≡ told faults.CannotRead (whys.Unread file cause)
IsOfShards file cap loads.TooLong r = r ≡ told faults.CannotRead (whys.Unread file reads.TooLongForShards)
IsOfShards file cap (loads.BadItemLine bad) r = IsOfLine file bad r
IsOfShards file cap (loads.TooManyItems shard) r = r ≡ told faults.TooManyItems (whys.FullShard file shard cap)
IsOfShards file cap loads.Memory r = r ≡ bare faults.Memory

-- ---- inputs and addresses

abbrev pub input_refusal : Bor (List ℕ) → InputFault → Refusal
input_refusal file (inputs.CannotRead cause) = told faults.CannotRead (whys.Unread file cause)
input_refusal file inputs.Memory = bare faults.Memory

abbrev pub scenario_refusal : Bor (List ℕ) → ScenarioError → Refusal
scenario_refusal file (errors.Fault scenarios.NotToml) = told faults.NotToml (whys.NotToml (in_file file))
scenario_refusal file (errors.Fault (scenarios.Strategy node flaw)) =
    told (faults.Strategy flaw.fault) (whys.Strategy (in_node file node) flaw)
scenario_refusal file (errors.Fault (scenarios.Check node f)) =
    told (faults.Check f) (whys.NotAccepted (in_node file node) f)
scenario_refusal file (errors.Fault (scenarios.TooManyItems node cap)) =
    told faults.TooManyItems (whys.TooManyItems (in_node file node) cap)
scenario_refusal file (errors.Fault scenarios.BadScenario) = told faults.BadScenario whys.NotScenario
scenario_refusal file (errors.Fault (scenarios.BadStep step)) = told (faults.BadStep step) (whys.NotStep step)
scenario_refusal file errors.Memory = bare faults.Memory

abbrev pub listen_refusal : Bor (List ℕ) → ListenFault → Refusal
listen_refusal address (listens.Unreached cause) = told faults.Bind (whys.Address address cause)
listen_refusal address listens.Memory = bare faults.Memory

abbrev pub connect_refusal : Bor (List ℕ) → ConnectFault → Refusal
connect_refusal address (connects.Unreached cause) = told faults.Connect (whys.Address address cause)
connect_refusal address connects.Memory = bare faults.Memory

-- ---- messages and sessions

abbrev pub message_why : Bool → Fault → Option Why
message_why hexed faults.CannotRead = Some whys.NoInput
message_why hexed faults.NotHex = Some whys.NotHex
message_why hexed (faults.Wire wires.Truncated) = Some whys.CutInput
message_why hexed (faults.Wire f) = Some (if hexed then whys.NotMessage else whys.NotBytes)
message_why hexed faults.Misplaced = Some whys.NotSum
message_why hexed faults.WriterFailed = Some whys.Output
message_why hexed f = None

-- refused here, with a number other than 3: 1 is a hello that is none, 2 to 26 what may not be sent, 55 another set
abbrev pub broken_why : OtherSide → ℕ → Option Why
broken_why side code =
    if code == 1 then Some (whys.Stranger side)
    else if code == 12 then Some (whys.TooManyParts side)
    else if nat_le 2 code && nat_le code 26 then Some (whys.Unruly side)
    else if code == 55 then Some (whys.OtherSet side)
    else None

-- a server refused with this number
abbrev pub refusing_why : ℕ → Why
refusing_why code = if code == 1 then whys.NoHello else if code == 55 then whys.OtherShape
    else whys.Refusing sides.Server code

-- 3 is Truncated: the connection ended in the middle of a message
abbrev pub session_why : Limits → ℕ → Fault → Option Why
session_why limits received (faults.Session code) = if code == 3
    then Some (if nat_lt received limits.most_bytes then whys.Ended else whys.TooMuch limits.most_bytes)
    else broken_why sides.Server code
session_why limits received (faults.PeerRefused code) = Some (refusing_why code)
session_why limits received faults.ReaderFailed = Some (whys.Silent limits.patience)
session_why limits received faults.WriterFailed = Some (whys.NotTaking limits.patience)
session_why limits received f = None

abbrev pub peer_why : ℕ → Fault → Option Why
peer_why most_bytes (faults.Session code) =
    if code == 3 then Some (whys.Cut most_bytes) else broken_why sides.Peer code
peer_why most_bytes (faults.PeerRefused code) = Some (whys.Refusing sides.Peer code)
peer_why most_bytes faults.ReaderFailed = Some whys.PeerUnread
peer_why most_bytes faults.WriterFailed = Some whys.PeerClosed
peer_why most_bytes f = None

abbrev pub serving_why : Fault → Option Why
serving_why faults.Accept = Some whys.NoRoom
serving_why f = None
