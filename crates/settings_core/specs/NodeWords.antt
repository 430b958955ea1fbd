-- Why a server does not keep its set equal with others, or answers no programs.
--     are_partners text      whether the text is 1 to 64 addresses with a comma between two, each of a byte at least
--     is_loopback address    whether an address, with a port or without one, is of the loopback, by its text
--     may_control word       whether this machine's own programs alone reach this place
--     node_flaw with every control pages origins stdio    the reason, if there is one, by the words of the call
use Rattle.std.specs.Prelude.{ℕ, ◌-◌, ◌==◌, List, [], ◌∷◌, length, codes, Bool, true, false, not, ◌&&◌, ◌||◌, nat_lt}
use Rattle.std.specs.Prelude.{bytes_eq, if◌then◌else◌, Option, Some, None, is_some}
use Rattle.std.specs.Char.{is_ascii_digit}
use Rattle.std.specs.List.{list_all, position_or_len, before_first, after_first}
use Rattle.settings_core.specs.Addresses.{is_host, host_of, is_colon}
use Rattle.settings_core.specs.declared.node_words.Scan as code
use Rattle.settings_core.specs.declared.node_words.NodeFlaw.{NodeFlaw}
use Rattle.settings_core.specs.declared.node_words.NodeFlaw.TheVariants.{NoPartners, NoPages, Stdio, WebStdio, Partners}
use Rattle.settings_core.specs.declared.node_words.NodeFlaw.TheVariants.{Control}

-- ---- a list of addresses: 44 is the comma

-- how many more may follow, and whether the last one has no byte so far
pub record Scan : Type 0 where
  pub left : ℕ
  pub is_empty : Bool

abbrev pub scanned : code.Scan → Scan
scanned s = record { left = s.left; is_empty = s.is_empty }

abbrev pub scan_after : Scan → ℕ → Option Scan
scan_after s byte =
    if byte == 44
    then (if s.is_empty || (s.left == 0) then None else Some (record { left = s.left - 1; is_empty = true }))
    else Some (record { left = s.left; is_empty = false })

abbrev pub ends_well : Option Scan → Bool
ends_well None = false
ends_well (Some s) = not s.is_empty

abbrev pub scan_from : Option Scan → List ℕ → Option Scan
scan_from None bytes = None
scan_from (Some s) [] = Some s
scan_from (Some s) (byte ∷ bytes) = scan_from (scan_after s byte) bytes

abbrev pub are_partners : List ℕ → Bool
are_partners text = ends_well (scan_from (Some (record { left = 63; is_empty = true })) text)

-- ---- the loopback: 46 is the point

abbrev pub is_point : ℕ → Bool
is_point byte = byte == 46

abbrev pub is_part_of_four : ℕ → Bool
is_part_of_four byte = (byte == 46) || is_ascii_digit byte

-- `127.` and decimal digits and points
abbrev pub is_four : List ℕ → Bool
is_four host = if nat_lt (position_or_len is_point host) (length host)
    then bytes_eq (before_first is_point host) (codes "127") && list_all is_part_of_four (after_first is_point host)
    else false

abbrev pub or_else : Option (List ℕ) → List ℕ → List ℕ
or_else (Some host) other = host
or_else None other = other

abbrev pub host_in : List ℕ → List ℕ
host_in address = if is_host address then address else or_else (host_of address) address

abbrev pub is_loopback_host : List ℕ → Bool
is_loopback_host host = bytes_eq host (codes "localhost") || (bytes_eq host (codes "[::1]") || is_four host)

abbrev pub is_loopback : List ℕ → Bool
is_loopback address = if bytes_eq address (codes "::1") then true else is_loopback_host (host_in address)

-- `unix:` and a path
abbrev pub is_unix : List ℕ → Bool
is_unix word = if nat_lt (position_or_len is_colon word) (length word)
    then bytes_eq (before_first is_colon word) (codes "unix") else false

abbrev pub may_control : List ℕ → Bool
may_control word = is_unix word || is_loopback word

-- ---- the words

abbrev pub all_fit : (List ℕ → Bool) → Option (List ℕ) → Bool
all_fit P None = true
all_fit P (Some text) = P text

abbrev pub node_flaw : Option (List ℕ) → Bool → Option (List ℕ) → Bool → Bool → Bool → Option NodeFlaw
node_flaw partners every control pages origins stdio =
    if not (is_some partners) && every then Some NoPartners
    else if origins && not pages then Some NoPages
    else if stdio && (is_some partners || is_some control) then Some Stdio
    else if stdio && pages then Some WebStdio
    else if not (all_fit are_partners partners) then Some Partners
    else if not (all_fit may_control control) then Some Control
    else None
