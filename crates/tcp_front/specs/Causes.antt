-- Why an address is not listened at, or not reached.
--     port_of a              what follows the last `:`, if there is one
--     port_is_too_high a     whether this is decimal digits, and a number above 65535
--     path_flaw path         what is wrong with the path of a Unix socket itself, if anything is
--     unknown, unheard, unmet     the cause, by what the system said of the look-up of a text, of listening, and of
--                            connecting, for which there were so many seconds; none where memory ran out
--     unix_unheard, unix_unmet     the last two at a path
--     listen_fault, connect_fault, accept_fault     the fault
use Rattle.std.specs.Prelude.{ℕ, Bool, false, ◌&&◌, ◌==◌, nat_lt, List, [], ◌∷◌, length, if◌then◌else◌}
use Rattle.std.specs.Prelude.{Option, Some, None}
use Rattle.std.specs.Char.{is_ascii_digit}
use Rattle.std.specs.List.{list_all}
use Rattle.std.specs.Str.Parse.{digits_value}
use Rattle.std.specs.declared.io.ErrorKind.{ErrorKind}
use Rattle.std.specs.declared.io.ErrorKind.TheVariants as kinds
use Rattle.tcp_front.specs.declared.unreached.Unreached.{Unreached}
use Rattle.tcp_front.specs.declared.unreached.Unreached.TheVariants as causes
use Rattle.session_table.specs.declared.source.SourceFault.{SourceFault}
use Rattle.session_table.specs.declared.source.SourceFault.TheVariants as sources
use Rattle.tcp_front.specs.declared.fault.ListenFault.{ListenFault}
use Rattle.tcp_front.specs.declared.fault.ListenFault.TheVariants as listens
use Rattle.tcp_front.specs.declared.fault.ConnectFault.{ConnectFault}
use Rattle.tcp_front.specs.declared.fault.ConnectFault.TheVariants as connects

-- the first if there is one, else the second
abbrev pub first_of : Option (List ℕ) → Option (List ℕ) → Option (List ℕ)
first_of (Some port) other = Some port
first_of None other = other

-- that of the bytes after the first, and else these bytes, if the first is `:`
abbrev pub port_of : List ℕ → Option (List ℕ)
port_of [] = None
port_of (byte ∷ bytes) = first_of (port_of bytes) (if byte == 58 then Some bytes else None)

-- no digits write 0
abbrev pub is_too_high : List ℕ → Bool
is_too_high digits = list_all is_ascii_digit digits && nat_lt 65535 (digits_value 10 digits)

abbrev pub has_too_high : Option (List ℕ) → Bool
has_too_high (Some port) = is_too_high port
has_too_high None = false

abbrev pub port_is_too_high : List ℕ → Bool
port_is_too_high address = has_too_high (port_of address)

-- a path has 1 to 107 bytes
abbrev pub path_flaw : List ℕ → Option Unreached
path_flaw path = if length path == 0 then Some causes.NoPath
    else if nat_lt 107 (length path) then Some causes.PathTooLong else None

-- ---- what the system said

abbrev pub unknown : ErrorKind → Option Unreached
unknown kinds.OutOfMemory = None
unknown kinds.InvalidInput = Some causes.NoPort
unknown kind = Some causes.NoHost

abbrev pub unheard : ErrorKind → Option Unreached
unheard kinds.OutOfMemory = None
unheard kinds.AddrInUse = Some causes.InUse
unheard kinds.AddrNotAvailable = Some causes.NotHere
unheard kinds.PermissionDenied = Some causes.NoLeave
unheard kind = Some causes.NotFree

-- a call that takes longer than it may fails with TimedOut or with WouldBlock
abbrev pub unmet : ErrorKind → ℕ → Option Unreached
unmet kinds.OutOfMemory seconds = None
unmet kinds.TimedOut seconds = Some (causes.NoAnswer seconds)
unmet kinds.WouldBlock seconds = Some (causes.NoAnswer seconds)
unmet kinds.HostUnreachable seconds = Some causes.NoWay
unmet kinds.NetworkUnreachable seconds = Some causes.NoWay
unmet kind seconds = Some causes.Nobody

abbrev pub unix_unheard : ErrorKind → Option Unreached
unix_unheard kinds.OutOfMemory = None
unix_unheard kinds.AddrInUse = Some causes.InUse
unix_unheard kinds.NotFound = Some causes.NoFolder
unix_unheard kinds.NotADirectory = Some causes.NoFolder
unix_unheard kinds.PermissionDenied = Some causes.NoLeave
unix_unheard kind = Some causes.NoSocket

abbrev pub unix_unmet : ErrorKind → Option Unreached
unix_unmet kinds.OutOfMemory = None
unix_unmet kinds.PermissionDenied = Some causes.NoEntry
unix_unmet kind = Some causes.Nobody

-- ---- faults

abbrev pub listen_fault : Option Unreached → ListenFault
listen_fault None = listens.Memory
listen_fault (Some cause) = listens.Unreached cause

abbrev pub connect_fault : Option Unreached → ConnectFault
connect_fault None = connects.Memory
connect_fault (Some cause) = connects.Unreached cause

abbrev pub accept_fault : ErrorKind → SourceFault
accept_fault kinds.OutOfMemory = sources.Memory
accept_fault kind = sources.Accept
