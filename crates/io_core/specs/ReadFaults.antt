-- Why a file or an input was not read, by what the system said.
--     by_kind kind               the fault by the kind of the system's error
--     read_fault code kind       the fault by its number, if it has one, and its kind
use Rattle.std.specs.Prelude.{ℕ, ℤ, pos, negsuc, Bool, ◌||◌, nat_eq, if◌then◌else◌, Option, Some, None}
use Rattle.std.specs.declared.io.ErrorKind.{ErrorKind}
use Rattle.std.specs.declared.io.ErrorKind.TheVariants as kinds
use Rattle.io_core.specs.declared.read_fault.ReadFault.{ReadFault}
use Rattle.io_core.specs.declared.read_fault.ReadFault.TheVariants.{Absent, Forbidden, Folder, NoMoreFiles}
use Rattle.io_core.specs.declared.read_fault.ReadFault.TheVariants.{Other}

abbrev pub by_kind : ErrorKind → ReadFault
by_kind kinds.NotFound = Absent
by_kind kinds.PermissionDenied = Forbidden
by_kind kinds.IsADirectory = Folder
by_kind kind = Other

-- Linux gives 24 where the process may open no more files, and 23 where the system may
abbrev pub is_for_want_of_files : ℕ → Bool
is_for_want_of_files n = nat_eq n 23 || nat_eq n 24

abbrev pub read_fault : Option ℤ → ErrorKind → ReadFault
read_fault None kind = by_kind kind
read_fault (Some (negsuc n)) kind = by_kind kind
read_fault (Some (pos n)) kind = if is_for_want_of_files n then NoMoreFiles else by_kind kind
