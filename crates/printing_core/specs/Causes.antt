-- Why a file was not written to.
--     cause_of kind     the cause, by what the system said
use Rattle.std.specs.declared.io.ErrorKind.{ErrorKind}
use Rattle.std.specs.declared.io.ErrorKind.TheVariants as kinds
use Rattle.printing_core.specs.declared.serve.Cause.{Cause}
use Rattle.printing_core.specs.declared.serve.Cause.TheVariants as causes

abbrev pub cause_of : ErrorKind → Cause
cause_of kinds.StorageFull = causes.NoRoom
cause_of kinds.QuotaExceeded = causes.OverQuota
cause_of kinds.FileTooLarge = causes.TooLarge
cause_of kinds.ReadOnlyFilesystem = causes.ReadOnly
cause_of kinds.PermissionDenied = causes.Forbidden
cause_of kinds.BrokenPipe = causes.NoReader
cause_of kind = causes.Other
