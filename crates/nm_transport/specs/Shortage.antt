-- Connections that the system refuses.
use Rattle.std.specs.Prelude.{◌≡◌, ◌⊎◌, ℤ, pos, IsSomeAnd}
use Rattle.std.specs.IoError.{raw_os_error}
use Rattle.std.specs.declared.io.Error.{Error}

-- The error number says that the system lacks memory, open files, open files of the process, or
-- buffers for one more connection: ENOMEM, ENFILE, EMFILE and ENOBUFS of errno(3) on Linux.
abbrev pub IsShortage : ℤ → Type 0
IsShortage code = (code ≡ pos 12) ⊎ (code ≡ pos 23) ⊎ (code ≡ pos 24) ⊎ (code ≡ pos 105)

-- the error has one of these numbers
abbrev pub IsOfShortage : Error → Type 0
IsOfShortage error = IsSomeAnd (raw_os_error error) IsShortage
