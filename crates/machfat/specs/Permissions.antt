-- The permission bits of a file that is written (`sys/stat.h`).
use Rattle.std.specs.Prelude.{◌==◌, ℕ, Bool, false, not, bit_and, Option, Some, None, if◌then◌else◌}
use Rattle.machfat.specs.declared.permissions.NewMode.{NewMode}
use Rattle.machfat.specs.declared.permissions.NewMode.TheVariants.{Created, Exactly}

-- whether a mode, if it is known, lets anybody execute the file (S_IXUSR, S_IXGRP, S_IXOTH)
abbrev pub is_executable : Option ℕ → Bool
is_executable None = false
is_executable (Some mode) = not (bit_and mode 0o111 == 0)

-- the mode of a file that is made of some files: less the umask, all may execute it if one of them is executable
abbrev pub mode_of_any : Bool → NewMode
mode_of_any executable = if executable then Created 0o777 else Created 0o666

-- the mode of a file that is made of one: the nine permission bits of that one, if its mode is known
abbrev pub mode_as : Option ℕ → NewMode
mode_as None = Created 0o666
mode_as (Some mode) = Exactly (bit_and mode 0o777)
