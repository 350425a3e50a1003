-- The files that are given to be resolved: parts of one buffer.
use Rattle.std.specs.Prelude.{◌≡◌, ℕ, List, Result, Ok, Err, Some, slice_get, if◌then◌else◌}
use Rattle.std.specs.List.{AllZip}
use Rattle.std.specs.Str.{is_utf8}
use Rattle.mach_base.specs.Answer.{◌>>=◌}
use Rattle.mach_base.specs.Fault.{Fault, malformed}
use Rattle.mach_base.specs.Number.{slice_at}
use Rattle.mach_resolve.specs.Given.{GivenFile}
use Rattle.goblin_mach_c.specs.declared.given_files.gm_given_file.{gm_given_file}

-- a path, if it is UTF-8
abbrev pub path_of : List ℕ → Result (List ℕ) Fault
path_of path = if is_utf8 path then Ok path else Err malformed

abbrev pub given_file : (own path : List ℕ) → GivenFile
given_file own path = record { path = path; bytes = own }

-- a file, given as a part of these bytes; its path must lie in them too, and be UTF-8
abbrev pub given_at : List ℕ → gm_given_file → Result GivenFile Fault
given_at bytes p =
    slice_at p.len bytes p.offset >>= λ own. slice_at p.path_len bytes p.path >>= λ path. path_of path >>= λ text. Ok (given_file own text)

-- the files that are given, in order
abbrev pub AreGiven : List ℕ → List gm_given_file → List GivenFile → Type 0
AreGiven bytes parts files = AllZip (λ p g. given_at bytes p ≡ Ok g) parts files

-- the fault of the part with this number
abbrev pub PartFault : List ℕ → List gm_given_file → ℕ → Fault → Type 0
PartFault bytes parts n f = (p : gm_given_file) × (slice_get parts n ≡ Some p) × (given_at bytes p ≡ Err f)
