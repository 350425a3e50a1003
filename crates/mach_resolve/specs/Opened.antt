-- The view of a given file.
use Rattle.mach_resolve.specs.Given as given
use Rattle.mach_resolve.specs.declared.inputs.Given.{Given}

abbrev pub given_view : Given → given.GivenFile
given_view g = record { path = g.path.now; bytes = g.bytes.now }
