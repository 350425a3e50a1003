-- The view of a call.
use Rattle.std.specs.Prelude.{map}
use Rattle.mach_resolve.specs.Opened.{given_view}
use Rattle.machresolve.specs.Lines.{ResolveCall}
use Rattle.machresolve.specs.declared.call.Call.{Call}

abbrev pub call_view_of : Call → ResolveCall
call_view_of c = record { limit = c.limit; program = given_view c.program; libraries = map given_view c.libraries.now }
