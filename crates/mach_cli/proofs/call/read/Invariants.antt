use Rattle.std.proofs.Common.{◌≡◌, true, None, drop}
use Rattle.mach_cli.specs.Calls.{call_view, Requests}
use Rattle.mach_cli.proofs.CallsRead.{GoesOn, Same}
use Rattle.mach_cli.proofs.call.read.Given as goal

abbrev pub invariant-words : goal.invariant-words
invariant-words g l =
    Same (Requests g.O.OwnOptions.taken l.options None (call_view l.fn.call) l.words)
    (GoesOn g.O.OwnOptions.taken l.options l.before l.is_plain (call_view l.call) (drop l.word-index l.words))
    × (l.is_plain ≡ true → l.before ≡ None)
