use Rattle.std.proofs.Common.{◌-◌, ◌^◌, [], length, map}
use Rattle.mach_resolve.specs.Follow.{SymbolPlace, FollowsTo}
use Rattle.mach_resolve.specs.Kept.{KeepsAnswers}
use Rattle.mach_resolve.specs.ResolveViews.{input_views, symbol_view_of}
use Rattle.mach_resolve.proofs.follow.follow_anew.Given as goal

-- what is kept stays right, and if the way ends at a place from here, it ends there from its start
abbrev pub invariant-turns : goal.invariant-turns
invariant-turns g l =
    KeepsAnswers (input_views l.files) l.fn.kept → KeepsAnswers (input_views l.files) l.kept
    × ((place : SymbolPlace) → FollowsTo (input_views l.files) (map symbol_view_of l.met.keys) (symbol_view_of l.target) place
    → FollowsTo (input_views l.files) [] (symbol_view_of l.start) place)

abbrev pub decreases-turns : goal.decreases-turns
decreases-turns g l = 2 ^ 63 - length l.met.keys
