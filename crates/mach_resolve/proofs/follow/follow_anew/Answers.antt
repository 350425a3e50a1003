use Rattle.std.proofs.Common.{Bool, ap, subst}
use Rattle.std.specs.Prelude.{Ok}
use Rattle.mach_resolve.specs.Follow.{FollowsTo, back, ends, further}
use Rattle.mach_resolve.specs.ResolveViews.{input_views, symbol_view_of, place_view_of}
use Rattle.mach_resolve.proofs.follow.follow_anew.Goals as goal

pub returns-then-not-branch-clause-followed : goal.returns-then-not-branch-clause-followed
returns-then-not-branch-clause-followed g c = λ kept.
    (c.turns.invariant kept).1 _ (back (c.in_ok-note.ensures.again (ap (λ (b : Bool). Ok b) c.if-not-branch.true)))

pub turns-preserved : goal.turns-preserved
turns-preserved g c = λ kept.
    let before = c.turns.invariant kept in
    let fresh = c.in_ok-note.ensures.fresh (ap (λ (b : Bool). Ok b) c.if-not-branch.false) in (
      c.in-Ok-Leads.ensures.kept before.0,
      λ place way. before.1 place
          (further (symbol_view_of c.in-Ok-Leads.next) fresh.1 (rw c.in-Ok-Leads.field-0-is at c.in-Ok-Leads.ensures.step before.0)
          (subst (λ met. FollowsTo (input_views c.args.files.now) met (symbol_view_of c.in-Ok-Leads.next) place) fresh.0 way)),
    )

pub returns-in-Ok-Ends-clause-followed : goal.returns-in-Ok-Ends-clause-followed
returns-in-Ok-Ends-clause-followed g c = λ kept.
    let before = c.turns.invariant kept in
    let fresh = c.in_ok-note.ensures.fresh (ap (λ (b : Bool). Ok b) c.if-not-branch.false) in
    before.1 (place_view_of c.in-Ok-Ends.place) (ends fresh.1 (rw c.in-Ok-Ends.field-0-is at c.in-Ok-Ends.ensures.step before.0))
