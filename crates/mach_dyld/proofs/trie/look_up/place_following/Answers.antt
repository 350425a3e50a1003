use Rattle.std.proofs.Common.{Some}
use Rattle.mach_base.specs.Text.{texts}
use Rattle.mach_dyld.specs.Trie.{regular}
use Rattle.mach_dyld.proofs.LookUps.{ok_in}
use Rattle.mach_dyld.proofs.trie.look_up.place_following.Goals as goal

pub returns-in-Some-clause-following : goal.returns-in-Some-clause-following
returns-in-Some-clause-following c =
    (Some (regular c.in-Some.field-0-0 c.in-Some.field-0-1), (c.if-size-eq0.false, c.in-Some.ensures (texts c.args.source.now.libs.now)))

pub returns-in-None-clause-following : goal.returns-in-None-clause-following
returns-in-None-clause-following c = ok_in c.rare_place.result _ _ (λ after found. (
  Some found.0,
  (c.if-size-eq0.false, found.1),
)) c.rare_place.ensures.following
