use Rattle.mach_dyld.proofs.BindNames.{◌≡◌, ◌≤◌, ◌+◌, false, cond}
use Rattle.mach_dyld.specs.Machine.{items_left, opcodes_left, Keeps}
use Rattle.mach_dyld.specs.Sites.{sites_left}
use Rattle.mach_dyld.proofs.imports.stream.Stream.arrive.Given as goal

abbrev pub invariant-reading : goal.invariant-reading
invariant-reading g l = record {
  items : items_left g.M.BindRules.rules l.initial.self ≡ items_left g.M.BindRules.rules l.self;
  reads : l.steps + opcodes_left g.M.BindRules.rules l.self ≡ l.initial.steps + opcodes_left g.M.BindRules.rules l.initial.self;
  kept : l.initial.steps ≤ l.steps;
  on : l.self.state.ended ≡ false;
  keeps : Keeps l.initial.self l.self;
  sites : sites_left g.M.BindRules.rules l.initial.self ≡ sites_left g.M.BindRules.rules l.self;
}

abbrev pub decreases-reading : goal.decreases-reading
decreases-reading g l = opcodes_left g.M.BindRules.rules l.self + cond l.self.state.settings.is_lazy 0 1
