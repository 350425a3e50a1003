use Rattle.mach_dyld.proofs.TrieNames.{◌≡◌, ◌≤◌, ◌+◌, ℕ, List, Entry, HasFound, IsWalk, unmarked, work_ahead}
use Rattle.mach_dyld.proofs.trie.walk.Walker.step.Given as goal

abbrev pub invariant-turns : goal.invariant-turns
invariant-turns g l = record {
  found : (found : List Entry) (n : ℕ) → HasFound found n l.initial.self → (m : ℕ) × HasFound found m l.self × (l.steps + n ≡ l.initial.steps + m);
  sound : IsWalk l.self;
  source : l.self.source ≡ l.initial.self.source;
  few : l.steps + unmarked l.self.marks ≤ l.initial.steps + unmarked l.initial.self.marks;
  counted : l.initial.steps + unmarked l.initial.self.marks ≤ l.steps + unmarked l.self.marks;
  less : work_ahead l.self ≤ work_ahead l.initial.self;
}

abbrev pub decreases-turns : goal.decreases-turns
decreases-turns g l = work_ahead l.self
