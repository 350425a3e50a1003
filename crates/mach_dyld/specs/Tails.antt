-- What follows a place in the bytes of a trie, as far as a branch there depends on it.
use Rattle.std.specs.Prelude.{◌≡◌, ◌<◌, ◌≤◌, ◌-◌, ℕ, length, take, drop, false, true, get_or, IfSome}
use Rattle.std.specs.Str.{IsUtf8}
use Rattle.mach_base.specs.Text.{is_zero}
use Rattle.mach_dyld.specs.Nowhere.{LeadsNowhere}
use Rattle.mach_dyld.specs.declared.trie.walk.Source.{Source}
use Rattle.mach_dyld.specs.declared.trie.runs.Tail.{Tail}

-- The bytes up to `end` hold no zero byte, and one is at `end` unless the bytes end there. Those from `low` on are UTF-8. If
-- `after` is a place, the number of a child that leads nowhere follows `end`, and `after` is the place after it.
pub record IsTail (s : Source) (place : ℕ) (t : Tail) : Type 0 where
  pub from_place : place ≤ t.low
  pub to_end : t.low ≤ t.end
  pub inside : t.end ≤ length s.bytes.now
  pub no_zero : (k : ℕ) → place ≤ k → k < t.end → is_zero (get_or s.bytes.now k 0) ≡ false
  pub zero : t.end < length s.bytes.now → is_zero (get_or s.bytes.now t.end 0) ≡ true
  pub utf8 : IsUtf8 (take (t.end - t.low) (drop t.low s.bytes.now))
  pub there : IfSome t.after (λ after. LeadsNowhere s t.end after × (t.end < length s.bytes.now))
