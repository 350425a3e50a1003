use Rattle.std.proofs.Common.{◌≡◌, ◌≤◌, ◌+◌, length, take}
use Rattle.std.specs.List.{suffix_len}
use Rattle.memchr.specs.Find.{is_byte}
use Rattle.mach_archive.proofs.field.trimmed.Given as goal

abbrev pub invariant-loop-len : goal.invariant-loop-len
invariant-loop-len l = record {
  inside : l.len ≤ length l.bytes;
  trims : l.len + suffix_len (is_byte l.filler) l.bytes ≡ length l.bytes + suffix_len (is_byte l.filler) (take l.len l.bytes);
}

abbrev pub decreases-loop-len : goal.decreases-loop-len
decreases-loop-len l = l.len
