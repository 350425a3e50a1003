-- Bytes that are cut after the range of one stream, so that no opcode, operand or text is read beyond it.
use Rattle.std.specs.Prelude.{◌+◌, ℕ, List, [], take}
use Rattle.mach_parts.specs.Segment.{SegmentView}
use Rattle.mach_dyld.specs.Streams.{Input, Range, last_range}

pub record CutStream : Type 0 where
  pub bytes : List ℕ
  pub from : ℕ
  pub upto : ℕ

-- the bytes cut after the range that a command states
abbrev pub cut_stream : List ℕ → (off size : ℕ) → CutStream
cut_stream bytes off size = record { bytes = take (off + size) bytes; from = off; upto = off + size }

abbrev pub cut_range : CutStream → Range
cut_range s = last_range s.from s.upto

-- the input of such a stream: it has no libraries
abbrev pub cut_input : CutStream → ℕ → List SegmentView → Input
cut_input s pointer segments = record { bytes = s.bytes; pointer = pointer; libs = []; segments = segments }
