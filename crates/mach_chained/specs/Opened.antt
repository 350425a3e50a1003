-- The segment that was opened last.
use Rattle.std.specs.Prelude.{◌≡◌, [], Bool, true, false, Option, Some, None, Result, Ok, Err}
use Rattle.mach_base.specs.Fault.{Fault}
use Rattle.mach_chained.specs.Fixups.{FixupInput, Span, no_ends, span_at}
use Rattle.mach_chained.specs.declared.format.PointerFormat.TheVariants.{Generic64}

-- a placeholder for it before the first segment
abbrev pub nothing_opened : Span
nothing_opened = record {
  number = 0;
  vmaddr = 0;
  fileoff = 0;
  bytes = [];
  chains = record { page_size = 0; format = Generic64; segment_offset = 0; greatest = 0; page_count = 0; place = 0; upto = 0; room = 0 };
}

-- the segment is one that opens again by its number, or the placeholder before the first
abbrev pub IsKnown : FixupInput → Bool → Span → Type 0
IsKnown x true span = span_at x no_ends span.number ≡ Ok (Some span)
IsKnown x false span = span ≡ nothing_opened

-- the segment, if there is one, or the placeholder
abbrev pub span_or_nothing : Result (Option Span) Fault → Span
span_or_nothing (Ok (Some span)) = span
span_or_nothing (Ok None) = nothing_opened
span_or_nothing (Err f) = nothing_opened
