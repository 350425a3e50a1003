-- The records of chained fixups (`mach-o/fixup-chains.h`). For each record: its fields in order, their values, and the record of these.
use Rattle.std.specs.Prelude.{List, [], ◌∷◌}
use Rattle.mach_base.specs.Record.{Field, num, Value, number_is, number_among}
use Rattle.mach_records.specs.declared.fixup_chains.ChainedFixupsHeader.{ChainedFixupsHeader}
use Rattle.mach_records.specs.declared.fixup_chains.ChainedStartsInSegment.{ChainedStartsInSegment}

-- struct dyld_chained_fixups_header
abbrev pub fixups_header_fields : List Field
fixups_header_fields = num 4 ∷ num 4 ∷ num 4 ∷ num 4 ∷ num 4 ∷ num 4 ∷ num 4 ∷ []

abbrev pub fixups_header_values : ChainedFixupsHeader → List Value
fixups_header_values h =
    number_is h.fixups_version ∷ number_is h.starts_offset ∷ number_is h.imports_offset ∷ number_is h.symbols_offset
    ∷ number_is h.imports_count ∷ number_is h.imports_format ∷ number_is h.symbols_format ∷ []

abbrev pub header_of_values : List Value → ChainedFixupsHeader
header_of_values vs = record {
  fixups_version = number_among vs 0;
  starts_offset = number_among vs 1;
  imports_offset = number_among vs 2;
  symbols_offset = number_among vs 3;
  imports_count = number_among vs 4;
  imports_format = number_among vs 5;
  symbols_format = number_among vs 6;
}

-- struct dyld_chained_starts_in_segment
abbrev pub starts_fields : List Field
starts_fields = num 4 ∷ num 2 ∷ num 2 ∷ num 8 ∷ num 4 ∷ num 2 ∷ []

abbrev pub starts_values : ChainedStartsInSegment → List Value
starts_values s =
    number_is s.size ∷ number_is s.page_size ∷ number_is s.pointer_format ∷ number_is s.segment_offset
    ∷ number_is s.max_valid_pointer ∷ number_is s.page_count ∷ []

abbrev pub starts_of_values : List Value → ChainedStartsInSegment
starts_of_values vs = record {
  size = number_among vs 0;
  page_size = number_among vs 1;
  pointer_format = number_among vs 2;
  segment_offset = number_among vs 3;
  max_valid_pointer = number_among vs 4;
  page_count = number_among vs 5;
}
