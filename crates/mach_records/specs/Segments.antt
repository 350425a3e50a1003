-- Segments and their sections (`mach-o/loader.h`).
-- For each record: its fields in order, and their values.
use Rattle.std.specs.Prelude.{List, [], ◌∷◌}
use Rattle.mach_base.specs.Record.{Field, num, arr, Value, number_is, bytes_are, number_among, bytes_among}
use Rattle.mach_records.specs.declared.segments.Section32.{Section32}
use Rattle.mach_records.specs.declared.segments.Section64.{Section64}
use Rattle.mach_records.specs.declared.segments.SegmentCommand32.{SegmentCommand32}
use Rattle.mach_records.specs.declared.segments.SegmentCommand64.{SegmentCommand64}

-- struct section
abbrev pub section32_fields : List Field
section32_fields =
    arr 16 ∷ arr 16 ∷ num 4 ∷ num 4 ∷ num 4 ∷ num 4 ∷ num 4 ∷ num 4 ∷ num 4 ∷ num 4 ∷ num 4 ∷ []

abbrev pub section32_values : Section32 → List Value
section32_values r =
    bytes_are r.sectname ∷ bytes_are r.segname ∷ number_is r.addr ∷ number_is r.size
    ∷ number_is r.offset ∷ number_is r.align ∷ number_is r.reloff ∷ number_is r.nreloc
    ∷ number_is r.flags ∷ number_is r.reserved1 ∷ number_is r.reserved2 ∷ []

abbrev pub section32_of_values : List Value → Section32
section32_of_values vs =
    record {
      sectname = bytes_among vs 0;
      segname = bytes_among vs 1;
      addr = number_among vs 2;
      size = number_among vs 3;
      offset = number_among vs 4;
      align = number_among vs 5;
      reloff = number_among vs 6;
      nreloc = number_among vs 7;
      flags = number_among vs 8;
      reserved1 = number_among vs 9;
      reserved2 = number_among vs 10;
    }

-- struct section_64
abbrev pub section64_fields : List Field
section64_fields =
    arr 16 ∷ arr 16 ∷ num 8 ∷ num 8 ∷ num 4 ∷ num 4 ∷ num 4 ∷ num 4 ∷ num 4 ∷ num 4 ∷ num 4 ∷ num 4
    ∷ []

abbrev pub section64_values : Section64 → List Value
section64_values r =
    bytes_are r.sectname ∷ bytes_are r.segname ∷ number_is r.addr ∷ number_is r.size
    ∷ number_is r.offset ∷ number_is r.align ∷ number_is r.reloff ∷ number_is r.nreloc
    ∷ number_is r.flags ∷ number_is r.reserved1 ∷ number_is r.reserved2 ∷ number_is r.reserved3 ∷ []

abbrev pub section64_of_values : List Value → Section64
section64_of_values vs =
    record {
      sectname = bytes_among vs 0;
      segname = bytes_among vs 1;
      addr = number_among vs 2;
      size = number_among vs 3;
      offset = number_among vs 4;
      align = number_among vs 5;
      reloff = number_among vs 6;
      nreloc = number_among vs 7;
      flags = number_among vs 8;
      reserved1 = number_among vs 9;
      reserved2 = number_among vs 10;
      reserved3 = number_among vs 11;
    }

-- struct segment_command
abbrev pub segment_command32_fields : List Field
segment_command32_fields =
    num 4 ∷ num 4 ∷ arr 16 ∷ num 4 ∷ num 4 ∷ num 4 ∷ num 4 ∷ num 4 ∷ num 4 ∷ num 4 ∷ num 4 ∷ []

abbrev pub segment_command32_values : SegmentCommand32 → List Value
segment_command32_values r =
    number_is r.cmd ∷ number_is r.cmdsize ∷ bytes_are r.segname ∷ number_is r.vmaddr
    ∷ number_is r.vmsize ∷ number_is r.fileoff ∷ number_is r.filesize ∷ number_is r.maxprot
    ∷ number_is r.initprot ∷ number_is r.nsects ∷ number_is r.flags ∷ []

abbrev pub segment_command32_of_values : List Value → SegmentCommand32
segment_command32_of_values vs =
    record {
      cmd = number_among vs 0;
      cmdsize = number_among vs 1;
      segname = bytes_among vs 2;
      vmaddr = number_among vs 3;
      vmsize = number_among vs 4;
      fileoff = number_among vs 5;
      filesize = number_among vs 6;
      maxprot = number_among vs 7;
      initprot = number_among vs 8;
      nsects = number_among vs 9;
      flags = number_among vs 10;
    }

-- struct segment_command_64
abbrev pub segment_command64_fields : List Field
segment_command64_fields =
    num 4 ∷ num 4 ∷ arr 16 ∷ num 8 ∷ num 8 ∷ num 8 ∷ num 8 ∷ num 4 ∷ num 4 ∷ num 4 ∷ num 4 ∷ []

abbrev pub segment_command64_values : SegmentCommand64 → List Value
segment_command64_values r =
    number_is r.cmd ∷ number_is r.cmdsize ∷ bytes_are r.segname ∷ number_is r.vmaddr
    ∷ number_is r.vmsize ∷ number_is r.fileoff ∷ number_is r.filesize ∷ number_is r.maxprot
    ∷ number_is r.initprot ∷ number_is r.nsects ∷ number_is r.flags ∷ []

abbrev pub segment_command64_of_values : List Value → SegmentCommand64
segment_command64_of_values vs =
    record {
      cmd = number_among vs 0;
      cmdsize = number_among vs 1;
      segname = bytes_among vs 2;
      vmaddr = number_among vs 3;
      vmsize = number_among vs 4;
      fileoff = number_among vs 5;
      filesize = number_among vs 6;
      maxprot = number_among vs 7;
      initprot = number_among vs 8;
      nsects = number_among vs 9;
      flags = number_among vs 10;
    }
