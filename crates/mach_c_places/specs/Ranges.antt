-- What contracts see of the range of a stream.
use Rattle.mach_dyld.specs.Cut.{CutStream}
use Rattle.mach_c_places.specs.declared.opcode_ranges.OpcodeRange.{OpcodeRange}

abbrev pub range_view : OpcodeRange → CutStream
range_view r = record { bytes = r.bytes.now; from = r.from; upto = r.upto }
