-- Bytes that are cut, as contracts see them.
use Rattle.mach_dyld.specs.Cut.{CutStream}
use Rattle.mach_dyld.specs.declared.stream_prefix.Cut.{Cut}

abbrev pub cut_view : Cut → CutStream
cut_view c = record { bytes = c.bytes.now; from = c.from; upto = c.upto }
