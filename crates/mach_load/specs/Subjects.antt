-- The libraries and segments of commands (`mach-o/loader.h`).
use Rattle.std.specs.Prelude.{List, Bool, true, false, Option, Some, None}
use Rattle.mach_base.specs.Record.{Value}
use Rattle.mach_records.specs.Segments.{segment_command32_of_values, segment_command64_of_values}
use Rattle.mach_records.specs.declared.segments.SegmentCommand32.{SegmentCommand32}
use Rattle.mach_records.specs.declared.segments.SegmentCommand64.{SegmentCommand64}
use Rattle.mach_load.specs.Commands.{Kind, load_dylib, load_upward_dylib, reexport_dylib, load_weak_dylib, lazy_load_dylib, segment32, segment64}

-- the five commands that load a library
abbrev pub is_library : Kind → Bool
is_library load_dylib = true
is_library load_upward_dylib = true
is_library reexport_dylib = true
is_library load_weak_dylib = true
is_library lazy_load_dylib = true
is_library _ = false

-- the command of a segment in its 64-bit form, if it is one; `widened` widens that of a 32-bit image
abbrev pub segment_command_by : (widened : SegmentCommand32 → SegmentCommand64) → Kind → List Value → Option SegmentCommand64
segment_command_by widened segment32 values = Some (widened (segment_command32_of_values values))
segment_command_by widened segment64 values = Some (segment_command64_of_values values)
segment_command_by widened _ values = None
