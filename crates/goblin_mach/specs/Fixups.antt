-- The chained fixups of an image: the place of their data, by its commands (`mach-o/loader.h`, LC_DYLD_CHAINED_FIXUPS), the
-- address from which they are counted (dyld), and the fixups in order (`mach-o/fixup-chains.h`).
use Rattle.std.specs.Prelude.{◌≡◌, ℕ, List, [], ◌∷◌, Bool, filter, Option, Some, None, option_map, unwrap_or}
use Rattle.std.specs.Prelude.{Result, Ok, Err}
use Rattle.mach_base.specs.Answer.{◌>>=◌}
use Rattle.mach_base.specs.Fault.{Fault}
use Rattle.mach_base.specs.Record.{Value, number_among}
use Rattle.mach_base.specs.declared.context.Ctx.{Ctx}
use Rattle.mach_base.specs.declared.context.Endian.{Endian}
use Rattle.mach_load.specs.Command.{Command}
use Rattle.mach_load.specs.Commands.{Kind, dyld_chained_fixups}
use Rattle.mach_parts.specs.Segment.{SegmentView}
use Rattle.mach_chained.specs.Chained.{AreFixupItems}
use Rattle.mach_chained.specs.Fixups.{FixupInput, Fixup}
use Rattle.mach_chained.specs.Header.{Fixups, fixups_at}
use Rattle.mach_chained.specs.Views.{fixups_view}
use Rattle.mach_chained.specs.declared.header.ChainedFixups.{ChainedFixups}
use Rattle.goblin_mach.specs.EntryPoint.{is_text_name}
use Rattle.goblin_mach.specs.Readings.{Reading, read_of, first_of, last_of}
use Rattle.goblin_mach.specs.OpenImage.{bytes_view, commands_view, ctx_view, segments_view}
use Rattle.goblin_mach.specs.declared.macho.MachO.{MachO}

-- ---- their place

-- the place and the size of the data that a command places (struct linkedit_data_command, dataoff and datasize)
abbrev pub chained_place_of : Kind → List Value → Option (ℕ × ℕ)
chained_place_of dyld_chained_fixups values = Some (number_among values 2, number_among values 3)
chained_place_of _ values = None

-- placing them never fails
abbrev pub chained_place_by : Reading (ℕ × ℕ)
chained_place_by c = option_map (λ place. Ok place) (chained_place_of c.kind c.values)

-- the place of an image's data: that of the last command that places any
abbrev pub chained_place_in : List Command → Option (ℕ × ℕ)
chained_place_in cs = last_of (read_of chained_place_by cs)

-- the chained fixups whose data are there, if there are any, or the fault of their header
abbrev pub chained_at : Endian → List ℕ → Option (ℕ × ℕ) → Result (Option Fixups) Fault
chained_at le bytes None = Ok None
chained_at le bytes (Some place) = fixups_at le bytes place.0 place.1 >>= (λ found. Ok (Some found))

-- the chained fixups of an image
abbrev pub chained_in : Ctx → List ℕ → List Command → Result (Option Fixups) Fault
chained_in ctx bytes cs = chained_at ctx.le bytes (chained_place_in cs)

-- ---- the base address

-- the name is __TEXT
abbrev pub is_text_segment : SegmentView → Bool
is_text_segment s = is_text_name s.command.segname

-- the address of an image's first byte in memory: that of the first segment named __TEXT, or 0
unfoldable pub base_of : List SegmentView → ℕ
base_of segments = unwrap_or (option_map (λ s. s.command.vmaddr) (first_of (filter is_text_segment segments))) 0

-- the data from which fixups over these segments are read
abbrev pub input_over : Fixups → List SegmentView → FixupInput
input_over fixups segments = record { fixups = fixups; segments = segments; base = base_of segments }

-- ---- the fixups

-- These are the fixups of an image's chains, up to the first fault. There are none if it has no chains, and only a fault if
-- their header can't be read.
abbrev pub AreImageFixups : Result (Option Fixups) Fault → List SegmentView → List (Result Fixup Fault) → Type 0
AreImageFixups (Err f) segments items = items ≡ Err f ∷ []
AreImageFixups (Ok None) segments items = items ≡ []
AreImageFixups (Ok (Some fixups)) segments items = AreFixupItems (input_over fixups segments) items

-- ---- an image, as contracts see it

-- its chained fixups, by the commands that it holds
abbrev pub chained_view : {A : Type 0} → MachO A → Result (Option Fixups) Fault
chained_view m = chained_in (ctx_view m) (bytes_view m) (commands_view m)

-- the address of its first byte, by the segments that it holds
abbrev pub base_view : {A : Type 0} → MachO A → ℕ
base_view m = base_of (segments_view m)

abbrev pub chained_option_view : Option ChainedFixups → Option Fixups
chained_option_view fixups = option_map fixups_view fixups
