-- The rows of load commands: each command, then the sections that its record counts, or the registers in it.
use Rattle.std.specs.Prelude.{◌≡◌, ◌∷◌, ◌++◌, ℕ, ◌-◌, List, [], map, Result, Ok}
use Rattle.std.specs.List.{flat_map}
use Rattle.mach_base.specs.declared.context.Container.{Container}
use Rattle.mach_base.specs.declared.context.Container.TheVariants.{Little, Big}
use Rattle.mach_base.specs.declared.context.Ctx.{Ctx}
use Rattle.mach_base.specs.Answer.{◌>>=◌}
use Rattle.mach_base.specs.Fault.{Fault}
use Rattle.mach_base.specs.Items.{items_from}
use Rattle.mach_base.specs.Record.{Field, Value, number_among, record_at}
use Rattle.mach_records.specs.Segments.{section32_fields, section32_values, section64_fields, section64_values}
use Rattle.mach_load.specs.Commands.{Kind, segment32, segment64, thread, unixthread}
use Rattle.mach_parts.specs.Section.{section_place}
use Rattle.mach_parts.specs.SectionRecord.{in_front}
use Rattle.goblin_mach.specs.ImageFacts.{OfFacts}
use Rattle.machinfo.specs.CommandFields.{bytes_of_command}
use Rattle.machinfo.specs.NumberedCommands.{NumberedCommandView, numbered_command_view, numbered_commands_from, numbered_commands_left}
use Rattle.machinfo.specs.ThreadRegisters.{RegisterView, register_view, registers_left, thread_registers}
use Rattle.machinfo.specs.declared.command_rows.CommandRow.{CommandRow}
use Rattle.machinfo.specs.declared.command_rows.CommandRow.TheVariants as rows
use Rattle.machinfo.specs.declared.command_rows.CommandRows.{CommandRows}
use Rattle.machinfo.specs.declared.command_rows.CommandParts.{CommandParts}
use Rattle.machinfo.specs.declared.command_rows.CommandParts.TheVariants as parts
use Rattle.machinfo.specs.declared.command_sections.CommandSection.{CommandSection}
use Rattle.machinfo.specs.declared.command_sections.CommandSections.{CommandSections}
use Rattle.machinfo.specs.declared.command_sections.SectionRecord.{SectionRecord}
use Rattle.machinfo.specs.declared.command_sections.SectionRecord.TheVariants as records

-- ---- the sections of a segment's command

-- a section: the number of its command, its own in that command, and the values of its record, which is struct section or section_64
pub record CommandSectionView : Type 0 where
  pub command : ℕ
  pub number : ℕ
  pub width : Container
  pub values : List Value

abbrev pub section_record_fields : Container → List Field
section_record_fields Little = section32_fields
section_record_fields Big = section64_fields

-- section k of command n, whose bytes these are, or the reason why there is none
abbrev pub command_section_at : Ctx → (own : List ℕ) → (n k : ℕ) → Result CommandSectionView Fault
command_section_at ctx own n k =
    record_at ctx.le (section_record_fields ctx.container) own (section_place ctx.container 0 k)
    >>= (λ values. Ok (record { command = n; number = k; width = ctx.container; values = values }))

-- The sections of such a command from number k on. It counts `count` of them; those are left out that do not lie in its bytes.
abbrev pub command_sections_from : Ctx → (own : List ℕ) → (n count k : ℕ) → List CommandSectionView
command_sections_from ctx own n count k = in_front (items_from (command_section_at ctx own n) k (count - k))

-- the sections of a segment's command of this width
abbrev pub command_sections_of : Container → NumberedCommandView → List CommandSectionView
command_sections_of width it =
    command_sections_from (record { container = width; le = it.le }) (bytes_of_command it.bytes it.command) it.number (number_among it.command.values 9) 0

-- ---- rows

-- a row: a command, or one of what the command before it holds
pub data CommandRowView : Type 0 where
  command_itself : (command : NumberedCommandView) → CommandRowView
  section_below : (section : CommandSectionView) → CommandRowView
  register_below : (register : RegisterView) → CommandRowView

-- what a command of this kind holds: a segment its sections (LC_SEGMENT, LC_SEGMENT_64), and a thread its registers
-- (LC_THREAD, LC_UNIXTHREAD)
abbrev pub rows_below_kind : Kind → (cputype : ℕ) → NumberedCommandView → List CommandRowView
rows_below_kind segment32 cputype it = map (λ s. section_below s) (command_sections_of Little it)
rows_below_kind segment64 cputype it = map (λ s. section_below s) (command_sections_of Big it)
rows_below_kind thread cputype it = map (λ r. register_below r) (thread_registers it.le cputype it.number it.command.values)
rows_below_kind unixthread cputype it = map (λ r. register_below r) (thread_registers it.le cputype it.number it.command.values)
rows_below_kind _ cputype it = []

abbrev pub rows_below : (cputype : ℕ) → NumberedCommandView → List CommandRowView
rows_below cputype it = rows_below_kind it.command.kind cputype it

-- the rows of a command
abbrev pub rows_of_command : (cputype : ℕ) → NumberedCommandView → List CommandRowView
rows_of_command cputype it = command_itself it ∷ rows_below cputype it

abbrev pub rows_of_commands : (cputype : ℕ) → List NumberedCommandView → List CommandRowView
rows_of_commands cputype commands = flat_map (rows_of_command cputype) commands

-- these are the rows of the commands of the image at an offset
abbrev pub HasCommandRows : List ℕ → ℕ → List CommandRowView → Type 0
HasCommandRows bytes o items = OfFacts bytes o (λ f. items ≡ rows_of_commands f.header.cputype (numbered_commands_from f.ctx.le f.bytes 0 f.commands))

-- ---- what the code's values mean

abbrev pub width_of_record : SectionRecord → Container
width_of_record (records.Narrow s) = Little
width_of_record (records.Wide s) = Big

abbrev pub values_of_record : SectionRecord → List Value
values_of_record (records.Narrow s) = section32_values s
values_of_record (records.Wide s) = section64_values s

abbrev pub command_section_view : CommandSection → CommandSectionView
command_section_view s =
    record { command = s.command; number = s.number; width = width_of_record s.record; values = values_of_record s.record }

abbrev pub command_sections_after : CommandSections → (k : ℕ) → List CommandSectionView
command_sections_after it k = command_sections_from it.ctx it.own.now it.command it.count k

abbrev pub command_sections_left : CommandSections → List CommandSectionView
command_sections_left it = command_sections_after it it.number

abbrev pub command_row_view : CommandRow → CommandRowView
command_row_view (rows.Itself command) = command_itself (numbered_command_view command)
command_row_view (rows.Section section) = section_below (command_section_view section)
command_row_view (rows.Register register) = register_below (register_view register)

abbrev pub rows_below_left : CommandParts → List CommandRowView
rows_below_left (parts.Sections it) = map (λ s. section_below s) (command_sections_left it)
rows_below_left (parts.Registers it) = map (λ r. register_below r) (registers_left it)
rows_below_left parts.None = []

abbrev pub command_rows_left : CommandRows → List CommandRowView
command_rows_left it = rows_below_left it.below ++ rows_of_commands it.cputype (numbered_commands_left it.commands)
