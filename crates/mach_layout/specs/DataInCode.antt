-- Rules of data in code (`mach-o/loader.h`, LC_DATA_IN_CODE, struct data_in_code_entry). The table of an image is that of
-- its last command. It is checked if it lies in the file.
use Rattle.std.specs.Prelude.{◌==◌, ℕ, ◌+◌, ◌-◌, ◌*◌, ◌/◌, ◌^◌, ◌&&◌, ◌||◌, not, Bool, false, List, [], ◌∷◌, Option, Some, None, min, max}
use Rattle.std.specs.Prelude.{nat_lt, nat_le, filter_map, if◌then◌else◌}
use Rattle.std.specs.List.{range_with_len, last_or}
use Rattle.mach_base.specs.Number.{place_after}
use Rattle.mach_base.specs.Record.{Value, number_among}
use Rattle.mach_load.specs.Command.{Command}
use Rattle.mach_load.specs.Commands.{Kind, data_in_code}
use Rattle.mach_records.specs.declared.linkedit.DataInCodeEntry.{DataInCodeEntry}
use Rattle.mach_load.specs.DataInCode.{data_in_code_at}
use Rattle.mach_layout.specs.Entry.{is_code}
use Rattle.mach_layout.specs.Fixups.{Data, data_of, text_address}
use Rattle.mach_layout.specs.Laid.{Laid, segments_of}
use Rattle.mach_layout.specs.Rules.{against, measured, owner_at, sees_there, sound, reported_over}
use Rattle.mach_layout.specs.Symbols.{all_there, readable}
use Rattle.mach_layout.specs.declared.data.CodeSpan.{CodeSpan}
use Rattle.mach_layout.specs.declared.data.PlacedData.{PlacedData}
use Rattle.mach_layout.specs.declared.fault.LayoutFault.{LayoutFault}
use Rattle.mach_layout.specs.declared.fault.Owner.{Owner}
use Rattle.mach_layout.specs.declared.fault.Part.TheVariants as part
use Rattle.mach_layout.specs.declared.fault.Rule.{Rule}
use Rattle.mach_layout.specs.declared.fault.Rule.TheVariants as rule
use Rattle.mach_layout.specs.declared.placed_sections.PlacedSegment.{PlacedSegment}
use Rattle.mach_layout.specs.declared.rules.RuleOutcome.{RuleOutcome}

-- ---- the executable range

-- a segment has executable addresses
abbrev pub has_code : PlacedSegment → Bool
has_code s = is_code s && nat_lt 0 s.command.vmsize

-- the range from the first to the last address of a span and a segment
abbrev pub spanning : Option CodeSpan → PlacedSegment → CodeSpan
spanning None s = record { start = s.command.vmaddr; end = s.command.vmaddr + s.command.vmsize }
spanning (Some before) s =
    record { start = min before.start s.command.vmaddr; end = max before.end (s.command.vmaddr + s.command.vmsize) }

-- the span of some segments after others: that of the executable ones
abbrev pub span_after : Option CodeSpan → List PlacedSegment → Option CodeSpan
span_after found [] = found
span_after found (s ∷ ss) = span_after (if has_code s then Some (spanning found s) else found) ss

-- the range from the first to the last executable address, if there is one
abbrev pub code_span : Laid → Option CodeSpan
code_span laid = span_after None (segments_of laid)

-- the end of a span; 0 if there is none
abbrev pub span_end : Option CodeSpan → ℕ
span_end None = 0
span_end (Some span) = min span.end (2 ^ 64 - 1)

-- ---- the entries

abbrev pub placed_data_by : Kind → ℕ → List Value → Option PlacedData
placed_data_by data_in_code place values = Some (record { place = place; dataoff = number_among values 2; datasize = number_among values 3 })
placed_data_by _ place values = None

-- the place and size of the table of a command, with the command's own place, if it is such a command
abbrev pub placed_data_of : Command → Option PlacedData
placed_data_of c = placed_data_by c.kind c.offset c.values

-- the table of a command, if it lies in the file
abbrev pub data_table : Laid → PlacedData → Option Data
data_table laid d = data_of laid (record { place = d.place; dataoff = d.dataoff; datasize = d.datasize })

-- entry k, and the one before it
abbrev pub entry_in : Data → ℕ → Option DataInCodeEntry
entry_in x k = readable (data_in_code_at x.le x.payload (k * 8))

abbrev pub entry_before : Data → ℕ → Option DataInCodeEntry
entry_before x k = if k == 0 then None else entry_in x (k - 1)

abbrev pub data_entry_owner : Data → ℕ → Owner
data_entry_owner x k = owner_at part.DataInCode x.place k

-- ---- the checks

-- an entry lies in a span
abbrev pub is_within : ℕ → Option CodeSpan → DataInCodeEntry → Bool
is_within base None e = false
is_within base (Some span) e = nat_le span.start (base + e.offset) && nat_le (base + (e.offset + e.length)) span.end

-- two entries share a byte
abbrev pub share_bytes : DataInCodeEntry → DataInCodeEntry → Bool
share_bytes a b = nat_lt (max a.offset b.offset) (min (a.offset + a.length) (b.offset + b.length))

-- an entry that has bytes lies between the first and the last executable address; its offset counts from the base
abbrev pub place_of_data_sees : (base : ℕ) → Option CodeSpan → DataInCodeEntry → RuleOutcome
place_of_data_sees base span e = measured (e.length == 0 || is_within base span e) (place_after base e.offset) (span_end span)

-- it shares no byte with the one before
abbrev pub shared_data_sees : Data → ℕ → DataInCodeEntry → DataInCodeEntry → RuleOutcome
shared_data_sees x k before e =
    against (data_entry_owner x (k - 1)) (measured (not (share_bytes before e)) e.offset (before.offset + before.length))

-- what each rule sees of entry k
abbrev pub data_sees : Data → (base : ℕ) → Option CodeSpan → Rule → ℕ → DataInCodeEntry → RuleOutcome
data_sees x base span rule.DataOutOfCode k e = place_of_data_sees base span e
data_sees x base span rule.DataShared k e = sees_there (entry_before x k) (λ before. shared_data_sees x k before e)
data_sees x base span _ k e = sound

-- ---- the faults

-- those of a table with this number of entries
abbrev pub data_table_faults : Laid → ℕ → Data → List LayoutFault
data_table_faults laid count x =
    reported_over (rule.DataOutOfCode ∷ rule.DataShared ∷ []) (λ rule. data_entry_owner x)
    (λ rule k. sees_there (entry_in x k) (data_sees x (text_address laid) (code_span laid) rule k)) (range_with_len 0 count)

-- those of the table of an image
abbrev pub data_faults : Laid → List LayoutFault
data_faults laid =
    all_there (last_or None (filter_map placed_data_of laid.commands)) (λ d. all_there (data_table laid d) (data_table_faults laid (d.datasize / 8)))
