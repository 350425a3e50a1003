-- The sections, the symbols and the function starts of an image, for many look-ups by address (`mach-o/loader.h`, struct section and
-- LC_FUNCTION_STARTS; `mach-o/nlist.h`, n_sect).
use Rattle.std.specs.Prelude.{◌≡◌, ℕ, ◌-◌, ◌^◌, min, List, take, sum_by, Result}
use Rattle.std.specs.List.{filter_map}
use Rattle.std.specs.List.Sorted.{IsNonDecreasingBy}
use Rattle.std.specs.Result.{result_ok}
use Rattle.mach_base.specs.Fault.{Fault}
use Rattle.mach_parts.specs.Segment.{SegmentView}
use Rattle.mach_parts.specs.declared.segment.numbered.NumberedSection.{NumberedSection}
use Rattle.goblin_mach.specs.Fixups.{base_view}
use Rattle.goblin_mach.specs.NearestSymbol.{section_number}
use Rattle.goblin_mach.specs.OpenImage.{bytes_view, commands_view}
use Rattle.goblin_mach.specs.Tables.{AreStartsAt, starts_place_in}
use Rattle.goblin_mach.specs.declared.addresses.map.MappedSection.{MappedSection}
use Rattle.goblin_mach.specs.declared.addresses.stretches.Stretch.{Stretch}
use Rattle.goblin_mach.specs.declared.macho.MachO.{MachO}

-- how many sections the first k segments claim, at most 2^64 - 1
abbrev pub claimed_before : List SegmentView → ℕ → ℕ
claimed_before ss k = min (sum_by (λ s. s.command.nsects) (take k ss)) (2 ^ 64 - 1)

-- a section with the number by which symbols name it
abbrev pub mapped_section : List SegmentView → NumberedSection → MappedSection
mapped_section ss h = record { section = h; n_sect = section_number ss h }

-- its memory
abbrev pub memory_of_mapped : MappedSection → Stretch
memory_of_mapped m = record { name = m.section.section.sectname; start = m.section.section.addr; size = m.section.section.size }

-- the function starts that can be read
abbrev pub starts_in : List (Result ℕ Fault) → List ℕ
starts_in items = filter_map result_ok items

-- they are those of an image, and sorted
pub record AreStartsOf {A : Type 0} (m : MachO A) (starts : List ℕ) : Type 0 where
  pub sorted : IsNonDecreasingBy (λ start. start) starts
  pub all : (items : List (Result ℕ Fault)) → AreStartsAt (bytes_view m) (starts_place_in (commands_view m)) (base_view m) items
      → starts ≡ starts_in items
