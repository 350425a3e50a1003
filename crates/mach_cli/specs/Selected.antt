-- Which parts of a file are selected.
use Rattle.std.specs.Prelude.{◌==◌, ◌&&◌, ℕ, List, Bool, true, not, Option, Some, None, length, nat_lt, take}
use Rattle.std.specs.List.{filter}
use Rattle.goblin_mach.specs.Items.{ItemView}
use Rattle.goblin_mach.specs.declared.item.EntryCpu.{EntryCpu}
use Rattle.goblin_mach.specs.declared.item.ItemPlace.{ItemPlace}
use Rattle.mach_cli.specs.Bounds.{most_images}
use Rattle.mach_cli.specs.Cpus.{is_chosen, is_of_cpu}
use Rattle.mach_cli.specs.PartsOf.{parts_left}
use Rattle.mach_cli.specs.declared.cpu.Cpu.{Cpu}
use Rattle.mach_cli.specs.declared.omitted.Omitted.{Omitted}
use Rattle.mach_cli.specs.declared.parts.selection.SelectedParts.{SelectedParts}

-- by the cpu of its entry; without one its image decides
abbrev pub is_entry_for : Cpu → Option EntryCpu → Bool
is_entry_for cpu (Some entry) = is_of_cpu cpu entry.cputype entry.cpusubtype
is_entry_for cpu None = true

abbrev pub is_part_for : Cpu → ItemPlace → Bool
is_part_for cpu place = is_entry_for cpu place.cpu

-- those that are selected, in order
abbrev pub selected_parts : Cpu → List ItemView → List ItemView
selected_parts cpu xs = filter (λ x. is_part_for cpu x.place) xs

-- the first of them, as many as a limit allows; and whether there are more
abbrev pub parts_within : (limit : ℕ) → Cpu → List ItemView → List ItemView
parts_within limit cpu xs = take limit (selected_parts cpu xs)

abbrev pub are_more : (limit : ℕ) → Cpu → List ItemView → Bool
are_more limit cpu xs = nat_lt limit (length (selected_parts cpu xs))

-- what is omitted of a file with these parts, of which a limit of lines allows as many, and with so many entries that are left out
abbrev pub omitted_of : (limit : ℕ) → Cpu → List ItemView → (left_out : ℕ) → Omitted
omitted_of limit cpu xs left_out = record { limit = limit; is_cut = are_more (most_images limit) cpu xs; left_out = left_out }

-- whether a cpu is selected, and none of these parts of what is no archive is for it
abbrev pub are_missed : Cpu → (is_archive : Bool) → List ItemView → Bool
are_missed cpu is_archive xs = not is_archive && (is_chosen cpu && (length (selected_parts cpu xs) == 0))

-- ---- the parts left

-- whatever the limit
abbrev pub selected_parts_left : SelectedParts → List ItemView
selected_parts_left p = selected_parts p.cpu (parts_left p.parts)

abbrev pub within_left : SelectedParts → List ItemView
within_left p = parts_within p.room p.cpu (parts_left p.parts)
