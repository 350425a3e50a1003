-- The faults of the table of a fat file (`mach-o/fat.h`, struct fat_header, fat_arch and fat_arch_64; LLVM rejects a file
-- that has one).
use Rattle.std.specs.Prelude.{◌==◌, ◌≡◌, ◌&&◌, not, ℕ, zero, suc, ◌+◌, ◌*◌, ◌%◌, ◌^◌, List, [], ◌∷◌, ◌++◌, length, filter_map, nat_lt, nat_le}
use Rattle.std.specs.Prelude.{Option, Some, None, option_to_list, Result, Ok, Err, if◌then◌else◌}
use Rattle.mach_base.specs.Answer.{◌>>=◌}
use Rattle.mach_base.specs.Fault.{Fault}
use Rattle.mach_base.specs.Number.{number_at, place_after}
use Rattle.mach_base.specs.declared.context.Ctx.{Ctx}
use Rattle.mach_base.specs.declared.context.Endian.TheVariants.{Big}
use Rattle.mach_parts.specs.ArchForms.{ArchForm, arch_place_in, arch_in}
use Rattle.mach_parts.specs.Magic.{magic_at}
use Rattle.mach_layout.specs.Header.{header_owner}
use Rattle.mach_layout.specs.Rules.{measured, sound, sees_there, owner_at, reported, reported_over}
use Rattle.mach_layout.specs.Sweep.{AreShared}
use Rattle.mach_layout.specs.declared.claim.Claim.{Claim}
use Rattle.mach_layout.specs.declared.containers.PlacedSlice.{PlacedSlice}
use Rattle.mach_layout.specs.declared.containers.RangeOf.{RangeOf}
use Rattle.mach_layout.specs.declared.containers.RangeOf.TheVariants.{Cpu, Bytes}
use Rattle.mach_layout.specs.declared.fault.LayoutFault.{LayoutFault}
use Rattle.mach_layout.specs.declared.fault.Owner.{Owner}
use Rattle.mach_layout.specs.declared.fault.Part.TheVariants as part
use Rattle.mach_layout.specs.declared.fault.Rule.{Rule}
use Rattle.mach_layout.specs.declared.fault.Rule.TheVariants as rule
use Rattle.mach_layout.specs.declared.rules.RuleOutcome.{RuleOutcome}

-- ---- the records

abbrev pub ok_or_zero : Result ℕ Fault → ℕ
ok_or_zero (Ok n) = n
ok_or_zero (Err f) = 0

-- the number of slices that the header of a fat file states; 0 if it has no header
abbrev pub slice_count : List ℕ → ℕ
slice_count bytes = ok_or_zero (number_at Big 4 bytes 4)

-- the place where the records end: that of one more record
abbrev pub records_end : {R : Type 0} → ArchForm R → List ℕ → ℕ
records_end form bytes = arch_place_in form (slice_count bytes)

-- slice k, by its record
abbrev pub placed_slice : {R : Type 0} → ArchForm R → ℕ → R → PlacedSlice
placed_slice form k arch =
    record {
      number = k;
      place = arch_place_in form k;
      cputype = form.cputype arch;
      cpusubtype = form.cpusubtype arch;
      offset = form.offset arch;
      size = form.size arch;
      align = form.align arch;
    }

-- the same, or why its record can't be read
abbrev pub placed_slice_at : {R : Type 0} → ArchForm R → List ℕ → ℕ → Result PlacedSlice Fault
placed_slice_at form bytes k = arch_in form bytes k >>= λ arch. Ok (placed_slice form k arch)

abbrev pub before_fault : Result PlacedSlice Fault → List PlacedSlice → List PlacedSlice
before_fault (Ok s) rest = s ∷ rest
before_fault (Err f) rest = []

-- the slices from number k on, at most n: those before the first whose record can't be read
abbrev pub slices_from : {R : Type 0} → ArchForm R → List ℕ → (k n : ℕ) → List PlacedSlice
slices_from form bytes k zero = []
slices_from form bytes k (suc n) = before_fault (placed_slice_at form bytes k) (slices_from form bytes (k + 1) n)

abbrev pub slices_of : {R : Type 0} → ArchForm R → List ℕ → List PlacedSlice
slices_of form bytes = slices_from form bytes 0 (slice_count bytes)

-- ---- the rules of one slice

abbrev pub slice_owner : PlacedSlice → Owner
slice_owner s = owner_at part.Slice s.place s.number

abbrev pub if_ok : Result ℕ Fault → Option ℕ
if_ok (Ok n) = Some n
if_ok (Err f) = None

abbrev pub cpu_after : List ℕ → ℕ → Option Ctx → Option ℕ
cpu_after bytes o None = None
cpu_after bytes o (Some ctx) = if_ok (number_at ctx.le 4 bytes (place_after o 4))

abbrev pub cpu_by : List ℕ → ℕ → Result (ℕ × Option Ctx) Fault → Option ℕ
cpu_by bytes o (Ok found) = cpu_after bytes o found.1
cpu_by bytes o (Err f) = None

-- the cpu of the image at a place, if one begins there
abbrev pub image_cpu : List ℕ → ℕ → Option ℕ
image_cpu bytes o = cpu_by bytes o (magic_at bytes o)

-- what each rule of one slice sees, if the records end at a place
abbrev pub slice_sees : List ℕ → ℕ → Rule → PlacedSlice → RuleOutcome
-- it has bytes, and they lie in the file
slice_sees bytes end rule.SliceOutOfFile s =
    measured (not (s.size == 0) && nat_le (s.offset + s.size) (length bytes)) (place_after s.offset s.size) (length bytes)
-- it begins after the header and the records
slice_sees bytes end rule.SliceInRecords s = measured (nat_le end s.offset) s.offset end
-- its alignment is at most 2 to the power of 15
slice_sees bytes end rule.SliceAlignment s = measured (nat_le s.align 15) s.align 15
-- it begins at a multiple of its alignment, if that is at most 2 to the power of 15
slice_sees bytes end rule.SliceUnaligned s =
    if nat_lt 15 s.align then sound else measured (s.offset % 2 ^ s.align == 0) s.offset (2 ^ s.align)
-- its image is of its cpu
slice_sees bytes end rule.SliceOfOtherCpu s =
    sees_there (image_cpu bytes s.offset) (λ cpu. measured (s.cputype == cpu) s.cputype cpu)
slice_sees bytes end _ s = sound

-- the faults that some of these rules find in the slices
abbrev pub slices_reported : {R : Type 0} → ArchForm R → List ℕ → List Rule → List LayoutFault
slices_reported form bytes rules = reported_over rules (λ rule. slice_owner) (slice_sees bytes (records_end form bytes)) (slices_of form bytes)

-- ---- all of them

-- the records lie in the file
abbrev pub records_out_of_file : {R : Type 0} → ArchForm R → List ℕ → Option LayoutFault
records_out_of_file form bytes =
    let end = records_end form bytes in reported rule.RecordsOutOfFile header_owner (measured (nat_le end (length bytes)) end (length bytes))

-- The bytes of a slice, if it has any; or a different number for each cpu and subtype (the low 24 bits of cpusubtype), which
-- two slices of one cpu and subtype share.
abbrev pub slice_range : RangeOf → PlacedSlice → Option Claim
slice_range Bytes s = if s.size == 0 then None else Some (record { owner = slice_owner s; start = s.offset; len = s.size })
slice_range Cpu s = Some (record { owner = slice_owner s; start = 2 ^ 24 * s.cputype + s.cpusubtype % 2 ^ 24; len = 1 })

-- the faults of the table of a fat file of a form, rule by rule
pub record AreContainerFaults {R : Type 0} (form : ArchForm R) (bytes : List ℕ) (list : List LayoutFault) : Type 0 where
  pub again : List LayoutFault
  pub sharing : List LayoutFault
  pub slices_again : AreShared rule.SliceAgain (filter_map (slice_range Cpu) (slices_of form bytes)) again
  pub slices_share : AreShared rule.SlicesShare (filter_map (slice_range Bytes) (slices_of form bytes)) sharing
  pub joined : list
      ≡ option_to_list (records_out_of_file form bytes)
      ++ slices_reported form bytes (rule.SliceOutOfFile ∷ rule.SliceInRecords ∷ rule.SliceAlignment ∷ rule.SliceUnaligned ∷ []) ++ again
      ++ slices_reported form bytes (rule.SliceOfOtherCpu ∷ []) ++ sharing
