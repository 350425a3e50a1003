-- The functions that dyld calls before an image's main function (`mach-o/loader.h`, S_MOD_INIT_FUNC_POINTERS and
-- S_INIT_FUNC_OFFSETS), as dyld reads them.
use Rattle.std.specs.Prelude.{◌≡◌, ◌==◌, ◌+◌, ◌-◌, ◌*◌, ◌/◌, ◌%◌, ◌^◌, ℕ, bit_and, nat_lt, Bool, Option, Some, None, option_map, Result, Ok, Err}
use Rattle.std.specs.Prelude.{List, [], ◌∷◌, ◌++◌, drop, flat_map, length, if◌then◌else◌}
use Rattle.mach_base.specs.declared.context.Ctx.{Ctx}
use Rattle.mach_base.specs.declared.context.Endian.{Endian}
use Rattle.mach_base.specs.declared.error.Error.{Error}
use Rattle.mach_base.specs.Answer.{◌>>=◌}
use Rattle.mach_base.specs.Context.{pointer_size}
use Rattle.mach_base.specs.Fault.{Fault}
use Rattle.mach_base.specs.Items.{items_from, read_as}
use Rattle.mach_base.specs.Number.{number}
use Rattle.mach_records.specs.declared.fixup_chains.ChainedStartsInSegment.{ChainedStartsInSegment}
use Rattle.mach_parts.specs.NumberedLeft.{readable_left}
use Rattle.mach_parts.specs.SectionRecord.{bytes_of_section, readable_sections}
use Rattle.mach_parts.specs.Segment.{SegmentView}
use Rattle.mach_parts.specs.declared.segment.numbered.NumberedSection.{NumberedSection}
use Rattle.mach_chained.specs.Fixups.{Fixup}
use Rattle.mach_chained.specs.Formats.{pointer_format_of}
use Rattle.mach_chained.specs.Header.{Fixups}
use Rattle.mach_chained.specs.Pointers.{KindOfFixup, rebase, pointer_of}
use Rattle.mach_chained.specs.Starts.{starts_at}
use Rattle.mach_chained.specs.declared.format.PointerFormat.{PointerFormat}
use Rattle.goblin_mach.specs.Fixups.{AreImageFixups, base_of}
use Rattle.goblin_mach.specs.declared.initializers.Initializer.{Initializer}
use Rattle.goblin_mach.specs.declared.initializers.InitializerIterator.{InitializerIterator}
use Rattle.goblin_mach.specs.declared.initializers.InitializerRun.{InitializerRun}
use Rattle.goblin_mach.specs.declared.initializers.InitializerSource.{InitializerSource}

-- ---- how pointers are stored

-- a format, and the greatest pointer of a segment
abbrev pub PointerForm : Type 0
PointerForm = PointerFormat × ℕ

-- that of a segment, by its starts
abbrev pub form_of_starts : Option (ChainedStartsInSegment × ℕ) → Option PointerForm
form_of_starts None = None
form_of_starts (Some starts) = option_map (λ format. (format, starts.0.max_valid_pointer)) (pointer_format_of starts.0.pointer_format)

abbrev pub form_of_segment : ℕ → Option Fixups → Result (Option PointerForm) Fault
form_of_segment k None = Ok None
form_of_segment k (Some x) = starts_at x k >>= (λ starts. Ok (form_of_starts starts))

-- that of an image with these fixups: the form of the segment in which the first fixup is
abbrev pub form_of_fixups : Result (Option Fixups) Fault → List (Result Fixup Fault) → Result (Option PointerForm) Fault
form_of_fixups chained [] = Ok None
form_of_fixups chained (Err f ∷ others) = Err f
form_of_fixups chained (Ok first ∷ others) = chained >>= form_of_segment first.segment

-- ---- the initializers

-- what they are read from
pub record InitializerInput : Type 0 where
  pub bytes : List ℕ
  pub ctx : Ctx
  pub base : ℕ
  pub form : Option PointerForm

-- a section has pointers to functions; it has their offsets, of 32 bits, from the image's first byte
abbrev pub has_init_pointers : (flags : ℕ) → Bool
has_init_pointers flags = bit_and flags 0xff == 0x9

abbrev pub has_init_offsets : (flags : ℕ) → Bool
has_init_offsets flags = bit_and flags 0xff == 0x16

-- the size of a section's slots, if it has such
abbrev pub init_slot_size : Ctx → (flags : ℕ) → Option ℕ
init_slot_size ctx flags =
    if has_init_pointers flags then Some (pointer_size ctx.container) else (if has_init_offsets flags then Some 4 else None)

-- the address of a stored pointer: the target of a rebase, or the number itself
abbrev pub rebased_target : (stored : ℕ) → KindOfFixup → ℕ
rebased_target stored (rebase target) = target
rebased_target stored _ = stored

abbrev pub stored_target : (base : ℕ) → Option PointerForm → (stored : ℕ) → ℕ
stored_target base None stored = stored
stored_target base (Some form) stored = rebased_target stored (pointer_of form.0 base form.1 stored).kind

abbrev pub initializer_target : InitializerInput → (flags stored : ℕ) → ℕ
initializer_target x flags stored = if has_init_offsets flags then (x.base + stored) % 2 ^ 64 else stored_target x.base x.form stored

-- the place of slot k of a size in a section's bytes, and what is stored in it, if they have room for so many
abbrev pub init_slot : Endian → (held : List ℕ) → (size k : ℕ) → Option (ℕ × ℕ)
init_slot le held size k = if nat_lt k (length held / size) then Some (k * size, number le size (drop (k * size) held)) else None

-- the initializer of slot k of a section with these bytes
abbrev pub initializer_at : InitializerInput → NumberedSection → List ℕ → (size k : ℕ) → Result Initializer Fault
initializer_at x n held size k =
    Ok (record {
      section = n;
      slot = (n.section.addr + k * size) % 2 ^ 64;
      target = initializer_target x n.section.flags (number x.ctx.le size (drop (k * size) held));
    })

-- those of a section from slot k on: it has as many slots as its bytes have room for
abbrev pub initializers_from : InitializerInput → NumberedSection → List ℕ → (size k : ℕ) → List (Result Initializer Fault)
initializers_from x n held size k = items_from (initializer_at x n held size) k (length held / size - k)

abbrev pub initializers_among : InitializerInput → NumberedSection → (size : ℕ) → Result (List ℕ) Fault → List (Result Initializer Fault)
initializers_among x n size (Ok held) = initializers_from x n held size 0
initializers_among x n size (Err f) = Err f ∷ []

abbrev pub initializers_by_size : InitializerInput → NumberedSection → Option ℕ → List (Result Initializer Fault)
initializers_by_size x n None = []
initializers_by_size x n (Some size) = initializers_among x n size (bytes_of_section x.bytes n.section)

-- the initializers of a section; if its bytes can't be read, the reason is the only item
abbrev pub section_initializers : InitializerInput → NumberedSection → List (Result Initializer Fault)
section_initializers x n = initializers_by_size x n (init_slot_size x.ctx n.section.flags)

-- those of an image, over its segments
abbrev pub initializers_over : Ctx → List ℕ → List SegmentView → Option PointerForm → List (Result Initializer Fault)
initializers_over ctx bytes segments form =
    flat_map (section_initializers (record { bytes = bytes; ctx = ctx; base = base_of segments; form = form })) (readable_sections segments)

-- These are the initializers of an image, or the fault of its first fixup.
abbrev pub AreImageInitializers : Ctx → List ℕ → Result (Option Fixups) Fault → List SegmentView → Result (List (Result Initializer Fault)) Fault → Type 0
AreImageInitializers ctx bytes chained segments found =
    (fixups : List (Result Fixup Fault)) × AreImageFixups chained segments fixups
    × (found ≡ (form_of_fixups chained fixups >>= (λ form. Ok (initializers_over ctx bytes segments form))))

-- ---- an iterator, as contracts see it

-- the size of wide slots and of others
abbrev pub init_width : (is_wide : Bool) → ℕ
init_width is_wide = if is_wide then 8 else 4

abbrev pub init_input_of : InitializerSource → InitializerInput
init_input_of s = record { bytes = s.bytes.now; ctx = s.ctx; base = s.base; form = s.form }

-- what is left of a section
abbrev pub init_run_left : InitializerInput → Option InitializerRun → List (Result Initializer Fault)
init_run_left x None = []
init_run_left x (Some run) = initializers_from x run.section run.held.now (init_width run.is_wide) run.index

abbrev pub initializers_left : InitializerIterator → List (Result Initializer Fault)
initializers_left it =
    let x = init_input_of it.source in
    init_run_left x it.run ++ flat_map (section_initializers x) (readable_left it.sections)

-- an initializer, as it was returned
abbrev pub initializer_read : Result Initializer Error → Result Initializer Fault
initializer_read item = read_as (λ i. i) item
