-- The sections that use a run of the indirect symbol table (`mach-o/loader.h`, struct section, reserved1 and reserved2).
use Rattle.std.specs.Prelude.{◌==◌, ℕ, ◌/◌, bit_and, Option, Some, None, Result, Ok, Err, if◌then◌else◌}
use Rattle.mach_base.specs.declared.context.Container.{Container}
use Rattle.mach_base.specs.Answer.{◌>>=◌}
use Rattle.mach_base.specs.Context.{pointer_size}
use Rattle.mach_base.specs.Fault.{Fault, malformed}
use Rattle.mach_records.specs.declared.segments.Section64.{Section64}
use Rattle.mach_parts.specs.declared.segment.numbered.NumberedSection.{NumberedSection}
use Rattle.mach_parts.specs.declared.slots.kind.SlotKind.{SlotKind}
use Rattle.mach_parts.specs.declared.slots.kind.SlotKind.TheVariants.{Pointer, LazyPointer, Stub, LazyLibraryPointer, ThreadLocalPointer}
use Rattle.mach_parts.specs.declared.slots.kind.SlotRun.{SlotRun}

-- the kind of a section's slots, by its type: S_NON_LAZY_SYMBOL_POINTERS, S_LAZY_SYMBOL_POINTERS,
-- S_SYMBOL_STUBS, S_LAZY_DYLIB_SYMBOL_POINTERS and S_THREAD_LOCAL_VARIABLE_POINTERS
abbrev pub slot_kind : ℕ → Option SlotKind
slot_kind flags =
    let kind = bit_and flags 0xff in
    if kind == 0x6 then Some Pointer
    else (if kind == 0x7 then Some LazyPointer
    else (if kind == 0x8 then Some Stub
    else (if kind == 0x10 then Some LazyLibraryPointer
    else (if kind == 0x14 then Some ThreadLocalPointer
    else None))))

-- the size of a slot in bytes: that of a stub is given by its section, that of a pointer by the image's width
abbrev pub slot_len : Container → SlotKind → Section64 → ℕ
slot_len container Stub s = s.reserved2
slot_len container Pointer s = pointer_size container
slot_len container LazyPointer s = pointer_size container
slot_len container LazyLibraryPointer s = pointer_size container
slot_len container ThreadLocalPointer s = pointer_size container

-- the slots of a section, whose kind is given: as many whole ones as it has room for; their size must not be 0
abbrev pub slot_run : Container → NumberedSection → SlotKind → Result SlotRun Fault
slot_run container n kind =
    let len = slot_len container kind n.section in
    if len == 0 then Err malformed
    else Ok (record {
      segment = n.segment;
      section = n.number;
      kind = kind;
      address = n.section.addr;
      len = len;
      first = n.section.reserved1;
      count = n.section.size / len;
    })

-- the slots of a section, if its type has slots and it is not empty
abbrev pub run_of_kind : Container → NumberedSection → Option SlotKind → Result (Option SlotRun) Fault
run_of_kind container n None = Ok None
run_of_kind container n (Some kind) = if n.section.size == 0 then Ok None else slot_run container n kind >>= (λ r. Ok (Some r))

abbrev pub run_of : Container → NumberedSection → Result (Option SlotRun) Fault
run_of container n = run_of_kind container n (slot_kind n.section.flags)
