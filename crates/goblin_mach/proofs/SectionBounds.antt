-- The sections that the commands of an image hold fit into its bytes.
use Rattle.std.proofs.Common.{◌≡◌, ◌<◌, ◌≤◌, ◌+◌, ◌-◌, ◌*◌, ◌/◌, ◌^◌, ℕ, zero, suc, List, [], ◌∷◌, ◌++◌, length, Option, Some, None}
use Rattle.std.proofs.Common.{Result, Ok, Err, inl, inr, nat_le, refl, sym, subst, arith}
use Rattle.std.proofs.Math.Nat.{add-mul, div-mul-le_self, min-eq_left, min-eq_right, min-le_right, mul-le-mul_right, suc-mul}
use Rattle.std.proofs.lemmas.Bool.{cases_lt, leb-true}
use Rattle.std.proofs.lemmas.List.{length-append}
use Rattle.std.specs.Prelude.{option_map}
use Rattle.std.specs.Result.{result_unwrap_or}
use Rattle.mach_base.specs.declared.context.Container.{Container}
use Rattle.mach_base.specs.declared.context.Container.TheVariants.{Little, Big}
use Rattle.mach_base.specs.declared.context.Ctx.{Ctx}
use Rattle.mach_base.specs.declared.context.Endian.{Endian}
use Rattle.mach_base.specs.Fault.{Fault, bad_offset}
use Rattle.mach_base.specs.Items.{items_from}
use Rattle.mach_base.specs.Number.{bounded, place_after}
use Rattle.mach_base.specs.Record.{Value, number_among, record_at, size, values_in}
use Rattle.mach_base.proofs.Binds.{bind_ok, chosen}
use Rattle.mach_base.proofs.ItemLists.{length-items_from}
use Rattle.mach_load.specs.Command.{Command, cmdsize_of}
use Rattle.mach_load.specs.Commands as kind
use Rattle.mach_load.specs.Subjects.{segment_command_by}
use Rattle.mach_records.specs.Segments.{section32_fields, section64_fields}
use Rattle.mach_records.specs.declared.segments.Section64.{Section64}
use Rattle.mach_records.specs.declared.segments.SegmentCommand64.{SegmentCommand64}
use Rattle.mach_parts.specs.Section.{command_size, section_place, section_size}
use Rattle.mach_parts.specs.SectionRecord.{held_from, in_front, numbered_section, readable_in, section_record_at, sections_held}
use Rattle.mach_parts.specs.Header.{header_size}
use Rattle.mach_parts.specs.Segment.{SegmentView, lossy_segment_at, segment_data, widened, with_data}
use Rattle.mach_parts.specs.declared.segment.numbered.NumberedSection.{NumberedSection}
use Rattle.goblin_mach.specs.Bounds.{SectionsFit}
use Rattle.goblin_mach.specs.Chain.{BeginsAt, IsLinked}
use Rattle.goblin_mach.specs.Readings.{keep}
use Rattle.goblin_mach.specs.Subjects.{lossy_segments_in}

-- ---- a section that can be read

-- what was read at a place lies in the bytes
lies : {A : Type 0} (n : ℕ) (bytes : List ℕ) (s : ℕ) (found x : A) → bounded n bytes s found ≡ Ok x → s + n ≤ length bytes
lies n bytes s found x is = elim (chosen (nat_le (length bytes) s) (Err (bad_offset s)) _ (Ok x) is) [
  | inl out ↦ absurd (cc (out.1))
  | inr within ↦ elim (chosen (nat_le (s + n) (length bytes)) (Ok found) _ (Ok x) within.1) [
    | inl fits ↦ leb-true (s + n) (length bytes) fits.0
    | inr passes ↦ absurd (cc (passes.1))
  ]
]

record_lies : (w : Container) (le : Endian) (bytes : List ℕ) (place : ℕ) (x : Section64) → section_record_at w le bytes place ≡ Ok x
    → place + section_size w ≤ length bytes
record_lies Little le bytes place x is =
    let read = bind_ok (record_at le section32_fields bytes place) _ x is in
    lies (size section32_fields) bytes place (values_in le section32_fields place bytes) read.0 read.1
record_lies Big le bytes place x is =
    let read = bind_ok (record_at le section64_fields bytes place) _ x is in
    lies (size section64_fields) bytes place (values_in le section64_fields place bytes) read.0 read.1

-- a place past the last one of 64 bits isn't read
place_is : (s n room len : ℕ) → len < 2 ^ 64 → 0 < room → place_after s n + room ≤ len → s + n + room ≤ len
place_is s n room len short some fits = elim (cases_lt (2 ^ 64 - 1) (s + n)) [
  | inl past ↦ absurd (omega (arith, short, some, subst (λ p. p + room ≤ len) (min-eq_right (omega (arith, past))) fits))
  | inr near ↦ subst (λ p. p + room ≤ len) (min-eq_left near) fits
]

some_size : (w : Container) → 0 < section_size w
some_size Little = omega arith
some_size Big = omega arith

front_few : {X : Type 0} (items : List (Result X Fault)) → length (in_front items) ≤ length items
front_few [] = omega arith
front_few (Ok x ∷ items) = omega (arith, front_few items)
front_few (Err f ∷ items) = omega arith

-- ---- the sections that a command holds

module _ (n : ℕ) (s : SegmentView) where
  abbrev each : ℕ
  each = section_size s.ctx.container

  -- where section k begins
  abbrev begins : ℕ → ℕ
  begins k = s.offset + (command_size s.ctx.container + k * each)

  section_lies : (k : ℕ) (x : NumberedSection) → length s.file < 2 ^ 64 → numbered_section n s k ≡ Ok x → begins k + each ≤ length s.file
  section_lies k x short is =
      let read = bind_ok (section_record_at s.ctx.container s.ctx.le s.file (section_place s.ctx.container s.offset k)) _ x is in
      place_is s.offset (command_size s.ctx.container + k * each) each (length s.file) short (some_size s.ctx.container)
      (record_lies s.ctx.container s.ctx.le s.file _ read.0 read.1)

  -- how many sections from number k on come before the first that can't be read, among m
  abbrev before : ℕ → ℕ → ℕ
  before m k = length (in_front (items_from (numbered_section n s) k m))

  -- these lie one after the other in the bytes
  one_lies : (m k : ℕ) (r : Result NumberedSection Fault) → length s.file < 2 ^ 64 → numbered_section n s k ≡ r
      → before m (k + 1) * each ≤ length s.file - begins (k + 1)
      → length (in_front (r ∷ items_from (numbered_section n s) (k + 1) m)) * each ≤ length s.file - begins k
  one_lies m k (Err f) short is others = omega arith
  one_lies m k (Ok x) short is others = omega (arith, suc-mul (before m (k + 1)) each, suc-mul k each, others, section_lies k x short is)

  front_lies : (m k : ℕ) → length s.file < 2 ^ 64 → before m k * each ≤ length s.file - begins k
  front_lies zero k short = omega arith
  front_lies (suc m) k short = one_lies m k (numbered_section n s k) short refl (front_lies m (k + 1) short)

  -- those that the command holds
  abbrev held : ℕ
  held = before (sections_held s - 0) 0

  held_few : held * each ≤ s.command.cmdsize - command_size s.ctx.container
  held_few =
      let room = s.command.cmdsize - command_size s.ctx.container in
      let few : held ≤ room / each = omega (
        arith,
        front_few (items_from (numbered_section n s) 0 (sections_held s - 0)),
        length-items_from (numbered_section n s) 0 (sections_held s - 0),
        min-le_right s.command.nsects (room / each),
      ) in
      omega (arith, mul-le-mul_right each few, div-mul-le_self room each)

  held_lie : length s.file < 2 ^ 64 → held * each ≤ length s.file - s.offset
  held_lie short = omega (arith, front_lies (sections_held s - 0) 0 short)

-- ---- the commands of an image

-- a segment has its command's size
keeps_size : (k : kind.Kind) (vs : List Value) (x : SegmentCommand64) → segment_command_by widened k vs ≡ Some x → x.cmdsize ≡ number_among vs 1
keeps_size kind.segment32 vs x is = cc (is)
keeps_size kind.segment64 vs x is = cc (is)
keeps_size kind.symtab vs x is = absurd (cc)
keeps_size kind.symseg vs x is = absurd (cc)
keeps_size kind.thread vs x is = absurd (cc)
keeps_size kind.unixthread vs x is = absurd (cc)
keeps_size kind.load_fvmlib vs x is = absurd (cc)
keeps_size kind.id_fvmlib vs x is = absurd (cc)
keeps_size kind.ident vs x is = absurd (cc)
keeps_size kind.fvmfile vs x is = absurd (cc)
keeps_size kind.prepage vs x is = absurd (cc)
keeps_size kind.dysymtab vs x is = absurd (cc)
keeps_size kind.load_dylib vs x is = absurd (cc)
keeps_size kind.id_dylib vs x is = absurd (cc)
keeps_size kind.load_dylinker vs x is = absurd (cc)
keeps_size kind.id_dylinker vs x is = absurd (cc)
keeps_size kind.prebound_dylib vs x is = absurd (cc)
keeps_size kind.routines32 vs x is = absurd (cc)
keeps_size kind.sub_framework vs x is = absurd (cc)
keeps_size kind.sub_umbrella vs x is = absurd (cc)
keeps_size kind.sub_client vs x is = absurd (cc)
keeps_size kind.sub_library vs x is = absurd (cc)
keeps_size kind.twolevel_hints vs x is = absurd (cc)
keeps_size kind.prebind_cksum vs x is = absurd (cc)
keeps_size kind.routines64 vs x is = absurd (cc)
keeps_size kind.uuid vs x is = absurd (cc)
keeps_size kind.code_signature vs x is = absurd (cc)
keeps_size kind.segment_split_info vs x is = absurd (cc)
keeps_size kind.lazy_load_dylib vs x is = absurd (cc)
keeps_size kind.encryption_info32 vs x is = absurd (cc)
keeps_size kind.dyld_info vs x is = absurd (cc)
keeps_size kind.version_min_macosx vs x is = absurd (cc)
keeps_size kind.version_min_iphoneos vs x is = absurd (cc)
keeps_size kind.function_starts vs x is = absurd (cc)
keeps_size kind.dyld_environment vs x is = absurd (cc)
keeps_size kind.data_in_code vs x is = absurd (cc)
keeps_size kind.source_version vs x is = absurd (cc)
keeps_size kind.dylib_code_sign_drs vs x is = absurd (cc)
keeps_size kind.encryption_info64 vs x is = absurd (cc)
keeps_size kind.linker_option vs x is = absurd (cc)
keeps_size kind.linker_optimization_hint vs x is = absurd (cc)
keeps_size kind.version_min_tvos vs x is = absurd (cc)
keeps_size kind.version_min_watchos vs x is = absurd (cc)
keeps_size kind.note vs x is = absurd (cc)
keeps_size kind.build_version vs x is = absurd (cc)
keeps_size kind.load_weak_dylib vs x is = absurd (cc)
keeps_size kind.rpath vs x is = absurd (cc)
keeps_size kind.reexport_dylib vs x is = absurd (cc)
keeps_size kind.dyld_info_only vs x is = absurd (cc)
keeps_size kind.load_upward_dylib vs x is = absurd (cc)
keeps_size kind.main vs x is = absurd (cc)
keeps_size kind.dyld_exports_trie vs x is = absurd (cc)
keeps_size kind.dyld_chained_fixups vs x is = absurd (cc)
keeps_size kind.fileset_entry vs x is = absurd (cc)
keeps_size kind.unimplemented vs x is = absurd (cc)

-- the commands after the first begin after it
others_begin : (c : Command) (cs : List Command) → IsLinked (c ∷ cs) → BeginsAt (c.offset + cmdsize_of c) cs × IsLinked cs
others_begin c [] linked = (tt, tt)
others_begin c (d ∷ cs) linked = linked

-- the sections of the first command, and those of the others
with_first : (ctx : Ctx) (bytes : List ℕ) (n s cmdsize : ℕ) (found : Option SegmentCommand64) (others : List SegmentView) → length bytes < 2 ^ 64
    → ((x : SegmentCommand64) → found ≡ Some x → x.cmdsize ≡ cmdsize)
    → ((m : ℕ) → length (readable_in m others) * section_size ctx.container ≤ length bytes - (s + cmdsize))
    → length (readable_in n (keep (option_map (lossy_segment_at ctx bytes s) found) others)) * section_size ctx.container ≤ length bytes - s
with_first ctx bytes n s cmdsize None others short same rest = omega (arith, rest n)
with_first ctx bytes n s cmdsize (Some x) others short same rest =
    let view : SegmentView = with_data ctx bytes s x (result_unwrap_or (segment_data bytes x.fileoff x.filesize) []) in
    let later = readable_in (n + 1) others in
    let all : length (in_front (held_from n view 0) ++ later) ≡ held n view + length later = length-append (in_front (held_from n view 0)) later in
    let sum = add-mul (held n view) (length later) (section_size ctx.container) in
    subst (λ k. k * section_size ctx.container ≤ length bytes - s) (sym all)
    (omega (arith, sum, held_few n view, held_lie n view short, same x refl, rest (n + 1)))

sections_fit : (ctx : Ctx) (bytes : List ℕ) (cs : List Command) (n s : ℕ) → length bytes < 2 ^ 64 → BeginsAt s cs → IsLinked cs
    → length (readable_in n (lossy_segments_in ctx bytes cs)) * section_size ctx.container ≤ length bytes - s
sections_fit ctx bytes [] n s short begins linked = omega arith
sections_fit ctx bytes (c ∷ cs) n s short begins linked =
    let after = others_begin c cs linked in
    subst (λ place. length (readable_in n (lossy_segments_in ctx bytes (c ∷ cs))) * section_size ctx.container ≤ length bytes - place) begins
    (with_first ctx bytes n c.offset (cmdsize_of c) (segment_command_by widened c.kind c.values) (lossy_segments_in ctx bytes cs) short
    (keeps_size c.kind c.values) (λ m. sections_fit ctx bytes cs m (c.offset + cmdsize_of c) short after.0 after.1))

pub sections_fit_lem : SectionsFit
sections_fit_lem bytes o ctx cs short opens =
    let chain = opens.chain.chain in
    omega (arith, sections_fit ctx bytes cs 0 (o + header_size ctx.container) short chain.begins chain.linked)
