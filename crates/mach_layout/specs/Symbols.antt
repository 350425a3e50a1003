-- Rules of symbols (`mach-o/nlist.h`; `mach-o/loader.h`, struct symtab_command and dysymtab_command). The symbols and the
-- indirect symbols of an image are those of its last command of each kind. That there is only one of each is a rule of
-- commands.
use Rattle.std.specs.Prelude.{◌==◌, ℕ, zero, suc, ◌+◌, ◌-◌, ◌*◌, ◌/◌, ◌%◌, ◌^◌, ◌&&◌, ◌||◌, not, min, bit_and, Bool, true, false, List, [], ◌∷◌, ◌++◌}
use Rattle.std.specs.Prelude.{length, take, drop, nat_lt, nat_le, filter_map, option_to_list, count_by, sum_by}
use Rattle.std.specs.Prelude.{Option, Some, None, Result, Ok, Err, if◌then◌else◌}
use Rattle.std.specs.List.{range_with_len, last_or, suffix_len}
use Rattle.mach_base.specs.Context.{pointer_size}
use Rattle.mach_base.specs.Fault.{Fault}
use Rattle.mach_base.specs.Number.{number_at, place_after}
use Rattle.mach_base.specs.Record.{Value, number_among}
use Rattle.mach_base.specs.declared.context.Container.{Container}
use Rattle.mach_base.specs.declared.context.Ctx.{Ctx}
use Rattle.mach_base.specs.declared.context.Endian.{Endian}
use Rattle.mach_load.specs.Command.{Command}
use Rattle.mach_load.specs.Commands.{Kind, symtab, dysymtab}
use Rattle.mach_load.specs.Subjects.{is_library}
use Rattle.mach_parts.specs.Symbols.{nlist_at, nlist_size, type_of, is_stab}
use Rattle.mach_parts.specs.declared.symbols.nlist.Nlist.{Nlist}
use Rattle.mach_records.specs.SymbolTables.{symtab_command_of_values}
use Rattle.mach_records.specs.declared.symbol_tables.DysymtabCommand.{DysymtabCommand}
use Rattle.mach_layout.specs.Laid.{Laid, file_size, is_final, placed_segment_of, placed_sections_of, ends_past}
use Rattle.mach_layout.specs.Rules.{measured, sound, sees_there, then_outcome, owner_at, reported, reported_over}
use Rattle.mach_layout.specs.Sections.{section_owner}
use Rattle.mach_layout.specs.declared.fault.LayoutFault.{LayoutFault}
use Rattle.mach_layout.specs.declared.fault.Owner.{Owner}
use Rattle.mach_layout.specs.declared.fault.Part.{Part}
use Rattle.mach_layout.specs.declared.fault.Part.TheVariants as part
use Rattle.mach_layout.specs.declared.fault.Rule.{Rule}
use Rattle.mach_layout.specs.declared.fault.Rule.TheVariants as rule
use Rattle.mach_layout.specs.declared.placed_sections.PlacedSection.{PlacedSection}
use Rattle.mach_layout.specs.declared.placed_sections.PlacedSegment.{PlacedSegment}
use Rattle.mach_layout.specs.declared.rules.RuleOutcome.{RuleOutcome}
use Rattle.mach_layout.specs.declared.symbols.PlacedDysymtab.{PlacedDysymtab}
use Rattle.mach_layout.specs.declared.symbols.PlacedSymtab.{PlacedSymtab}
use Rattle.mach_layout.specs.declared.symbols.SymbolBounds.{SymbolBounds}
use Rattle.mach_layout.specs.declared.symbols.SymbolRange.{SymbolRange}

-- ---- what the rules share

-- a fault without another owner
abbrev pub fault_at : Rule → Part → ℕ → ℕ → ℕ → ℕ → LayoutFault
fault_at r p command index found limit = record { rule = r; owner = owner_at p command index; other = None; found = found; limit = limit }

-- the result for an item, if there is one
abbrev pub if_there : {A B : Type 0} → Option A → (A → Option B) → Option B
if_there None report = None
if_there (Some x) report = report x

-- the first fault of two
abbrev pub first_of_two : Option LayoutFault → Option LayoutFault → Option LayoutFault
first_of_two None second = second
first_of_two (Some f) second = Some f

-- the results for an item, if there is one
abbrev pub all_there : {A B : Type 0} → Option A → (A → List B) → List B
all_there None report = []
all_there (Some x) report = report x

-- a record, if it can be read
abbrev pub readable : {A : Type 0} → Result A Fault → Option A
readable (Ok x) = Some x
readable (Err f) = None

-- how many of `count` records of a size, from a place on, lie in the bytes
abbrev pub whole_records : List ℕ → (start size count : ℕ) → ℕ
whole_records bytes start size count = min count ((length bytes - start) / size)

-- the place where the last text among some strings ends: after their last zero byte, or 0 if they have none
abbrev pub texts_end : List ℕ → ℕ
texts_end strings = length strings - suffix_len (λ b. not (b == 0)) strings

-- ---- the tables

abbrev pub symtab_by : Kind → ℕ → List Value → Option PlacedSymtab
symtab_by symtab place values = Some (record { place = place; command = symtab_command_of_values values })
symtab_by _ place values = None

-- the LC_SYMTAB command with its place, if it is one
abbrev pub symtab_of : Command → Option PlacedSymtab
symtab_of c = symtab_by c.kind c.offset c.values

-- struct dysymtab_command
abbrev pub dysymtab_of_values : List Value → DysymtabCommand
dysymtab_of_values vs =
    record {
      cmd = number_among vs 0;
      cmdsize = number_among vs 1;
      ilocalsym = number_among vs 2;
      nlocalsym = number_among vs 3;
      iextdefsym = number_among vs 4;
      nextdefsym = number_among vs 5;
      iundefsym = number_among vs 6;
      nundefsym = number_among vs 7;
      tocoff = number_among vs 8;
      ntoc = number_among vs 9;
      modtaboff = number_among vs 10;
      nmodtab = number_among vs 11;
      extrefsymoff = number_among vs 12;
      nextrefsyms = number_among vs 13;
      indirectsymoff = number_among vs 14;
      nindirectsyms = number_among vs 15;
      extreloff = number_among vs 16;
      nextrel = number_among vs 17;
      locreloff = number_among vs 18;
      nlocrel = number_among vs 19;
    }

abbrev pub dysymtab_by : Kind → ℕ → List Value → Option PlacedDysymtab
dysymtab_by dysymtab place values = Some (record { place = place; command = dysymtab_of_values values })
dysymtab_by _ place values = None

-- the LC_DYSYMTAB command with its place, if it is one
abbrev pub dysymtab_of : Command → Option PlacedDysymtab
dysymtab_of c = dysymtab_by c.kind c.offset c.values

-- the last of each
abbrev pub last_symtab : Laid → Option PlacedSymtab
last_symtab laid = last_or None (filter_map symtab_of laid.commands)

abbrev pub last_dysymtab : Laid → Option PlacedDysymtab
last_dysymtab laid = last_or None (filter_map dysymtab_of laid.commands)

-- the number of symbols that the table states; 0 if there is none
abbrev pub symbol_count : Option PlacedSymtab → ℕ
symbol_count None = 0
symbol_count (Some t) = t.command.nsyms

-- symbol k of a table, if its record lies in the bytes
abbrev pub symbol_in : Ctx → List ℕ → PlacedSymtab → ℕ → Option Nlist
symbol_in ctx bytes t k = readable (nlist_at ctx bytes (t.command.symoff + k * nlist_size ctx.container))

-- the number of symbols of a table that lie in the bytes
abbrev pub symbols_there : Laid → PlacedSymtab → ℕ
symbols_there laid t = whole_records laid.bytes t.command.symoff (nlist_size laid.ctx.container) t.command.nsyms

-- their numbers
abbrev pub symbol_numbers : Laid → PlacedSymtab → List ℕ
symbol_numbers laid t = range_with_len 0 (symbols_there laid t)

-- ---- the section of a symbol

abbrev pub nsects_of : Option PlacedSegment → ℕ
nsects_of None = 0
nsects_of (Some s) = s.command.nsects

-- the number of sections that the segments state; at most the last number of 64 bits
abbrev pub section_count : Laid → ℕ
section_count laid = min (sum_by (λ c. nsects_of (placed_segment_of c)) laid.commands) (2 ^ 64 - 1)

-- Debugging entries whose `n_sect` is a section's number (`mach-o/stab.h`): N_FUN, N_STSYM, N_LCSYM, N_BNSYM, N_SLINE,
-- N_ENSYM, N_SO, N_ENTRY, N_LBRAC and N_RBRAC. An N_OSO has the low byte of the cpusubtype there.
abbrev pub has_section_number : ℕ → Bool
has_section_number n_type =
    n_type == 0x24 || (n_type == 0x26 || (n_type == 0x28 || (n_type == 0x2e || (n_type == 0x44 || (n_type == 0x4e || (n_type == 0x64
    || (n_type == 0xa4 || (n_type == 0xc0 || n_type == 0xe0))))))))

-- A symbol of type N_SECT names a section of the image by its number from 1. Such a debugging entry names one too, or none
-- (NO_SECT, 0: the end of a function or of a source). The rule doesn't check other symbols and entries.
abbrev pub is_section_wrong : ℕ → Nlist → Bool
is_section_wrong sections s =
    if is_stab s then has_section_number s.n_type && nat_lt sections s.n_sect
    else type_of s.n_type == 0xe && (s.n_sect == 0 || nat_lt sections s.n_sect)

-- ---- the name of a symbol

-- the place where the names in the strings of a table end: that of the last text, if the strings lie in the file
abbrev pub names_end : Laid → PlacedSymtab → ℕ
names_end laid t =
    if ends_past (file_size laid) t.command.stroff t.command.strsize then t.command.strsize
    else texts_end (take t.command.strsize (drop t.command.stroff laid.bytes))

-- ---- the library of a symbol

-- one of the five commands that load a library
unfoldable pub brings_library : Command → Bool
brings_library c = is_library c.kind

-- the number of libraries that the commands load
abbrev pub library_count : Laid → ℕ
library_count laid = count_by brings_library laid.commands

-- undefined or prebound, and external (N_UNDF with no value, N_PBUD; N_EXT)
abbrev pub is_imported : Nlist → Bool
is_imported s = not (bit_and s.n_type 0x1 == 0) && ((type_of s.n_type == 0 && s.n_value == 0) || type_of s.n_type == 0xc)

-- the libraries of symbols are checked in files that dyld maps and that use the two-level namespace (MH_TWOLEVEL)
abbrev pub has_libraries : Laid → Bool
has_libraries laid = is_final laid && not (bit_and laid.header.flags 0x80 == 0)

-- ---- each symbol by itself

-- what the checks of a table's symbols use: the number of sections, the end of the names, and the number of libraries
abbrev pub bounds_of : Laid → PlacedSymtab → SymbolBounds
bounds_of laid t = record { sections = section_count laid; names_end = names_end laid t; libraries = library_count laid }

-- what each rule of one symbol sees
abbrev pub symbol_sees : PlacedSymtab → SymbolBounds → Rule → Nlist → RuleOutcome
-- its section is one of the image, or none
symbol_sees t b rule.SymbolSection s = measured (not (is_section_wrong b.sections s)) s.n_sect b.sections
-- A symbol's name begins before the end of a text of the strings; 0 is no name. The value of an indirect symbol (N_INDR) is
-- the place of another name.
symbol_sees t b rule.SymbolName s =
    then_outcome (measured (s.n_strx == 0 || nat_lt s.n_strx b.names_end) s.n_strx t.command.strsize)
    (measured (not (bit_and s.n_type 0xee == 0xa) || nat_lt s.n_value t.command.strsize) s.n_value t.command.strsize)
-- In a file that dyld maps, with the flag MH_TWOLEVEL, a symbol that another image defines names its library by a number in
-- the high 8 bits of n_desc (GET_LIBRARY_ORDINAL); 0xfe and 0xff are special.
symbol_sees t b rule.SymbolLibrary s =
    let library = s.n_desc / 256 in
    measured (is_stab s || (not (is_imported s) || (nat_le library b.libraries || nat_le 0xfe library))) library b.libraries
symbol_sees t b _ s = sound

-- symbol k of a table as the owner of a fault, and what a rule sees in it, if its record lies in the bytes
abbrev pub symbol_owner : PlacedSymtab → ℕ → Owner
symbol_owner t k = owner_at part.Symbols t.place k

abbrev pub symbol_sees_at : Ctx → List ℕ → PlacedSymtab → SymbolBounds → Rule → ℕ → RuleOutcome
symbol_sees_at ctx bytes t b rule k = sees_there (symbol_in ctx bytes t k) (symbol_sees t b rule)

-- the faults that some of these rules find in the symbols of a table, if there is one
abbrev pub symbols_reported : Laid → Option PlacedSymtab → List Rule → List LayoutFault
symbols_reported laid table rules =
    all_there table (λ t. reported_over rules (λ rule. symbol_owner t) (symbol_sees_at laid.ctx laid.bytes t (bounds_of laid t)) (symbol_numbers laid t))

-- ---- the ranges of symbols

-- the local symbols, the external symbols that the image defines, and the undefined symbols
abbrev pub ranges_of : DysymtabCommand → List SymbolRange
ranges_of d =
    record { number = 0; first = d.ilocalsym; count = d.nlocalsym }
    ∷ record { number = 1; first = d.iextdefsym; count = d.nextdefsym }
    ∷ record { number = 2; first = d.iundefsym; count = d.nundefsym } ∷ []

-- a range that isn't empty ends past the table
abbrev pub is_range_out : ℕ → SymbolRange → Bool
is_range_out nsyms r = nat_lt 0 r.count && nat_lt nsyms (r.first + r.count)

-- what the rule of ranges sees in one, in a table of `nsyms` symbols
abbrev pub range_sees : ℕ → SymbolRange → RuleOutcome
range_sees nsyms r = measured (not (is_range_out nsyms r)) (r.first + r.count) nsyms

-- ---- the symbols of a range

-- external: known outside the image (N_EXT)
abbrev pub is_external : Nlist → Bool
is_external s = not (bit_and s.n_type 0x1 == 0)

-- undefined or prebound (N_UNDF, N_PBUD)
abbrev pub is_of_other : Nlist → Bool
is_of_other s = type_of s.n_type == 0 || type_of s.n_type == 0xc

-- Local symbols are those that aren't external, the private external ones (N_PEXT) and debugging entries. Of the external
-- ones, the undefined symbols are those that another image defines.
abbrev pub is_of_range : ℕ → Nlist → Bool
is_of_range number s =
    if number == 0 then not (is_external s) || (is_stab s || not (bit_and s.n_type 0x10 == 0))
    else (if number == 1 then is_external s && (is_stab s || not (is_of_other s))
    else is_external s && (not (is_stab s) && is_of_other s))

abbrev pub symbol_kind_fault : PlacedSymtab → ℕ → ℕ → Nlist → Option LayoutFault
symbol_kind_fault t number k s = reported rule.SymbolRangeKind (symbol_owner t k) (measured (is_of_range number s) s.n_type 0)

-- the fault of the first of these items, from number k on, that has one
abbrev pub first_reported : (ℕ → Option LayoutFault) → ℕ → ℕ → Option LayoutFault
first_reported report k zero = None
first_reported report k (suc n) = first_of_two (report k) (first_reported report (k + 1) n)

-- the number of symbols of a range that lie in the bytes, which hold `there` symbols of the table
abbrev pub range_len : ℕ → SymbolRange → ℕ
range_len there r = min r.count (there - r.first)

-- the fault of the first symbol of a range that isn't of its kind
abbrev pub range_kind : Laid → PlacedSymtab → SymbolRange → Option LayoutFault
range_kind laid t r =
    first_reported (λ k. if_there (symbol_in laid.ctx laid.bytes t k) (symbol_kind_fault t r.number k)) r.first (range_len (symbols_there laid t) r)

-- ---- the order of the ranges

abbrev pub any_range_out : ℕ → List SymbolRange → Bool
any_range_out nsyms [] = false
any_range_out nsyms (r ∷ rs) = if is_range_out nsyms r then true else any_range_out nsyms rs

-- the ranges that aren't empty follow each other, from a symbol on, to the end of the table
abbrev pub order_from : ℕ → PlacedDysymtab → ℕ → List SymbolRange → Option LayoutFault
order_from nsyms d at [] = if at == nsyms then None else Some (fault_at rule.SymbolRangeOrder part.SymbolRanges d.place 3 nsyms at)
order_from nsyms d at (r ∷ rs) =
    if r.count == 0 then order_from nsyms d at rs
    else (if r.first == at then order_from nsyms d (at + r.count) rs
    else Some (fault_at rule.SymbolRangeOrder part.SymbolRanges d.place r.number r.first at))

-- this is checked if no range ends past the table
abbrev pub range_order : ℕ → PlacedDysymtab → Option LayoutFault
range_order nsyms d = if any_range_out nsyms (ranges_of d.command) then None else order_from nsyms d 0 (ranges_of d.command)

-- ---- indirect symbols

-- the number of indirect symbols, if their table lies in the file
abbrev pub indirect_count : Laid → PlacedDysymtab → ℕ
indirect_count laid d = if ends_past (file_size laid) d.command.indirectsymoff (4 * d.command.nindirectsyms) then 0 else d.command.nindirectsyms

-- indirect symbol k
abbrev pub indirect_in : Endian → List ℕ → PlacedDysymtab → ℕ → Option ℕ
indirect_in le bytes d k = readable (number_at le 4 bytes (d.command.indirectsymoff + k * 4))

-- a section of pointers or stubs, which has indirect symbols: S_NON_LAZY_SYMBOL_POINTERS, S_LAZY_SYMBOL_POINTERS,
-- S_SYMBOL_STUBS, S_LAZY_DYLIB_SYMBOL_POINTERS, S_THREAD_LOCAL_VARIABLE_POINTERS
abbrev pub has_indirect : ℕ → Bool
has_indirect flags = let kind = bit_and flags 0xff in kind == 0x6 || (kind == 0x7 || (kind == 0x8 || (kind == 0x10 || kind == 0x14)))

-- the number of bytes in each entry: that of a stub is in reserved2
abbrev pub entry_size : Container → PlacedSection → ℕ
entry_size width s = if bit_and s.section.flags 0xff == 0x8 then s.section.reserved2 else pointer_size width

-- An indirect symbol is the number of a symbol, unless it is marked as local or absolute (INDIRECT_SYMBOL_LOCAL, INDIRECT_SYMBOL_ABS).
abbrev pub indirect_sees : Endian → List ℕ → PlacedDysymtab → (nsyms k : ℕ) → RuleOutcome
indirect_sees le bytes d nsyms k =
    sees_there (indirect_in le bytes d k) (λ n. measured (not (bit_and n 0xc000_0000 == 0) || nat_lt n nsyms) n nsyms)

abbrev pub indirect_owner : PlacedDysymtab → ℕ → Owner
indirect_owner d k = owner_at part.IndirectSymbols d.place k

-- Such a section, if it isn't empty, is a whole number of entries, and that many indirect symbols are in the table from
-- number reserved1 on.
abbrev pub indirect_section_sees : Container → PlacedDysymtab → PlacedSection → RuleOutcome
indirect_section_sees width d s =
    let size = s.section.size in
    let unit = entry_size width s in
    let count = size / unit in
    if not (has_indirect s.section.flags) || size == 0 then sound
    else (if unit == 0 || not (size % unit == 0) then measured false size unit
    else measured (not (ends_past d.command.nindirectsyms s.section.reserved1 count)) (place_after s.section.reserved1 count) d.command.nindirectsyms)

-- ---- all of them

-- if there are no symbols, a rule of commands reports it
abbrev pub symbol_range_faults : Option PlacedSymtab → Option PlacedDysymtab → List LayoutFault
symbol_range_faults table dynamic =
    all_there table (λ t. all_there dynamic (λ d.
    reported_over (rule.SymbolRange ∷ []) (λ rule r. owner_at part.SymbolRanges d.place r.number) (λ rule. range_sees t.command.nsyms) (ranges_of d.command)))

-- for each range, the first symbol that isn't of its kind
abbrev pub symbol_kind_faults : Laid → Option PlacedSymtab → Option PlacedDysymtab → List LayoutFault
symbol_kind_faults laid table dynamic = all_there table (λ t. all_there dynamic (λ d. filter_map (range_kind laid t) (ranges_of d.command)))

abbrev pub symbol_order_faults : Option PlacedSymtab → Option PlacedDysymtab → List LayoutFault
symbol_order_faults table dynamic = all_there table (λ t. all_there dynamic (λ d. option_to_list (range_order t.command.nsyms d)))

abbrev pub symbol_library_faults : Laid → Option PlacedSymtab → List LayoutFault
symbol_library_faults laid table = if has_libraries laid then symbols_reported laid table (rule.SymbolLibrary ∷ []) else []

-- those of indirect symbols, and of the sections that have some
abbrev pub indirect_faults : Laid → Option PlacedSymtab → Option PlacedDysymtab → List LayoutFault
indirect_faults laid table dynamic =
    all_there dynamic (λ d.
    reported_over (rule.IndirectSymbol ∷ []) (λ rule. indirect_owner d) (λ rule. indirect_sees laid.ctx.le laid.bytes d (symbol_count table))
    (range_with_len 0 (indirect_count laid d))
    ++ reported_over (rule.IndirectSection ∷ []) (λ rule. section_owner) (λ rule. indirect_section_sees laid.ctx.container d) (placed_sections_of laid))

-- those of a table of symbols, and of what LC_DYSYMTAB says of it
abbrev pub table_faults : Laid → Option PlacedSymtab → Option PlacedDysymtab → List LayoutFault
table_faults laid table dynamic =
    symbols_reported laid table (rule.SymbolSection ∷ rule.SymbolName ∷ []) ++ symbol_range_faults table dynamic ++ symbol_kind_faults laid table dynamic
    ++ symbol_library_faults laid table ++ indirect_faults laid table dynamic ++ symbol_order_faults table dynamic

-- the faults of symbols
abbrev pub symbol_faults : Laid → List LayoutFault
symbol_faults laid = table_faults laid (last_symtab laid) (last_dysymtab laid)
