-- What contracts see of an archive, a member, and their iterators.
use Rattle.std.specs.Prelude.{◌-◌, List, length, Option, option_map, Result}
use Rattle.mach_base.specs.declared.error.Error.{Error}
use Rattle.mach_base.specs.Fault.{Fault}
use Rattle.mach_base.specs.Items.{read_as}
use Rattle.mach_archive.specs.declared.archive.Archive.{Archive}
use Rattle.mach_archive.specs.declared.header.Header.{Header}
use Rattle.mach_archive.specs.declared.member.Member.{Member}
use Rattle.mach_archive.specs.declared.members.Members.{Members}
use Rattle.mach_archive.specs.declared.placed.Placed.{Placed}
use Rattle.mach_archive.specs.declared.symbols.ArchiveSymbol.{ArchiveSymbol}
use Rattle.mach_archive.specs.declared.symbols.ArchiveSymbols.{ArchiveSymbols}
use Rattle.mach_archive.specs.Archives.{ArchiveView}
use Rattle.mach_archive.specs.IndexSymbols.{IndexSymbol, table_symbols}
use Rattle.mach_archive.specs.IndexTables.{IndexTable}
use Rattle.mach_archive.specs.MemberHeaders.{MemberHeader}
use Rattle.mach_archive.specs.PlacedViews.{placed_view}
use Rattle.mach_archive.specs.TableViews.{index_table_view, index_view}
use Rattle.mach_archive.specs.Members.{LongNames, MemberView, members_from}

abbrev pub header_view : Header → MemberHeader
header_view h = record { place = h.place; fields = h.fields.now; size = h.size; long = h.long }

abbrev pub names_view : Option Placed → LongNames
names_view names = option_map placed_view names

abbrev pub member_view : Member → MemberView
member_view m =
    record {
      offset = m.offset;
      start = m.start;
      bytes = m.bytes.now;
      fields = m.fields.now;
      long = option_map placed_view m.long;
      names = names_view m.names;
    }

abbrev pub archive_of : Archive → ArchiveView
archive_of a = record { bytes = a.bytes.now; index = option_map index_view a.index; names = names_view a.names; begin = a.begin }

-- a member, as it was read
abbrev pub member_read : Result Member Error → Result MemberView Fault
member_read answer = read_as member_view answer

-- the remaining members of an iterator
abbrev pub members_left : Members → List (Result MemberView Fault)
members_left it = members_from it.bytes.now (names_view it.names) (length it.bytes.now - it.place) it.place

abbrev pub archive_symbol_view : ArchiveSymbol → IndexSymbol
archive_symbol_view s = record { name = s.name.now; place = s.name_at; member = s.member }

abbrev pub archive_symbol_read : Result ArchiveSymbol Error → Result IndexSymbol Fault
archive_symbol_read answer = read_as archive_symbol_view answer

-- the remaining table of an iterator
abbrev pub table_left : ArchiveSymbols → IndexTable
table_left it = index_table_view it.table

-- the remaining symbols of an iterator
abbrev pub archive_symbols_left : ArchiveSymbols → List (Result IndexSymbol Fault)
archive_symbols_left it = table_symbols (table_left it)
