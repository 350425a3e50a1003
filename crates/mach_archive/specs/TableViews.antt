-- What contracts see of an index and its table.
use Rattle.mach_archive.specs.declared.table.Index.{Index}
use Rattle.mach_archive.specs.declared.table.Table.{Table}
use Rattle.mach_archive.specs.Archives.{ArchiveIndexView}
use Rattle.mach_archive.specs.IndexTables.{IndexTable}
use Rattle.mach_archive.specs.PlacedViews.{placed_view}
use Rattle.mach_archive.specs.Widths.{number_width}

abbrev pub index_view : Index → ArchiveIndexView
index_view i = record { width = number_width i.width; table = placed_view i.table }

abbrev pub index_table_view : Table → IndexTable
index_table_view t =
    record {
      kind = t.kind;
      le = t.le;
      width = number_width t.width;
      count = t.count;
      records = t.records.now;
      names = placed_view t.names;
    }
