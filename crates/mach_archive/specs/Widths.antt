-- The sizes of an index's numbers and records, in bytes.
use Rattle.std.specs.Prelude.{ℕ, ◌*◌}
use Rattle.mach_archive.specs.declared.archive.ArchiveKind.{ArchiveKind}
use Rattle.mach_archive.specs.declared.archive.ArchiveKind.TheVariants.{Gnu, Bsd}
use Rattle.mach_archive.specs.declared.table.Width.{Width}
use Rattle.mach_archive.specs.declared.table.Width.TheVariants.{Four, Eight}

abbrev pub number_width : Width → ℕ
number_width Four = 4
number_width Eight = 8

-- a record is a number in GNU's form, and two in BSD's
abbrev pub record_width : ArchiveKind → Width → ℕ
record_width Gnu w = number_width w
record_width Bsd w = 2 * number_width w
