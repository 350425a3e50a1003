-- Why the entries of a file are refused; of an entry that is out of the file also where both end.
use Rattle.std.specs.Prelude.{◌==◌, ℕ, List, Option, Some, None, Result, Ok, Err, if◌then◌else◌}
use Rattle.mach_base.specs.Fault.{Fault}
use Rattle.mach_base.specs.Number.{number_at}
use Rattle.mach_base.specs.declared.context.Endian.TheVariants.{Big}
use Rattle.mach_parts.specs.ArchForms.{arch_form_32, arch_form_64}
use Rattle.mach_fat_writer.specs.Unfit.{entry_refusal_words}
use Rattle.mach_fat_writer.specs.declared.refusal.EntryRefusal.{EntryRefusal}
use Rattle.mach_fat_writer.specs.declared.refusal.EntryRefusal.TheVariants as refusals
use Rattle.mach_cli.specs.TableEntries.{outside_at, outside_words}
use Rattle.mach_cli.specs.declared.entries.OutOfFile.{OutOfFile}
use Rattle.machfat.specs.declared.outside.RefusedEntries.{RefusedEntries}

-- where entry i of a fat file of either form and the file end, if it is out of the file
abbrev pub outside_by_magic : Result ℕ Fault → List ℕ → ℕ → Option OutOfFile
outside_by_magic (Ok magic) bytes i =
    if magic == 0xcafe_babe then outside_at arch_form_32 bytes (Some i)
    else (if magic == 0xcafe_babf then outside_at arch_form_64 bytes (Some i)
    else None)
outside_by_magic (Err f) bytes i = None

abbrev pub outside_entry : List ℕ → ℕ → Option OutOfFile
outside_entry bytes i = outside_by_magic (number_at Big 4 bytes 0) bytes i

-- the same of an entry that is refused as out of the file
abbrev pub outside_in : List ℕ → EntryRefusal → Option OutOfFile
outside_in bytes (refusals.OutOfFile i) = outside_entry bytes i
outside_in bytes _ = None

abbrev pub refused_entries : List ℕ → EntryRefusal → RefusedEntries
refused_entries bytes why = record { why = why; outside = outside_in bytes why }

-- the words, by where both end
abbrev pub entries_words_by : Option OutOfFile → EntryRefusal → List ℕ
entries_words_by (Some outside) why = outside_words outside
entries_words_by None why = entry_refusal_words why

abbrev pub refused_entries_words : RefusedEntries → List ℕ
refused_entries_words refused = entries_words_by refused.outside refused.why
