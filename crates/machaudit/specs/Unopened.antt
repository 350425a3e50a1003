-- Why an image doesn't open.
use Rattle.std.specs.Prelude.{List, ℕ, Option, Some, None}
use Rattle.mach_base.specs.Words.{words_of}
use Rattle.mach_base.specs.declared.error.Error.{Error}
use Rattle.mach_cli.specs.TableEntries.{outside_words}
use Rattle.mach_cli.specs.declared.entries.OutOfFile.{OutOfFile}

-- it is an entry that is out of the file, or it has this error
abbrev pub image_reason : Option OutOfFile → Error → List ℕ
image_reason (Some outside) e = outside_words outside
image_reason None e = words_of e
