-- The message of an error, with its place and numbers.
use Rattle.std.specs.Prelude.{ℕ, List, ◌++◌, false, codes}
use Rattle.std.specs.Fmt.{decimal, digits}
use Rattle.mach_base.specs.declared.error.ScrollError.{ScrollError}
use Rattle.mach_base.specs.declared.error.ScrollError.TheVariants as scroll
use Rattle.mach_base.specs.declared.error.Error.{Error}
use Rattle.mach_base.specs.declared.error.Error.TheVariants as errors
use Rattle.mach_base.specs.declared.error.Description.{Description}

-- the error that a description describes
abbrev pub described : Description → Error
described d = d.error.now

abbrev pub words_of_scroll : ScrollError → List ℕ
words_of_scroll (scroll.BadOffset place) = codes "offset " ++ decimal place ++ codes " is past the end"
words_of_scroll (scroll.TooBig size len) = decimal size ++ (codes " bytes are needed and " ++ (decimal len ++ codes " are left"))
words_of_scroll (scroll.BadInput size msg) = msg.now ++ (codes ", " ++ (decimal size ++ codes " bytes left"))

-- one line, in lower case
abbrev pub words_of : Error → List ℕ
words_of (errors.Malformed msg) = codes "malformed: " ++ msg.now
words_of (errors.BadMagic magic) = codes "bad magic 0x" ++ digits 16 false magic
words_of (errors.Scroll e) = words_of_scroll e
words_of (errors.BufferTooShort count what) = decimal count ++ (codes " " ++ (what.now ++ codes " do not fit the file"))
words_of (errors.Memory e) = codes "out of memory"
