-- The libraries of an image, each with the way the image loads it (`mach-o/loader.h`, struct dylib_command).
use Rattle.std.specs.Prelude.{◌==◌, ℕ, ◌+◌, ◌&&◌, Bool, true, false, bit_and, List, [], ◌∷◌, map, Option, Some, None, option_map, Result, Ok, Err, nat_le}
use Rattle.std.specs.Prelude.{if◌then◌else◌}
use Rattle.std.specs.Slice.Iter.{iter_rest}
use Rattle.mach_base.specs.Answer.{◌>>=◌}
use Rattle.mach_base.specs.Fault.{Fault}
use Rattle.mach_base.specs.declared.context.Endian.{Endian}
use Rattle.mach_base.specs.Number.{number_at, place_after, says_yes}
use Rattle.mach_base.specs.Record.{Value, number_among}
use Rattle.mach_base.specs.Text.{text_at}
use Rattle.mach_load.specs.Command.{Command, cmdsize_of}
use Rattle.mach_load.specs.Commands.{Kind, load_dylib, load_upward_dylib, reexport_dylib, load_weak_dylib, lazy_load_dylib}
use Rattle.mach_load.specs.Variants.{command_of}
use Rattle.mach_records.specs.declared.libraries.Dylib.{Dylib}
use Rattle.goblin_mach.specs.Readings.{Reading, read_of}
use Rattle.goblin_mach.specs.Subjects.{name_place}
use Rattle.goblin_mach.specs.declared.libraries.Library.{Library}
use Rattle.goblin_mach.specs.declared.libraries.LibraryAttributes.{LibraryAttributes}
use Rattle.goblin_mach.specs.declared.libraries.LibraryIterator.{LibraryIterator}
use Rattle.goblin_mach.specs.declared.libraries.LibraryKind.{LibraryKind}
use Rattle.goblin_mach.specs.declared.libraries.LibraryKind.TheVariants.{Required, Weak, Reexport, Upward, Lazy}

-- the way a command loads a library, if it is one of the five that do
abbrev pub library_kind : Kind → Option LibraryKind
library_kind load_dylib = Some Required
library_kind load_weak_dylib = Some Weak
library_kind reexport_dylib = Some Reexport
library_kind load_upward_dylib = Some Upward
library_kind lazy_load_dylib = Some Lazy
library_kind _ = None

-- the struct dylib of such a command, which follows cmd and cmdsize
abbrev pub dylib_of_values : List Value → Dylib
dylib_of_values values =
    record {
      name = number_among values 2;
      timestamp = number_among values 3;
      current_version = number_among values 4;
      compatibility_version = number_among values 5;
    }

-- whether a command is a struct dylib_use_command (`mach-o/loader.h`): its name follows flags, and its timestamp is the marker
abbrev pub brings_in_by_flags : Kind → Bool
brings_in_by_flags load_dylib = true
brings_in_by_flags load_weak_dylib = true
brings_in_by_flags _ = false

abbrev pub has_use_flags : Command → Bool
has_use_flags c =
    brings_in_by_flags c.kind
    && (nat_le 28 (cmdsize_of c) && (number_among c.values 2 == 28 && number_among c.values 3 == 0x1a74_1800))

-- how a library is used, by these flags (DYLIB_USE_WEAK_LINK, DYLIB_USE_REEXPORT, DYLIB_USE_UPWARD, DYLIB_USE_DELAYED_INIT)
abbrev pub attributes_of_flags : ℕ → LibraryAttributes
attributes_of_flags n =
    record {
      is_weak = says_yes (bit_and n 1);
      is_reexport = says_yes (bit_and n 2);
      is_upward = says_yes (bit_and n 4);
      is_delayed = says_yes (bit_and n 8);
    }

-- how it is used, by the number of its command
abbrev pub attributes_of_kind : LibraryKind → LibraryAttributes
attributes_of_kind Required = record { is_weak = false; is_reexport = false; is_upward = false; is_delayed = false }
attributes_of_kind Weak = record { is_weak = true; is_reexport = false; is_upward = false; is_delayed = false }
attributes_of_kind Reexport = record { is_weak = false; is_reexport = true; is_upward = false; is_delayed = false }
attributes_of_kind Upward = record { is_weak = false; is_reexport = false; is_upward = true; is_delayed = false }
attributes_of_kind Lazy = record { is_weak = false; is_reexport = false; is_upward = false; is_delayed = false }

abbrev pub attributes_read : LibraryKind → Result ℕ Fault → LibraryAttributes
attributes_read kind (Ok n) = attributes_of_flags n
attributes_read kind (Err f) = attributes_of_kind kind

-- how it is used, by the four bytes at 24 of a command if it has them, else by its number
abbrev pub library_attributes : Endian → List ℕ → Command → LibraryKind → LibraryAttributes
library_attributes le bytes c kind =
    if has_use_flags c then attributes_read kind (number_at le 4 bytes (place_after c.offset 24)) else attributes_of_kind kind

-- a library as one command names it
pub record NamedLibrary : Type 0 where
  pub name : List ℕ
  pub kind : LibraryKind
  pub timestamp : ℕ
  pub current_version : ℕ
  pub compatibility_version : ℕ
  pub attributes : LibraryAttributes

-- a library of this name and kind, with the numbers of its struct dylib
abbrev pub named_library : LibraryKind → LibraryAttributes → Dylib → List ℕ → NamedLibrary
named_library kind attributes d name =
    record {
      name = name;
      kind = kind;
      timestamp = d.timestamp;
      current_version = d.current_version;
      compatibility_version = d.compatibility_version;
      attributes = attributes;
    }

-- the library that a command names, or the fault of a name that can't be read
abbrev pub named_by : Endian → List ℕ → Reading NamedLibrary
named_by le bytes c =
    option_map (λ kind. text_at bytes (name_place c)
    >>= λ name. Ok (named_library kind (library_attributes le bytes c kind) (dylib_of_values c.values) name)) (library_kind c.kind)

-- a library of an image, with its ordinal
pub record LibraryView : Type 0 where
  pub ordinal : ℕ
  pub name : List ℕ
  pub kind : LibraryKind
  pub timestamp : ℕ
  pub current_version : ℕ
  pub compatibility_version : ℕ
  pub attributes : LibraryAttributes

abbrev pub of_ordinal : ℕ → NamedLibrary → LibraryView
of_ordinal n l =
    record {
      ordinal = n;
      name = l.name;
      kind = l.kind;
      timestamp = l.timestamp;
      current_version = l.current_version;
      compatibility_version = l.compatibility_version;
      attributes = l.attributes;
    }

-- libraries with their ordinals, from a number on
abbrev pub by_ordinal : ℕ → List NamedLibrary → List LibraryView
by_ordinal n [] = []
by_ordinal n (l ∷ ls) = of_ordinal n l ∷ by_ordinal (n + 1) ls

-- the libraries of an image: those of its library commands whose name can be read, in order, with ordinals from 1
abbrev pub libraries_in : Endian → List ℕ → List Command → List LibraryView
libraries_in le bytes cs = by_ordinal 1 (read_of (named_by le bytes) cs)

-- a library that was returned, as definitions have it
abbrev pub library_view : Library → LibraryView
library_view l =
    record {
      ordinal = l.ordinal;
      name = l.name.now;
      kind = l.kind;
      timestamp = l.timestamp;
      current_version = l.current_version;
      compatibility_version = l.compatibility_version;
      attributes = l.attributes;
    }

-- the same ordinals, as 64 bits count them: they stay at the last number of 64 bits
abbrev pub counted_from : ℕ → List NamedLibrary → List LibraryView
counted_from n [] = []
counted_from n (l ∷ ls) = of_ordinal n l ∷ counted_from (place_after n 1) ls

-- the libraries that are left
abbrev pub libraries_left : LibraryIterator → List LibraryView
libraries_left it = counted_from it.ordinal (read_of (named_by it.le it.source.bytes.now) (map command_of (iter_rest it.commands)))
