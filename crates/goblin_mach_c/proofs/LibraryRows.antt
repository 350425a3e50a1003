-- The row of a library, by what was read from its command.
use Rattle.std.proofs.Common.{◌≡◌, ℕ, List, Option, Some, None, Result, Ok, length, option_map, refl, ap, sym, ◌∙◌}
use Rattle.mach_base.specs.Answer.{◌>>=◌}
use Rattle.mach_base.specs.Fault.{Fault}
use Rattle.mach_base.specs.Number.{place_after}
use Rattle.mach_base.specs.Text.{text_at}
use Rattle.mach_base.specs.declared.context.Endian.{Endian}
use Rattle.mach_load.specs.Command.{Command}
use Rattle.goblin_mach.specs.Libraries.{dylib_of_values, library_attributes, library_kind, named_library}
use Rattle.goblin_mach.specs.Subjects.{name_place}
use Rattle.goblin_mach.specs.declared.libraries.LibraryAttributes.{LibraryAttributes}
use Rattle.goblin_mach.specs.declared.libraries.LibraryKind.{LibraryKind}
use Rattle.mach_records.specs.declared.libraries.Dylib.{Dylib}
use Rattle.goblin_mach_c.specs.PartRows.{attributes_number, library_kind_number, library_row, library_row_by, shown}
use Rattle.goblin_mach_c.specs.declared.libraries.gm_library.{gm_library}

-- a row of these numbers
abbrev pub row : (d : Dylib) (place len number used : ℕ) → gm_library
row d place len number used =
    record {
      name = place;
      name_len = len;
      kind = number;
      timestamp = d.timestamp;
      current_version = d.current_version;
      compatibility_version = d.compatibility_version;
      attributes = used;
      reserved = 0;
    }

-- the same row, with the name where it is and the numbers of the kind
same_row : (c : Command) (d : Dylib) (a : LibraryKind → LibraryAttributes) (k : LibraryKind) (r : Result (List ℕ) Fault) (name : List ℕ)
    (place number used : ℕ) → place ≡ name_place c → r ≡ Ok name → number ≡ library_kind_number k → used ≡ attributes_number (a k)
    → Some (row d place (length name) number used) ≡ shown (library_row c) (option_map (λ kind. r >>= λ text. Ok (named_library kind (a kind) d text)) (Some k))
same_row c d a k r name place number used there read is uses = rw (there, read, is, uses) refl

one_row : (c : Command) (d : Dylib) (a : LibraryKind → LibraryAttributes) (o : Option LibraryKind) (bytes name : List ℕ) (kind : LibraryKind) (found : Dylib)
    (place number used : ℕ) → ◌≡◌ {A = Option (LibraryKind × Dylib)} (Some (kind, found)) (option_map (λ k. (k, d)) o)
    → place_after c.offset d.name ≡ name_place c
    → place ≡ place_after c.offset found.name → text_at bytes place ≡ Ok name → number ≡ library_kind_number kind → used ≡ attributes_number (a kind)
    → Some (row found place (length name) number used)
    ≡ shown (library_row c) (option_map (λ k. text_at bytes (name_place c) >>= λ text. Ok (named_library k (a k) d text)) o)
one_row c d a None bytes name kind found place number used same occurs at read is uses = absurd (cc)
one_row c d a (Some k) bytes name kind found place number used same occurs at read is uses =
    let pairs : ◌≡◌ {A = LibraryKind × Dylib} (kind, found) (k, d) = cc in
    let kinds : kind ≡ k = ap (λ (p : LibraryKind × Dylib). p.0) pairs in
    let dylibs : found ≡ d = ap (λ (p : LibraryKind × Dylib). p.1) pairs in
    let there : place ≡ name_place c = at ∙ ap (λ (x : Dylib). place_after c.offset x.name) dylibs ∙ occurs in
    ap (λ (x : Dylib). Some (row x place (length name) number used)) dylibs
    ∙ same_row c d a k (text_at bytes (name_place c)) name place number used there (ap (text_at bytes) (sym there) ∙ read)
    (is ∙ ap library_kind_number kinds) (uses ∙ ap (λ (x : LibraryKind). attributes_number (a x)) kinds)

-- for a command that loads a library of this kind, with a name that is text, it is the row
pub row_there : (le : Endian) (bytes : List ℕ) (c : Command) (kind : LibraryKind) (found : Dylib) (name : List ℕ) (place number used : ℕ)
    → ◌≡◌ {A = Option (LibraryKind × Dylib)} (Some (kind, found)) (option_map (λ k. (k, dylib_of_values c.values)) (library_kind c.kind))
    → place ≡ place_after c.offset found.name
    → text_at bytes place ≡ Ok name → number ≡ library_kind_number kind → used ≡ attributes_number (library_attributes le bytes c kind)
    → Some (row found place (length name) number used) ≡ library_row_by le bytes c
row_there le bytes c kind found name place number used same at read is uses =
    one_row c (dylib_of_values c.values) (library_attributes le bytes c) (library_kind c.kind) bytes name kind found place number used same refl at read is uses
