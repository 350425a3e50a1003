-- The libraries of an image, counted with 64 bits, and the same as `libs` has them.
use Rattle.std.proofs.Common.{◌≡◌, ℕ, suc, zero, ◌+◌, ◌<◌, ◌≤◌, ◌^◌, List, [], ◌∷◌, length, map, Bool, Option, Some, None, Result, Ok, Err, refl, sym, ap}
use Rattle.std.proofs.Common.{◌∙◌, arith, add-one}
use Rattle.std.proofs.Math.Nat.{min-eq_left}
use Rattle.std.specs.Prelude.{if◌then◌else◌, slice_get, codes, unwrap_or, option_map}
use Rattle.mach_base.specs.Fault.{Fault}
use Rattle.mach_base.specs.Number.{place_after}
use Rattle.mach_load.specs.Command.{Command}
use Rattle.mach_load.specs.Commands as kind
use Rattle.mach_records.specs.declared.libraries.Dylib.{Dylib}
use Rattle.goblin_mach.specs.declared.libraries.LibraryKind.{LibraryKind}
use Rattle.goblin_mach.specs.declared.macho.MachO.{MachO}
use Rattle.goblin_mach.proofs.ImageFacts.{both_modes}
use Rattle.goblin_mach.specs.Modes.{InBothModes}
use Rattle.goblin_mach.specs.OpenImage.{commands_view, bytes_view, ctx_view}
use Rattle.mach_base.specs.Text.{texts}
use Rattle.std.specs.Option.{is_some}
use Rattle.std.proofs.lemmas.Option.{slice_get-map}
use Rattle.mach_base.specs.Answer.{◌>>=◌}
use Rattle.mach_base.specs.Text.{text_at}
use Rattle.mach_load.specs.Subjects.{is_library}
use Rattle.goblin_mach.specs.Subjects.{name_place, library_by, libs_in, own_name_in}
use Rattle.goblin_mach.specs.Libraries.{NamedLibrary, LibraryView, of_ordinal, by_ordinal, counted_from, libraries_in, named_by, named_library, library_kind}
use Rattle.goblin_mach.specs.Libraries.{dylib_of_values, library_attributes}
use Rattle.mach_base.specs.declared.context.Endian.{Endian}
use Rattle.goblin_mach.specs.declared.libraries.LibraryAttributes.{LibraryAttributes}
use Rattle.goblin_mach.specs.Readings.{Reading, read_of, keep}

few_kept : {V : Type 0} (found : Option (Result V Fault)) (vs : List V) → length (keep found vs) ≤ length vs + 1
few_kept None vs = omega arith
few_kept (Some (Ok v)) vs = omega arith
few_kept (Some (Err f)) vs = omega arith

-- at most as many are read as there are commands
pub few-read : {V : Type 0} (reading : Reading V) (cs : List Command) → length (read_of reading cs) ≤ length cs
few-read reading [] = omega arith
few-read reading (c ∷ cs) = omega (arith, few_kept (reading c) (read_of reading cs), few-read reading cs)

-- the ordinal after one that isn't the last number of 64 bits
after_one : (n : ℕ) → n + 2 ≤ 2 ^ 64 → place_after n 1 ≡ n + 1
after_one n le = min-eq_left (omega (arith, le))

-- if 64 bits can count them, the ordinals continue
pub counted : (n : ℕ) (ls : List NamedLibrary) → n + length ls ≤ 2 ^ 64 → counted_from n ls ≡ by_ordinal n ls
counted n [] le = refl
counted n (l ∷ []) le = refl
counted n (l ∷ m ∷ ls) le =
    ap (λ (vs : List LibraryView). of_ordinal n l ∷ vs)
    (ap (λ (k : ℕ). counted_from k (m ∷ ls)) (after_one n (omega (arith, le))) ∙ counted (n + 1) (m ∷ ls) (omega (arith, le)))

-- and commands name at most as many libraries as there are commands
pub counted_commands : (le : Endian) (bytes : List ℕ) (cs : List Command) → length cs < 2 ^ 64
    → counted_from 1 (read_of (named_by le bytes) cs) ≡ libraries_in le bytes cs
counted_commands le bytes cs lt = counted 1 (read_of (named_by le bytes) cs) (omega (arith, lt, few-read (named_by le bytes) cs))

-- the commands that load a library are those that do so in one of the ways
five : (k : kind.Kind) → is_library k ≡ is_some (library_kind k)
five kind.segment32 = refl
five kind.symtab = refl
five kind.symseg = refl
five kind.thread = refl
five kind.unixthread = refl
five kind.load_fvmlib = refl
five kind.id_fvmlib = refl
five kind.ident = refl
five kind.fvmfile = refl
five kind.prepage = refl
five kind.dysymtab = refl
five kind.load_dylib = refl
five kind.id_dylib = refl
five kind.load_dylinker = refl
five kind.id_dylinker = refl
five kind.prebound_dylib = refl
five kind.routines32 = refl
five kind.sub_framework = refl
five kind.sub_umbrella = refl
five kind.sub_client = refl
five kind.sub_library = refl
five kind.twolevel_hints = refl
five kind.prebind_cksum = refl
five kind.segment64 = refl
five kind.routines64 = refl
five kind.uuid = refl
five kind.code_signature = refl
five kind.segment_split_info = refl
five kind.lazy_load_dylib = refl
five kind.encryption_info32 = refl
five kind.dyld_info = refl
five kind.version_min_macosx = refl
five kind.version_min_iphoneos = refl
five kind.function_starts = refl
five kind.dyld_environment = refl
five kind.data_in_code = refl
five kind.source_version = refl
five kind.dylib_code_sign_drs = refl
five kind.encryption_info64 = refl
five kind.linker_option = refl
five kind.linker_optimization_hint = refl
five kind.version_min_tvos = refl
five kind.version_min_watchos = refl
five kind.note = refl
five kind.build_version = refl
five kind.load_weak_dylib = refl
five kind.rpath = refl
five kind.reexport_dylib = refl
five kind.dyld_info_only = refl
five kind.load_upward_dylib = refl
five kind.main = refl
five kind.dyld_exports_trie = refl
five kind.dyld_chained_fixups = refl
five kind.fileset_entry = refl
five kind.unimplemented = refl

abbrev names : List NamedLibrary → List (List ℕ)
names ls = map (λ (l : NamedLibrary). l.name) ls

one_name : (d : Dylib) (a : LibraryKind → LibraryAttributes) (o : Option LibraryKind) (r : Result (List ℕ) Fault)
    → (ls : List NamedLibrary) (ns : List (List ℕ)) → names ls ≡ ns
    → names (keep (option_map (λ kind. r >>= λ name. Ok (named_library kind (a kind) d name)) o) ls) ≡ keep (if is_some o then Some r else None) ns
one_name d a None r ls ns same = same
one_name d a (Some kind) (Ok name) ls ns same = ap (λ (xs : List (List ℕ)). name ∷ xs) same
one_name d a (Some kind) (Err f) ls ns same = same

-- they have the names that `libs` has
same_names : (le : Endian) (bytes : List ℕ) (cs : List Command) → names (read_of (named_by le bytes) cs) ≡ read_of (library_by bytes) cs
same_names le bytes [] = refl
same_names le bytes (c ∷ cs) =
    let name = text_at bytes (name_place c) in
    let rest = read_of (library_by bytes) cs in
    let named = read_of (named_by le bytes) cs in
    one_name (dylib_of_values c.values) (library_attributes le bytes c) (library_kind c.kind) name named rest (same_names le bytes cs)
    ∙ ap (λ (b : Bool). keep (if b then Some name else None) rest) (sym (five c.kind))

numbered_names : (n : ℕ) (ls : List NamedLibrary) → map (λ (l : LibraryView). l.name) (by_ordinal n ls) ≡ names ls
numbered_names n [] = refl
numbered_names n (l ∷ ls) = ap (λ (xs : List (List ℕ)). l.name ∷ xs) (numbered_names (n + 1) ls)

pub libs_by_name : (le : Endian) (bytes : List ℕ) (cs : List Command)
    → libs_in bytes cs ≡ unwrap_or (own_name_in bytes cs) (codes "self") ∷ map (λ (l : LibraryView). l.name) (libraries_in le bytes cs)
libs_by_name le bytes cs =
    ap (λ (xs : List (List ℕ)). unwrap_or (own_name_in bytes cs) (codes "self") ∷ xs)
    (sym (numbered_names 1 (read_of (named_by le bytes) cs) ∙ same_names le bytes cs))

-- and their ordinals are their places, counted from 1
numbered : (n : ℕ) (ls : List NamedLibrary) (k : ℕ) (l : LibraryView) → slice_get (by_ordinal n ls) k ≡ Some l → l.ordinal ≡ n + k
numbered n [] k l e = absurd (cc)
numbered n (x ∷ xs) zero l e = let same : of_ordinal n x ≡ l = cc in sym (ap (λ (v : LibraryView). v.ordinal) same) ∙ omega arith
numbered n (x ∷ xs) (suc k) l e = numbered (n + 1) xs k l e ∙ omega arith

pub ordinal_at : (le : Endian) (bytes : List ℕ) (cs : List Command) (k : ℕ) (l : LibraryView)
    → slice_get (libraries_in le bytes cs) k ≡ Some l → l.ordinal ≡ k + 1
ordinal_at le bytes cs k l e = numbered 1 (read_of (named_by le bytes) cs) k l e ∙ omega arith

-- so a library's name is in `libs` at its ordinal
pub in_libs : (le : Endian) (bytes : List ℕ) (cs : List Command) (k : ℕ) (l : LibraryView) → slice_get (libraries_in le bytes cs) k ≡ Some l
    → slice_get (libs_in bytes cs) l.ordinal ≡ Some l.name
in_libs le bytes cs k l e =
    ap (λ (xs : List (List ℕ)). slice_get xs l.ordinal) (libs_by_name le bytes cs)
    ∙ ap (λ (i : ℕ). slice_get (unwrap_or (own_name_in bytes cs) (codes "self") ∷ map (λ (v : LibraryView). v.name) (libraries_in le bytes cs)) i)
    (ordinal_at le bytes cs k l e ∙ add-one k)
    ∙ slice_get-map (λ (v : LibraryView). v.name) (libraries_in le bytes cs) k
    ∙ ap (option_map (λ (v : LibraryView). v.name)) e

pub in_held_libs : {A : Type 0} (m : MachO A) → InBothModes m (λ bytes o. (k : ℕ) (l : LibraryView)
    → slice_get (libraries_in (ctx_view m).le (bytes_view m) (commands_view m)) k ≡ Some l → slice_get (texts m.libs.items) l.ordinal ≡ Some l.name)
in_held_libs m = both_modes m _ (λ bytes o p k l e.
    ap (λ (xs : List (List ℕ)). slice_get xs l.ordinal)
    (p.fields.libs ∙ ap (λ (bs : List ℕ). libs_in bs (commands_view m)) (sym p.fields.bytes_is))
    ∙ in_libs (ctx_view m).le (bytes_view m) (commands_view m) k l e)
