-- What is shown of an export.
use Rattle.std.specs.Prelude.{ℕ, List, [], ◌∷◌, ◌++◌, codes, Option, Some, None, unwrap_or}
use Rattle.mach_dyld.specs.ExportAddresses.{export_address, resolver_address}
use Rattle.mach_dyld.specs.Exports.{info_of}
use Rattle.mach_dyld.specs.Nodes.{has_bit}
use Rattle.mach_dyld.specs.SymbolKind.{symbol_kind}
use Rattle.mach_dyld.specs.Trie.{Info, regular, reexport, stub}
use Rattle.mach_dyld.specs.declared.export_info.SymbolKind.{SymbolKind}
use Rattle.mach_dyld.specs.declared.export_info.SymbolKind.TheVariants.{Regular, Absolute, ThreadLocal, UnknownSymbolKind}
use Rattle.mach_cli.specs.Fields.{FieldView, alone_field, field_of, flag, hex, line_field, object_field, optional_text, text, wide_field}
use Rattle.mach_cli.specs.Origins.{library_short_name}
use Rattle.machinfo.specs.declared.exports.Exported.{Exported}

-- the kind of symbol in words (`mach-o/loader.h`, EXPORT_SYMBOL_FLAGS_KIND)
abbrev pub symbol_kind_word : SymbolKind → List ℕ
symbol_kind_word Regular = codes "regular"
symbol_kind_word ThreadLocal = codes "thread-local"
symbol_kind_word Absolute = codes "absolute"
symbol_kind_word (UnknownSymbolKind flags) = codes "unknown"

-- the kind of symbol, whether another definition may replace it (EXPORT_SYMBOL_FLAGS_WEAK_DEFINITION), and the name
abbrev pub symbol_fields : (name : List ℕ) → (flags : ℕ) → List FieldView
symbol_fields name flags =
    field_of (codes "name") (text name) 4
    ∷ object_field (codes "flags") (hex flags)
    ∷ wide_field 12 (field_of (codes "symbol_kind") (text (symbol_kind_word (symbol_kind flags))) 2)
    ∷ field_of (codes "is_weak") (flag (has_bit 4 flags) (codes "weak") (codes "-   ")) 3
    ∷ []

-- an address, and the number that the trie has for it
abbrev pub address_fields : (address offset : ℕ) → List FieldView
address_fields address offset =
    object_field (codes "kind") (text (codes "address"))
    ∷ wide_field 11 (field_of (codes "address") (hex address) 1)
    ∷ object_field (codes "offset") (hex offset)
    ∷ []

-- a library by its short name, or by its path if it has none
abbrev pub short_or_path : (path : List ℕ) → Option (List ℕ) → List ℕ
short_or_path path None = path
short_or_path path (Some short) = short

-- the name that the library has for it, if that is another one
abbrev pub target_field : Option (List ℕ) → FieldView
target_field None = object_field (codes "target") (optional_text None)
target_field (Some name) = field_of (codes "target") (text name) 7

-- a symbol of a library
abbrev pub reexport_fields : (library : List ℕ) → (target : Option (List ℕ)) → List FieldView
reexport_fields library target =
    field_of (codes "kind") (text (codes "re-export")) 5
    ∷ wide_field 11 (line_field (text (codes "-")) 1)
    ∷ object_field (codes "library") (text library)
    ∷ alone_field (codes "from") (optional_text (library_short_name library))
    ∷ line_field (text (short_or_path library (library_short_name library))) 6
    ∷ target_field target
    ∷ []

-- a stub, and the function that returns the address to use
abbrev pub stub_export_fields : (address offset resolver : ℕ) → List FieldView
stub_export_fields address offset resolver =
    field_of (codes "kind") (text (codes "stub")) 5
    ∷ wide_field 11 (field_of (codes "address") (hex address) 1)
    ∷ object_field (codes "offset") (hex offset)
    ∷ line_field (text (codes "resolver")) 6
    ∷ field_of (codes "resolver") (hex resolver) 7
    ∷ []

-- what an export is, by its address and that of its resolver
abbrev pub meaning_fields : (address resolver : Option ℕ) → Info → List FieldView
meaning_fields address resolver (regular offset flags) = address_fields (unwrap_or address 0) offset
meaning_fields address resolver (reexport library target flags) = reexport_fields library target
meaning_fields address resolver (stub offset resolver_offset flags) = stub_export_fields (unwrap_or address 0) offset.number (unwrap_or resolver 0)

abbrev pub exported_flags : Info → ℕ
exported_flags (regular address flags) = flags
exported_flags (reexport library target flags) = flags
exported_flags (stub address resolver flags) = flags

-- an export of an image whose first byte has this address
abbrev pub export_fields : (base : ℕ) → (name : List ℕ) → Info → List FieldView
export_fields base name info =
    symbol_fields name (exported_flags info) ++ meaning_fields (export_address base info) (resolver_address base info) info

-- ---- what the code's values mean

abbrev pub exported_fields : Exported → List FieldView
exported_fields x = export_fields x.base x.name.now (info_of x.info.now)
