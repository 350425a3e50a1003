-- The addresses of exports, before sliding, as dyld computes them (exportedSymbolAddress) from the base address of the image.
use Rattle.std.specs.Prelude.{◌==◌, ◌+◌, ◌%◌, ◌^◌, ℕ, Option, Some, None, if◌then◌else◌}
use Rattle.mach_dyld.specs.Trie.{Info, regular, reexport, stub}

-- the number that the trie has for an export, and of a stub that of the stub; a re-export has none
abbrev pub export_offset : Info → Option ℕ
export_offset (regular address flags) = Some address
export_offset (reexport lib name flags) = None
export_offset (stub stub_offset resolver_offset flags) = Some stub_offset.number

-- The address of an export. The number is an offset from the base, and of an absolute symbol (EXPORT_SYMBOL_FLAGS_KIND_ABSOLUTE)
-- the address itself. A re-export has none.
abbrev pub export_address : (base : ℕ) → Info → Option ℕ
export_address base (regular address flags) = Some (if flags % 4 == 2 then address else (base + address) % 2 ^ 64)
export_address base (reexport lib name flags) = None
export_address base (stub stub_offset resolver_offset flags) = Some ((base + stub_offset.number) % 2 ^ 64)

-- the address of a stub's resolver; other exports have none
abbrev pub resolver_address : (base : ℕ) → Info → Option ℕ
resolver_address base (regular address flags) = None
resolver_address base (reexport lib name flags) = None
resolver_address base (stub stub_offset resolver_offset flags) = Some ((base + resolver_offset.number) % 2 ^ 64)
