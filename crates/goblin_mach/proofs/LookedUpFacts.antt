-- Facts on what is looked up in an opened image.
use Rattle.std.proofs.Common.{◌≡◌, ℕ, List, Result}
use Rattle.mach_base.specs.Fault.{Fault}
use Rattle.mach_parts.specs.SectionRecord.{section_holding}
use Rattle.goblin_mach.specs.FileOffsets.{address_at_offset, offset_at_address}
use Rattle.goblin_mach.specs.Fixups.{base_of, base_view}
use Rattle.goblin_mach.specs.ImageSlots.{symbol_table_view}
use Rattle.goblin_mach.specs.LookedUpFacts.{HasSegmentNamed, HasSectionNamed, HasSymbolNamed, HasSymbolsNamed, HasSymbolAt, HasFunctionAt}
use Rattle.goblin_mach.specs.LookedUpFacts.{HasAddressOf, HasOffsetOf}
use Rattle.goblin_mach.specs.Modes.{Agrees, HoldsAs}
use Rattle.goblin_mach.specs.NamedParts.{section_of_name, segment_of_name, symbol_of_name, symbols_of_name, symbols_within}
use Rattle.goblin_mach.specs.NearestSymbol.{IsFunctionAt, IsSymbolAt}
use Rattle.goblin_mach.specs.OpenImage.{bytes_view, commands_view, segments_view}
use Rattle.goblin_mach.specs.Tables.{AreStartsAt, starts_place_in}
use Rattle.goblin_mach.specs.declared.macho.MachO.{MachO}
use Rattle.goblin_mach.proofs.ImageFacts.{said_of}

module _ {A : Type 0} (m : MachO A) where
  pub segment_named_is : (name : List ℕ) → HoldsAs m (λ bytes o. HasSegmentNamed bytes o name) (segment_of_name name (segments_view m))
  segment_named_is name = said_of m (λ found f. found ≡ segment_of_name name f.segments)

  pub section_named_is : (segment section : List ℕ) → HoldsAs m (λ bytes o. HasSectionNamed bytes o segment section)
      (section_of_name segment section (segments_view m))
  section_named_is segment section = said_of m (λ found f. found ≡ section_of_name segment section f.segments)

  pub symbol_named_is : (name : List ℕ) → HoldsAs m (λ bytes o. HasSymbolNamed bytes o name) (symbol_of_name name (symbols_within (symbol_table_view m)))
  symbol_named_is name = said_of m (λ found f. found ≡ symbol_of_name name (symbols_within f.symbols))

  pub symbols_named_are : (name : List ℕ) → HoldsAs m (λ bytes o. HasSymbolsNamed bytes o name)
      (symbols_of_name name 0 (symbols_within (symbol_table_view m)))
  symbols_named_are name = said_of m (λ found f. found ≡ symbols_of_name name 0 (symbols_within f.symbols))

  pub symbol_at_is : (a : ℕ) → Agrees m (λ bytes o. HasSymbolAt bytes o a)
      (IsSymbolAt (segments_view m) (symbols_within (symbol_table_view m)) (section_holding (segments_view m) a) a)
  symbol_at_is a = said_of m (λ found f. IsSymbolAt f.segments (symbols_within f.symbols) (section_holding f.segments a) a found)

  pub function_at_is : (a : ℕ) → Agrees m (λ bytes o. HasFunctionAt bytes o a)
      (λ found. (items : List (Result ℕ Fault)) → AreStartsAt (bytes_view m) (starts_place_in (commands_view m)) (base_view m) items
      → IsFunctionAt items (section_holding (segments_view m) a) a found)
  function_at_is a = said_of m (λ found f. (items : List (Result ℕ Fault)) → AreStartsAt f.bytes (starts_place_in f.commands) (base_of f.segments) items
      → IsFunctionAt items (section_holding f.segments a) a found)

  pub address_is : (offset : ℕ) → HoldsAs m (λ bytes o. HasAddressOf bytes o offset) (address_at_offset (segments_view m) offset)
  address_is offset = said_of m (λ found f. found ≡ address_at_offset f.segments offset)

  pub offset_is : (address : ℕ) → HoldsAs m (λ bytes o. HasOffsetOf bytes o address) (offset_at_address (segments_view m) address)
  offset_is address = said_of m (λ found f. found ≡ offset_at_address f.segments address)
