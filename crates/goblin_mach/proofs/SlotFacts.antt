-- Facts on the slots, the providers and the sections of an opened image.
use Rattle.std.proofs.Common.{◌≡◌, ℕ}
use Rattle.mach_base.specs.Text.{texts}
use Rattle.mach_parts.specs.SectionRecord.{section_holding, section_by_number, bytes_of_section}
use Rattle.mach_records.specs.declared.segments.Section64.{Section64}
use Rattle.mach_parts.specs.declared.symbols.nlist.Nlist.{Nlist}
use Rattle.goblin_mach.specs.ImageSlots.{indirect_symbols_in, indirect_table_in, indirect_table_view, symbol_table_view, image_slots, image_slot_at}
use Rattle.goblin_mach.specs.ImageSlots.{symbol_provider_of}
use Rattle.goblin_mach.specs.Fixups.{chained_in, chained_view}
use Rattle.goblin_mach.specs.Initializers.{AreImageInitializers}
use Rattle.goblin_mach.specs.Modes.{Agrees, HoldsAs}
use Rattle.goblin_mach.specs.OpenImage.{bytes_view, ctx_view, segments_view}
use Rattle.goblin_mach.specs.SlotFacts.{HasIndirectSymbols, HasSymbolSlots, HasSymbolSlotAt, HasProviderOf, HasSectionAt, HasSectionOf}
use Rattle.goblin_mach.specs.SlotFacts.{HasSectionData, HasStringsOf, HasInitializers}
use Rattle.goblin_mach.specs.Strings.{strings_of_section}
use Rattle.goblin_mach.specs.declared.macho.MachO.{MachO}
use Rattle.goblin_mach.proofs.ImageFacts.{said_of}

module _ {A : Type 0} (m : MachO A) where
  pub indirect_symbols_are : HoldsAs m HasIndirectSymbols (indirect_symbols_in (indirect_table_view m))
  indirect_symbols_are = said_of m (λ items f. items ≡ indirect_symbols_in (indirect_table_in f.ctx f.bytes f.commands))

  pub slots_are : HoldsAs m HasSymbolSlots (image_slots (ctx_view m) (indirect_table_view m) (symbol_table_view m) (segments_view m))
  slots_are = said_of m (λ items f. items ≡ image_slots f.ctx (indirect_table_in f.ctx f.bytes f.commands) f.symbols f.segments)

  pub slot_at_is : (a : ℕ) → HoldsAs m (λ bytes o. HasSymbolSlotAt bytes o a)
      (image_slot_at (ctx_view m) (indirect_table_view m) (symbol_table_view m) (segments_view m) a)
  slot_at_is a = said_of m (λ found f. found ≡ image_slot_at f.ctx (indirect_table_in f.ctx f.bytes f.commands) f.symbols f.segments a)

  pub provider_is : (s : Nlist) → HoldsAs m (λ bytes o. HasProviderOf bytes o s) (symbol_provider_of m.header.flags (texts m.libs.items) s)
  provider_is s = said_of m (λ found f. found ≡ symbol_provider_of f.header.flags f.libs s)

  pub section_at_is : (a : ℕ) → HoldsAs m (λ bytes o. HasSectionAt bytes o a) (section_holding (segments_view m) a)
  section_at_is a = said_of m (λ found f. found ≡ section_holding f.segments a)

  pub section_of_is : (n : ℕ) → HoldsAs m (λ bytes o. HasSectionOf bytes o n) (section_by_number (segments_view m) n)
  section_of_is n = said_of m (λ found f. found ≡ section_by_number f.segments n)

  pub section_data_is : (s : Section64) → HoldsAs m (λ bytes o. HasSectionData bytes o s) (bytes_of_section (bytes_view m) s)
  section_data_is s = said_of m (λ found f. found ≡ bytes_of_section f.bytes s)

  pub strings_are : (s : Section64) → HoldsAs m (λ bytes o. HasStringsOf bytes o s) (strings_of_section (bytes_view m) s)
  strings_are s = said_of m (λ found f. found ≡ strings_of_section f.bytes s)

  pub initializers_are : Agrees m HasInitializers (AreImageInitializers (ctx_view m) (bytes_view m) (chained_view m) (segments_view m))
  initializers_are = said_of m (λ found f. AreImageInitializers f.ctx f.bytes (chained_in f.ctx f.bytes f.commands) f.segments found)
