-- What the lines of symbols need of their image.
use Rattle.std.specs.Prelude.{ℕ, List, Bool, Option}
use Rattle.mach_base.specs.Text.{texts}
use Rattle.mach_parts.specs.declared.segment.section.Section.{Section}
use Rattle.mach_parts.specs.declared.symbols.nlist.Nlist.{Nlist}
use Rattle.goblin_mach.specs.ImageFacts.{Facts}
use Rattle.goblin_mach.specs.ImageSlots.{symbol_provider_of}
use Rattle.machsyms.specs.SymbolWords.{origin_words, origin_text, section_option_view, symbol_words}
use Rattle.machsyms.specs.declared.nm.descriptions.SymbolWords.{SymbolWords}
use Rattle.machsyms.specs.Letters.{letters_of, named_sections, section_by}
use Rattle.machsyms.specs.declared.setting.Setting.{Setting}

-- whether it has 64 bits, its sections and a letter for each, the kind of its file, its flags, and its libraries by their numbers
pub record SymbolSetting : Type 0 where
  pub is_64 : Bool
  pub letters : List ℕ
  pub sections : List (Option Section)
  pub filetype : ℕ
  pub flags : ℕ
  pub libs : List (List ℕ)

-- the setting of an image of either width, from its facts
abbrev pub setting_of : (is_64 : Bool) → Facts → SymbolSetting
setting_of is_64 f =
    record {
      is_64 = is_64;
      letters = letters_of f.segments;
      sections = named_sections f.segments;
      filetype = f.header.filetype;
      flags = f.header.flags;
      libs = f.libs;
    }

abbrev pub setting_view : {A : Type 0} → Setting A → SymbolSetting
setting_view s =
    record {
      is_64 = s.image.now.is_64;
      letters = s.letters.now;
      sections = s.sections.now;
      filetype = s.image.now.header.filetype;
      flags = s.image.now.header.flags;
      libs = texts s.image.now.libs.items;
    }

-- the words for a symbol of this name
abbrev pub symbol_described : (is_raw : Bool) → SymbolSetting → List ℕ → Nlist → List ℕ
symbol_described is_raw w name s =
    symbol_words is_raw (section_by w.sections s.n_sect) w.filetype name (origin_words is_raw s.n_desc (symbol_provider_of w.flags w.libs s)) s

-- what the code's words are
abbrev pub words_shown : SymbolWords → List ℕ
words_shown t = symbol_words t.is_raw (section_option_view t.section) t.filetype t.name.now (origin_text t.is_raw t.origin) t.symbol.now
