-- The fields of an image that was built from what was read.
use Rattle.std.proofs.Common.{◌≡◌, ℕ, List, map, Ok, sym, ap, subst, ◌∙◌}
use Rattle.std.specs.Prelude.{option_map}
use Rattle.mach_load.specs.Command.{Command}
use Rattle.mach_load.specs.Variants.{command_of}
use Rattle.mach_parts.specs.Header.{IsHeader}
use Rattle.mach_parts.specs.Segment.{SegmentView, segment_view}
use Rattle.mach_parts.specs.SymbolViews.{table_of}
use Rattle.mach_parts.specs.declared.header.Header.{Header}
use Rattle.mach_dyld.specs.Exports.{text_in}
use Rattle.mach_base.specs.Text.{texts}
use Rattle.goblin_mach.specs.EntryPoint.{entry_point_in}
use Rattle.mach_parts.specs.Magic.{cputype_at}
use Rattle.goblin_mach.specs.OpenImage.{AreFields, HasFields, IsMadeOf, commands_view, commands_of}
use Rattle.goblin_mach.specs.Subjects.{libs_in}
use Rattle.goblin_mach.specs.declared.fields.Fields.{Fields}
use Rattle.goblin_mach.specs.declared.macho.MachO.{MachO}
use Rattle.goblin_mach.specs.declared.opened.Opened.{Opened}

module _ {A : Type 0} (bytes : List ℕ) (o : ℕ) (x : Opened A) (f : Fields A) (m : MachO A) (made : IsMadeOf bytes x f m) where
  pub same_commands : commands_of x ≡ commands_view m
  same_commands = ap (λ (v : _). map command_of v.items) (sym made.commands)

  pub made_fields : (parts : List Command → List SegmentView) → IsHeader x.ctx bytes o x.header
      → entry_point_in (cputype_at x.ctx bytes o) (commands_of x) ≡ Ok (record { address = x.address; old_style = x.old_style_entry })
      → AreFields x.ctx bytes (parts (commands_of x)) (libs_in bytes (commands_of x)) (commands_of x) f
      → HasFields bytes o x.ctx (parts (commands_view m)) m
  made_fields parts header entry are =
      let fields = subst (λ (cs : List Command). AreFields x.ctx bytes (parts cs) (libs_in bytes cs) cs f) same_commands are in
      let cputype = cputype_at x.ctx bytes o in
      let begins : entry_point_in cputype (commands_view m) ≡ Ok (record { address = m.entry; old_style = m.old_style_entry }) =
      rw (made.entry, made.old_style_entry) (sym (ap (entry_point_in cputype) same_commands) ∙ entry) in
      record {
        header = subst (λ (h : Header). IsHeader x.ctx bytes o h) (sym made.header) header;
        little_endian = made.little_endian;
        is_64 = made.is_64;
        segments = ap (map segment_view) made.segments ∙ fields.segments;
        symbols = ap (option_map table_of) made.symbols ∙ fields.symbols;
        libs = ap (λ (v : _). texts v.items) made.libs ∙ fields.libs_are;
        rpaths = ap (λ (v : _). texts v.items) made.rpaths ∙ fields.rpaths;
        entry = begins;
        name = ap text_in made.name ∙ fields.name;
        trie = made.trie ∙ fields.trie;
        binds = made.binds ∙ fields.binds;
        bytes_is = made.bytes_is;
        ctx_is = made.ctx_is;
      }
