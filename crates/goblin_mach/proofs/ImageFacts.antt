-- Facts on bytes, and the image that was opened there.
use Rattle.std.proofs.Common.{◌≡◌, ℕ, ◌+◌, List, Ok, refl, sym, ap, subst, ◌∙◌}
use Rattle.std.specs.Prelude.{◌↔◌, option_map}
use Rattle.mach_base.specs.declared.context.Ctx.{Ctx}
use Rattle.mach_base.specs.Context.{pointer_size}
use Rattle.mach_base.proofs.Binds.{same_ok}
use Rattle.mach_load.specs.Command.{Command}
use Rattle.mach_parts.specs.Header.{header_size}
use Rattle.mach_parts.specs.Segment.{SegmentView}
use Rattle.mach_parts.specs.SymbolViews.{table_of}
use Rattle.mach_dyld.specs.Exports.{text_in}
use Rattle.mach_base.specs.Text.{texts}
use Rattle.goblin_mach.specs.EntryPoint.{entry_point_in}
use Rattle.goblin_mach.specs.ImageFacts.{Facts, facts_in, facts_view, HasFacts, OfFacts}
use Rattle.goblin_mach.specs.Facts.{OfImage, HasCommands, HasSymbols, HasSegments, HasRelocations, HasName, HasLibraries, HasRunPaths, HasEntryPoint}
use Rattle.goblin_mach.specs.Facts.{HasExports, HasExportsFault, HasImports, HasImportsFault, HasImportItems}
use Rattle.goblin_mach.specs.Image.{LossyOpensAs}
use Rattle.goblin_mach.specs.Bindings.{AreImageBindings}
use Rattle.goblin_mach.specs.Facts.{HasLibrariesByKind, HasSymbolTable, HasExportOf, HasChainedFixups, HasBase, HasFixups, HasBindings}
use Rattle.goblin_mach.specs.Fixups.{AreImageFixups, base_view, base_of, chained_view, chained_in}
use Rattle.goblin_mach.specs.Libraries.{libraries_in}
use Rattle.goblin_mach.specs.LookUp.{IsAnswerInImage}
use Rattle.goblin_mach.specs.Subjects.{ListsImageImports, ImageImportsFault, AreImageBindItems, ListsImageExports}
use Rattle.goblin_mach.specs.Subjects.{ImageExportsFault, symbols_in, symbols_view}
use Rattle.mach_parts.specs.Magic.{cputype_at}
use Rattle.goblin_mach.specs.Modes.{InBothModes, Agrees, HoldsAs}
use Rattle.goblin_mach.specs.OpenImage.{IsImage, IsLossyImage, HasFields, commands_view, segments_view, trie_view, binds_view, ctx_view, bytes_view}
use Rattle.goblin_mach.specs.Relocations.{relocated_sections_in}
use Rattle.goblin_mach.specs.declared.macho.MachO.{MachO}
use Rattle.goblin_mach.proofs.Chains.{same_chain}
use Rattle.goblin_mach.proofs.OpenedImages.{same_header}
use Rattle.goblin_mach.proofs.Lossy.{same_segments}

-- an image that was opened strictly is the one that opens in lossy mode
pub strict-lossy : {A : Type 0} (bytes : List ℕ) (o : ℕ) (m : MachO A) → IsImage bytes o m → IsLossyImage bytes o m
strict-lossy bytes o m p =
    record {
      ctx = p.ctx;
      opens = p.opens.lossy;
      fields = subst (λ (x : List SegmentView). HasFields bytes o p.ctx x m) (same_segments p.ctx bytes (commands_view m) p.opens.readable.segments) p.fields;
    }

-- what holds in lossy mode holds in both
pub both_modes : {A : Type 0} (m : MachO A) (Says : List ℕ → ℕ → Type 0) → ((bytes : List ℕ) (o : ℕ) → IsLossyImage bytes o m → Says bytes o)
    → InBothModes m Says
both_modes m Says is = record { strict = λ bytes o p. is bytes o (strict-lossy bytes o m p); lossy = is }

-- equal arguments
pub moved : {X Y : Type 0} (P : X → Y → Type 0) (x z : X) (y w : Y) → x ≡ z → y ≡ w → P x y → P z w
moved P x z y w p q h = subst (λ (v : _). P z v) q (subst (λ (v : _). P v y) p h)

-- only one image opens at a place, so what holds of one holds of the context and commands of another fact
pub one_image : (bytes : List ℕ) (o : ℕ) (Holds : Ctx → List Command → Type 0) (ctx : Ctx) (cs : List Command) → LossyOpensAs bytes o ctx cs
    → OfImage bytes o Holds → Holds ctx cs
one_image bytes o Holds ctx cs opens q =
    let same_ctx : q.ctx ≡ ctx = same_header bytes o q.ctx ctx q.opens.header opens.header in
    let chain = (subst (λ (c : Ctx). LossyOpensAs bytes o c q.cs) same_ctx q.opens).chain in
    let same : q.cs ≡ cs = same_chain ctx.le bytes (o + header_size ctx.container) q.cs cs chain.chain opens.chain.chain
    (chain.count ∙ sym opens.chain.count) in
    moved Holds q.ctx ctx q.cs cs same_ctx same q.holds

-- what is stated of the facts of an image holds of the bytes
pub said : (bytes : List ℕ) (o : ℕ) (f : Facts) → HasFacts bytes o f → (Says : Facts → Type 0) → OfFacts bytes o Says ↔ Says f
said bytes o f h Says = (
  λ q. subst Says (sym (one_image bytes o (λ ctx cs. f ≡ facts_in ctx bytes o cs) q.ctx q.cs q.opens h)) q.holds,
  λ s. record { ctx = h.ctx; cs = h.cs; opens = h.opens; holds = subst Says h.holds s },
)

module _ {A : Type 0} (bytes : List ℕ) (o : ℕ) (m : MachO A) (p : IsLossyImage bytes o m) where
  -- what holds of the context and the commands of the image is a fact on the bytes
  of_image : (Holds : Ctx → List Command → Type 0) → Holds p.ctx (commands_view m) → OfImage bytes o Holds
  of_image Holds h = record { ctx = p.ctx; cs = commands_view m; opens = p.opens; holds = h }

  -- and the converse
  image_of : (Holds : Ctx → List Command → Type 0) → OfImage bytes o Holds → Holds p.ctx (commands_view m)
  image_of Holds q = one_image bytes o Holds p.ctx (commands_view m) p.opens q

  -- they are the same
  pub same_facts : facts_view m ≡ facts_in p.ctx bytes o (commands_view m)
  same_facts = let f = p.fields in
      rw (f.ctx_is, f.bytes_is, f.header, f.segments, f.symbols, f.libs, f.rpaths, f.name, f.trie, f.binds) refl

  -- so it has the facts that are held
  pub has_facts : HasFacts bytes o (facts_view m)
  has_facts = record { ctx = p.ctx; cs = commands_view m; opens = p.opens; holds = same_facts }

  pub facts_are : (Says : Facts → Type 0) → OfFacts bytes o Says ↔ Says (facts_view m)
  facts_are = said bytes o (facts_view m) has_facts

-- the same in both modes: what is stated of the facts on the bytes holds of those that are held
pub said_of : {A B : Type 0} (m : MachO A) (Says : B → Facts → Type 0) → Agrees m (λ bytes o x. OfFacts bytes o (Says x)) (λ x. Says x (facts_view m))
said_of m Says = both_modes m _ (λ bytes o p x. facts_are bytes o m p (Says x))

module _ {A : Type 0} (m : MachO A) where
  pub facts_are_held : InBothModes m (λ bytes o. HasFacts bytes o (facts_view m))
  facts_are_held = both_modes m _ (λ bytes o p. has_facts bytes o m p)

  pub commands_are : HoldsAs m HasCommands (commands_view m)
  commands_are = said_of m (λ commands f. commands ≡ f.commands)

  pub symbols_are : HoldsAs m HasSymbols (symbols_view m.symbols)
  symbols_are = said_of m (λ rows f. rows ≡ symbols_in f.symbols)

  pub symbol_table_is : HoldsAs m HasSymbolTable (option_map table_of m.symbols)
  symbol_table_is = said_of m (λ table f. table ≡ f.symbols)

  pub segments_are : HoldsAs m HasSegments (segments_view m)
  segments_are = said_of m (λ segments f. segments ≡ f.segments)

  pub relocations_are : HoldsAs m HasRelocations (relocated_sections_in (ctx_view m) (bytes_view m) (segments_view m))
  relocations_are = said_of m (λ found f. found ≡ relocated_sections_in f.ctx f.bytes f.segments)

  pub name_is : HoldsAs m HasName (text_in m.name)
  name_is = said_of m (λ name f. name ≡ f.name)

  pub libraries_are : HoldsAs m HasLibraries (texts m.libs.items)
  libraries_are = said_of m (λ libs f. libs ≡ f.libs)

  pub libraries_by_kind_are : HoldsAs m HasLibrariesByKind (libraries_in (ctx_view m).le (bytes_view m) (commands_view m))
  libraries_by_kind_are = said_of m (λ libraries f. libraries ≡ libraries_in f.ctx.le f.bytes f.commands)

  pub run_paths_are : HoldsAs m HasRunPaths (texts m.rpaths.items)
  run_paths_are = said_of m (λ paths f. paths ≡ f.run_paths)

  pub entry_point_is : HoldsAs m HasEntryPoint (record { address = m.entry; old_style = m.old_style_entry })
  entry_point_is = both_modes m _ (λ bytes o p point. (
    λ h. same_ok (sym (image_of bytes o m p (λ ctx cs. entry_point_in (cputype_at ctx bytes o) cs ≡ Ok point) h) ∙ p.fields.entry),
    λ e. of_image bytes o m p (λ ctx cs. entry_point_in (cputype_at ctx bytes o) cs ≡ Ok point) (p.fields.entry ∙ ap Ok (sym e)),
  ))

  pub exports_are : Agrees m HasExports (ListsImageExports (trie_view m) (texts m.libs.items))
  exports_are = said_of m (λ list f. ListsImageExports f.trie f.libs list)

  pub exports_fail : Agrees m HasExportsFault (ImageExportsFault (trie_view m) (texts m.libs.items))
  exports_fail = said_of m (λ fault f. ImageExportsFault f.trie f.libs fault)

  pub export_is : (name : List ℕ) → Agrees m (λ bytes o. HasExportOf bytes o name) (IsAnswerInImage (trie_view m) (texts m.libs.items) name)
  export_is name = said_of m (λ found f. IsAnswerInImage f.trie f.libs name found)

  pub imports_are : Agrees m HasImports (ListsImageImports (binds_view m) (pointer_size (ctx_view m).container) (texts m.libs.items) (segments_view m))
  imports_are = said_of m (λ list f. ListsImageImports f.binds (pointer_size f.ctx.container) f.libs f.segments list)

  pub imports_fail : Agrees m HasImportsFault (ImageImportsFault (binds_view m) (pointer_size (ctx_view m).container) (texts m.libs.items) (segments_view m))
  imports_fail = said_of m (λ fault f. ImageImportsFault f.binds (pointer_size f.ctx.container) f.libs f.segments fault)

  pub import_items_are : Agrees m HasImportItems
      (AreImageBindItems (binds_view m) (pointer_size (ctx_view m).container) (texts m.libs.items) (segments_view m))
  import_items_are = said_of m (λ items f. AreImageBindItems f.binds (pointer_size f.ctx.container) f.libs f.segments items)

  pub chained_fixups_are : HoldsAs m HasChainedFixups (chained_view m)
  chained_fixups_are = said_of m (λ found f. found ≡ chained_in f.ctx f.bytes f.commands)

  pub base_is : HoldsAs m HasBase (base_view m)
  base_is = said_of m (λ address f. address ≡ base_of f.segments)

  pub fixups_are : Agrees m HasFixups (AreImageFixups (chained_view m) (segments_view m))
  fixups_are = said_of m (λ items f. AreImageFixups (chained_in f.ctx f.bytes f.commands) f.segments items)

  pub bindings_are : Agrees m HasBindings
      (AreImageBindings (binds_view m) (chained_view m) (pointer_size (ctx_view m).container) (texts m.libs.items) (segments_view m))
  bindings_are =
      said_of m (λ items f. AreImageBindings f.binds (chained_in f.ctx f.bytes f.commands) (pointer_size f.ctx.container) f.libs f.segments items)
