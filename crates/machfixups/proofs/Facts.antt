-- Facts about bytes, by the image that was opened there.
use Rattle.std.proofs.Common.{◌≡◌, ◌∙◌, ℕ, List, Result, ap, refl}
use Rattle.mach_base.specs.Context.{pointer_size}
use Rattle.mach_base.specs.Text.{texts}
use Rattle.mach_chained.specs.Fixups.{Fixup}
use Rattle.mach_parts.specs.SectionRecord.{section_holding}
use Rattle.goblin_mach.specs.Bindings.{AreOpcodeBindings}
use Rattle.goblin_mach.specs.Facts.{HasChainedFixups, HasFixups, HasLibraries}
use Rattle.goblin_mach.specs.Fixups.{AreImageFixups, chained_view}
use Rattle.goblin_mach.specs.ImageStreams.{AreRebasesByOpcodes, AreImageWeakBinds, rebase_stream_in, weak_stream_in}
use Rattle.goblin_mach.specs.OpenImage.{IsLossyImage, binds_view, bytes_view, commands_view, ctx_view, segments_view}
use Rattle.goblin_mach.specs.declared.macho.MachO.{MachO}
use Rattle.goblin_mach.proofs.ImageFacts.{chained_fixups_are, fixups_are, facts_are, libraries_are, segments_are}
use Rattle.goblin_mach.proofs.StreamFacts.{weak_binds_are}
use Rattle.mach_base.specs.Fault.{Fault}
use Rattle.machfixups.specs.Lists.{PointerLists, HasPointerLists}
use Rattle.machfixups.specs.Rows.{PointerRow, PointerRows}
use Rattle.goblin_mach.specs.SymbolMaps.{image_symbols}
use Rattle.goblin_mach.specs.SymbolAtAddress.{image_symbol_at}
use Rattle.goblin_mach.proofs.LookedUpFacts.{symbol_at_is}
use Rattle.goblin_mach.proofs.SymbolAtAddress.{symbol_exists}
use Rattle.machfixups.specs.TargetSymbols.{HasTargetSymbols}

module _ {A : Type 0} (bytes : List ℕ) (o : ℕ) (m : MachO A) (p : IsLossyImage bytes o m) where
  pub has_chained_fixups : HasChainedFixups bytes o (chained_view m)
  has_chained_fixups = ((chained_fixups_are m).lossy bytes o p (chained_view m)).1 refl

  pub has_fixups : (fixups : List (Result Fixup Fault)) → AreImageFixups (chained_view m) (segments_view m) fixups → HasFixups bytes o fixups
  has_fixups fixups are = ((fixups_are m).lossy bytes o p fixups).1 are

  pub has_libraries : HasLibraries bytes o (texts m.libs.items)
  has_libraries = ((libraries_are m).lossy bytes o p (texts m.libs.items)).1 refl

  pub has_target_symbols : HasTargetSymbols bytes o (image_symbol_at m)
  has_target_symbols = λ a.
      let made = symbol_exists (segments_view m) (image_symbols m) (section_holding (segments_view m) a) a in
      (made.0, ((symbol_at_is m a).lossy bytes o p made.0).1 made.1, made.2)

  pub has_lists : (lists : PointerLists)
      → AreRebasesByOpcodes (rebase_stream_in (bytes_view m) (commands_view m)) (ctx_view m).le (pointer_size (ctx_view m).container) (segments_view m)
      lists.rebases
      → AreOpcodeBindings (binds_view m) (pointer_size (ctx_view m).container) (texts m.libs.items) (segments_view m) lists.bindings
      → AreImageWeakBinds (weak_stream_in (bytes_view m) (commands_view m)) (pointer_size (ctx_view m).container) (segments_view m) lists.weak_binds
      → AreImageFixups (chained_view m) (segments_view m) lists.fixups
      → lists.source ≡ record { segments = segments_view m; le = (ctx_view m).le } → HasPointerLists bytes o lists
  has_lists lists rebases bindings weak fixups source = record {
    rebases = (facts_are bytes o m p (λ f. AreRebasesByOpcodes (rebase_stream_in f.bytes f.commands) f.ctx.le (pointer_size f.ctx.container) f.segments
        lists.rebases)).1 rebases;
    bindings = (facts_are bytes o m p (λ f. AreOpcodeBindings f.binds (pointer_size f.ctx.container) f.libs f.segments lists.bindings)).1 bindings;
    weak_binds = ((weak_binds_are m).lossy bytes o p lists.weak_binds).1 weak;
    fixups = has_fixups lists.fixups fixups;
    segments = ((segments_are m).lossy bytes o p lists.source.segments).1 (ap (λ s. s.segments) source);
    le = (facts_are bytes o m p (λ f. lists.source.le ≡ f.ctx.le)).1 (ap (λ s. s.le) source);
  }

-- rows are those of four lists, if each list is
pub rows_are : (rows shown : PointerRows) → rows.rebases ≡ shown.rebases → rows.binds ≡ shown.binds → rows.weak ≡ shown.weak
    → rows.chains ≡ shown.chains → rows ≡ shown
rows_are rows shown rebases binds weak chains =
    let first : rows ≡ record rows { rebases = shown.rebases } = ap (λ (xs : List (Result PointerRow Fault)). record rows { rebases = xs }) rebases in
    let second : record rows { rebases = shown.rebases } ≡ record rows { rebases = shown.rebases; binds = shown.binds } =
    ap (λ (xs : List (Result PointerRow Fault)). record rows { rebases = shown.rebases; binds = xs }) binds in
    let third : record rows { rebases = shown.rebases; binds = shown.binds } ≡ record shown { chains = rows.chains } =
    ap (λ (xs : List (Result PointerRow Fault)). record shown { weak = xs; chains = rows.chains }) weak in
    first ∙ second ∙ third ∙ ap (λ (xs : List (Result PointerRow Fault)). record shown { chains = xs }) chains
