use Rattle.std.proofs.Common.{◌∙◌, ◌∷◌, List, ℕ, Ok, Err, IfOk, ap, sym, subst, slice_get}
use Rattle.std.specs.Prelude.{Result}
use Rattle.mach_base.specs.Fault.{Fault, fault_of}
use Rattle.mach_dyld.specs.BindCursors.{IsPlaced, TextIsAt, placed_read}
use Rattle.mach_dyld.specs.BindLeft.{imports_left}
use Rattle.mach_dyld.specs.BindViews.{bind_import_view}
use Rattle.mach_dyld.specs.Imports.{Import, input_in}
use Rattle.mach_dyld.specs.SiteCursors.{import_sites_left, site_of}
use Rattle.mach_dyld.specs.Sites.{Site}
use Rattle.goblin_mach_c.specs.ImportsAfter.{AreImportRowsOver, import_rows_left}
use Rattle.goblin_mach_c.specs.Sited.{sited}
use Rattle.goblin_mach_c.proofs.imports.ImportRowsItemRows.next.Goals as goal

pub returns-in-Ok-clause-says : goal.returns-in-Ok-clause-says
returns-in-Ok-clause-says c = λ x over.
    let o = subst (AreImportRowsOver x) c.in-Binds.is over in
    let input = input_in o.0 x.1.pointer x.1.libs x.1.segments in
    let found = c.in_ok-placed-in-Binds in
    let new = c.next_placed.new.self in
    let p = c.in-Ok.placed in
    let placed : IsPlaced input p = subst (λ f. IfOk f (IsPlaced input)) c.in-Ok.is (found.ensures.placed input o.0.lazy o.3) in
    let items = found.ensures.items ∙ ap (λ f. placed_read f ∷ imports_left new) c.in-Ok.is in
    let sites = rw c.in-Ok.is at found.ensures.site in (
      Ok (bind_import_view p.import, site_of p),
      ap import_rows_left c.in-Binds.is ∙ ap (λ (l : List (Result Import Fault)). sited l (import_sites_left c.in-Binds.imports)) items
          ∙ ap (λ (l : List Site). sited (Ok (bind_import_view p.import) ∷ imports_left new) l) sites,
      record {
        numbers = c.row_of.ensures.numbers;
        name = c.row_of.ensures.name x.0 (subst (λ (bytes : List ℕ). TextIsAt bytes p.name_place p.import.name.now) o.2 placed.name);
        library = ap (slice_get x.1.libs) (ap (λ row. row.library) c.row_of.ensures.numbers) ∙ placed.library_is;
      },
    )

pub returns-in-Err-clause-says : goal.returns-in-Err-clause-says
returns-in-Err-clause-says c = λ x over.
    let found = c.in_ok-placed-in-Binds in
    let new = c.next_placed.new.self in
    let ended = rw c.in-Err.is at found.ensures.fault in
    let items = found.ensures.items ∙ ap (λ f. placed_read f ∷ imports_left new) c.in-Err.is in (
      Err (fault_of c.in-Err.why),
      ap import_rows_left c.in-Binds.is ∙ ap (λ (l : List (Result Import Fault)). sited l (import_sites_left c.in-Binds.imports)) items
          ∙ ap (λ (l : List (Result Import Fault)). Err (fault_of c.in-Err.why) ∷ sited l (import_sites_left new)) (sym ended.left),
      c.refused_row.ensures,
    )
