use Rattle.std.proofs.Common.{◌∙◌, ℕ, List, Bor, Ok, refl, subst}
use Rattle.std.specs.Prelude.{codes, map}
use Rattle.mach_base.proofs.Written.{Appends-both}
use Rattle.mach_base.specs.Text.{texts}
use Rattle.goblin_mach.specs.Libraries.{LibraryView}
use Rattle.mach_audit.specs.FactRows.{library_fact, path_fact}
use Rattle.machinfo.specs.Summary.{AreFactLines}
use Rattle.machinfo.proofs.summary.print_used.Goals as goal

pub returns : goal.returns
returns g c =
    let limit = c.args.limit in
    let libraries = c.in_ok-libraries.ensures in
    let paths = c.in_ok-paths.ensures in (
      _,
      record {
        libraries = libraries.0;
        libraries_whole = c.in_ok-libraries.libraries;
        are_libraries = subst (λ (found : List LibraryView). AreFactLines (codes "library") limit (map (λ library. Ok (library_fact library)) found)
            libraries.0 c.in_ok-libraries.libraries) c.libraries.ensures libraries.1;
        paths = paths.0;
        paths_whole = c.in_ok-paths.paths;
        are_paths = subst (λ (found : List (Bor (List ℕ))). AreFactLines (codes "run path") limit (map (λ path. Ok (path_fact path)) (texts found))
            paths.0 c.in_ok-paths.paths) (c.iter.ensures.rest ∙ c.deref.ensures.value) paths.1;
        is_text = refl;
        is_whole = refl;
      },
      Appends-both _ _ _ libraries.0 _ libraries.2 paths.2,
    )
