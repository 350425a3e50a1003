-- What a call shows.
use Rattle.std.specs.Prelude.{◌≡◌, ℕ, List, Option, codes, true}
use Rattle.std.specs.declared.io.buffered.BufWriter.{BufWriter}
use Rattle.mach_cli.specs.Bounds.{limit_of}
use Rattle.mach_cli.specs.Calls.{is_json}
use Rattle.mach_cli.specs.ShownCalls.{ShowsJson, ShowsText}
use Rattle.mach_cli.specs.declared.call.Call.{Call}
use Rattle.mach_cli.specs.declared.image_files.ImageFiles.{ImageFiles}
use Rattle.mach_cli.specs.declared.titled.Titled.{Titled}
use Rattle.machfixups.specs.ImageLines.{image_pointer_lines}
use Rattle.machfixups.specs.JsonImages.{image_pointer_members}
use Rattle.machfixups.specs.declared.fixup_view.FixupLines.{FixupLines}
use Rattle.machfixups.specs.declared.json.FixupObjects.{FixupObjects}
use Rattle.machfixups.specs.declared.rows.Selection.{Selection}

-- How a call shows its files: the lists that it selects, as lines or as objects.
pub record AreFixupFiles {A : Type 0} (call : Call A Selection) (s : ImageFiles FixupLines FixupObjects) : Type 0 where
  pub program : s.program.name.now ≡ codes "machfixups"
  pub cpu : s.cpu ≡ call.cpu
  pub lossy : s.is_lossy ≡ call.is_lossy
  pub limit : s.limit ≡ limit_of call.limit 10000000
  pub form : s.is_json ≡ is_json call.format
  pub titles : s.has_titles ≡ true
  pub lines : s.lines ≡ record { selection = call.own }
  pub objects : s.objects ≡ record { selection = call.own }

-- A call shows what it selects of all files that it names, as lines.
abbrev pub ShowsFixupLines : {W A B : Type 0} → (contents : W → Option (List ℕ)) → Call A Selection → (old new : BufWriter (Titled W) B) → (worst : ℕ)
    → Type 0
ShowsFixupLines contents call old new worst = (s : ImageFiles FixupLines FixupObjects) × AreFixupFiles call s
    × ShowsText s s.program.name.now (image_pointer_lines s.lines.selection) contents call.words.items call.others old new worst

-- the same as objects
abbrev pub ShowsFixupObjects : {W A B : Type 0} → (contents : W → Option (List ℕ)) → Call A Selection → (old new : BufWriter (Titled W) B) → (worst : ℕ)
    → Type 0
ShowsFixupObjects contents call old new worst = (s : ImageFiles FixupLines FixupObjects) × AreFixupFiles call s
    × ShowsJson s s.program.name.now (image_pointer_members s.objects.selection) contents call.words.items call.others old new worst
