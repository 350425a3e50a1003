-- What a call shows.
use Rattle.std.specs.Prelude.{◌≡◌, ◌||◌, ◌-◌, ℕ, List, Bool, Option, Some, codes, length, option_map, true}
use Rattle.std.specs.List.{slice_get}
use Rattle.std.specs.Borrow.{Bor}
use Rattle.std.specs.declared.io.buffered.BufWriter.{BufWriter}
use Rattle.mach_cli.specs.Bounds.{limit_of}
use Rattle.mach_cli.specs.Calls.{is_json}
use Rattle.mach_cli.specs.ShownCalls.{ShowsJson, ShowsText}
use Rattle.mach_cli.specs.declared.call.Call.{Call}
use Rattle.mach_cli.specs.declared.image_files.ImageFiles.{ImageFiles}
use Rattle.mach_cli.specs.declared.titled.Titled.{Titled}
use Rattle.machinfo.specs.ImageLines.{AreInfoLines, AreInfoMembers}
use Rattle.machinfo.specs.Words.{explained_choice, selected}
use Rattle.machinfo.specs.declared.arguments.InfoOptions.{InfoOptions}
use Rattle.machinfo.specs.declared.json.InfoObjects.{InfoObjects}
use Rattle.machinfo.specs.declared.views.InfoLines.{InfoLines}
use Rattle.machinfo.specs.declared.word.Choice.{Choice}

-- How a call shows its files: what it selects, explained if an option says so, or else the summary, as lines or as objects. Lines have
-- headings exactly if an option says so or the output is a terminal.
pub record AreInfoFiles {A : Type 0} (is_terminal : Bool) (call : Call A InfoOptions) (choice : Option Choice) (s : ImageFiles InfoLines InfoObjects)
    : Type 0 where
  pub program : s.program.name.now ≡ codes "machinfo"
  pub cpu : s.cpu ≡ call.cpu
  pub lossy : s.is_lossy ≡ call.is_lossy
  pub limit : s.limit ≡ limit_of call.limit 10000000
  pub form : s.is_json ≡ is_json call.format
  pub titles : s.has_titles ≡ true
  pub lines : s.lines.choice ≡ option_map (explained_choice call.own.is_explained) choice
  pub headings : s.lines.has_headings ≡ (call.own.has_headings || is_terminal)
  pub objects : s.objects ≡ record { choice = choice }

-- the last address after `--at`
abbrev pub last_address : {A O : Type 0} → Call A O → Option ℕ
last_address call = slice_get call.addresses.items (length call.addresses.items - 1)

-- A call shows what its arguments select, of their files and of those that it names in other ways, as lines, perhaps on a terminal.
abbrev pub ShowsInfoLines : {W A B : Type 0} → (contents : W → Option (List ℕ)) → (is_terminal : Bool) → Call A InfoOptions
    → (old new : BufWriter (Titled W) B) → (worst : ℕ) → Type 0
ShowsInfoLines contents is_terminal call old new worst =
    (choice : Option Choice) × (files : List (Bor (List ℕ))) × (selected (last_address call) call.words.items ≡ Some (choice, files))
    × (s : ImageFiles InfoLines InfoObjects) × AreInfoFiles is_terminal call choice s
    × ShowsText s s.program.name.now (AreInfoLines s.lines.has_headings s.lines.choice) contents files call.others old new worst

-- the same as objects
abbrev pub ShowsInfoObjects : {W A B : Type 0} → (contents : W → Option (List ℕ)) → (is_terminal : Bool) → Call A InfoOptions
    → (old new : BufWriter (Titled W) B) → (worst : ℕ) → Type 0
ShowsInfoObjects contents is_terminal call old new worst =
    (choice : Option Choice) × (files : List (Bor (List ℕ))) × (selected (last_address call) call.words.items ≡ Some (choice, files))
    × (s : ImageFiles InfoLines InfoObjects) × AreInfoFiles is_terminal call choice s
    × ShowsJson s s.program.name.now (AreInfoMembers s.objects.choice) contents files call.others old new worst
