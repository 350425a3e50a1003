-- What a call shows.
use Rattle.std.specs.Prelude.{◌≡◌, ◌^◌, ◌-◌, ℕ, List, [], Option, Some, codes, true}
use Rattle.std.specs.Io.Buffered.{writer_buffer, writer_contents}
use Rattle.std.specs.Io.KnownBytes.{Appends}
use Rattle.std.specs.declared.io.buffered.BufWriter.{BufWriter}
use Rattle.mach_cli.specs.Bounds.{limit_of}
use Rattle.mach_cli.specs.Calls.{is_json}
use Rattle.mach_cli.specs.PartsOf.{shown_items}
use Rattle.mach_cli.specs.ShownCalls.{ShowsJson, ShowsText}
use Rattle.mach_cli.specs.declared.call.Call.{Call}
use Rattle.mach_cli.specs.declared.cpu.Cpu.{Cpu}
use Rattle.mach_cli.specs.declared.image_files.ImageFiles.{ImageFiles}
use Rattle.mach_cli.specs.declared.titled.Titled.{Titled}
use Rattle.machsign.specs.Entitlements.{EntitlesItems}
use Rattle.machsign.specs.ImageLines.{AreImageSignatureLines}
use Rattle.machsign.specs.JsonSignature.{AreImageSignatureMembers}
use Rattle.machsign.specs.declared.arguments.Entitlements.{Entitlements}
use Rattle.machsign.specs.declared.json.SignatureObjects.{SignatureObjects}
use Rattle.machsign.specs.declared.signature_view.SignatureLines.{SignatureLines}

-- How a call shows its files: the signatures of the selected images, as lines or as objects.
pub record AreSignatureFiles {A : Type 0} (call : Call A Entitlements) (s : ImageFiles SignatureLines SignatureObjects) : Type 0 where
  pub program : s.program.name.now ≡ codes "machsign"
  pub cpu : s.cpu ≡ call.cpu
  pub lossy : s.is_lossy ≡ call.is_lossy
  pub limit : s.limit ≡ limit_of call.limit (2 ^ 64 - 1)
  pub form : s.is_json ≡ is_json call.format
  pub titles : s.has_titles ≡ true
  pub lines : s.lines ≡ record {}
  pub objects : s.objects ≡ record {}

-- A call shows the signatures of all files that it names, as lines.
abbrev pub ShowsSignatureLines : {W A B : Type 0} → (contents : W → Option (List ℕ)) → Call A Entitlements → (old new : BufWriter (Titled W) B)
    → (worst : ℕ) → Type 0
ShowsSignatureLines contents call old new worst = (s : ImageFiles SignatureLines SignatureObjects) × AreSignatureFiles call s
    × ShowsText s s.program.name.now (λ _. AreImageSignatureLines) contents call.words.items call.others old new worst

-- the same as objects
abbrev pub ShowsSignatureObjects : {W A B : Type 0} → (contents : W → Option (List ℕ)) → Call A Entitlements → (old new : BufWriter (Titled W) B)
    → (worst : ℕ) → Type 0
ShowsSignatureObjects contents call old new worst = (s : ImageFiles SignatureLines SignatureObjects) × AreSignatureFiles call s
    × ShowsJson s s.program.name.now (λ _ _. AreImageSignatureMembers) contents call.words.items call.others old new worst

-- The entitlements of the first image for a cpu that has some were written, and nothing else. All is written out.
abbrev pub WritesEntitlements : {W B : Type 0} → (contents : W → Option (List ℕ)) → Cpu → (bytes : List ℕ) → (old new : BufWriter W B) → Type 0
WritesEntitlements contents cpu bytes old new = (found : List ℕ) × EntitlesItems cpu (shown_items bytes) (Some found)
    × Appends (writer_contents contents old) (writer_contents contents new) found × (writer_buffer new ≡ [])
