-- What there is of the bytes of a section.
use Rattle.std.proofs.Common.{◌≡◌, ℕ, List, Option, Result, Ok, Err, sym}
use Rattle.std.specs.Borrow.{Bor}
use Rattle.mach_base.proofs.Faults.{ErrorMeets-in, ErrorMeets-reported}
use Rattle.mach_base.specs.Answer.{Reads}
use Rattle.mach_base.specs.Fault.{Fault, fault_of}
use Rattle.mach_base.specs.declared.error.Error.{Error}
use Rattle.mach_dyld.specs.Exports.{text_in}
use Rattle.goblin_mach.proofs.ImageFacts.{facts_are, strict-lossy}
use Rattle.goblin_mach.specs.ImageFacts.{facts_view}
use Rattle.goblin_mach.specs.Items.{ContentView, content_bytes}
use Rattle.goblin_mach.specs.OpenImage.{IsImage}
use Rattle.goblin_mach.specs.declared.item.EntryCpu.{EntryCpu}
use Rattle.goblin_mach.specs.declared.macho.MachO.{MachO}
use Rattle.mach_cli.specs.declared.cpu.Cpu.{Cpu}
use Rattle.machinfo.specs.RawBytes.{AnswersRaw, ContentHasRaw, raw_held, raw_of_image}
use Rattle.machinfo.specs.declared.section_bytes.SectionName.{SectionName}

module _ {A : Type 0} (m : MachO A) (content : ContentView) (cpu : Cpu) (entry : Option EntryCpu) (name : SectionName)
    (opened : IsImage (content_bytes content) 0 m) where
  raw_there : (there : Result (Option (List ℕ)) Fault) → raw_held cpu entry name (facts_view m) ≡ there → ContentHasRaw cpu entry name content there
  raw_there there is = raw_of_image there
      ((facts_are (content_bytes content) 0 m (strict-lossy (content_bytes content) 0 m opened) (λ f. there ≡ raw_held cpu entry name f)).1 (sym is))

  -- what an opened image holds is what its content has
  pub raw_of_opened : (answer : Result (Option (Bor (List ℕ))) Error) → Reads text_in answer (raw_held cpu entry name (facts_view m))
      → AnswersRaw (ContentHasRaw cpu entry name content) answer
  raw_of_opened (Ok found) reads = raw_there (Ok (text_in found)) reads
  raw_of_opened (Err e) reads = ErrorMeets-reported (λ f. ContentHasRaw cpu entry name content (Err f)) e (raw_there (Err (fault_of e)) reads)

-- what a part has is what the whole has
pub raw_in : (P Q : Result (Option (List ℕ)) Fault → Type 0) (answer : Result (Option (Bor (List ℕ))) Error)
    → ((there : Result (Option (List ℕ)) Fault) → P there → Q there) → AnswersRaw P answer → AnswersRaw Q answer
raw_in P Q (Ok found) to has = to (Ok (text_in found)) has
raw_in P Q (Err e) to has = ErrorMeets-in (λ f. P (Err f)) (λ f. Q (Err f)) e (λ f. to (Err f)) has
