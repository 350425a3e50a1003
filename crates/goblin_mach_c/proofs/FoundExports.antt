-- The export of a name from an opened image, as facts about the bytes.
use Rattle.std.proofs.Common.{◌≡◌, ℕ, List}
use Rattle.std.specs.declared.alloc.Global.{Global}
use Rattle.mach_base.proofs.Faults.{ErrorMeets-in}
use Rattle.mach_base.specs.Answer.{ErrorMeets}
use Rattle.mach_base.specs.Fault.{Fault, fault_of}
use Rattle.mach_base.specs.Text.{texts}
use Rattle.mach_base.specs.declared.error.Error.{Error}
use Rattle.mach_base.specs.declared.error.Error.TheVariants as errors
use Rattle.goblin_mach.proofs.ImageFacts.{facts_are}
use Rattle.goblin_mach.specs.Facts.{HasExportsFault}
use Rattle.goblin_mach.specs.OpenImage.{IsLossyImage, trie_view}
use Rattle.goblin_mach.specs.Subjects.{ImageExportsFault, trie_or_empty}
use Rattle.goblin_mach.specs.declared.macho.MachO.{MachO}
use Rattle.goblin_mach_c.specs.Codes.{code_of_fault}
use Rattle.goblin_mach_c.specs.ExportRows.{HasFaultOnWay, HasNameFault, IsOnWayIn}

-- an error that reports two faults reports what is both of them
both : (P Q : Fault → Type 0) (e : Error) → ErrorMeets P e → ErrorMeets Q e → ErrorMeets (λ f. P f × Q f) e
both P Q (errors.Malformed m) p q = (p, q)
both P Q (errors.BadMagic n) p q = (p, q)
both P Q (errors.Scroll e) p q = (p, q)
both P Q (errors.BufferTooShort n m) p q = (p, q)
both P Q (errors.Memory e) p q = tt

pub name_fault : (bytes : List ℕ) (o : ℕ) (m : MachO Global) (name : List ℕ) (e : Error) → IsLossyImage bytes o m
    → ErrorMeets (ImageExportsFault (trie_view m) (texts m.libs.items)) e → ErrorMeets (IsOnWayIn (trie_or_empty (trie_view m)) (texts m.libs.items) name) e
    → ErrorMeets (HasNameFault bytes o name) e
name_fault bytes o m name e opened refused on_way =
    both (HasExportsFault bytes o) (HasFaultOnWay bytes o name) e
    (ErrorMeets-in (ImageExportsFault (trie_view m) (texts m.libs.items)) (HasExportsFault bytes o) e
    (λ f h. (facts_are bytes o m opened (λ there. ImageExportsFault there.trie there.libs f)).1 h) refused)
    (ErrorMeets-in (IsOnWayIn (trie_or_empty (trie_view m)) (texts m.libs.items) name) (HasFaultOnWay bytes o name) e
    (λ f h. (facts_are bytes o m opened (λ there. IsOnWayIn (trie_or_empty there.trie) there.libs name f)).1 h) on_way)

-- only an error for memory that ran out has its code
pub memory_code : (e : Error) (code : ℕ) → code ≡ code_of_fault (fault_of e) → ErrorMeets (λ f. ⊥) e → code ≡ 5
memory_code (errors.Malformed m) code is none = absurd none
memory_code (errors.BadMagic n) code is none = absurd none
memory_code (errors.Scroll e) code is none = absurd none
memory_code (errors.BufferTooShort n m) code is none = absurd none
memory_code (errors.Memory e) code is none = is
