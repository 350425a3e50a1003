-- Verdicts on how an image is hardened: whether each holds of its header, segments, commands, symbols and signature.
use Rattle.std.specs.Prelude.{◌≡◌, ◌==◌, ◌&&◌, ◌||◌, ℕ, ◌%◌, List, [], ◌∷◌, ◌++◌, codes, drop, map, Bool, true, false, not, nat_eq}
use Rattle.std.specs.Prelude.{Option, Some, None, Result, Ok, Err}
use Rattle.std.specs.Borrow.{Bor}
use Rattle.std.specs.List.{list_any, range_with_len, starts_with}
use Rattle.mach_base.specs.declared.context.Container.{Container}
use Rattle.mach_base.specs.declared.context.Container.TheVariants.{Little, Big}
use Rattle.mach_base.specs.declared.error.Error.{Error}
use Rattle.mach_base.specs.Answer.{◌>>=◌}
use Rattle.mach_base.specs.Fault.{Fault}
use Rattle.mach_base.specs.Items.{read_as}
use Rattle.mach_base.specs.Number.{place_after}
use Rattle.mach_dyld.specs.Nodes.{has_bit}
use Rattle.mach_load.specs.Command.{Command}
use Rattle.mach_load.specs.Commands.{Kind, dyld_chained_fixups}
use Rattle.mach_parts.specs.SectionRecord.{numbered_section, sections_held}
use Rattle.mach_parts.specs.Segment.{SegmentView}
use Rattle.mach_parts.specs.Symbols.{SymbolTable, is_stab, nlist_at, symbol_place, table_in_bounds, type_of}
use Rattle.mach_parts.specs.declared.header.Header.{Header}
use Rattle.mach_parts.specs.declared.segment.numbered.NumberedSection.{NumberedSection}
use Rattle.mach_parts.specs.declared.symbols.nlist.Nlist.{Nlist}
use Rattle.mach_signature.specs.Debuggers.{allows_debuggers}
use Rattle.mach_signature.specs.Directories.{Directory}
use Rattle.mach_signature.specs.SignedImages.{image_directory, image_signature}
use Rattle.mach_signature.specs.SuperBlob.{SuperBlob, content_of}
use Rattle.goblin_mach.specs.ImageFacts.{Facts, OfFacts, facts_view}
use Rattle.mach_audit.specs.States.{is_encrypting, state_of_commands}
use Rattle.mach_audit.specs.declared.security.Finding.{Finding}
use Rattle.mach_audit.specs.declared.security.Findings.{Findings}
use Rattle.mach_audit.specs.declared.security.Verdict.{Verdict}
use Rattle.mach_audit.specs.declared.security.Verdict.TheVariants as verdicts

-- the verdicts on all images, in order
abbrev pub all_verdicts : List Verdict
all_verdicts =
    verdicts.Pie
    ∷ verdicts.StackExecution
    ∷ verdicts.PointerAuthentication
    ∷ verdicts.StackCanary
    ∷ verdicts.WritableCode
    ∷ verdicts.WritableCodeAllowed
    ∷ verdicts.Restricted
    ∷ verdicts.ChainedFixups
    ∷ verdicts.RelativeRunPaths
    ∷ verdicts.Encrypted
    ∷ verdicts.Stripped
    ∷ verdicts.Signed
    ∷ verdicts.AdHoc
    ∷ verdicts.Cms
    ∷ verdicts.HardenedRuntime
    ∷ verdicts.LibraryValidation
    ∷ verdicts.Entitlements
    ∷ verdicts.GetTaskAllow
    ∷ []

-- those on an image of a width: only one of 32 bits says whether its heap may be executed
abbrev pub verdicts_for : Container → List Verdict
verdicts_for Little = verdicts.NoHeapExecution ∷ all_verdicts
verdicts_for Big = all_verdicts

-- the name of a verdict, and what `yes` means
abbrev pub finding_words : Verdict → List ℕ × List ℕ
finding_words verdicts.Pie = (codes "pie", codes "loaded at a random address")
finding_words verdicts.NoHeapExecution = (codes "no-heap-execution", codes "execution refused on the heap")
finding_words verdicts.StackExecution = (codes "stack-execution", codes "execution allowed on the stack")
finding_words verdicts.PointerAuthentication = (codes "pointer-authentication", codes "for arm64e, which signs pointers")
finding_words verdicts.StackCanary = (codes "stack-canary", codes "code that checks its stack by canaries")
finding_words verdicts.WritableCode = (codes "writable-code", codes "a segment both writable and executable")
finding_words verdicts.WritableCodeAllowed = (codes "writable-code-allowed", codes "a segment that may become both")
finding_words verdicts.Restricted = (codes "restricted", codes "dyld is to ignore environment variables")
finding_words verdicts.ChainedFixups = (codes "chained-fixups", codes "pointers in chains of fixups")
finding_words verdicts.RelativeRunPaths = (codes "relative-run-paths", codes "a run path that begins with neither / nor @")
finding_words verdicts.Encrypted = (codes "encrypted", codes "a part is encrypted")
finding_words verdicts.Stripped = (codes "stripped", codes "no local symbols")
finding_words verdicts.Signed = (codes "signed", codes "a code directory")
finding_words verdicts.AdHoc = (codes "ad-hoc", codes "signed without an identity")
finding_words verdicts.Cms = (codes "cms", codes "a CMS message, which says who signed")
finding_words verdicts.HardenedRuntime = (codes "hardened-runtime", codes "started in the hardened runtime")
finding_words verdicts.LibraryValidation = (codes "library-validation", codes "only libraries of its team or of the system")
finding_words verdicts.Entitlements = (codes "entitlements", codes "entitlements in the signature")
finding_words verdicts.GetTaskAllow = (codes "get-task-allow", codes "debuggers may attach to it")

-- the bytes begin with this text and a zero byte
abbrev pub holds_name : (name bytes : List ℕ) → Bool
holds_name name bytes = starts_with nat_eq bytes (name ++ 0 ∷ [])

-- ---- the header

-- the cpu is of the kind arm64e (`mach/machine.h`, CPU_TYPE_ARM64, CPU_SUBTYPE_ARM64E): the high 8 bits of the kind say more
abbrev pub is_arm64e : Header → Bool
is_arm64e h = h.cputype == 0x100000c && h.cpusubtype % 0x1000000 == 2

-- ---- segments and commands

-- a protection has both of these rights (`mach/vm_prot.h`, VM_PROT_WRITE, VM_PROT_EXECUTE)
abbrev pub is_writable_code : (protection : ℕ) → Bool
is_writable_code protection = has_bit 2 protection && has_bit 4 protection

-- a section that can be read is named `__restrict`
abbrev pub is_restrict : Result NumberedSection Fault → Bool
is_restrict (Ok n) = holds_name (codes "__restrict") n.section.sectname
is_restrict (Err f) = false

-- the command of a segment has such a section
abbrev pub has_restrict : SegmentView → Bool
has_restrict s = list_any (λ (k : ℕ). is_restrict (numbered_section 0 s k)) (range_with_len 0 (sections_held s))

-- a segment `__RESTRICT` has such a section (dyld, MachOFile::isRestricted)
abbrev pub restricts : SegmentView → Bool
restricts s = holds_name (codes "__RESTRICT") s.command.segname && has_restrict s

-- the command that places chained fixups (LC_DYLD_CHAINED_FIXUPS)
abbrev pub is_chained_kind : Kind → Bool
is_chained_kind dyld_chained_fixups = true
is_chained_kind _ = false

-- a command that places chained fixups
abbrev pub is_chained : Command → Bool
is_chained c = is_chained_kind c.kind

-- a path that begins neither with a slash nor with a place that dyld knows (`@executable_path`, `@loader_path`, `@rpath`): dyld
-- searches it in the current folder
abbrev pub is_relative : (path : List ℕ) → Bool
is_relative path = not (starts_with nat_eq path (codes "/")) && not (starts_with nat_eq path (codes "@"))

-- ---- symbols

-- a symbol that another image defines: of the type N_UNDF, or if it is prebound N_PBUD, and no entry for a debugger
abbrev pub is_undefined : Nlist → Bool
is_undefined s = not (is_stab s) && (type_of s.n_type == 0 || type_of s.n_type == 0xc)

-- the bytes begin with the name of the function or the value that compilers use for stack canaries
abbrev pub names_canary : List ℕ → Bool
names_canary bytes = holds_name (codes "___stack_chk_fail") bytes || holds_name (codes "___stack_chk_guard") bytes

-- a symbol that can be read is undefined, and has such a name
abbrev pub is_canary : List ℕ → SymbolTable → Result Nlist Fault → Bool
is_canary bytes t (Ok s) = is_undefined s && names_canary (drop (place_after t.strtab s.n_strx) bytes)
is_canary bytes t (Err f) = false

-- a table has such a symbol
abbrev pub any_canary : List ℕ → SymbolTable → Bool
any_canary bytes t = list_any (λ (k : ℕ). is_canary bytes t (nlist_at t.ctx bytes (symbol_place t k))) (range_with_len 0 t.nsyms)

-- the table of an image has a symbol for stack canaries among those whose records begin within the bytes
abbrev pub has_canary : List ℕ → Option SymbolTable → Bool
has_canary bytes None = false
has_canary bytes (Some t) = any_canary bytes (table_in_bounds t)

-- ---- the signature (`cs_blobs.h`)

abbrev pub has_directory : Option Directory → Bool
has_directory None = false
has_directory (Some d) = true

-- the code directory that counts has a flag
abbrev pub has_code_flag : (bit : ℕ) → Option Directory → Bool
has_code_flag bit None = false
has_code_flag bit (Some d) = has_bit bit d.head.flags

-- a test of that code directory, or why it can't be read
abbrev pub directory_meets : (Option Directory → Bool) → Facts → Result Bool Fault
directory_meets test f = image_directory f.bytes f.commands >>= (λ d. Ok (test d))

-- there are bytes
abbrev pub is_filled : Option (List ℕ) → Bool
is_filled None = false
is_filled (Some []) = false
is_filled (Some (b ∷ bs)) = true

-- the first blob of a slot has bytes after its head
abbrev pub has_content : (slot : ℕ) → SuperBlob → Result Bool Fault
has_content slot s = content_of s slot >>= (λ content. Ok (is_filled content))

-- the entitlements, in XML (CSSLOT_ENTITLEMENTS) or in DER (CSSLOT_DER_ENTITLEMENTS)
abbrev pub has_entitlements : SuperBlob → Result Bool Fault
has_entitlements s = has_content 5 s >>= (λ xml. has_content 7 s >>= (λ der. Ok (xml || der)))

-- a test of a signature, if there is one
abbrev pub signature_meets : (SuperBlob → Result Bool Fault) → Option SuperBlob → Result Bool Fault
signature_meets test None = Ok false
signature_meets test (Some s) = test s

-- ---- which verdicts hold

-- Whether a verdict holds of an image, or why its signature can't be read. The flags of the header are MH_PIE,
-- MH_NO_HEAP_EXECUTION and MH_ALLOW_STACK_EXECUTION (`mach-o/loader.h`), those of the code directory CS_ADHOC, CS_RUNTIME and
-- CS_REQUIRE_LV. The message is in the slot CSSLOT_SIGNATURESLOT.
abbrev pub is_so : Facts → Verdict → Result Bool Fault
is_so f verdicts.Pie = Ok (has_bit 0x200000 f.header.flags)
is_so f verdicts.NoHeapExecution = Ok (has_bit 0x1000000 f.header.flags)
is_so f verdicts.StackExecution = Ok (has_bit 0x20000 f.header.flags)
is_so f verdicts.PointerAuthentication = Ok (is_arm64e f.header)
is_so f verdicts.StackCanary = Ok (has_canary f.bytes f.symbols)
is_so f verdicts.WritableCode = Ok (list_any (λ (s : SegmentView). is_writable_code s.command.initprot) f.segments)
is_so f verdicts.WritableCodeAllowed = Ok (list_any (λ (s : SegmentView). is_writable_code s.command.maxprot) f.segments)
is_so f verdicts.Restricted = Ok (list_any restricts f.segments)
is_so f verdicts.ChainedFixups = Ok (list_any is_chained f.commands)
is_so f verdicts.RelativeRunPaths = Ok (list_any is_relative f.run_paths)
is_so f verdicts.Encrypted = Ok (list_any is_encrypting f.commands)
is_so f verdicts.Stripped = Ok (state_of_commands f.commands f.symbols).is_stripped
is_so f verdicts.Signed = directory_meets has_directory f
is_so f verdicts.AdHoc = directory_meets (has_code_flag 0x2) f
is_so f verdicts.Cms = image_signature f.bytes f.commands >>= signature_meets (has_content 0x10000)
is_so f verdicts.HardenedRuntime = directory_meets (has_code_flag 0x10000) f
is_so f verdicts.LibraryValidation = directory_meets (has_code_flag 0x2000) f
is_so f verdicts.Entitlements = image_signature f.bytes f.commands >>= signature_meets has_entitlements
is_so f verdicts.GetTaskAllow = image_signature f.bytes f.commands >>= signature_meets allows_debuggers

-- a verdict on an image
abbrev pub finding_of : Facts → Verdict → Result Finding Fault
finding_of f verdict = is_so f verdict >>= (λ it. Ok (record { verdict = verdict; is_so = it }))

-- some verdicts on an image
abbrev pub findings_in : Facts → List Verdict → List (Result Finding Fault)
findings_in f some = map (finding_of f) some

-- all verdicts on an image, in order: whether each holds, or why its signature can't be read
abbrev pub all_findings : Facts → List (Result Finding Fault)
all_findings f = findings_in f (verdicts_for f.ctx.container)

-- these are all verdicts on the image at an offset
abbrev pub HasFindings : List ℕ → ℕ → List (Result Finding Fault) → Type 0
HasFindings bytes o items = OfFacts bytes o (λ f. items ≡ all_findings f)

-- ---- what the code's values mean

-- a verdict and whether it holds, or the fault
abbrev pub finding_read : Result Finding Error → Result Finding Fault
finding_read item = read_as (λ it. it) item

-- the verdicts that are left
abbrev pub findings_left : {A : Type 0} → Findings A → List (Result Finding Fault)
findings_left it = findings_in (facts_view it.image.now) it.rest.now

-- the name of a verdict and what `yes` means, as texts
abbrev pub words_read : Bor (List ℕ) × Bor (List ℕ) → List ℕ × List ℕ
words_read words = (words.0.now, words.1.now)
