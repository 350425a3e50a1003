-- What the verdicts on how an image is hardened show, field by field.
use Rattle.std.specs.Prelude.{ℕ, List, [], ◌∷◌, codes, Bool, true, false}
use Rattle.mach_audit.specs.Security.{finding_words}
use Rattle.mach_audit.specs.declared.security.Finding.{Finding}
use Rattle.mach_audit.specs.declared.security.Verdict.{Verdict}
use Rattle.mach_audit.specs.declared.security.Verdict.TheVariants as verdicts
use Rattle.mach_cli.specs.Fields.{FieldView, field_of, flag, line_field, text, wide_field}
use Rattle.machinfo.specs.PartFields.{column_if}

-- what turns a verdict on: an option of the linker, the compiler or the tool that signs
abbrev pub turned_on_by : Verdict → List ℕ
turned_on_by verdicts.NoHeapExecution = codes "ld for i386, unless -allow_heap_execute is given"
turned_on_by verdicts.Pie = codes "ld -pie"
turned_on_by verdicts.StackExecution = codes "ld -allow_stack_execute"
turned_on_by verdicts.PointerAuthentication = codes "clang -arch arm64e"
turned_on_by verdicts.StackCanary = codes "clang -fstack-protector-strong"
turned_on_by verdicts.WritableCode = codes "ld -segprot SEGMENT rwx rwx"
turned_on_by verdicts.WritableCodeAllowed = codes "ld -segprot SEGMENT rwx rx"
turned_on_by verdicts.Restricted = codes "ld -sectcreate __RESTRICT __restrict /dev/null"
turned_on_by verdicts.ChainedFixups = codes "ld -fixup_chains"
turned_on_by verdicts.RelativeRunPaths = codes "ld -rpath PATH"
turned_on_by verdicts.Encrypted = codes "the App Store"
turned_on_by verdicts.Stripped = codes "strip"
turned_on_by verdicts.Signed = codes "codesign -s IDENTITY"
turned_on_by verdicts.AdHoc = codes "codesign -s -, or ld -adhoc_codesign"
turned_on_by verdicts.Cms = codes "codesign -s IDENTITY"
turned_on_by verdicts.HardenedRuntime = codes "codesign -o runtime"
turned_on_by verdicts.LibraryValidation = codes "codesign -o library"
turned_on_by verdicts.Entitlements = codes "codesign --entitlements FILE"
turned_on_by verdicts.GetTaskAllow = codes "that entitlement, as Xcode gives it to debug builds"

-- the name of the verdict, whether it holds, what `yes` means, and what turns it on; a line has that only if it is explained
abbrev pub fields_of_finding : (is_explained : Bool) → Finding → List FieldView
fields_of_finding is_explained it =
    field_of (codes "is_so") (flag it.is_so (codes "yes") (codes "no ")) 2
    ∷ field_of (codes "meaning") (text (finding_words it.verdict).1) 3
    ∷ wide_field 22 (field_of (codes "name") (text (finding_words it.verdict).0) 1)
    ∷ field_of (codes "turned_on_by") (text (turned_on_by it.verdict)) (column_if is_explained 5)
    ∷ line_field (text (codes "- turned on by")) (column_if is_explained 4)
    ∷ []

abbrev pub finding_fields : Finding → List FieldView
finding_fields it = fields_of_finding false it

abbrev pub explained_fields : Finding → List FieldView
explained_fields it = fields_of_finding true it
