-- What contracts see of faults, and the items that their iterators have left.
use Rattle.std.specs.Prelude.{ℕ, List, [], ◌++◌, map, flat_map, option_to_list, Option, Some, None, Result}
use Rattle.std.specs.Option.{option_map}
use Rattle.mach_base.specs.declared.error.Error.{Error}
use Rattle.mach_base.specs.Fault.{Fault, fault_of}
use Rattle.mach_signature.specs.AsSigned.{SignedImage, DirectoryFaultView, identifier_refused, team_refused, short, of_code, of_special}
use Rattle.mach_signature.specs.AsSigned.{SignatureFaultView, blob_refused, wrong_magic, directory_refused, of_first, of_alternate, of_slot, slot_faults_of}
use Rattle.mach_signature.specs.AsSigned.{blob_fault}
use Rattle.mach_signature.specs.ChosenViews.{directories_left}
use Rattle.mach_signature.specs.CodeFaultViews.{code_faults_left}
use Rattle.mach_signature.specs.DirectoryViews.{slot_read}
use Rattle.mach_signature.specs.Numbered.{reported_left}
use Rattle.mach_signature.specs.SignViews.{signature_view}
use Rattle.mach_signature.specs.SpecialFaultViews.{special_faults_left}
use Rattle.mach_signature.specs.declared.fault.DirectoryFault.{DirectoryFault}
use Rattle.mach_signature.specs.declared.fault.DirectoryFault.TheVariants as directory
use Rattle.mach_signature.specs.declared.fault.SignatureFault.{SignatureFault}
use Rattle.mach_signature.specs.declared.fault.SignatureFault.TheVariants as signature
use Rattle.mach_signature.specs.declared.faults.BlobTests.{BlobTests}
use Rattle.mach_signature.specs.declared.faults.Current.{Current}
use Rattle.mach_signature.specs.declared.faults.DirectoryFaults.{DirectoryFaults}
use Rattle.mach_signature.specs.declared.faults.SignatureFaults.{SignatureFaults}
use Rattle.mach_signature.specs.declared.faults.SignedBytes.{SignedBytes}

abbrev pub directory_fault_view : DirectoryFault → DirectoryFaultView
directory_fault_view (directory.Identifier e) = identifier_refused (fault_of e)
directory_fault_view (directory.Team e) = team_refused (fault_of e)
directory_fault_view (directory.Short limit dataoff) = short limit dataoff
directory_fault_view (directory.Code fault) = of_code fault
directory_fault_view (directory.Special fault) = of_special fault

abbrev pub signature_fault_view : SignatureFault → SignatureFaultView
signature_fault_view (signature.Blob index error) = blob_refused index (fault_of error)
signature_fault_view (signature.Magic index slot magic) = wrong_magic index slot magic
signature_fault_view (signature.Refused e) = directory_refused (fault_of e)
signature_fault_view (signature.First fault) = of_first (directory_fault_view fault)
signature_fault_view (signature.Alternate slot fault) = of_alternate slot (directory_fault_view fault)

abbrev pub signed_view : SignedBytes → SignedImage
signed_view x = record { bytes = x.image.now; dataoff = x.dataoff; signature = signature_view x.signature; plist = slot_read x.plist }

abbrev pub blobs_tested : BlobTests → ℕ
blobs_tested b = b.signature.count

abbrev pub blob_tested : BlobTests → ℕ → Option SignatureFaultView
blob_tested b k = blob_fault (signature_view b.signature) k

-- a stored error, as the fault that it reports
abbrev pub kept_fault : Option Error → List Fault
kept_fault kept = option_to_list (option_map fault_of kept)

unfoldable pub directory_faults_left : DirectoryFaults → List DirectoryFaultView
directory_faults_left it =
    map identifier_refused (kept_fault it.identifier)
    ++ (map team_refused (kept_fault it.team)
    ++ (map directory_fault_view (option_to_list it.short)
    ++ (map of_code (code_faults_left it.code)
    ++ map of_special (special_faults_left it.special))))

-- the faults left of the directory that is being judged, if one is
abbrev pub slot_faults_left : ℕ → Option DirectoryFaults → List SignatureFaultView
slot_faults_left slot None = []
slot_faults_left slot (Some it) = map (of_slot slot) (directory_faults_left it)

unfoldable pub current_left : Current → List SignatureFaultView
current_left it = slot_faults_left it.slot it.faults

unfoldable pub signature_faults_left : SignatureFaults → List SignatureFaultView
signature_faults_left it =
    reported_left blobs_tested blob_tested it.blobs
    ++ (map directory_refused (kept_fault it.refused)
    ++ (current_left it.current
    ++ flat_map (slot_faults_of (signed_view it.signed)) (directories_left it.directories)))
