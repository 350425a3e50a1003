-- A fat file has one list of faults of its table.
use Rattle.std.proofs.Common.{◌≡◌, ◌++◌, ◌∷◌, [], ℕ, List, sym, ap, ◌∙◌}
use Rattle.std.specs.Prelude.{option_to_list}
use Rattle.mach_parts.specs.ArchForms.{ArchForm}
use Rattle.mach_layout.specs.Containers.{AreContainerFaults, records_out_of_file, slices_reported}
use Rattle.mach_layout.specs.declared.fault.LayoutFault.{LayoutFault}
use Rattle.mach_layout.specs.declared.fault.Rule.TheVariants as rule
use Rattle.mach_layout.proofs.OneArrangement.{one_shared}

pub one_table : (R : Type 0) (form : ArchForm R) (bytes : List ℕ) (list others : List LayoutFault)
    → AreContainerFaults form bytes list → AreContainerFaults form bytes others → list ≡ others
one_table R form bytes list others h k =
    let front : List LayoutFault =
    option_to_list (records_out_of_file form bytes)
    ++ slices_reported form bytes (rule.SliceOutOfFile ∷ rule.SliceInRecords ∷ rule.SliceAlignment ∷ rule.SliceUnaligned ∷ []) in
    let cpus : List LayoutFault = slices_reported form bytes (rule.SliceOfOtherCpu ∷ []) in
    h.joined
    ∙ ap (λ (again : List LayoutFault). front ++ again ++ cpus ++ h.sharing) (one_shared _ _ h.again k.again h.slices_again k.slices_again)
    ∙ ap (λ (sharing : List LayoutFault). front ++ k.again ++ cpus ++ sharing) (one_shared _ _ h.sharing k.sharing h.slices_share k.slices_share)
    ∙ sym k.joined
