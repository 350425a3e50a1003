use Rattle.std.proofs.Common.{◌≡◌, ◌++◌, Bool, List, Option, refl, ap, ◌∙◌, append_assoc}
use Rattle.std.specs.Prelude.{option_to_list}
use Rattle.mach_dyld.specs.BindingFaults.{has_fault}
use Rattle.mach_dyld.specs.BindingsLeft.{opcode_bindings_left}
use Rattle.mach_dyld.specs.RebasesLeft.{opcode_rebases_left}
use Rattle.mach_dyld.specs.WeakBindsLeft.{weak_binds_left}
use Rattle.mach_load.specs.TablesLeft.{starts_left}
use Rattle.goblin_mach.specs.Held.{laid_view}
use Rattle.goblin_mach.specs.ListFaults.{reported_where}
use Rattle.mach_layout.specs.Laid.{Laid}
use Rattle.mach_layout.specs.Lists.{function_starts_fault, opcodes_fault}
use Rattle.mach_layout.specs.declared.fault.LayoutFault.{LayoutFault}
use Rattle.mach_layout.specs.declared.fault.Part.TheVariants as part
use Rattle.mach_layout.specs.declared.fault.Rule.TheVariants as rule
use Rattle.goblin_mach.proofs.layout.lists.list_faults.Goals as goal

-- the fault of a list, as the definitions have it
reported_of : (result : Option LayoutFault) (occurs : Bool) (fault : LayoutFault) → option_to_list result ≡ reported_where occurs fault
    → (some : Bool) → occurs ≡ some → (other : LayoutFault) → fault ≡ other → option_to_list result ≡ reported_where some other
reported_of result occurs fault reported some same other alike =
    reported ∙ ap (λ (b : Bool). reported_where b fault) same ∙ ap (λ (f : LayoutFault). reported_where some f) alike

grouped : (old a b c d : List LayoutFault) → old ++ a ++ b ++ c ++ d ≡ old ++ (a ++ b ++ c ++ d)
grouped old a b c d = simp append_assoc

-- one after the other
following : (x y z more reported : List LayoutFault) → x ≡ y ++ more → more ≡ reported → y ≡ z → x ≡ z ++ reported
following x y z more reported e f h = e ∙ ap (λ ms. y ++ ms) f ∙ ap (λ ys. ys ++ reported) h

pub returns-clause-reported : goal.returns-clause-reported
returns-clause-reported g c =
    let laid = laid_view c.args.image.now in
    let old = c.args.faults.now.items in
    let same = c.layout_of-layout.ensures in
    let bindings = opcode_bindings_left c.opcode_bindings.result in
    let rebases = opcode_rebases_left c.opcode_rebases.result in
    let weak_binds = weak_binds_left c.weak_binds.result in
    let starts = starts_left c.function_starts.result in
    let of_bindings = opcodes_fault rule.Binds part.Binds laid in
    let of_rebases = opcodes_fault rule.Rebases part.RebaseOpcodes laid in
    let of_weak_binds = opcodes_fault rule.WeakBinds part.WeakBindOpcodes laid in
    let of_starts = function_starts_fault laid in
    let one = reported_where (has_fault bindings) of_bindings in
    let two = reported_where (has_fault rebases) of_rebases in
    let three = reported_where (has_fault weak_binds) of_weak_binds in
    let four = reported_where (has_fault starts) of_starts in
    let first = reported_of c.reported_where.result c.has_fault.result c.opcodes_fault-binds.result c.reported_where.ensures
    (has_fault bindings) c.has_fault.ensures
    of_bindings (c.opcodes_fault-binds.ensures ∙ ap (λ (l : Laid). opcodes_fault rule.Binds part.Binds l) same) in
    let second = reported_of c.reported_where-2.result c.has_fault-2.result c.opcodes_fault-rebases.result c.reported_where-2.ensures (has_fault rebases)
    c.has_fault-2.ensures of_rebases (c.opcodes_fault-rebases.ensures ∙ ap (λ (l : Laid). opcodes_fault rule.Rebases part.RebaseOpcodes l) same) in
    let third = reported_of c.reported_where-3.result c.has_fault-3.result c.opcodes_fault-weak_binds.result c.reported_where-3.ensures (has_fault weak_binds)
    c.has_fault-3.ensures of_weak_binds (c.opcodes_fault-weak_binds.ensures ∙ ap (λ (l : Laid). opcodes_fault rule.WeakBinds part.WeakBindOpcodes l) same) in
    let fourth = reported_of c.reported_where-4.result c.is_start_fault_among.result c.function_starts_fault-starts.result c.reported_where-4.ensures
    (has_fault starts)
    c.is_start_fault_among.ensures of_starts (c.function_starts_fault-starts.ensures ∙ ap (λ (l : Laid). function_starts_fault l) same) in
    let after = following c.add.new.faults.items old old (option_to_list c.reported_where.result) one c.in_ok-add.ensures.reported first refl in
    let after-2 = following c.add-2.new.faults.items c.add.new.faults.items (old ++ one) (option_to_list c.reported_where-2.result) two
    c.in_ok-add-2.ensures.reported second after in
    let after-3 = following c.add-3.new.faults.items c.add-2.new.faults.items (old ++ one ++ two) (option_to_list c.reported_where-3.result) three
    c.in_ok-add-3.ensures.reported third after-2 in
    let after-4 = following c.add-4.new.faults.items c.add-3.new.faults.items (old ++ one ++ two ++ three) (option_to_list c.reported_where-4.result) four
    c.in_ok-add-4.ensures.reported fourth after-3 in (
      one ++ two ++ three ++ four,
      record {
        bindings = bindings;
        rebases = rebases;
        weak_binds = weak_binds;
        starts = starts;
        are_bindings = c.opcode_bindings.ensures;
        are_rebases = c.opcode_rebases.ensures;
        are_weak_binds = c.weak_binds.ensures;
        are_starts = c.function_starts.ensures;
        reported = refl;
      },
      after-4 ∙ grouped old one two three four,
    )
