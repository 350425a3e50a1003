use Rattle.std.proofs.Common.{ap, ◌≡◌, ◌==◌, ℕ, List, [], ◌∷◌, length, refl, subst, take, ◌∙◌, arith}
use Rattle.std.specs.Prelude.{nat_lt}
use Rattle.std.proofs.lemmas.Bool.{ne_eqb}
use Rattle.std.specs.Io.KnownBytes.{Appends}
use Rattle.mach_base.proofs.Written.{Appends-both}
use Rattle.mach_cli.specs.Listings.{cut_line}
use Rattle.mach_layout.specs.declared.fault.LayoutFault.{LayoutFault}
use Rattle.machfat.specs.Faults.{fault_lines, is_faultless}
use Rattle.machfat.proofs.verify.verify.Goals as goal

-- there is no fault exactly if the list has no item
none_is : (faults : List LayoutFault) → (length faults == 0) ≡ is_faultless faults
none_is [] = refl
none_is (fault ∷ faults) = ne_eqb (length (fault ∷ faults)) 0 (λ none. omega (arith, none))

pub returns-clause-reported : goal.returns-clause-reported
returns-clause-reported g c =
    let faults = c.in_ok-faults.faults.items in
    let limit = c.args.limit in
    let out = g.O.Write.contents in
    let ok = c.in_ok-faults.faults.ok.0 in
    let first = c.first_of.ensures ∙ ap (take limit) c.deref.ensures.value in
    let lines = subst (λ (list : List LayoutFault). Appends (out c.args.out.now) (out c.print_faults.new.out) (fault_lines list)) first
    c.in_ok-print_faults.ensures in
    let cut = subst (λ (n : ℕ). Appends (out c.print_faults.new.out) (out c.print_cut.new.out) (cut_line limit (nat_lt limit n)))
    (c.len.ensures ∙ ok) c.in_ok-print_cut.ensures in (
      faults,
      c.is_empty.ensures ∙ ap (λ n. n == 0) ok ∙ none_is faults,
      record {
        has = c.in_ok-faults.ensures.faults;
        reported = Appends-both _ _ _ (fault_lines (take limit faults)) (cut_line limit (nat_lt limit (length faults))) lines cut;
      },
    )
