use Rattle.std.proofs.Common.{◌≡◌, [], ◌∷◌, ◌++◌, ◌+◌, ◌∙◌, ℕ, Bool, true, List, Option, length, map, refl, sym, ap, subst, arith}
use Rattle.std.proofs.lemmas.Bool.{eq-eqb, ne_eqb}
use Rattle.std.proofs.lemmas.List.{map-append}
use Rattle.std.specs.Prelude.{◌==◌, not}
use Rattle.std.specs.Io.KnownBytes.{Appends}
use Rattle.mach_base.proofs.Written.{Appends-none}
use Rattle.mach_cli.proofs.Arrays.{element_written}
use Rattle.mach_cli.proofs.Arrays as arrays
use Rattle.mach_cli.specs.JsonArrays.{with_commas}
use Rattle.mach_parts.specs.Segment.{SegmentView, segment_view}
use Rattle.mach_signature.specs.AsSigned.{signature_faults_of}
use Rattle.mach_signature.specs.Directories.{Directory}
use Rattle.mach_signature.specs.FaultViews.{signature_fault_view, signature_faults_left, signed_view}
use Rattle.mach_signature.specs.declared.fault.SignatureFault.{SignatureFault}
use Rattle.machsign.specs.Faults.{fault_line, fault_object, shown_fault_text, faults_text, has_none}
use Rattle.mach_signature.specs.Pages.{is_repeated, is_shown, page_in_fault}
use Rattle.machsign.specs.declared.form.Form.{Form}
use Rattle.machsign.specs.declared.form.Form.TheVariants.{Lines, Objects}
use Rattle.machsign.proofs.ListProgress.{one_passed}
use Rattle.machsign.proofs.Written.{no_parts, part_more}
use Rattle.machsign.proofs.faults.write_faults.Goals as goal

-- a fault is the first exactly if none was printed before it
first_is : (left limit : ℕ) (done : List SignatureFault) → left + length done ≡ limit → (left == limit) ≡ has_none done
first_is left limit [] e = eq-eqb left limit (omega (arith, e))
first_is left limit (x ∷ xs) e = ne_eqb left limit (omega (arith, e))

as_many : (f : SignatureFault → List ℕ) (done : List SignatureFault) → has_none done ≡ arrays.has_none (map f done)
as_many f [] = refl
as_many f (x ∷ xs) = refl

none_written : (form : Form) (segments : List SegmentView) (known : Option (List ℕ)) → Appends known known (faults_text form segments [])
none_written Lines segments known = no_parts (fault_line segments) known
none_written Objects segments known = Appends-none known

-- one more fault was written
one_written : (form : Form) (segments : List SegmentView) (done : List SignatureFault) (fault : SignatureFault) (is_first : Bool)
    (old middle new : Option (List ℕ)) → is_first ≡ has_none done → Appends old middle (faults_text form segments done)
    → Appends middle new (shown_fault_text form segments is_first fault) → Appends old new (faults_text form segments (done ++ fault ∷ []))
one_written Lines segments done fault is_first old middle new first written more = part_more (fault_line segments) done fault old middle new written more
one_written Objects segments done fault is_first old middle new first written more =
    subst (λ (objects : List (List ℕ)). Appends old new (with_commas objects)) (sym (map-append (fault_object segments) done (fault ∷ [])))
    (element_written (map (fault_object segments) done) (fault_object segments fault) is_first old middle new written
    (first ∙ as_many (fault_object segments) done) more)

pub faults-preserved : goal.faults-preserved
faults-preserved g c =
    let before = c.faults.invariant in
    let fault = c.in-Some.fault in
    let x = signed_view c.args.signed.now in
    let segments = map segment_view c.args.segments.now in
    let shown : is_shown x (signature_fault_view fault) ≡ true =
    ap not (ap (λ (first : Option Directory). is_repeated x.bytes first (page_in_fault (signature_fault_view fault))) (sym c.first_directory-first.ensures)
    ∙ sym c.is_repeated.ensures ∙ c.if-is_repeated.false) in (
      before.0 ++ fault ∷ [],
      rw c.in-Some-checked_sub.ensures.1
          (one_passed (is_shown x) c.args.limit (signature_faults_of x) (signature_faults_left c.faults.faults) (signature_faults_left c.next.new.self)
          c.faults.left c.faults.whole before.0 (signature_fault_view fault) before.1 c.in-Some.ensures.steps fault refl shown
          c.in-Some-checked_sub.ensures.0),
      one_written c.args.form segments before.0 fault (c.faults.left == c.args.limit) _ _ _
          (first_is c.faults.left c.args.limit before.0 before.1.count) before.2 c.in_ok-write_fault.ensures,
    )
