use Rattle.std.proofs.Common.{◌≡◌, ◌∙◌, ℕ, List, None, Result, Ok, Err, ap, map, sym, take}
use Rattle.std.proofs.lemmas.List.{take-map, take_min}
use Rattle.std.specs.Result.{result_unwrap_or}
use Rattle.mach_base.specs.Answer.{Reads}
use Rattle.mach_base.specs.Fault.{Fault}
use Rattle.mach_base.specs.declared.error.Error.{Error}
use Rattle.mach_parts.specs.SectionRecord.{section_by_number}
use Rattle.mach_parts.specs.Segment.{SegmentView, segment_view}
use Rattle.machinfo.proofs.relocations.section_among_first.Goals as goal

-- what was read, or a default if it can't be read
read_or : {X : Type 0} (answer : Result X Error) (there : Result X Fault) (default : X) → Reads (λ x. x) answer there
    → result_unwrap_or answer default ≡ result_unwrap_or there default
read_or (Ok x) there default is = sym (ap (λ t. result_unwrap_or t default) is)
read_or (Err e) there default is = sym (ap (λ t. result_unwrap_or t default) is)

pub returns : goal.returns
returns c =
    let segments = c.args.segments.now in
    c.unwrap_or.ensures
    ∙ read_or c.section_of.result _ None c.section_of.ensures
    ∙ ap (λ (first : List SegmentView). result_unwrap_or (section_by_number first c.args.number) None)
    (ap (λ (n : ℕ). map segment_view (take n segments)) c.min.ensures
    ∙ ap (map segment_view) (take_min 16 segments)
    ∙ sym (take-map segment_view 16 segments))
