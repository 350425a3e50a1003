use Rattle.std.proofs.Common.{◌∙◌, Option, ap, map, subst, sym}
use Rattle.std.specs.Prelude.{OnOk}
use Rattle.std.proofs.lemmas.Result.{on_ok_weaker}
use Rattle.std.specs.Io.KnownBytes.{Appends}
use Rattle.mach_base.proofs.Written.{Appends-both}
use Rattle.mach_parts.specs.Segment.{segment_view}
use Rattle.machsign.specs.Faults.{shown_fault_text, object_by}
use Rattle.mach_signature.specs.Pages.{place_of}
use Rattle.machsign.specs.declared.form.Form.{Form}
use Rattle.mach_signature.specs.declared.page.ChangedPage.{ChangedPage}
use Rattle.mach_signature.specs.declared.page.Place.{Place}
use Rattle.machsign.proofs.faults.write_fault.Goals as goal

pub returns-in_ok-write-in-Objects : goal.returns-in_ok-write-in-Objects
returns-in_ok-write-in-Objects g c =
    let segments = map segment_view c.args.segments.now in
    let old = g.O.Write.contents c.args.out.now in
    let middle = g.O.Write.contents c.write.new.self in
    let new = g.O.Write.contents c.write_object.new.out in
    let place = c.place_of.ensures ∙ ap (λ (page : Option ChangedPage). place_of segments page) c.page_of.ensures in
    let object = subst (λ (p : Place). OnOk c.write_object.result (Appends middle new (object_by p c.args.fault.now)))
    place c.write_object.ensures in
    subst (λ (form : Form). OnOk c.write_object.result
    (Appends old new (shown_fault_text form segments c.args.is_first c.args.fault.now))) (sym c.in-Objects.is)
    (on_ok_weaker c.write_object.result
    (λ last. Appends-both old middle new _ _ (rw c.comma_before-comma.ensures at c.in_ok-write-in-Objects.ensures.bytes) last) object)
