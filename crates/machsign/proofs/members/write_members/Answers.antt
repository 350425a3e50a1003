use Rattle.std.proofs.Common.{◌++◌, ℕ, List, Bool, Result, Option, false, map, refl, sym, subst}
use Rattle.std.specs.Prelude.{codes}
use Rattle.std.specs.Io.KnownBytes.{Appends}
use Rattle.std.proofs.lemmas.Result.{IfOk-weaker}
use Rattle.mach_base.proofs.Written.{Appends-both}
use Rattle.mach_base.specs.Fault.{Fault}
use Rattle.mach_base.specs.Words.{words_of}
use Rattle.mach_parts.specs.Segment.{SegmentView, segment_view}
use Rattle.mach_parts.specs.declared.segment.Segment.{Segment}
use Rattle.mach_signature.specs.AsSigned.{SignedImage}
use Rattle.mach_signature.specs.FaultViews.{signed_view}
use Rattle.goblin_mach.specs.OpenImage.{bytes_view, commands_view, segments_view}
use Rattle.goblin_mach.specs.declared.macho.MachO.{MachO}
use Rattle.machsign.specs.ImageLines.{image_signed}
use Rattle.machsign.specs.JsonSignature.{refused_object, IsSignedObject, IsSignatureObject, unsigned_object, unreadable_object, signed_object}
use Rattle.machsign.specs.JsonSignature.{WritesSignatureMembers}
use Rattle.machsign.proofs.members.write_members.Goals as goal

abbrev front : List ℕ
front = codes "\"kind\":\"image\",\"signature\":"

abbrev view_there : {A : Type 0} → MachO A → Result (Option SignedImage) Fault
view_there m = image_signed (bytes_view m) (commands_view m) (segments_view m)

of_object : (left : ℕ) (segments : List SegmentView) (there : Result (Option SignedImage) Fault) (object : List ℕ) (whole : Bool) (rest : ℕ)
    (old middle new : Option (List ℕ))
    → IsSignatureObject left segments there object whole rest → Appends old middle front → Appends middle new object
    → WritesSignatureMembers left segments there whole rest old new
of_object left segments there object whole rest old middle new is first last = record {
  text = front ++ object;
  members = record { signature = object; is_signature = is; is_text = refl };
  written = Appends-both old middle new front object first last;
}

pub returns-in-Ok-Some : goal.returns-in-Ok-Some
returns-in-Ok-Some g c =
    let is = rw c.in-Ok-Some.field-0-is at c.in-Ok-Some.ensures in
    let left = c.args.left in
    let segments = segments_view c.args.image.now in
    IfOk-weaker c.write_signed.result _ _
    (λ outcome reported. of_object left segments (view_there c.args.image.now) reported.text outcome.whole outcome.left _ _ _
    (subst (λ (there : Result (Option SignedImage) Fault). IsSignatureObject left segments there reported.text outcome.whole outcome.left) (sym is)
    (signed_object (signed_view c.in-Ok-Some.signed) reported.text outcome.whole outcome.left
    (subst (λ (items : List Segment). IsSignedObject left (map segment_view items) (signed_view c.in-Ok-Some.signed) reported.text outcome.whole outcome.left)
    c.as_slice.ensures reported.object))) c.in_ok-write.ensures.bytes reported.written)
    c.write_signed.ensures

pub returns-in-Ok-None : goal.returns-in-Ok-None
returns-in-Ok-None g c =
    let is = rw c.in-Ok-None.field-0-is at c.in-Ok-None.ensures in
    let there = view_there c.args.image.now in
    let left = c.args.left in
    let segments = segments_view c.args.image.now in
    IfOk-weaker c.write_unsigned.result _ _
    (λ outcome reported. of_object left segments there (codes "null") outcome.whole outcome.left _ _ _
    (subst (λ (n : ℕ). IsSignatureObject left segments there (codes "null") outcome.whole n) (sym reported.1)
    (subst (λ (w : Bool). IsSignatureObject left segments there (codes "null") w left) (sym reported.0)
    (subst (λ (x : Result (Option SignedImage) Fault). IsSignatureObject left segments x (codes "null") false left) (sym is) unsigned_object)))
    c.in_ok-write.ensures.bytes reported.2)
    c.write_unsigned.ensures

pub returns-in-Err : goal.returns-in-Err
returns-in-Err g c =
    let object = refused_object (words_of c.in-Err.error) in
    let there = view_there c.args.image.now in
    let left = c.args.left in
    let segments = segments_view c.args.image.now in
    IfOk-weaker c.write_refused.result _ _
    (λ outcome reported. of_object left segments there object outcome.whole outcome.left _ _ _
    (subst (λ (n : ℕ). IsSignatureObject left segments there object outcome.whole n) (sym reported.1)
    (subst (λ (w : Bool). IsSignatureObject left segments there object w left) (sym reported.0)
    (subst (λ (x : Result (Option SignedImage) Fault). IsSignatureObject left segments x object false left) (sym c.in-Err.ensures)
    (unreadable_object c.in-Err.error))))
    c.in_ok-write.ensures.bytes reported.2)
    c.write_refused.ensures
