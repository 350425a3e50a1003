use Rattle.std.proofs.Common.{◌++◌, ℕ, List, Bool, Result, Option, false, map, sym, subst}
use Rattle.std.specs.Prelude.{codes}
use Rattle.std.proofs.lemmas.Result.{IfOk-weaker}
use Rattle.mach_base.specs.Fault.{Fault}
use Rattle.mach_base.specs.Words.{words_of}
use Rattle.mach_parts.specs.Segment.{segment_view}
use Rattle.mach_parts.specs.declared.segment.Segment.{Segment}
use Rattle.mach_signature.specs.AsSigned.{SignedImage}
use Rattle.mach_signature.specs.FaultViews.{signed_view}
use Rattle.goblin_mach.specs.OpenImage.{bytes_view, commands_view, segments_view}
use Rattle.goblin_mach.specs.declared.macho.MachO.{MachO}
use Rattle.machsign.specs.ImageLines.{image_signed}
use Rattle.machsign.specs.Signatures.{AreSignedLines, AreSignatureLines, unsigned, unreadable, signed}
use Rattle.machsign.proofs.print.print_signature.Goals as goal

abbrev view_there : {A : Type 0} → MachO A → Result (Option SignedImage) Fault
view_there m = image_signed (bytes_view m) (commands_view m) (segments_view m)

pub returns-in-Ok-Some : goal.returns-in-Ok-Some
returns-in-Ok-Some g c =
    let is = rw c.in-Ok-Some.field-0-is at c.in-Ok-Some.ensures in
    IfOk-weaker c.print_signed.result _ _
    (λ outcome reported. record {
      text = reported.text;
      lines = subst (λ (there : Result (Option SignedImage) Fault).
          AreSignatureLines c.args.limit c.args.left (segments_view c.args.image.now) there reported.text outcome.whole outcome.left)
          (sym is) (signed (signed_view c.in-Ok-Some.signed) reported.text outcome.whole outcome.left
          (subst (λ (items : List Segment).
          AreSignedLines c.args.limit c.args.left (map segment_view items) (signed_view c.in-Ok-Some.signed) reported.text outcome.whole outcome.left)
          c.as_slice.ensures reported.lines));
      written = reported.written;
    })
    c.print_signed.ensures

pub returns-in-Ok-None : goal.returns-in-Ok-None
returns-in-Ok-None g c =
    let is = rw c.in-Ok-None.field-0-is at c.in-Ok-None.ensures in
    let there = view_there c.args.image.now in
    let segments = segments_view c.args.image.now in
    let limit = c.args.limit in
    let left = c.args.left in
    IfOk-weaker c.print_unsigned.result _ _
    (λ outcome reported. record {
      text = codes "not signed\n";
      lines = subst (λ (n : ℕ). AreSignatureLines limit left segments there (codes "not signed\n") outcome.whole n) (sym reported.1)
          (subst (λ (w : Bool). AreSignatureLines limit left segments there (codes "not signed\n") w left) (sym reported.0)
          (subst (λ (x : Result (Option SignedImage) Fault). AreSignatureLines limit left segments x (codes "not signed\n") false left) (sym is) unsigned));
      written = reported.2;
    })
    c.print_unsigned.ensures

pub returns-in-Err : goal.returns-in-Err
returns-in-Err g c =
    let text = codes "refused: " ++ (words_of c.in-Err.error ++ codes "\n") in
    let there = view_there c.args.image.now in
    let segments = segments_view c.args.image.now in
    let limit = c.args.limit in
    let left = c.args.left in
    IfOk-weaker c.print_refused.result _ _
    (λ outcome reported. record {
      text = text;
      lines = subst (λ (n : ℕ). AreSignatureLines limit left segments there text outcome.whole n) (sym reported.1)
          (subst (λ (w : Bool). AreSignatureLines limit left segments there text w left) (sym reported.0)
          (subst (λ (x : Result (Option SignedImage) Fault). AreSignatureLines limit left segments x text false left) (sym c.in-Err.ensures)
          (unreadable c.in-Err.error)));
      written = reported.2;
    })
    c.print_refused.ensures
