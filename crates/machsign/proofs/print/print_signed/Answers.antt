use Rattle.std.proofs.Common.{◌++◌, ℕ, Bool, length, map, refl, subst}
use Rattle.std.specs.Io.KnownBytes.{Appends}
use Rattle.mach_parts.specs.Segment.{segment_view}
use Rattle.mach_signature.specs.AsSigned.{signature_faults_of}
use Rattle.mach_signature.specs.FaultViews.{signed_view}
use Rattle.machsign.specs.Blobs.{blobs_lines, other_blobs_of}
use Rattle.machsign.specs.Faults.{ReportsFaults}
use Rattle.mach_signature.specs.Pages.{shown_faults}
use Rattle.machsign.specs.Signatures.{back_lines, front_lines, is_cut}
use Rattle.machsign.specs.declared.form.Form.TheVariants.{Lines}
use Rattle.mach_signature.proofs.Entitled.{both_same}
use Rattle.machsign.proofs.Limited.{blobs_written}
use Rattle.machsign.proofs.ListProgress.{counted}
use Rattle.machsign.proofs.Written.{four}
use Rattle.machsign.proofs.print.print_signed.Goals as goal

pub returns : goal.returns
returns g c =
    let x = signed_view c.args.signed.now in
    let limit = c.args.limit in
    let left = c.args.left in
    let blobs = other_blobs_of x.signature in
    let segments = map segment_view c.args.segments.now in
    let seen = shown_faults x in
    let before = c.in_ok-blobs.blobs in
    let following = c.in_ok-faults.faults in
    let rows = blobs_written c.of-rows.result blobs left _ _ before c.of-rows.ensures.blobs c.of-rows.ensures.form c.in_ok-blobs.ensures in
    let reported = c.in_ok-faults.ensures in
    let count = counted left (length blobs) (signature_faults_of x) seen before.left before.more following rows.1 rows.2 reported.counts in
    let cut = subst
    (λ (more : Bool). Appends (g.O.Write.contents c.write_faults.new.out) (g.O.Write.contents c.print_back.new.out) (back_lines x limit more))
    count.0 c.in_ok-print_back.ensures in record {
      text = front_lines x ++ (blobs_lines left x.signature ++ (reported.text ++ back_lines x limit (is_cut left x)));
      lines = record {
        faults = reported.text;
        are_faults = subst (λ (n : ℕ). ReportsFaults Lines segments n seen reported.text) rows.1 reported.reports;
        is_text = refl;
        is_whole = both_same _ _ _ _ count.1 c.has_sound_parts.ensures;
        is_rest = count.2;
      };
      written = four _ _ _ _ _ (front_lines x) (blobs_lines left x.signature) reported.text (back_lines x limit (is_cut left x))
          c.in_ok-print_front.ensures rows.0 reported.written cut;
    }
