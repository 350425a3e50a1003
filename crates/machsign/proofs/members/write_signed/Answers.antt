use Rattle.std.proofs.Common.{◌++◌, ℕ, Bool, Option, length, map, refl, subst}
use Rattle.std.specs.Io.KnownBytes.{Appends}
use Rattle.std.specs.Prelude.{codes}
use Rattle.mach_base.proofs.ItemLists.{read_as-Reads}
use Rattle.mach_base.proofs.Written.{Appends-both}
use Rattle.mach_parts.specs.Segment.{segment_view}
use Rattle.mach_signature.specs.AsSigned.{signature_faults_of}
use Rattle.mach_signature.specs.FaultViews.{signed_view}
use Rattle.machsign.specs.Blobs.{blobs_array, other_blobs_of}
use Rattle.mach_signature.specs.EntitlementAgreement.{agreement_in}
use Rattle.machsign.specs.Faults.{ReportsFaults}
use Rattle.machsign.specs.JsonSignature.{before_faults, after_faults}
use Rattle.mach_signature.specs.Pages.{shown_faults}
use Rattle.machsign.specs.Signatures.{is_cut}
use Rattle.mach_signature.specs.declared.entitlements.agreement.Agreement.{Agreement}
use Rattle.machsign.specs.declared.form.Form.TheVariants.{Objects}
use Rattle.mach_signature.proofs.Entitled.{both_same}
use Rattle.machsign.proofs.Limited.{blobs_arrayed}
use Rattle.machsign.proofs.ListProgress.{counted}
use Rattle.machsign.proofs.Written.{three}
use Rattle.machsign.proofs.members.write_signed.Goals as goal

pub returns : goal.returns
returns g c =
    let x = signed_view c.args.signed.now in
    let left = c.args.left in
    let blobs = other_blobs_of x.signature in
    let segments = map segment_view c.args.segments.now in
    let seen = shown_faults x in
    let directory = c.directory-directory.result in
    let before = c.in_ok-blobs.blobs in
    let following = c.in_ok-faults.faults in
    let rows = blobs_arrayed c.of-rows.result blobs left _ _ before c.of-rows.ensures.blobs c.of-rows.ensures.form c.in_ok-blobs.ensures in
    let reported = c.in_ok-faults.ensures in
    let count = counted left (length blobs) (signature_faults_of x) seen before.left before.more following rows.1 rows.2 reported.counts in
    let last = subst
    (λ (more : Bool).
    Appends (g.O.Write.contents c.write_faults.new.out) (g.O.Write.contents c.write_after.new.out) (after_faults x more directory))
    count.0 c.in_ok-write_after.ensures in
    let front = codes "{\"blobs\":" ++ blobs_array left x.signature in
    let agreement = agreement_in x.signature in
    let before_text = subst
    (λ (a : Option Agreement).
    Appends (g.O.Write.contents c.print_array.new.out) (g.O.Write.contents c.write_before.new.out) (before_faults a directory))
    c.agreement_in.ensures c.in_ok-write_before.ensures in
    let back = before_faults agreement directory ++ (reported.text ++ after_faults x (is_cut left x) directory) in record {
      text = front ++ back;
      object = record {
        directory = directory;
        is_directory = read_as-Reads _ _ _ c.directory-directory.ensures.value;
        faults = reported.text;
        are_faults = subst (λ (n : ℕ). ReportsFaults Objects segments n seen reported.text) rows.1 reported.reports;
        is_text = refl;
        is_whole = both_same _ _ _ _ count.1 c.has_sound_parts.ensures;
        is_rest = count.2;
      };
      written = Appends-both _ _ _ front back (Appends-both _ _ _ _ _ c.in_ok-write.ensures.bytes rows.0)
          (three _ _ _ _ _ _ _ before_text reported.written last);
    }
