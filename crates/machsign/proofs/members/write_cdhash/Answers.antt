use Rattle.std.proofs.Common.{◌++◌, ℕ, List, subst}
use Rattle.std.proofs.lemmas.Result.{on_ok_weaker}
use Rattle.std.specs.Io.KnownBytes.{Appends}
use Rattle.std.specs.Prelude.{codes}
use Rattle.mach_base.proofs.Written.{Appends-both}
use Rattle.mach_signature.specs.Directories.{cdhash_of, full_cdhash_of}
use Rattle.mach_signature.specs.DirectoryViews.{directory_view}
use Rattle.mach_cli.specs.SignatureNames.{bytes_text}
use Rattle.machsign.specs.AgreementTexts.{agreement_object}
use Rattle.machsign.specs.JsonSignature.{executable_object}
use Rattle.machsign.proofs.Written.{four}
use Rattle.machsign.proofs.members.write_cdhash.Goals as goal

pub returns : goal.returns
returns g c =
    let middle = g.O.Write.contents c.write.new.self in
    let next = g.O.Write.contents c.print_bytes.new.out in
    let d = directory_view c.args.directory.now in
    let full = bytes_text (full_cdhash_of d) in
    let back = codes "\",\"entitlements_compared\":" ++ (agreement_object c.args.agreement
    ++ (codes ",\"executable\":" ++ (executable_object d.executable ++ codes ",\"faults\":["))) in
    on_ok_weaker c.write-3.result
    (λ last. four _ _ _ _ _ (codes ",\"cdhash\":\"") (bytes_text (cdhash_of d)) (codes "\",\"cdhash_full\":\"") (full ++ back) c.in_ok-write.ensures.bytes
    (subst (λ (bytes : List ℕ). Appends middle next (bytes_text bytes)) c.cdhash.ensures c.in_ok-print_bytes.ensures) c.in_ok-write-2.ensures.bytes
    (Appends-both _ _ _ full back c.in_ok-print_full_hash.ensures last))
    c.write-3.ensures.bytes
