use Rattle.std.proofs.Common.{Result, sym, subst}
use Rattle.std.proofs.lemmas.Result.{on_ok_weaker}
use Rattle.std.specs.Io.KnownBytes.{Appends}
use Rattle.std.specs.Prelude.{OnOk}
use Rattle.mach_base.specs.Fault.{Fault}
use Rattle.mach_signature.specs.Directories.{Directory}
use Rattle.mach_signature.specs.FaultViews.{signed_view}
use Rattle.machsign.specs.Kinds.{kind_line}
use Rattle.machsign.specs.Signatures.{directories_front}
use Rattle.mach_signature.specs.declared.kind.Kind.{Kind}
use Rattle.machsign.proofs.Written.{three}
use Rattle.machsign.proofs.print.print_front.Goals as goal

pub returns-in_ok-print_each_directory-in-Ok : goal.returns-in_ok-print_each_directory-in-Ok
returns-in_ok-print_each_directory-in-Ok g c =
    let old = g.O.Write.contents c.args.out.now in
    let new = g.O.Write.contents c.print_requirements.new.out in
    let kind = subst (λ (k : Kind). Appends old (g.O.Write.contents c.print_kind.new.out) (kind_line k)) c.of.ensures c.in_ok-print_kind-in-Ok.ensures in
    subst (λ (d : Result Directory Fault). OnOk c.print_requirements.result (Appends old new (directories_front (signed_view c.args.signed.now) d)))
    (sym c.in-Ok.ensures.value)
    (on_ok_weaker c.print_requirements.result (λ last. three _ _ _ _ _ _ _ kind c.in_ok-print_each_directory-in-Ok.ensures last) c.print_requirements.ensures)
