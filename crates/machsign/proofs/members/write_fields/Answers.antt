use Rattle.std.proofs.Common.{subst}
use Rattle.std.proofs.lemmas.Result.{on_ok_weaker}
use Rattle.std.specs.Io.KnownBytes.{Appends}
use Rattle.mach_base.proofs.Written.{Appends-both}
use Rattle.machsign.specs.JsonSignature.{kind_members, origin_members}
use Rattle.mach_signature.specs.declared.kind.Kind.{Kind}
use Rattle.machsign.proofs.Written.{three, four}
use Rattle.machsign.proofs.members.write_fields.Goals as goal

pub returns : goal.returns
returns g c =
    let hash_type = c.args.directory.now.head.hash_type in
    let kind = subst
    (λ (k : Kind). Appends (g.O.Write.contents c.args.out.now) (g.O.Write.contents c.write_kind.new.out) (kind_members k hash_type))
    c.of-kind.ensures c.in_ok-write_kind.ensures in
    let origin = subst
    (λ (k : Kind). Appends (g.O.Write.contents c.write_identifier.new.out) (g.O.Write.contents c.write_origin.new.out) (origin_members k))
    c.of-kind.ensures c.in_ok-write_origin.ensures in
    on_ok_weaker c.write_naming.result
    (λ last. Appends-both _ _ _ _ _
    (four _ _ _ _ _ _ _ _ _ kind c.in_ok-write_identifier.ensures origin c.in_ok-write_pages.ensures)
    (three _ _ _ _ _ _ _ c.in_ok-write_running.ensures c.in_ok-write_special.ensures last))
    c.write_naming.ensures
