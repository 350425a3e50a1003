use Rattle.std.proofs.Common.{ℕ, subst}
use Rattle.std.specs.Prelude.{OnOk}
use Rattle.std.specs.Io.KnownBytes.{Appends}
use Rattle.mach_signature.specs.DirectoryViews.{directory_view}
use Rattle.mach_signature.specs.Directories.{code_limit_of}
use Rattle.machsign.specs.JsonSignature.{covered_members}
use Rattle.machsign.proofs.members.write_pages.Goals as goal

pub returns : goal.returns
returns g c =
    let d = c.args.directory.now in
    let power = d.head.page_size in
    let old = g.O.Write.contents c.args.out.now in
    let new = g.O.Write.contents c.write.new.self in
    subst (λ (pages : ℕ). OnOk c.write.result (Appends old new (covered_members c.args.more (code_limit_of (directory_view d)) power pages)))
    c.page_count-pages.ensures
    (subst (λ (limit : ℕ). OnOk c.write.result (Appends old new (covered_members c.args.more limit power c.page_count-pages.result)))
    c.code_limit-limit.ensures c.write.ensures.bytes)
