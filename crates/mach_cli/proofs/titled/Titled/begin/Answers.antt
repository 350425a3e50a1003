use Rattle.std.proofs.Common.{◌+◌, take, drop}
use Rattle.std.proofs.lemmas.List.{take_rest}
use Rattle.mach_cli.proofs.TitleKept.{Keeps-both, title_step, title_cut}
use Rattle.mach_cli.proofs.titled.Titled.begin.Goals as goal

pub title-preserved : goal.title-preserved
title-preserved g c =
    let t = c.title.self in
    let n = c.in_ok-count.count in
    let wrote = rw (take_rest c.deref.result.now t.written, c.deref.ensures.value) at c.in_ok-count.ensures.bytes in
    Keeps-both _ _ _ c.title.invariant
    (title_step (g.W.Write.contents t.inner) (g.W.Write.contents c.write.new.self) (drop t.written t.title.items)
    (take n (drop t.written t.title.items)) (drop (t.written + n) t.title.items) (title_cut t.title.items t.written n) wrote)
