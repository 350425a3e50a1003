use Rattle.std.proofs.Common.{◌∙◌, length, refl, ap}
use Rattle.goblin_mach_c.specs.ExportWalk.{end_number}
use Rattle.goblin_mach_c.proofs.WalkedTries.{goes_along, walk_written}
use Rattle.goblin_mach_c.proofs.exports.go_along.Goals as goal

pub returns-clause-written : goal.returns-clause-written
returns-clause-written c =
    let wrote = c.write_exports-count.ensures.written in
    let rows = length c.args.out.now in
    let room = length c.args.names.now in
    let longest = length c.args.name.now in
    let e = c.write_exports-count.result.2 in
    let lens = c.write_exports-count.ensures.lens in
    let is = c.end_of-end.ensures.end ∙ ap (λ k. end_number k (length c.write_exports-count.new.names) (length c.write_exports-count.new.name) e) lens.3
    ∙ ap (λ r. end_number rows r (length c.write_exports-count.new.name) e) lens.1 ∙ ap (λ n. end_number rows room n e) lens.0 in (
      wrote.0,
      walk_written (λ found h. c.begin.ensures.same _ _ _ found h) c.begin.ensures.started (c.begin.ensures.code ∙ c.requires.ready) wrote.1,
      goes_along rows room longest c.end_of-end.result.0 e (λ found h. c.begin.ensures.same _ _ _ found h) c.begin.ensures.started
          (c.begin.ensures.code ∙ c.requires.ready) wrote.2 refl is c.reported-walk.ensures.code (c.reported-walk.ensures.good rows room longest),
    )
