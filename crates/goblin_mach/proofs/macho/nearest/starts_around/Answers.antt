use Rattle.std.proofs.Common.{◌++◌, ◌∷◌, [], ◌∙◌, ap, Ok, sym, arith}
use Rattle.mach_load.specs.TablesLeft.{starts_left, start_read}
use Rattle.goblin_mach.proofs.NearestItems.{one_after, starts-fault, starts-more, around-next, around-all, no_starts}
use Rattle.goblin_mach.proofs.macho.nearest.starts_around.Goals as goal

pub starts-init : goal.starts-init
starts-init c = ([], sym (ap starts_left c.into_iter-item-iterator.ensures.into_iter_gives), no_starts c.args.address c.args.limit)

pub starts-preserved-in_default : goal.starts-preserved-in_default
starts-preserved-in_default c =
    let p = c.starts.invariant in
    let item = start_read c.in-Some.item in (
      p.0 ++ item ∷ [],
      one_after _ p.0 (starts_left c.starts.item-iterator) (starts_left c.next.new.self) item p.1 c.in-Some.ensures.steps,
      starts-fault c.args.address c.args.limit p.0 item _ c.starts.begin (ap start_read c.in_default.is) p.2,
    )

pub starts-preserved : goal.starts-preserved
starts-preserved c =
    let p = c.starts.invariant in
    let next = c.in-Some.ensures.steps ∙ ap (λ item. item ∷ starts_left c.next.new.self) (ap start_read c.in-Ok.is) in
    let whole = p.1 ∙ ap (λ left. p.0 ++ left) next in (
      p.0 ++ Ok c.in-Ok.start ∷ [],
      one_after _ p.0 (starts_left c.starts.item-iterator) (starts_left c.next.new.self) (Ok c.in-Ok.start) p.1 next,
      starts-more c.args.address c.args.limit _ p.0 (starts_left c.next.new.self) c.in-Ok.start c.starts.begin c.requires whole
          (omega (arith, c.if-start-address.false)) p.2,
    )

pub returns-then-start-address : goal.returns-then-start-address
returns-then-start-address c =
    let p = c.starts.invariant in
    let next = c.in-Some.ensures.steps ∙ ap (λ item. item ∷ starts_left c.next.new.self) (ap start_read c.in-Ok.is) in
    rw c.min.ensures (around-next c.args.address c.args.limit _ p.0 (starts_left c.next.new.self) c.in-Ok.start c.starts.begin c.requires
    (p.1 ∙ ap (λ left. p.0 ++ left) next) (omega (arith, c.if-start-address.true)) p.2)

pub returns : goal.returns
returns c =
    let p = c.starts.invariant in
    around-all c.args.address c.args.limit _ p.0 c.starts.begin (p.1 ∙ ap (λ left. p.0 ++ left) c.in-None.ensures.steps.0) p.2
