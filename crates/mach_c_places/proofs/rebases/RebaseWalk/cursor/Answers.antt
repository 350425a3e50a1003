use Rattle.mach_dyld.proofs.BindNames.{◌≡◌, ◌∙◌, ap, sym, Bool, Input, Range, State, items_left, items_of, input_of, lazy_of}
use Rattle.std.specs.Prelude.{if◌then◌else◌}
use Rattle.mach_base.specs.declared.context.Endian.TheVariants as order
use Rattle.mach_dyld.specs.BindCursors.{state_in}
use Rattle.mach_dyld.specs.RebasesLeft.{rebase_rules}
use Rattle.mach_dyld.specs.declared.rebases.Rebasing.{Rebasing}
use Rattle.mach_c_places.specs.RebaseCursors.{order_in, rebasing_in}
use Rattle.mach_c_places.proofs.SameMore.{rebasing_same}
use Rattle.mach_c_places.proofs.rebases.RebaseWalk.cursor.Goals as goal

pub returns : goal.returns
unfolding items_left
returns c = λ x r over.
    let it = c.args.self.now.stream in
    let n = c.numbers_of in
    let k = n.result in
    let order_is : order_in k ≡ it.more.le =
    ap (λ (b : Bool). if b then order.Big else order.Little) n.ensures.other ∙ c.is_big.ensures in
    let more = rebasing_same (rebasing_in k) it.more order_is n.ensures.kind n.ensures.has_segment in
    ap (λ (i : Input). items_of rebase_rules i r (rebasing_in k) (state_in i.bytes k)) (sym over.source)
    ∙ ap (λ (s : Range). items_of rebase_rules (input_of it.source) s (rebasing_in k) (state_in it.source.bytes.now k)) (sym over.lazy_is)
    ∙ ap (λ (m : Rebasing). items_of rebase_rules (input_of it.source) (lazy_of it) m (state_in it.source.bytes.now k)) more
    ∙ ap (λ (s : State). items_of rebase_rules (input_of it.source) (lazy_of it) it.more s) (n.ensures.state over.named)
