use Rattle.std.proofs.Common.{◌≡◌, ◌∙◌, List, Bool, not, refl, sym, ap, subst}
use Rattle.std.proofs.lemmas.Result.{IfOk-weaker}
use Rattle.std.specs.Prelude.{◌==◌, ◌&&◌, max}
use Rattle.goblin_mach.specs.Items.{ItemView}
use Rattle.mach_cli.specs.InOrder.{InOrder}
use Rattle.mach_cli.specs.Bounds.{most_images}
use Rattle.mach_cli.specs.PartsOf.{shown_parts}
use Rattle.mach_cli.specs.Selected.{are_missed, omitted_of, parts_within}
use Rattle.mach_cli.specs.ShownCalls.{manner_in, ShowsBytes, ShowsPart, in_parts, none_selected, undivided}
use Rattle.mach_cli.specs.Statuses.{status_by}
use Rattle.mach_cli.specs.declared.cpu.Cpu.{Cpu}
use Rattle.mach_cli.specs.declared.omitted.Omitted.{Omitted}
use Rattle.mach_cli.proofs.files.Run.show_bytes.Goals as goal

-- whether the parts that are shown are missed, by the body's answers
missed-as : (cpu : Cpu) (archive begins answer : Bool) (xs ys : List ItemView) → answer ≡ are_missed cpu archive xs → archive ≡ begins → xs ≡ ys
    → are_missed cpu begins ys ≡ answer
missed-as cpu archive begins answer xs ys is same parts =
    sym (is ∙ ap (λ (b : Bool). are_missed cpu b xs) same ∙ ap (are_missed cpu begins) parts)

pub returns-then-not-self-clause-shown : goal.returns-then-not-self-clause-shown
returns-then-not-self-clause-shown g c =
    IfOk-weaker c.show_itself.result _ _ (λ status shown. undivided status c.if-not-self.true shown) c.show_itself.ensures.shown

pub returns-then-is_missed-clause-shown : goal.returns-then-is_missed-clause-shown
returns-then-is_missed-clause-shown g c =
    let m = manner_in g.S.FileView.shows c.args.self.now in
    let out = c.args.out.now in
    subst (ShowsBytes m c.args.file.now c.args.bytes.now out out) (sym c.refuse.ensures)
    (none_selected c.if-not-self.false
    (missed-as m.call.cpu _ _ _ _ _ c.is_missed.ensures c.begins_archive.ensures c.parts_of-parts.ensures ∙ c.if-is_missed.true) refl)

pub returns-clause-shown : goal.returns-clause-shown
returns-clause-shown g c =
    let m = manner_in g.S.FileView.shows c.args.self.now in
    let file = c.args.file.now in
    let bytes = c.args.bytes.now in
    let limit = m.call.limit in
    let cpu = m.call.cpu in
    let worst = c.in_ok-worst.worst in
    let parts = c.parts_of-parts.ensures in
    let omitted = c.of-omitted.ensures ∙ ap (λ (xs : List ItemView). omitted_of limit cpu xs c.parts_left_out.result) parts
    ∙ ap (omitted_of limit cpu (shown_parts bytes)) c.parts_left_out.ensures
    in
    let is = c.worse.ensures ∙ ap (max worst) (c.status.ensures ∙ ap (λ (whole : Bool). status_by whole) c.is_nothing.ensures
    ∙ ap (λ (o : Omitted). status_by (not o.is_cut && (o.left_out == 0))) omitted)
    in
    subst (ShowsBytes m file bytes c.args.out.now c.show_parts.new.out) (sym is)
    (in_parts worst c.if-not-self.false (missed-as cpu _ _ _ _ _ c.is_missed.ensures c.begins_archive.ensures parts ∙ c.if-is_missed.false)
    (subst (λ (xs : List ItemView). InOrder (ShowsPart m file bytes) xs c.args.out.now c.show_parts.new.out worst)
    (c.of.ensures ∙ ap (parts_within (most_images limit) cpu) parts) c.in_ok-worst.ensures.shown))
