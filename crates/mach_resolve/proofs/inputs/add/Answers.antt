use Rattle.std.proofs.Common.{◌∙◌, ◌++◌, ◌∷◌, [], Bool, map, refl, sym, ap}
use Rattle.std.specs.Prelude.{bytes_eq, if◌then◌else◌}
use Rattle.std.specs.List.{list_any}
use Rattle.mach_resolve.proofs.Opening.{named_among, names_more, adds_new, adds_known}
use Rattle.mach_resolve.proofs.Notes.{not_true, not_false}
use Rattle.mach_resolve.proofs.inputs.add.Goals as goal
use Rattle.mach_resolve.proofs.inputs.add.Goals.{then-branch+in_ok-push, else-branch+in_ok-push-2}

pub invariant_of-files : goal.invariant_of-files
invariant_of-files g c =
    let items = c.args.gathered.files.items.items in
    let keys = c.args.gathered.files.names.keys in
    let name = c.args.file.name in
    elim c.if-branch.branch [
      | then-branch+in_ok-push w ↦
          (let new = not_true (list_any (λ k. bytes_eq name.now k.now) keys) (sym c.in_ok-insert.ensures.added ∙ w.if-branch.true) in
          record {
            named = names_more items c.if-branch.items.items keys c.insert.new.self.keys c.args.file (ap (λ v. v.items) w.items-is ∙ w.in_ok-push.ensures.items)
                (c.in_ok-insert.ensures.keys ∙ ap (λ (b : Bool). if b then keys else keys ++ name ∷ []) new) c.args.gathered.files.named;
          })
      | else-branch+in_ok-push-2 w ↦
          (let there = not_false (list_any (λ k. bytes_eq name.now k.now) keys) (sym c.in_ok-insert.ensures.added ∙ w.if-branch.false) in
          record {
            named = ap (λ v. map (λ f. f.name.now) v.items) w.items-is ∙ (c.args.gathered.files.named
                ∙ sym (ap (map (λ k. k.now)) (c.in_ok-insert.ensures.keys ∙ ap (λ (b : Bool). if b then keys else keys ++ name ∷ []) there)));
          })
    ]

pub returns : goal.returns
returns g c =
    let items = c.args.gathered.files.items.items in
    let keys = c.args.gathered.files.names.keys in
    let name = c.args.file.name in
    elim c.if-branch.branch [
      | then-branch+in_ok-push w ↦
          (let new = not_true (list_any (λ k. bytes_eq name.now k.now) keys) (sym c.in_ok-insert.ensures.added ∙ w.if-branch.true) in
          adds_new items c.if-branch.items.items c.args.gathered.notes.items c.if-branch.notes.items c.args.file
          (ap (λ v. v.items) w.items-is ∙ w.in_ok-push.ensures.items) (ap (λ v. v.items) w.notes-is)
          (sym (named_among name.now items keys c.args.gathered.files.named) ∙ new))
      | else-branch+in_ok-push-2 w ↦
          (let there = not_false (list_any (λ k. bytes_eq name.now k.now) keys) (sym c.in_ok-insert.ensures.added ∙ w.if-branch.false) in
          adds_known items c.if-branch.items.items c.args.gathered.notes.items c.if-branch.notes.items _ c.args.file
          (ap (λ v. v.items) w.items-is) (ap (λ v. v.items) w.notes-is ∙ w.in_ok-push-2.ensures.items) refl
          (sym (named_among name.now items keys c.args.gathered.files.named) ∙ there))
    ]
