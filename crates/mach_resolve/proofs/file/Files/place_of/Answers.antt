use Rattle.std.proofs.Common.{◌∙◌, sym, ap}
use Rattle.std.specs.Prelude.{position, bytes_eq}
use Rattle.mach_resolve.specs.ResolveViews.{input_view}
use Rattle.mach_resolve.proofs.Places.{position-map}
use Rattle.mach_resolve.proofs.file.Files.place_of.Goals as goal

pub returns-clause-place : goal.returns-clause-place
returns-clause-place g c =
    let name = c.args.name.now in
    let files = c.args.self.now in
    c.get_index_of.ensures.index
    ∙ (sym (position-map (bytes_eq name) (λ k. k.now) files.names.keys)
    ∙ (ap (position (bytes_eq name)) (sym files.named)
    ∙ (position-map (bytes_eq name) (λ f. f.name.now) files.items.items
    ∙ sym (position-map (λ f. bytes_eq name f.name) input_view files.items.items))))
