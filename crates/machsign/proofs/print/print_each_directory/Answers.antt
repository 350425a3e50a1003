use Rattle.std.proofs.Common.{[], ◌∷◌, ◌++◌, ◌∙◌, sym, ap}
use Rattle.std.proofs.lemmas.List.{append_assoc}
use Rattle.mach_signature.specs.Chosen.{directories_of}
use Rattle.mach_signature.specs.ChosenViews.{directories_left, slot_directory_read}
use Rattle.mach_signature.specs.FaultViews.{signed_view}
use Rattle.mach_signature.specs.SignViews.{signature_view}
use Rattle.machsign.specs.Blocks.{slot_directory_lines}
use Rattle.machsign.proofs.Written.{no_parts, part_more, all_given}
use Rattle.machsign.proofs.print.print_each_directory.Goals as goal

pub directories-init : goal.directories-init
directories-init g c = (
  [],
  sym (ap directories_left c.into_iter-found-iterator.ensures.into_iter_gives ∙ c.directories-found-items.ensures),
  no_parts (slot_directory_lines (signed_view c.args.signed.now)) (g.O.Write.contents c.args.out.now),
)

pub directories-preserved : goal.directories-preserved
directories-preserved g c =
    let before = c.directories.invariant in
    let one = slot_directory_read c.in-Some.found ∷ [] in (
      before.0 ++ one,
      before.1 ∙ ap (λ rest. before.0 ++ rest) c.in-Some.ensures.steps ∙ sym (append_assoc before.0 one (directories_left c.next.new.self)),
      part_more (slot_directory_lines (signed_view c.args.signed.now)) before.0 (slot_directory_read c.in-Some.found) _ _ _ before.2
          c.in_ok-print_found.ensures,
    )

pub returns : goal.returns
returns g c =
    let before = c.directories.invariant in
    all_given (slot_directory_lines (signed_view c.args.signed.now)) (directories_of (signature_view c.args.signed.now.signature)) before.0
    (directories_left c.directories.found-iterator) _ _ before.1 c.in-None.ensures.steps.0 before.2
