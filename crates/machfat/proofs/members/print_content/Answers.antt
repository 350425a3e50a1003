use Rattle.std.proofs.Common.{◌∙◌, sym}
use Rattle.std.proofs.lemmas.Result.{IfOk-weaker}
use Rattle.mach_archive.specs.ArchiveViews.{archive_of}
use Rattle.machfat.specs.Members.{an_archive, an_image, no_archive, out_of_the_file}
use Rattle.machfat.proofs.members.print_content.Goals as goal

pub returns-in_default : goal.returns-in_default
returns-in_default g c = record {
  text = _;
  are_lines = out_of_the_file (sym c.in_default.ensures);
  written = rw c.refused_entries-refused.ensures at c.in_ok-writeln.ensures.bytes;
}

pub returns-then-begins_image : goal.returns-then-begins_image
returns-then-begins_image g c = record {
  text = _;
  are_lines = an_image c.in-Some.entry.now (sym c.in-Some.ensures) (sym c.begins_image.ensures ∙ c.if-begins_image.true);
  written = c.in_ok-writeln-2.ensures.bytes;
}

pub returns-in-Ok : goal.returns-in-Ok
returns-in-Ok g c =
    IfOk-weaker c.print_archive.result _ _
    (λ outcome reported. record {
      text = reported.text;
      are_lines = an_archive c.in-Some.entry.now reported.text (archive_of c.in-Ok.archive) outcome (sym c.in-Some.ensures)
          (sym c.begins_image.ensures ∙ c.if-begins_image.false) c.in-Ok.ensures reported.are_lines;
      written = reported.written;
    })
    c.print_archive.ensures

pub returns-in_ok-whole-in-Err : goal.returns-in_ok-whole-in-Err
returns-in_ok-whole-in-Err g c =
    let said = c.in_ok-whole-in-Err.ensures in
    rw said.0 (record {
      text = _;
      are_lines = no_archive c.in-Some.entry.now c.in-Err.error (sym c.in-Some.ensures) (sym c.begins_image.ensures ∙ c.if-begins_image.false)
          c.in-Err.ensures;
      written = said.1;
    })
