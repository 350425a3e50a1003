use Rattle.std.proofs.Common.{refl}
use Rattle.mach_base.proofs.Written.{Appends-both}
use Rattle.machinfo.proofs.part_lines.print_parts.Goals as goal

pub returns : goal.returns
returns g c = λ bytes opened.
    let entry = c.in_ok-entry.ensures bytes opened in
    let segments = c.in_ok-segments.ensures bytes opened in
    let sections = c.in_ok-sections.ensures bytes opened in (
      _,
      record {
        entry = entry.0;
        entry_whole = c.in_ok-entry.entry;
        are_entry = entry.1;
        segments = segments.0;
        segments_whole = c.in_ok-segments.segments;
        are_segments = segments.1;
        sections = sections.0;
        sections_whole = c.in_ok-sections.sections;
        are_sections = sections.1;
        is_text = refl;
        is_whole = refl;
      },
      Appends-both _ _ _ entry.0 _ entry.2 (Appends-both _ _ _ segments.0 sections.0 segments.2 sections.2),
    )
