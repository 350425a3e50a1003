use Rattle.std.proofs.Common.{◌-◌, ◌∙◌, refl, ap, length}
use Rattle.goblin_mach_c.proofs.open.numbers.Goals as goal

pub returns : goal.returns
returns c = record {
  place = refl;
  mode = c.flag.ensures;
  is_64 = c.flag-4.ensures;
  is_little_endian = c.flag-3.ensures;
  header = record { magic = refl; cputype = refl; cpusubtype = refl; filetype = refl; flags = refl };
  first_command = c.first_command.ensures;
  commands = ap length c.as_slice.ensures.value;
  segments = ap length c.as_slice-2.ensures;
  libraries = c.saturating_sub.ensures ∙ ap (λ l. length l - 1) c.as_slice-3.ensures.value;
  run_paths = ap length c.as_slice-4.ensures.value;
  symbols = c.table_numbers-symbols_at.ensures;
  entry = refl;
  entry_style = c.flag-2.ensures;
  base = c.base.ensures;
  reserved = refl;
}
