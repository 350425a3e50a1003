use Rattle.std.proofs.Common.{refl}
use Rattle.machinfo.proofs.counts.CountListUse.of_list.Goals as goal

pub returns : goal.returns
returns g c = (
  _,
  record { reported = c.count_rows-reported.result; counts = c.count_rows-reported.ensures; is_text = refl; is_whole = refl },
  c.in_ok-write_count.ensures,
)
