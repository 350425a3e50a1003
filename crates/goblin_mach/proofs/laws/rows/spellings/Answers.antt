use Rattle.std.proofs.Common.{refl, lit≤, lit<}
use Rattle.mach_base.specs.Leb128.{uleb_at}
use Rattle.goblin_mach.proofs.laws.rows.spellings.Goals as goal

pub returns-clause-three_bytes : goal.returns-clause-three_bytes
returns-clause-three_bytes c = record {
  here = refl;
  uleb = record { groups = (lit≤ tt, (lit≤ tt, lit< tt)); at_most_ten = lit≤ tt; tenth = lit≤ tt; value = refl };
}

pub returns-clause-nine_ff_01 : goal.returns-clause-nine_ff_01
unfolding uleb_at
returns-clause-nine_ff_01 c = refl

pub returns-clause-nine_ff_02 : goal.returns-clause-nine_ff_02
unfolding uleb_at
returns-clause-nine_ff_02 c = refl
