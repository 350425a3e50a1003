use Rattle.machinfo.proofs.Some.{some, some_more}
use Rattle.machinfo.proofs.members.write_flag.Goals as goal

pub returns : goal.returns
returns g c =
    some_more (some _ c.in_ok-write.ensures.bytes) (some_more (some _ c.in_ok-write_bit.ensures) (some _ c.in_ok-write-2.ensures.bytes))
