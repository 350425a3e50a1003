use Rattle.std.proofs.Common.{inl}
use Rattle.mach_fat_writer.specs.declared.refusal.MakeRefusal.TheVariants.{OfAll}
use Rattle.machfat.proofs.made.run_replace.Goals as goal

pub returns-in-Ok-clause-refused : goal.returns-in-Ok-clause-refused
returns-in-Ok-clause-refused g c = λ one. let want = c.place_made.ensures.wanting one in (OfAll want.0, inl want.1, want.2)

pub returns-in-Ok-clause-replaced : goal.returns-in-Ok-clause-replaced
returns-in-Ok-clause-replaced g c = λ zero. (c.in-Ok.made.items, c.in-Ok.ensures.replaced, rw c.as_slice.ensures.value at c.place_made.ensures.written zero)
