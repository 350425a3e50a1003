use Rattle.goblin_mach.proofs.Lossy.{lossy_fields}
use Rattle.goblin_mach.proofs.laws.images.lossy_agrees.Goals as goal

pub returns : goal.returns
returns g c = λ p q. lossy_fields c.args.bytes.now c.args.offset c.args.strict.now c.args.lossy.now p q
